-- The records of a script.
use Rattle.std.specs.Prelude.{◌≡◌, ℕ, List}
use Rattle.requests.specs.Script.{parts_from}
use Rattle.requests.specs.declared.script.Part.{Part}
use Rattle.requests.specs.declared.terminal_request.TerminalRequest.{TerminalRequest}
use Rattle.terminals.specs.Listing.{BeginsListing, IsListing}
use Rattle.terminals.specs.RequestFields.{IsTerminalRequest}

-- The records of what a terminal asks for: one for each, in order, and then the end record.
abbrev pub AreAsked : List TerminalRequest → List (List (List ℕ)) → Type 0
AreAsked asked rows = IsListing (λ place. IsTerminalRequest) asked rows

-- The first of them, or all.
abbrev pub BeginAsked : List TerminalRequest → List (List (List ℕ)) → Type 0
BeginAsked asked rows = BeginsListing (λ place. IsTerminalRequest) asked rows

-- The records of a script: its parts are those of the records, in order. The first record has the number 0.
abbrev pub IsScript : List Part → List (List (List ℕ)) → Type 0
IsScript parts rows = (asked : List TerminalRequest) × (parts ≡ parts_from 0 asked) × AreAsked asked rows
