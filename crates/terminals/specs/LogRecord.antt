-- The records of a log.
use Rattle.std.specs.Prelude.{◌≡◌, ℕ, List, ◌∷◌, ◌++◌, length}
use Rattle.std.specs.Fmt.{decimal}
use Rattle.commit_log.specs.declared.entry.Entry.{Entry}
use Rattle.terminals.specs.Listing.{BeginsListing, IsListing}
use Rattle.terminals.specs.ReplyFields.{IsReply}
use Rattle.terminals.specs.RequestFields.{IsRequest}

-- These are the fields of the entry at this place: the place, the session and number, the number of the request's fields, those
-- fields, and the reply's fields.
abbrev pub IsLogRecord : ℕ → Entry → List (List ℕ) → Type 0
IsLogRecord place entry fields =
    (asked : List (List ℕ)) × IsRequest entry.request asked × (replied : List (List ℕ)) × IsReply entry.reply replied
    × (fields ≡ decimal place ∷ decimal entry.session ∷ decimal entry.number ∷ decimal (length asked) ∷ asked ++ replied)

-- The records of a log: one for each entry, from place 0 on, and then the end record.
abbrev pub IsLog : List Entry → List (List (List ℕ)) → Type 0
IsLog entries rows = IsListing IsLogRecord entries rows

-- The first of them, or all.
abbrev pub BeginsLog : List Entry → List (List (List ℕ)) → Type 0
BeginsLog entries rows = BeginsListing IsLogRecord entries rows
