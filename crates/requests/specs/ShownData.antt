-- A text that allocates only if it is not empty.
use Rattle.std.specs.Prelude.{◌≢◌, ℕ, List, [], Option, Some, None}
use Rattle.std.specs.Global.{Global}
use Rattle.std.specs.declared.boxed.Box.{Box}

-- the text in the box, empty if there is no box
abbrev pub text_in : Option (Box (List ℕ) Global) → List ℕ
text_in (Some room) = room.value
text_in None = []

-- if there is a box, its text is not empty
abbrev pub HoldsWords : Option (Box (List ℕ) Global) → Type 0
HoldsWords (Some room) = room.value ≢ []
HoldsWords None = Unit {0}
