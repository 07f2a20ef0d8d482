-- What a step is for: a place of the seat's view, and what a round is about.
use Rattle.std.specs.Prelude.{ℕ, List, [], ◌∷◌, Option, Some, None}

-- the first of these, or else the first place
abbrev pub offset_of : List ℕ → ℕ
offset_of [] = 0
offset_of (i ∷ is) = i

-- the first of these, if there is one
abbrev pub topic_of : {T : Type 0} → List T → Option T
topic_of [] = None
topic_of (t ∷ ts) = Some t
