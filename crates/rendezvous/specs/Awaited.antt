-- The places that have not reported yet.
use Rattle.std.specs.Prelude.{ℕ, ◌+◌, List, [], ◌∷◌, Option, Some, None}

-- the numbers, from n on, of the places that have not reported
abbrev pub awaited_from : {R : Type 0} → ℕ → List (Option R) → List ℕ
awaited_from n [] = []
awaited_from n (None ∷ places) = n ∷ awaited_from (n + 1) places
awaited_from n (Some report ∷ places) = awaited_from (n + 1) places

-- the reports so far, by place
abbrev pub reported : {R : Type 0} → List (Option R) → List R
reported [] = []
reported (None ∷ places) = reported places
reported (Some report ∷ places) = report ∷ reported places
