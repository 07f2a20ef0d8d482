-- The first condition that tables break.
use Rattle.std.specs.Prelude.{◌≢◌, ℕ, ◌-◌, ◌<◌, ◌≤◌, zero, suc, List, [], ◌∷◌}
use Rattle.schema.specs.Database.{Database}
use Rattle.consistency.specs.Conditions.{conditions}

-- the condition at this index holds for the tables, if there is one at this index
abbrev pub HoldsAmong : List (Database → Type 0) → ℕ → Database → Type 0
HoldsAmong [] n t = Unit
HoldsAmong (condition ∷ others) zero t = condition t
HoldsAmong (condition ∷ others) (suc n) t = HoldsAmong others n t

-- the condition with this number holds for the tables (clauses 3.3.2.1 to 3.3.2.12)
abbrev pub Meets : Database → ℕ → Type 0
Meets t n = HoldsAmong conditions (n - 1) t

-- the numbers of the conditions that are checked: condition 11 applies to fresh tables only and is left out
abbrev pub IsAskedFor : ℕ → Type 0
IsAskedFor n = (1 ≤ n) × ((n ≤ 12) × (n ≢ 11))

-- the tables break this condition and none with a lower number
abbrev pub BreaksFirst : Database → ℕ → Type 0
BreaksFirst t n = IsAskedFor n × ((Meets t n → ⊥) × ((m : ℕ) → m < n → IsAskedFor m → Meets t m))
