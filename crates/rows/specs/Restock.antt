-- The restock rule (clause 2.4.2.2).
use Rattle.std.specs.Prelude.{◌≡◌, ◌↔◌, ℕ, ◌+◌, ◌-◌, ◌%◌, ◌≤◌}

-- the number from 10 to 100 that differs from `quantity - ordered` by a multiple of 91
pub record IsRestocked (quantity ordered restocked : ℕ) : Type 0 where
  pub low : 10 ≤ restocked
  pub high : restocked ≤ 100
  pub congruent : (restocked + ordered) % 91 ≡ quantity % 91

-- the same as a function, for a quantity from 10 to 100 and 1 to 10 units ordered
abbrev pub restocked : ℕ → ℕ → ℕ
restocked quantity ordered = 10 + (quantity + 81 - ordered) % 91

-- the function returns the only number that the relation allows
abbrev pub RestockedIsTheOne : Type 0
RestockedIsTheOne = (quantity ordered left : ℕ) → 10 ≤ quantity → quantity ≤ 100 → 1 ≤ ordered → ordered ≤ 10
    → IsRestocked quantity ordered left ↔ (left ≡ restocked quantity ordered)
