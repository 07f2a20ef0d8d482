-- An order's total (TPC-C 5.11, clause 2.4.2.2).
use Rattle.std.specs.Prelude.{◌≡◌, ◌↔◌, ℕ, ◌+◌, ◌-◌, ◌*◌, ◌/◌, ℤ, pos, ◌+ℤ◌, ◌*ℤ◌, ◌≤ℤ◌, ◌<ℤ◌}

-- the sum less the discount, plus both taxes, in hundred-millionths of a cent
abbrev pub scaled_total : ℤ → ℕ → ℕ → ℕ → ℤ
scaled_total sum discount warehouse_tax district_tax =
    sum *ℤ pos (10000 - discount) *ℤ pos (10000 + warehouse_tax + district_tax)

-- the total is the nearest cent to the scaled total; halves are rounded up
pub record IsNearestCent (scaled total : ℤ) : Type 0 where
  pub low : (pos 100000000 *ℤ total) ≤ℤ (scaled +ℤ pos 50000000)
  pub high : scaled <ℤ (pos 100000000 *ℤ total +ℤ pos 50000000)

-- the total in whole cents, for a sum that is not negative
abbrev pub total_of : ℕ → ℕ → ℕ → ℕ → ℕ
total_of sum discount warehouse_tax district_tax =
    (sum * (10000 - discount) * (10000 + warehouse_tax + district_tax) + 50000000) / 100000000

-- total_of returns the only total that IsNearestCent allows
abbrev pub TotalIsNearestCent : Type 0
TotalIsNearestCent = (sum discount warehouse_tax district_tax : ℕ) (total : ℤ)
    → IsNearestCent (scaled_total (pos sum) discount warehouse_tax district_tax) total ↔ (total ≡ pos (total_of sum discount warehouse_tax district_tax))
