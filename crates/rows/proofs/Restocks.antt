-- What is left of a stock, as a remainder.
use Rattle.std.proofs.Common.{◌≡◌, ◌↔◌, ℕ, ◌+◌, ◌-◌, ◌%◌, ◌≤◌, sym, subst, arith}
use Rattle.rows.specs.Restock.{IsRestocked, restocked}

only_of : (quantity ordered left : ℕ) → 10 ≤ quantity → quantity ≤ 100 → 1 ≤ ordered → ordered ≤ 10
    → 10 ≤ left → left ≤ 100 → (left + ordered) % 91 ≡ quantity % 91 → left ≡ 10 + (quantity + 81 - ordered) % 91
only_of quantity ordered left a b c d e f g = omega arith

congruent_of : (quantity ordered : ℕ) → 10 ≤ quantity → quantity ≤ 100 → 1 ≤ ordered → ordered ≤ 10
    → (10 + (quantity + 81 - ordered) % 91 + ordered) % 91 ≡ quantity % 91
congruent_of quantity ordered a b c d = omega arith

is_restocked : (quantity ordered : ℕ) → 10 ≤ quantity → quantity ≤ 100 → 1 ≤ ordered → ordered ≤ 10 → IsRestocked quantity ordered (restocked quantity ordered)
is_restocked quantity ordered a b c d = record { low = omega arith; high = omega arith; congruent = congruent_of quantity ordered a b c d }

pub one_restock : (quantity ordered left : ℕ) → 10 ≤ quantity → quantity ≤ 100 → 1 ≤ ordered → ordered ≤ 10
    → IsRestocked quantity ordered left ↔ (left ≡ restocked quantity ordered)
one_restock quantity ordered left a b c d = (
  λ h. only_of quantity ordered left a b c d h.low h.high h.congruent,
  λ e. subst (IsRestocked quantity ordered) (sym e) (is_restocked quantity ordered a b c d),
)
