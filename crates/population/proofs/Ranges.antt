-- Numbers in order.
use Rattle.std.proofs.Common.{◌≡◌, ℕ, zero, suc, ◌+◌, [], ◌∷◌, ◌++◌, ap, ◌∙◌, arith}
use Rattle.std.specs.List.{range_with_len}

-- one number more, at the end
pub range_more : (first count : ℕ) → range_with_len first (suc count) ≡ range_with_len first count ++ (first + count) ∷ []
range_more first zero = ap (λ n. n ∷ []) (let e : first ≡ first + 0 = omega arith in e)
range_more first (suc count) =
    ap (λ l. first ∷ l) (range_more (first + 1) count
    ∙ ap (λ n. range_with_len (first + 1) count ++ n ∷ []) (let e : first + 1 + count ≡ first + suc count = omega arith in e))

-- the numbers from 1, and the next
pub numbers_more : (count : ℕ) → range_with_len 1 (count + 1) ≡ range_with_len 1 count ++ (count + 1) ∷ []
numbers_more count =
    ap (range_with_len 1) (let e : count + 1 ≡ suc count = omega arith in e)
    ∙ range_more 1 count
    ∙ ap (λ n. range_with_len 1 count ++ n ∷ []) (let e : 1 + count ≡ count + 1 = omega arith in e)
