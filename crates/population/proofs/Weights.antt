-- Sums of rows that weigh the same, or nothing.
use Rattle.std.proofs.Common.{◌≡◌, ℕ, zero, suc, ◌+◌, ◌*◌, ◌<◌, false, cond, ◌==◌, List, [], ◌∷◌, length, Some, refl, ap, ◌∙◌, arith}
use Rattle.std.proofs.lemmas.Int.{ints}
use Rattle.std.proofs.lemmas.Bool.Decides.{nat_tests}
use Rattle.std.specs.Prelude.{ℤ, pos, ◌+ℤ◌}
use Rattle.std.specs.List.{AllByRecursion, slice_get}
use Rattle.rows.specs.declared.records.History.{History}
use Rattle.schema.specs.Consistency.{amounts_of}
use Rattle.schema.specs.Sums.{sum_entries}
use Rattle.consistency.specs.Totals.{sum_of}

both_pos : (a b : ℕ) → (pos a +ℤ pos b) ≡ pos (a + b)
both_pos a b = omega (arith, ints)

times_more : (v n : ℕ) → v + v * n ≡ v * suc n
times_more v n = grind arith

times_none : (v : ℕ) → 0 ≡ v * 0
times_none v = grind arith

-- rows that weigh the same
pub sum_of_same : {X : Type 0} (f : X → ℤ) (v : ℕ) (xs : List X) → AllByRecursion (λ x. f x ≡ pos v) xs → sum_of f xs ≡ pos (v * length xs)
sum_of_same f v [] h = ap pos (times_none v)
sum_of_same f v (x ∷ xs) h =
    ap (λ z. z +ℤ sum_of f xs) h.0 ∙ ap (λ z. pos v +ℤ z) (sum_of_same f v xs h.1) ∙ both_pos v (v * length xs) ∙ ap pos (times_more v (length xs))

pub amounts_same : (v : ℕ) (payments : List History) → AllByRecursion (λ row. row.amount ≡ pos v) payments → amounts_of payments ≡ pos (v * length payments)
amounts_same v [] h = ap pos (times_none v)
amounts_same v (row ∷ rows) h =
    ap (λ z. z +ℤ amounts_of rows) h.0 ∙ ap (λ z. pos v +ℤ z) (amounts_same v rows h.1) ∙ both_pos v (v * length rows) ∙ ap pos (times_more v (length rows))

-- entries that weigh nothing
pub sum_of_nothing : {K X : Type 0} (w : K → X → ℤ) (es : List (K × X)) → AllByRecursion (λ e. w e.0 e.1 ≡ pos 0) es → sum_entries w es ≡ pos 0
sum_of_nothing w [] h = refl
sum_of_nothing w (e ∷ es) h = ap (λ z. z +ℤ sum_entries w es) h.0 ∙ ap (λ z. pos 0 +ℤ z) (sum_of_nothing w es h.1) ∙ both_pos 0 0

none_there : {X : Type 0} (f : X → ℤ) (xs : List X) → ((n : ℕ) (x : X) → slice_get xs n ≡ Some x → f x ≡ pos 0) → sum_of f xs ≡ pos 0
none_there f [] h = refl
none_there f (x ∷ xs) h = ap (λ z. z +ℤ sum_of f xs) (h 0 x refl) ∙ ap (λ z. pos 0 +ℤ z) (none_there f xs (λ n y e. h (suc n) y e)) ∙ both_pos 0 0

-- one row that weighs anything
pub sum_of_one : {X : Type 0} (f : X → ℤ) (v m : ℕ) (xs : List X) → m < length xs → ((n : ℕ) (x : X) → slice_get xs n ≡ Some x → f x ≡ pos (cond (n == m) v 0)) → sum_of f xs ≡ pos v
sum_of_one f v m [] below h = absurd (omega arith)
sum_of_one f v zero (x ∷ xs) below h =
    let here : f x ≡ pos v = h 0 x refl in
    let others : sum_of f xs ≡ pos 0 = none_there f xs (λ n y e. h (suc n) y e ∙ ap (λ b. pos (cond b v 0)) (let other : (suc n == 0) ≡ false = grind (arith, nat_tests) in other)) in
    ap (λ z. z +ℤ sum_of f xs) here ∙ ap (λ z. pos v +ℤ z) others ∙ both_pos v 0 ∙ ap pos (let e : v + 0 ≡ v = omega arith in e)
sum_of_one f v (suc m) (x ∷ xs) below h =
    let here : f x ≡ pos 0 = h 0 x refl ∙ ap (λ b. pos (cond b v 0)) (let other : (0 == suc m) ≡ false = grind (arith, nat_tests) in other) in
    let later : sum_of f xs ≡ pos v = sum_of_one f v m xs (omega arith) (λ n y e. h (suc n) y e ∙ ap (λ b. pos (cond b v 0)) (let same : (suc n == suc m) ≡ (n == m) = grind (arith, nat_tests) in same)) in
    ap (λ z. z +ℤ sum_of f xs) here ∙ ap (λ z. pos 0 +ℤ z) later ∙ both_pos 0 v ∙ ap pos (let e : 0 + v ≡ v = omega arith in e)
