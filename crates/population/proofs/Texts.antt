-- Parts of printable texts.
use Rattle.std.proofs.Common.{◌≡◌, ◌≤◌, ℕ, zero, suc, ◌-◌, ◌&&◌, Bool, true, false, Ok, List, [], ◌∷◌, ◌++◌, take, drop, length, nat_le, refl, ◌∙◌, arith}
use Rattle.std.proofs.lemmas.Bool.{and_from}
use Rattle.std.proofs.lemmas.Bool.Decides.{nat_tests}
use Rattle.std.proofs.lemmas.List.Folds.{list_all-append}
use Rattle.std.specs.List.{list_all, slice_range}
use Rattle.rows.specs.Text.{is_printable_byte, text_of}
use Rattle.rows.proofs.Fitting.{list_all-take}

-- what each character has, each of a part has
pub list_all-drop : {X : Type 0} (p : X → Bool) (n : ℕ) (xs : List X) → list_all p xs ≡ true → list_all p (drop n xs) ≡ true
list_all-drop p zero xs h = h
list_all-drop p (suc n) [] h = refl
list_all-drop p (suc n) (x ∷ xs) h =
    elim (p x) as (λ b. (b && list_all p xs) ≡ true → list_all p (drop n xs) ≡ true) [
      | true ↦ λ k. list_all-drop p n xs k
      | false ↦ λ k. absurd cc
    ] h

pub list_all-part : {X : Type 0} (p : X → Bool) (low high : ℕ) (xs : List X) → list_all p xs ≡ true → list_all p (slice_range xs low high) ≡ true
list_all-part p low high xs h = list_all-take p (high - low) (drop low xs) (list_all-drop p low xs h)

-- and of what is put behind it, as far as it fits
pub list_all-fitting : {X : Type 0} (p : X → Bool) (width : ℕ) (xs ys : List X) → list_all p xs ≡ true → list_all p ys ≡ true → list_all p (take width (xs ++ ys)) ≡ true
list_all-fitting p width xs ys h k = list_all-take p width (xs ++ ys) (list_all-append p xs ys ∙ and_from _ _ h k)

-- what is printable and fits is a text
pub fitting_is_text : (width : ℕ) (bytes : List ℕ) → list_all is_printable_byte bytes ≡ true → length bytes ≤ width → text_of width bytes ≡ Ok bytes
fitting_is_text width bytes printable short =
    let fits : nat_le (length bytes) width ≡ true = grind (arith, nat_tests) in
    rw (printable, fits) refl
