-- The records of a listing determine its items, if each record determines its item.
use Rattle.std.proofs.Common.{◌≡◌, ℕ, ◌+◌, List, [], ◌∷◌, ◌++◌, length, refl, sym, ap, subst, ◌∙◌, arith, length-append}
use Rattle.std.specs.List.{AllByRecursion}
use Rattle.terminals.specs.Listing.{IsListing, end_fields}
use Rattle.terminals.specs.Numbered.{AreNumbered}

-- two parts of which the first are as long
pub same_parts : {X : Type 0} (xs ys us vs : List X) → length xs ≡ length ys → xs ++ us ≡ ys ++ vs → (xs ≡ ys) × (us ≡ vs)
same_parts [] [] us vs even e = (refl, e)
same_parts [] (y ∷ ys) us vs even e = absurd (omega arith)
same_parts (x ∷ xs) [] us vs even e = absurd (omega arith)
same_parts (x ∷ xs) (y ∷ ys) us vs even e =
    let first : x ≡ y = cc in
    let more : xs ++ us ≡ ys ++ vs = cc in
    let rest = same_parts xs ys us vs (omega arith) more in
    (λ i. first i ∷ rest.0 i, rest.1)

module _ {T : Type 0} (R : ℕ → T → List (List ℕ) → Type 0) (P : T → Type 0)
    (reports : (number : ℕ) (x y : T) → P x → P y → (fields : List (List ℕ)) → R number x fields → R number y fields → x ≡ y) where
  numbered-report : (number : ℕ) (xs ys : List T) → AllByRecursion P xs → AllByRecursion P ys → (rows : List (List (List ℕ)))
      → AreNumbered R number xs rows → AreNumbered R number ys rows → xs ≡ ys
  unfolding AreNumbered
  numbered-report number [] [] p q rows a b = refl
  numbered-report number [] (y ∷ ys) p q [] a b = absurd b
  numbered-report number [] (y ∷ ys) p q (fields ∷ rows) a b = absurd a
  numbered-report number (x ∷ xs) [] p q [] a b = absurd a
  numbered-report number (x ∷ xs) [] p q (fields ∷ rows) a b = absurd b
  numbered-report number (x ∷ xs) (y ∷ ys) p q [] a b = absurd a
  numbered-report number (x ∷ xs) (y ∷ ys) p q (fields ∷ rows) a b =
      let first = reports number x y p.0 q.0 fields a.0 b.0 in
      let rest = numbered-report (number + 1) xs ys p.1 q.1 rows a.1 b.1 in
      λ i. first i ∷ rest i

  pub listing-reports : (xs ys : List T) → AllByRecursion P xs → AllByRecursion P ys → (rows : List (List (List ℕ))) → IsListing R xs rows → IsListing R ys rows → xs ≡ ys
  listing-reports xs ys p q rows a b =
      let end_x = end_fields (length xs) ∷ [] in
      let end_y = end_fields (length ys) ∷ [] in
      let e : a.0 ++ end_x ≡ b.0 ++ end_y = sym a.2 ∙ b.2 in
      let even : length a.0 ≡ length b.0 = omega (arith, ap length e, length-append a.0 end_x, length-append b.0 end_y) in
      let same = (same_parts a.0 b.0 end_x end_y even e).0 in
      let Are : List (List (List ℕ)) → Type 0 = λ l. AreNumbered R 0 ys l in
      numbered-report 0 xs ys p q a.0 a.1 (subst Are (sym same) b.1)
