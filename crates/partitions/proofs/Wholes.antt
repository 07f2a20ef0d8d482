-- What a table that is made whole has at a key.
use Rattle.std.proofs.Common.{◌≡◌, ℕ, zero, suc, ◌+◌, ◌-◌, ◌<◌, ◌≤◌, true, false, cond, List, [], ◌∷◌, ◌++◌, length, slice_index_or, Option, Some, None, refl, sym, ap, ◌∙◌, arith}
use Rattle.std.specs.List.{flat_map}
use Rattle.std.specs.Option.{option_or}
use Rattle.std.specs.declared.cmp.Ordering.{Ordering}
use Rattle.std.specs.Ordering.{eq_by_cmp}
use Rattle.std.specs.Cmp.{IsTotalOrder}
use Rattle.std.specs.FinMap.{FinMap, get, retain_keys, entries, get-entries, get-from_entries, get-retain_keys, IsAntisymmetric}
use Rattle.std.specs.FinMap.Entries.{find}
use Rattle.std.proofs.lemmas.Bool.Decides.{nat_tests}
use Rattle.std.proofs.lemmas.Grind.{flat_map-append}
use Rattle.schema.specs.Scale.{has_warehouse}
use Rattle.schema.specs.Database.{Database}
use Rattle.partitions.specs.Parts.{SharedTables, Part, is_of, rows_of_all, ArePartsOf}

pub nothing_last : {X : Type 0} (r : Option X) → option_or r None ≡ r
nothing_last None = refl
nothing_last (Some x) = refl

-- what is found in two lists after one another: the first of them that has the key
pub find-append : {K X : Type 0} (R : K → K → Ordering) (q : K) (es fs : List (K × X)) → find R q (es ++ fs) ≡ option_or (find R q es) (find R q fs)
find-append R q [] fs = refl
find-append R q (e ∷ es) fs =
    elim (eq_by_cmp R q e.0) as (λ b. cond b (Some e.1) (find R q (es ++ fs)) ≡ option_or (cond b (Some e.1) (find R q es)) (find R q fs)) [
      | true ↦ refl
      | false ↦ find-append R q es fs
    ]

is_home : (home warehouse : ℕ) → home ≡ warehouse → is_of home warehouse ≡ true
is_home home warehouse same = grind (arith, nat_tests)

is_not_home : (home warehouse : ℕ) → ¬ (home ≡ warehouse) → is_of home warehouse ≡ false
is_not_home home warehouse other = grind (arith, nat_tests)

module _ {K X : Type 0} {R : K → K → Ordering} (o : IsTotalOrder R) (a : IsAntisymmetric R) (own : K → ℕ) (rows : Database → FinMap R X) where
  -- the rows of a part that are its warehouse's
  abbrev rows_of_one : Part → List (K × X)
  rows_of_one p = entries (retain_keys (rows p.tables) (λ key. is_of p.home (own key)))

  found_in_one : (p : Part) (q : K) → find R q (rows_of_one p) ≡ cond (is_of p.home (own q)) (get (rows p.tables) q) None
  found_in_one p q =
      sym (get-entries (retain_keys (rows p.tables) (λ key. is_of p.home (own key))) q)
      ∙ get-retain_keys (rows p.tables) (λ key. is_of p.home (own key)) q (λ x e. ap (λ k. is_of p.home (own k)) (sym (a q x e)))

  found_in_first : (p : Part) (ps : List Part) (q : K)
      → find R q (flat_map rows_of_one (p ∷ ps)) ≡ option_or (cond (is_of p.home (own q)) (get (rows p.tables) q) None) (find R q (flat_map rows_of_one ps))
  found_in_first p ps q = find-append R q (rows_of_one p) (flat_map rows_of_one ps) ∙ ap (λ r. option_or r (find R q (flat_map rows_of_one ps))) (found_in_one p q)

  found_nowhere : (parts : List Part) (q : K) (d : Part) → ((place : ℕ) → place < length parts → ¬ ((slice_index_or parts place d).home ≡ own q))
      → find R q (flat_map rows_of_one parts) ≡ None
  found_nowhere [] q d h = refl
  found_nowhere (p ∷ ps) q d h =
      let other : is_of p.home (own q) ≡ false = is_not_home p.home (own q) (h zero (omega arith)) in
      let rest : find R q (flat_map rows_of_one ps) ≡ None = found_nowhere ps q d (λ place l. h (suc place) (omega arith)) in
      found_in_first p ps q ∙ rw (other, rest) refl

  found_there : (parts : List Part) (q : K) (place : ℕ) (d : Part) → place < length parts → (slice_index_or parts place d).home ≡ own q
      → ((other : ℕ) → other < length parts → (slice_index_or parts other d).home ≡ own q → other ≡ place)
      → find R q (flat_map rows_of_one parts) ≡ get (rows (slice_index_or parts place d).tables) q
  found_there [] q place d l is alone = absurd (omega arith)
  found_there (p ∷ ps) q zero d l is alone =
      let here : is_of p.home (own q) ≡ true = is_home p.home (own q) is in
      let rest : find R q (flat_map rows_of_one ps) ≡ None = found_nowhere ps q d (λ place m same. let z : suc place ≡ zero = alone (suc place) (omega arith) same in omega arith) in
      found_in_first p ps q ∙ rw (here, rest) (nothing_last (get (rows p.tables) q))
  found_there (p ∷ ps) q (suc place) d l is alone =
      let other : is_of p.home (own q) ≡ false = is_not_home p.home (own q) (λ same. let z : zero ≡ suc place = alone zero (omega arith) same in omega arith) in
      let rest : find R q (flat_map rows_of_one ps) ≡ get (rows (slice_index_or ps place d).tables) q
      = found_there ps q place d (omega arith) is (λ n m same. let z : suc n ≡ suc place = alone (suc n) (omega arith) same in omega arith) in
      found_in_first p ps q ∙ rw (other, rest) refl

  -- No part is of the key's warehouse: there is no row.
  pub get-whole_nowhere : (parts : List Part) (q : K) (d : Part) → ((place : ℕ) → place < length parts → ¬ ((slice_index_or parts place d).home ≡ own q))
      → get (rows_of_all own rows parts) q ≡ None
  get-whole_nowhere parts q d h = get-from_entries o (flat_map rows_of_one parts) q ∙ found_nowhere parts q d h

  -- One part is of the key's warehouse: the row is that part's.
  pub get-whole_there : (parts : List Part) (q : K) (place : ℕ) (d : Part) → place < length parts → (slice_index_or parts place d).home ≡ own q
      → ((other : ℕ) → other < length parts → (slice_index_or parts other d).home ≡ own q → other ≡ place)
      → get (rows_of_all own rows parts) q ≡ get (rows (slice_index_or parts place d).tables) q
  get-whole_there parts q place d l is alone = get-from_entries o (flat_map rows_of_one parts) q ∙ found_there parts q place d l is alone

  -- The parts of all warehouses: the row is that of the part of the key's warehouse.
  pub get-whole_of_parts : (shared : SharedTables) (parts : List Part) (d : Part) → ArePartsOf shared parts → (q : K)
      → get (rows_of_all own rows parts) q ≡ cond (has_warehouse shared.scale (own q)) (get (rows (slice_index_or parts (own q - 1) d).tables) q) None
  get-whole_of_parts shared parts d are q =
      elim (has_warehouse shared.scale (own q)) as (λ b. has_warehouse shared.scale (own q) ≡ b → get (rows_of_all own rows parts) q ≡ cond b (get (rows (slice_index_or parts (own q - 1) d).tables) q) None) [
        | true ↦ λ e.
            let low : 1 ≤ own q = grind (arith, nat_tests) in
            let high : own q ≤ shared.scale.warehouses = grind (arith, nat_tests) in
            let l : own q - 1 < length parts = omega (arith, are.many) in
            let is : (slice_index_or parts (own q - 1) d).home ≡ own q = (are.each (own q - 1) d l).home ∙ omega arith in
            get-whole_there parts q (own q - 1) d l is (λ other m same.
            let at : (slice_index_or parts other d).home ≡ other + 1 = (are.each other d m).home in
            omega arith)
        | false ↦ λ e. get-whole_nowhere parts q d (λ place l same.
            let at : (slice_index_or parts place d).home ≡ place + 1 = (are.each place d l).home in
            let n : own q ≡ place + 1 = sym same ∙ at in
            let below : place < shared.scale.warehouses = omega (arith, are.many) in
            absurd (grind (arith, nat_tests)))
      ] refl

  -- With one part more, its rows come behind those of the parts before it.
  pub get-whole_more : (before : List Part) (p : Part) (q : K)
      → get (rows_of_all own rows (before ++ p ∷ [])) q ≡ option_or (get (rows_of_all own rows before) q) (cond (is_of p.home (own q)) (get (rows p.tables) q) None)
  get-whole_more before p q =
      get-from_entries o (flat_map rows_of_one (before ++ p ∷ [])) q
      ∙ ap (find R q) (flat_map-append rows_of_one before (p ∷ []))
      ∙ find-append R q (flat_map rows_of_one before) (flat_map rows_of_one (p ∷ []))
      ∙ ap (λ r. option_or r (find R q (flat_map rows_of_one (p ∷ [])))) (sym (get-from_entries o (flat_map rows_of_one before) q))
      ∙ ap (option_or (get (rows_of_all own rows before) q)) (found_in_first p [] q ∙ nothing_last _)
