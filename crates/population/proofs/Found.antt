-- What holds of each entry, against the rows of the table that the entries make.
use Rattle.std.proofs.Common.{◌≡◌, Bool, true, false, cond, ◌&&◌, List, [], ◌∷◌, Some, IsTrue, is_some, refl, sym, ap, ◌∙◌}
use Rattle.std.specs.Prelude.{◌||◌}
use Rattle.std.specs.List.{All, AllByRecursion, list_any, filter}
use Rattle.std.specs.Map.{keys_of}
use Rattle.std.specs.declared.cmp.Ordering.{Ordering}
use Rattle.std.specs.Ordering.{eq_by_cmp}
use Rattle.std.specs.Cmp.{IsTotalOrder, eq_by_cmp_equiv}
use Rattle.std.specs.FinMap.{get, contains_key, from_entries, get-from_entries, IsAntisymmetric}
use Rattle.std.specs.FinMap.Entries.{find, is_some-find}
use Rattle.std.proofs.lemmas.Bool.{or_right}
use Rattle.std.proofs.lemmas.List.Elements.{recursion_from_All}
use Rattle.schema.proofs.EachRows.{is_equal}
use Rattle.population.proofs.Lists.{each_weaker}

and_false : (b : Bool) → false ≡ (b && false)
and_false true = refl
and_false false = refl

module _ {K : Type 0} {R : K → K → Ordering} (o : IsTotalOrder R) (a : IsAntisymmetric R) where
  -- a key is among those that pass a test if it passes and is among all
  pub any_kept : (test : K → Bool) (q : K) (ks : List K) → list_any (eq_by_cmp R q) (filter test ks) ≡ (test q && list_any (eq_by_cmp R q) ks)
  any_kept test q [] = and_false (test q)
  any_kept test q (k ∷ ks) =
      let rest : list_any (eq_by_cmp R q) (filter test ks) ≡ (test q && list_any (eq_by_cmp R q) ks) = any_kept test q ks in
      elim (eq_by_cmp R q k) as (λ b. eq_by_cmp R q k ≡ b → list_any (eq_by_cmp R q) (cond (test k) (k ∷ filter test ks) (filter test ks)) ≡ (test q && (b || list_any (eq_by_cmp R q) ks))) [
        | true ↦ λ t.
            let same : test k ≡ test q = ap test (sym (a q k (is_equal _ t))) in
            ap (λ c. list_any (eq_by_cmp R q) (cond c (k ∷ filter test ks) (filter test ks))) same
            ∙ elim (test q) as (λ c. list_any (eq_by_cmp R q) (filter test ks) ≡ (c && list_any (eq_by_cmp R q) ks) → list_any (eq_by_cmp R q) (cond c (k ∷ filter test ks) (filter test ks)) ≡ (c && true)) [
              | true ↦ λ r. ap (λ b. b || list_any (eq_by_cmp R q) (filter test ks)) t
              | false ↦ λ r. r
            ] rest
        | false ↦ λ t. elim (test k) as (λ c. list_any (eq_by_cmp R q) (cond c (k ∷ filter test ks) (filter test ks)) ≡ (test q && list_any (eq_by_cmp R q) ks)) [
          | true ↦ ap (λ b. b || list_any (eq_by_cmp R q) (filter test ks)) t ∙ rest
          | false ↦ rest
        ]
      ] refl

  each_any : (ks : List K) → AllByRecursion (λ k. list_any (eq_by_cmp R k) ks ≡ true) ks
  each_any [] = tt
  each_any (k ∷ ks) =
      let itself : eq_by_cmp R k k ≡ true = (eq_by_cmp_equiv o).refl k in
      let later : AllByRecursion (λ q. (eq_by_cmp R q k || list_any (eq_by_cmp R q) ks) ≡ true) ks =
      each_weaker (λ q. (eq_by_cmp R q k || list_any (eq_by_cmp R q) ks) ≡ true) (λ q. list_any (eq_by_cmp R q) ks ≡ true)
      (λ q h. or_right (eq_by_cmp R q k) (list_any (eq_by_cmp R q) ks) h) ks (each_any ks) in
      (ap (λ b. b || list_any (eq_by_cmp R k) ks) itself, later)

module _ {K X : Type 0} {R : K → K → Ordering} (o : IsTotalOrder R) (a : IsAntisymmetric R) where
  found_in : (P : K → X → Type 0) (es : List (K × X)) → AllByRecursion (λ e. P e.0 e.1) es → (key : K) (row : X) → find R key es ≡ Some row → P key row
  found_in P [] h key row found = absurd cc
  found_in P (e ∷ es) h key row found =
      elim (eq_by_cmp R key e.0) as (λ b. eq_by_cmp R key e.0 ≡ b → cond b (Some e.1) (find R key es) ≡ Some row → P key row) [
        | true ↦ λ t f.
            let same_key : key ≡ e.0 = a key e.0 (is_equal _ t) in
            let same_row : e.1 ≡ row = cc in
            rw (same_key, ← same_row) h.0
        | false ↦ λ t f. found_in P es h.1 key row f
      ] refl found

  -- what holds of each entry holds of each row
  pub each_found : (P : K → X → Type 0) (es : List (K × X)) → AllByRecursion (λ e. P e.0 e.1) es → (key : K) (row : X) → get (from_entries {R = R} es) key ≡ Some row → P key row
  each_found P es h key row found = found_in P es h key row (sym (get-from_entries o es key) ∙ found)

  pub all_found : (P : K → X → Type 0) (es : List (K × X)) → All (λ e. P e.0 e.1) es → (key : K) (row : X) → get (from_entries {R = R} es) key ≡ Some row → P key row
  all_found P es h = each_found P es (recursion_from_All (λ e. P e.0 e.1) es h)

  -- the table has the keys of the entries
  pub contains_is : (es : List (K × X)) (q : K) → contains_key (from_entries {R = R} es) q ≡ list_any (eq_by_cmp R q) (keys_of es)
  contains_is es q = ap is_some (get-from_entries o es q) ∙ is_some-find R q es

  pub each_contained : (es : List (K × X)) → AllByRecursion (λ k. IsTrue (contains_key (from_entries {R = R} es) k)) (keys_of es)
  each_contained es =
      each_weaker (λ k. IsTrue (contains_key (from_entries {R = R} es) k)) (λ k. list_any (eq_by_cmp R k) (keys_of es) ≡ true)
      (λ k h. contains_is es k ∙ h) (keys_of es) (each_any o a (keys_of es))
