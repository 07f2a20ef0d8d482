-- The rows that a group has of a table: those that pass a test, and all once each was changed in its place.
use Rattle.std.proofs.Common.{◌≡◌, Bool, true, false, cond, Option, Some, None, refl, sym, ap, ◌∙◌}
use Rattle.std.specs.Option.{option_map}
use Rattle.std.specs.declared.cmp.Ordering.{Ordering}
use Rattle.std.specs.Cmp.{IsTotalOrder}
use Rattle.std.specs.List.{filter}
use Rattle.std.specs.FinMap.{FinMap, get, entries, get-retain_keys, same_map, IsAntisymmetric}
use Rattle.schema.specs.MapRows.{map_rows}
use Rattle.schema.specs.Database.{rows_where}
use Rattle.schema.proofs.TableWrites.{get-map_rows}
use Rattle.requests.specs.declared.group.Group.{Group}
use Rattle.groups.specs.Groups.{is_same}
use Rattle.groups.specs.Content.{rows_of}
use Rattle.groups.proofs.Parts.{entries-where}
use Rattle.machine.proofs.RowsChanged.{all_of, filter-within}

module _ {K : Type 0} (own : K → Group) (group : Group) where
  abbrev is_own : K → Bool
  is_own key = is_same (own key) group

  module _ {X : Type 0} {R : K → K → Ordering} (o : IsTotalOrder R) (a : IsAntisymmetric R) where
    -- a test that only keys of the group pass finds all of its rows in the group
    pub rows_where-rows_of : (test : K → Bool) → ((k : K) → test k ≡ true → is_own k ≡ true) → (m : FinMap R X) → rows_where test (rows_of own group m) ≡ rows_where test m
    rows_where-rows_of test inside m =
        ap (filter (λ (e : K × X). test e.0)) (entries-where o a m is_own)
        ∙ filter-within (λ (e : K × X). test e.0) (λ (e : K × X). is_own e.0) (entries m)
        (all_of (λ (e : K × X). test e.0 ≡ true → is_own e.0 ≡ true) (λ e. inside e.0) (entries m))

    get-rows_of : (m : FinMap R X) (q : K) → get (rows_of own group m) q ≡ cond (is_own q) (get m q) None
    get-rows_of m q = get-retain_keys m is_own q (λ x tied. ap is_own (sym (a q x tied)))

    module _ (f : K → X → X) (m : FinMap R X) where
      get-changed : (q : K) → get (rows_of own group (map_rows f m)) q ≡ cond (is_own q) (option_map (f q) (get m q)) None
      get-changed q = get-rows_of (map_rows f m) q ∙ ap (λ r. cond (is_own q) r None) (get-map_rows R f a m q)

      -- the rows of a group change as the table's do
      pub rows_of-map_rows : rows_of own group (map_rows f m) ≡ map_rows f (rows_of own group m)
      rows_of-map_rows = same_map o a (rows_of own group (map_rows f m)) (map_rows f (rows_of own group m)) (λ q.
          get-changed q
          ∙ elim (is_own q) as (λ b. cond b (option_map (f q) (get m q)) None ≡ option_map (f q) (cond b (get m q) None)) [ true ↦ refl | false ↦ refl ]
          ∙ sym (get-map_rows R f a (rows_of own group m) q ∙ ap (option_map (f q)) (get-rows_of m q)))

      -- where none of its rows changes, the group has the same
      pub rows_of-map_rows_other : ((k : K) (x : X) → is_own k ≡ true → f k x ≡ x) → rows_of own group (map_rows f m) ≡ rows_of own group m
      rows_of-map_rows_other same = same_map o a (rows_of own group (map_rows f m)) (rows_of own group m) (λ q.
          get-changed q
          ∙ elim (is_own q) as (λ b. is_own q ≡ b → cond b (option_map (f q) (get m q)) None ≡ cond b (get m q) None) [
            | true ↦ λ e. unchanged q e (get m q)
            | false ↦ λ e. refl
          ] refl
          ∙ sym (get-rows_of m q))
        where
          unchanged : (q : K) → is_own q ≡ true → (r : Option X) → option_map (f q) r ≡ r
          unchanged q e None = refl
          unchanged q e (Some x) = ap Some (same q x e)
