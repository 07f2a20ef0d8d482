-- Tables whose customers have the same names.
use Rattle.std.proofs.Common.{◌≡◌, ℕ, ◌+◌, List, Option, Some, true, false, cond, refl, sym, ap, subst, ◌∙◌, slice_get, IsSomeAnd}
use Rattle.std.specs.FinMap as map
use Rattle.std.specs.Ordering.{eq_by_cmp, is_eq}
use Rattle.std.specs.declared.cmp.Ordering.{Ordering}
use Rattle.std.specs.declared.cmp.Ordering.TheVariants.{Less, Equal, Greater}
use Rattle.rows.specs.declared.keys.CustomerKey.{CustomerKey}
use Rattle.rows.specs.declared.records.Customer.{Customer}
use Rattle.rows.specs.Keys.{customer_cmp}
use Rattle.schema.specs.declared.scale.Scale.{Scale}
use Rattle.schema.specs.Scale.{customer_key, district_slot}
use Rattle.schema.specs.Database.{Database}
use Rattle.schema.proofs.KeyOrders.{customers_total, customers_exact}
use Rattle.indexes.specs.NameLaws.{SameNames, PutKeepsNames, SameNamesFit}
use Rattle.indexes.specs.NameOrder.{FitsNames, FitsNamesBy, IsNameRun, last_of, first_of, last_name, first_name}

equal : (o : Ordering) → is_eq o ≡ true → o ≡ Equal
equal Less h = absurd cc
equal Equal h = refl
equal Greater h = absurd cc

-- what reads a row alike before and after reads the table alike
kept : (f : Option Customer → List ℕ) (t : Database) (key : CustomerKey) (old new : Customer) → map.get t.customers key ≡ Some old → f (Some new) ≡ f (Some old) → (q : CustomerKey)
    → f (map.get (map.insert t.customers key new) q) ≡ f (map.get t.customers q)
kept f t key old new there same q =
    ap f (map.get-insert customers_total t.customers key new q)
    ∙ elim (eq_by_cmp customer_cmp q key) as (λ b. eq_by_cmp customer_cmp q key ≡ b → f (cond b (Some new) (map.get t.customers q)) ≡ f (map.get t.customers q)) [
      | true ↦ λ e. same ∙ ap f (sym there) ∙ ap (λ k. f (map.get t.customers k)) (sym (customers_exact q key (equal _ e)))
      | false ↦ λ e. refl
    ] refl

pub put_keeps_names : PutKeepsNames
put_keeps_names t key old new there last first = record {
  scale = refl;
  last = kept last_of t key old new there last;
  first = kept first_of t key old new there first;
}

pub same_names_fit_by : SameNamesFit
same_names_fit_by slot index old new same fits home place at =
    let last : last_name old home ≡ last_name new home = λ i k. sym (same.last (customer_key home (k + 1))) i in
    let first : first_name old home ≡ first_name new home = λ i k. sym (same.first (customer_key home (k + 1))) i in
    let was : IsSomeAnd (slice_get index place) (IsNameRun (last_name old home) (first_name old home) old.scale.customers) = fits home place at in
    subst (λ (s : Scale). IsSomeAnd (slice_get index place) (IsNameRun (last_name new home) (first_name new home) s.customers)) (sym same.scale)
    (subst (λ (f : ℕ → List ℕ). IsSomeAnd (slice_get index place) (IsNameRun (last_name new home) f old.scale.customers)) first
    (subst (λ (l : ℕ → List ℕ). IsSomeAnd (slice_get index place) (IsNameRun l (first_name old home) old.scale.customers)) last was))

-- so for the index of all tables
pub same_names_fit : (index : List (List ℕ)) (old new : Database) → SameNames old new → FitsNames index old → FitsNames index new
same_names_fit index old new same fits =
    subst (λ (s : Scale). FitsNamesBy (district_slot s) index new) (sym same.scale) (same_names_fit_by (district_slot old.scale) index old new same fits)
