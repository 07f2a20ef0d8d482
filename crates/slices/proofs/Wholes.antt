-- The rows of one part, in the whole of all parts.
use Rattle.std.proofs.Common.{◌≡◌, ◌≢◌, ℕ, ◌+◌, ◌-◌, ◌<◌, ◌≤◌, Bool, true, false, cond, List, length, get_or, set, Option, None, refl, sym, ap, ◌∙◌, arith}
use Rattle.std.proofs.lemmas.Bool.Decides.{nat_tests}
use Rattle.std.proofs.lemmas.List.{get_or-set_other}
use Rattle.std.specs.declared.cmp.Ordering.{Ordering}
use Rattle.std.specs.Cmp.{IsTotalOrder, nat_cmp_total}
use Rattle.std.specs.FinMap as map
use Rattle.std.specs.FinMap.{FinMap, IsAntisymmetric, nat_cmp-IsAntisymmetric}
use Rattle.schema.specs.Database.{Database}
use Rattle.schema.specs.Scale.{has_warehouse}
use Rattle.schema.proofs.KeyOrders.{districts_total, districts_exact, customers_total, customers_exact, orders_total, orders_exact, lines_total, lines_exact, stocks_total, stocks_exact}
use Rattle.partitions.specs.Parts.{SharedTables, Part, ArePartsOf, whole_of, rows_of_all}
use Rattle.partitions.proofs.Wholes.{get-whole_there, get-whole_of_parts}
use Rattle.slices.proofs.Alike.{AreAlikeAt}

get-part : {K X : Type 0} {R : K → K → Ordering} (o : IsTotalOrder R) (a : IsAntisymmetric R) (own : K → ℕ) (rows : Database → FinMap R X) (shared : SharedTables) (parts : List Part) (place : ℕ) (d : Part) (key : K)
    → ArePartsOf shared parts → place < length parts → own key ≡ place + 1 → map.get (rows_of_all own rows parts) key ≡ map.get (rows (get_or parts place d).tables) key
get-part o a own rows shared parts place d key are here at =
    get-whole_there o a own rows parts key place d here ((are.each place d here).home ∙ sym at)
    (λ other small same. omega (arith, same, at, (are.each other d small).home))

-- the rows of all other warehouses stay, where one part makes way for another
get-other : {K X : Type 0} {R : K → K → Ordering} (o : IsTotalOrder R) (a : IsAntisymmetric R) (own : K → ℕ) (rows : Database → FinMap R X) (shared : SharedTables) (parts : List Part) (place : ℕ) (new : Part) (key : K)
    → ArePartsOf shared parts → ArePartsOf shared (set parts place new) → own key ≢ place + 1
    → map.get (rows_of_all own rows (set parts place new)) key ≡ map.get (rows_of_all own rows parts) key
get-other {K} {X} {R} o a own rows shared parts place new key are are_now apart =
    get-whole_of_parts o a own rows shared (set parts place new) new are_now key ∙ same ∙ sym (get-whole_of_parts o a own rows shared parts new are key)
  where
    row : List Part → Option X
    row ps = map.get (rows (get_or ps (own key - 1) new).tables) key

    same : cond (has_warehouse shared.scale (own key)) (row (set parts place new)) None ≡ cond (has_warehouse shared.scale (own key)) (row parts) None
    same = elim (has_warehouse shared.scale (own key)) as (λ (b : Bool). has_warehouse shared.scale (own key) ≡ b → cond b (row (set parts place new)) None ≡ cond b (row parts) None) [
      | true ↦ λ e.
          let low : 1 ≤ own key = grind (arith, nat_tests) in
          let differ : own key - 1 ≢ place = λ h. apart (omega (arith, h, low)) in
          ap (λ (p : Part). map.get (rows p.tables) key) (get_or-set_other parts place (own key - 1) new new differ)
      | false ↦ λ e. refl
    ] refl

-- the whole has the rows of a part
pub whole_has_part : (shared : SharedTables) (parts : List Part) (place : ℕ) (d : Part) → ArePartsOf shared parts → place < length parts → AreAlikeAt (place + 1) (whole_of shared parts) (get_or parts place d).tables
whole_has_part shared parts place d are here = record {
  warehouses = λ key at. get-part nat_cmp_total nat_cmp-IsAntisymmetric (λ key. key) (λ t. t.warehouses) shared parts place d key are here at;
  districts = λ key at. get-part districts_total districts_exact (λ key. key.w_id) (λ t. t.districts) shared parts place d key are here at;
  stocks = λ key at. get-part stocks_total stocks_exact (λ key. key.w_id) (λ t. t.stocks) shared parts place d key are here at;
  customers = λ key at. get-part customers_total customers_exact (λ key. key.w_id) (λ t. t.customers) shared parts place d key are here at;
  histories = λ key at. get-part districts_total districts_exact (λ key. key.w_id) (λ t. t.histories) shared parts place d key are here at;
  orders = λ key at. get-part orders_total orders_exact (λ key. key.w_id) (λ t. t.orders) shared parts place d key are here at;
  new_orders = λ key at. get-part orders_total orders_exact (λ key. key.w_id) (λ t. t.new_orders) shared parts place d key are here at;
  lines = λ key at. get-part lines_total lines_exact (λ key. key.w_id) (λ t. t.lines) shared parts place d key are here at;
}

-- and where another part makes way for another, those of all other warehouses
pub whole_keeps_others : (shared : SharedTables) (parts : List Part) (place : ℕ) (new : Part) (home : ℕ) → ArePartsOf shared parts → ArePartsOf shared (set parts place new) → home ≢ place + 1
    → AreAlikeAt home (whole_of shared (set parts place new)) (whole_of shared parts)
whole_keeps_others shared parts place new home are are_now apart = record {
  warehouses = λ key own. get-other nat_cmp_total nat_cmp-IsAntisymmetric (λ key. key) (λ t. t.warehouses) shared parts place new key are are_now (λ e. apart (sym own ∙ e));
  districts = λ key own. get-other districts_total districts_exact (λ key. key.w_id) (λ t. t.districts) shared parts place new key are are_now (λ e. apart (sym own ∙ e));
  stocks = λ key own. get-other stocks_total stocks_exact (λ key. key.w_id) (λ t. t.stocks) shared parts place new key are are_now (λ e. apart (sym own ∙ e));
  customers = λ key own. get-other customers_total customers_exact (λ key. key.w_id) (λ t. t.customers) shared parts place new key are are_now (λ e. apart (sym own ∙ e));
  histories = λ key own. get-other districts_total districts_exact (λ key. key.w_id) (λ t. t.histories) shared parts place new key are are_now (λ e. apart (sym own ∙ e));
  orders = λ key own. get-other orders_total orders_exact (λ key. key.w_id) (λ t. t.orders) shared parts place new key are are_now (λ e. apart (sym own ∙ e));
  new_orders = λ key own. get-other orders_total orders_exact (λ key. key.w_id) (λ t. t.new_orders) shared parts place new key are are_now (λ e. apart (sym own ∙ e));
  lines = λ key own. get-other lines_total lines_exact (λ key. key.w_id) (λ t. t.lines) shared parts place new key are are_now (λ e. apart (sym own ∙ e));
}
