-- The tables with one district more.
use Rattle.std.proofs.Common.{◌≡◌, ℕ, ◌+◌, ◌*◌, List, [], ◌∷◌, ◌++◌, map, length, sym, ap, subst, ◌∙◌, arith}
use Rattle.std.specs.List.{range_with_len, slice_get}
use Rattle.std.specs.List.Sorted.{IsPermutation}
use Rattle.std.specs.BTreeMap.{BTreeMap}
use Rattle.std.proofs.lemmas.List.{length_push}
use Rattle.std.proofs.lemmas.List.Elements.{All-same, All-push}
use Rattle.rows.specs.declared.keys.DistrictKey.{DistrictKey}
use Rattle.rows.specs.declared.keys.OrderKey.{OrderKey}
use Rattle.rows.specs.declared.keys.OrderLineKey.{OrderLineKey}
use Rattle.rows.specs.declared.records.District.{District}
use Rattle.rows.specs.declared.records.Customer.{Customer}
use Rattle.rows.specs.declared.records.History.{History}
use Rattle.rows.specs.declared.records.Order.{Order}
use Rattle.rows.specs.declared.records.NewOrder.{NewOrder}
use Rattle.rows.specs.declared.records.OrderLine.{OrderLine}
use Rattle.schema.specs.declared.scale.Scale.{Scale}
use Rattle.population.specs.Keys.{district_at}
use Rattle.population.specs.Rows.{IsOpeningDistrict, AddsCustomers, AreOpeningPayments}
use Rattle.population.specs.Book.{IsBook, owned, owned_by, owned_from}
use Rattle.population.specs.Filled.{IsFilled}
use Rattle.population.proofs.Lists.{each_both, pushed_at}
use Rattle.population.proofs.MoreCustomers.{customers_more_count, district_more}
use Rattle.population.proofs.Owned.{owned_from_more}

module _ (scale : Scale) (now count : ℕ) (home : DistrictKey) (at : district_at count ≡ home)
    (districts : List District) (customers : List Customer) (histories : List (List History)) (orders : BTreeMap OrderKey Order) (new_orders : BTreeMap OrderKey NewOrder) (lines : List (OrderLineKey × OrderLine))
    (had : IsFilled scale now count districts customers histories orders new_orders lines)
    (districts' : List District) (customers' : List Customer) (histories' : List (List History)) (orders' : BTreeMap OrderKey Order) (new_orders' : BTreeMap OrderKey NewOrder) (lines' : List (OrderLineKey × OrderLine)) where
  pub filled_more : (row : District) → districts' ≡ districts ++ row ∷ [] → IsOpeningDistrict scale row
      → AddsCustomers now scale.customers customers customers'
      → (payments : List History) → histories' ≡ histories ++ payments ∷ [] → AreOpeningPayments now home scale.customers payments
      → (owners : List ℕ) → IsPermutation (range_with_len 1 scale.customers) owners → map owned orders'.entries ≡ map owned orders.entries ++ owned_by home 1 owners
      → IsBook scale now orders' new_orders' lines' → (next : ℕ) → next ≡ count + 1 → IsFilled scale now next districts' customers' histories' orders' new_orders' lines'
  filled_more row pushed_row is_row more_customers payments pushed_list are_payments owners shuffled more book next is_next = record {
    districts_count = omega (arith, ap length pushed_row, length_push districts row, had.districts_count);
    district_rows = All-same (IsOpeningDistrict scale) _ _ pushed_row (All-push (IsOpeningDistrict scale) districts row had.district_rows is_row);
    customers_count = customers_more_count now scale.customers customers customers' more_customers ∙ ap (λ n. n + scale.customers) had.customers_count
        ∙ (let e : count * scale.customers + scale.customers ≡ (count + 1) * scale.customers = grind arith in e) ∙ ap (λ n. n * scale.customers) (sym is_next);
    customer_rows = district_more now scale.customers count customers customers' had.customers_count had.customer_rows more_customers;
    histories_count = omega (arith, ap length pushed_list, length_push histories payments, had.histories_count);
    payments = λ place list found.
        pushed_at (λ n rows. AreOpeningPayments now (district_at n) scale.customers rows) histories payments count (sym had.histories_count)
        (subst (λ h. AreOpeningPayments now h scale.customers payments) (sym at) are_payments) had.payments place list
        (ap (λ (l : List (List History)). slice_get l place) (sym pushed_list) ∙ found);
    owners = had.owners ++ owners ∷ [];
    owners_count = omega (arith, length_push had.owners owners, had.owners_count);
    permuted = each_both (IsPermutation (range_with_len 1 scale.customers)) had.owners (owners ∷ []) had.permuted (shuffled, tt);
    owned = more ∙ ap (λ l. l ++ owned_by home 1 owners) had.owned
        ∙ ap (λ h. owned_from 0 had.owners ++ owned_by h 1 owners) (sym at ∙ ap district_at (let e : count ≡ 0 + length had.owners = omega (arith, had.owners_count) in e))
        ∙ sym (owned_from_more 0 had.owners owners);
    book = book;
  }
