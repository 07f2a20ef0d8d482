-- The conditions on C_BALANCE, as the rows meet them one place after another.
use Rattle.std.proofs.Common.{◌≡◌, ◌↔◌, ℕ, ◌+◌, ◌-◌, ◌*◌, ◌/◌, ◌%◌, ◌<◌, ◌≤◌, true, List, [], ◌∷◌, length, get_or, drop, replicate, Some, refl, sym, ap, subst, ◌∙◌, arith}
use Rattle.std.proofs.lemmas.Int.{ints}
use Rattle.std.proofs.lemmas.List.{at_drop_more, at_drop_all, get_or-replicate, length-replicate}
use Rattle.std.proofs.lemmas.Option.{get_or_from_slice_get, slice_get_within, slice_get_read}
use Rattle.std.proofs.lemmas.Bool.Decides.{nat_tests}
use Rattle.std.specs.Prelude.{ℤ, pos, ◌+ℤ◌, ◌-ℤ◌}
use Rattle.std.specs.List.{zip, slice_get}
use Rattle.std.specs.FinMap as map
use Rattle.std.specs.Ordering.{eq_by_cmp}
use Rattle.rows.specs.declared.keys.CustomerKey.{CustomerKey}
use Rattle.rows.specs.declared.records.Customer.{Customer}
use Rattle.rows.specs.declared.records.History.{History}
use Rattle.rows.specs.Keys.{customer_cmp}
use Rattle.rows.specs.Ranged.{is_between}
use Rattle.schema.specs.declared.scale.Scale.{Scale}
use Rattle.schema.specs.declared.table_rows.TableRows.{TableRows}
use Rattle.schema.specs.Dense.{place}
use Rattle.schema.specs.Scale.{has_district, customer_key, customer_keys, customer_slot, district_keys}
use Rattle.schema.specs.Sums.{sum_entries}
use Rattle.schema.specs.Database.{Database}
use Rattle.schema.specs.Rows.{database, FitsScale}
use Rattle.schema.specs.Consistency.{delivered, paid, BalancesAreOwed, BalancesArePaid}
use Rattle.schema.proofs.Places.{place-within}
use Rattle.schema.proofs.KeyOrders.{districts_total, districts_exact, customers_total, customers_exact}
use Rattle.schema.proofs.ScalePlaces.{customer_place, length-customer_keys, length-district_keys, district_at, place-district_at}
use Rattle.consistency.specs.Totals.{sum_of}
use Rattle.consistency.specs.Balances.{AreTotals, AreWithin}
use Rattle.consistency.proofs.TotalsDense.{each-dense, sum-dense}
use Rattle.consistency.proofs.TotalsLoops.{EachPlace, same_each, same_value, both_ways}
use Rattle.consistency.proofs.BalancesPayments.{paid_in}

-- ---- the customer at a place

abbrev pub customer_at : Scale → ℕ → CustomerKey
customer_at scale n = customer_key (district_at (n / scale.customers)) (n % scale.customers + 1)

quotient_below : (n count outer : ℕ) → 0 < count → n < outer * count → n / count < outer
quotient_below n count outer some below = grind arith

product : (n count : ℕ) → 0 < count → n / count * count + n % count ≡ n
product n count some = grind arith

pub slot-customer_at : (scale : Scale) (n : ℕ) → n < scale.warehouses * 10 * scale.customers → customer_slot scale (customer_at scale n) ≡ Some n
slot-customer_at scale n below =
    let some : 0 < scale.customers = omega (arith, scale.limits.some_customer) in
    let home = n / scale.customers in
    let inner = n % scale.customers in
    let fewer : home < scale.warehouses * 10 = quotient_below n scale.customers (scale.warehouses * 10) some below in
    let district : has_district scale (district_at home) ≡ true = grind (arith, nat_tests) in
    let small : inner < scale.customers = omega arith in
    let number : is_between 1 scale.customers (inner + 1) ≡ true = grind (arith, nat_tests) in
    let at : (home / 10 + 1 - 1) * 10 + (home % 10 + 1 - 1) ≡ home = omega arith in
    let one_less : inner + 1 - 1 ≡ inner = omega arith in
    let is : ((home / 10 + 1 - 1) * 10 + (home % 10 + 1 - 1)) * scale.customers + (inner + 1 - 1) ≡ n =
    ap (λ m. m * scale.customers + (inner + 1 - 1)) at ∙ ap (λ m. home * scale.customers + m) one_less ∙ product n scale.customers some in
    rw (district, number) (ap Some is)

placed_customer : (scale : Scale) (n : ℕ) → n < length (customer_keys scale) → place (eq_by_cmp customer_cmp (customer_at scale n)) (customer_keys scale) ≡ Some n
placed_customer scale n below = customer_place scale (customer_at scale n) ∙ slot-customer_at scale n (omega (arith, length-customer_keys scale))

-- ---- what is asked of the customer at a place

abbrev pub CustomerIsPaid : List ℤ → ℕ → Customer → Type 0
CustomerIsPaid deliveries n row = row.balance +ℤ row.ytd_payment ≡ get_or deliveries n (pos 0)

abbrev pub CustomerIsOwed : List ℤ → List ℤ → ℕ → Customer → Type 0
CustomerIsOwed deliveries payments n row = row.balance ≡ get_or deliveries n (pos 0) -ℤ get_or payments n (pos 0)

module _ (scale : Scale) (rows : TableRows) (fits : FitsScale scale rows) where
  -- the total at a customer's place, and that there is one
  total_at : (total : CustomerKey → ℤ) (totals : List ℤ) → AreTotals scale total totals → (n : ℕ) → n < length rows.customers.items → total (customer_at scale n) ≡ get_or totals n (pos 0)
  total_at total totals are n below =
      sym (get_or_from_slice_get totals n _ (pos 0) (are (customer_at scale n) n (slot-customer_at scale n (omega (arith, fits.counts.customers)))))

  pub total_there : (total : CustomerKey → ℤ) (totals : List ℤ) → AreTotals scale total totals → (n : ℕ) → n < length rows.customers.items → n < length totals
  total_there total totals are n below =
      slice_get_within totals n _ (are (customer_at scale n) n (slot-customer_at scale n (omega (arith, fits.counts.customers))))

  each_customer : (P : CustomerKey → Customer → Type 0) → ((key : CustomerKey) (row : Customer) → map.get (database scale rows).customers key ≡ Some row → P key row) ↔ EachPlace (λ n row. P (customer_at scale n) row) rows.customers.items
  each_customer P =
      each-dense customers_total customers_exact P (customer_keys scale) rows.customers.items
      (fits.counts.customers ∙ sym (length-customer_keys scale)) (customer_at scale) (placed_customer scale)

  module _ (deliveries : List ℤ) (are : AreTotals scale (delivered (database scale rows)) deliveries) where
    pub balances_paid : BalancesArePaid (database scale rows) ↔ EachPlace (CustomerIsPaid deliveries) rows.customers.items
    balances_paid = both_ways
        (each_customer (λ key row. row.balance +ℤ row.ytd_payment ≡ delivered (database scale rows) key))
        (same_each _ _ rows.customers.items (λ n row below. same_value (row.balance +ℤ row.ytd_payment) _ _ (total_at _ deliveries are n below)))

    pub balances_owed : (payments : List ℤ) → AreTotals scale (paid (database scale rows)) payments → BalancesAreOwed (database scale rows) ↔ EachPlace (CustomerIsOwed deliveries payments) rows.customers.items
    balances_owed payments made = both_ways
        (each_customer (λ key row. row.balance ≡ delivered (database scale rows) key -ℤ paid (database scale rows) key))
        (same_each _ _ rows.customers.items (λ n row below. same_value row.balance _ _
        (ap (λ z. z -ℤ paid (database scale rows) (customer_at scale n)) (total_at _ deliveries are n below)
        ∙ ap (λ z. get_or deliveries n (pos 0) -ℤ z) (total_at _ payments made n below))))

-- the same of the tables that lend these rows, and of a slice of them
module _ (t : Database) (rows : TableRows) (same : database t.scale rows ≡ t) (fits : FitsScale t.scale rows) (customers : List Customer) (lent : customers ≡ rows.customers.items)
    (deliveries : List ℤ) (are : AreTotals t.scale (delivered t) deliveries) where
  delivered_here : AreTotals t.scale (delivered (database t.scale rows)) deliveries
  delivered_here = subst (λ (d : Database). AreTotals t.scale (delivered d) deliveries) (sym same) are

  pub paid_means : BalancesArePaid t ↔ EachPlace (CustomerIsPaid deliveries) customers
  paid_means =
      subst (λ (d : Database). BalancesArePaid d ↔ EachPlace (CustomerIsPaid deliveries) customers) same
      (subst (λ (items : List Customer). BalancesArePaid (database t.scale rows) ↔ EachPlace (CustomerIsPaid deliveries) items) (sym lent)
      (balances_paid t.scale rows fits deliveries delivered_here))

  pub owed_means : (payments : List ℤ) → AreTotals t.scale (paid t) payments → BalancesAreOwed t ↔ EachPlace (CustomerIsOwed deliveries payments) customers
  owed_means payments made =
      subst (λ (d : Database). BalancesAreOwed d ↔ EachPlace (CustomerIsOwed deliveries payments) customers) same
      (subst (λ (items : List Customer). BalancesAreOwed (database t.scale rows) ↔ EachPlace (CustomerIsOwed deliveries payments) items) (sym lent)
      (balances_owed t.scale rows fits deliveries delivered_here payments (subst (λ (d : Database). AreTotals t.scale (paid d) payments) (sym same) made)))

-- ---- the totals before the first row

get_zero : (count slot : ℕ) → slot < count → slice_get (replicate count (pos 0)) slot ≡ Some (pos 0)
get_zero count slot below =
    slice_get_read (replicate count (pos 0)) count slot (pos 0) (sym (length-replicate count (pos 0))) below (sym (get_or-replicate count slot (pos 0) (pos 0) below))

module _ (scale : Scale) (rows : TableRows) (fits : FitsScale scale rows) where
  slot_below : (key : CustomerKey) (slot : ℕ) → customer_slot scale key ≡ Some slot → slot < length rows.customers.items
  slot_below key slot at =
      let below : slot < length (customer_keys scale) = place-within _ (customer_keys scale) slot (customer_place scale key ∙ at) in
      omega (arith, length-customer_keys scale, fits.counts.customers)

  pub totals_none : (total : CustomerKey → ℤ) → ((key : CustomerKey) → total key ≡ pos 0) → AreTotals scale total (replicate (length rows.customers.items) (pos 0))
  totals_none total none key slot at = get_zero _ slot (slot_below key slot at) ∙ ap Some (sym (none key))

pub within_none : (limit count : ℕ) → AreWithin limit (replicate count (pos 0))
within_none limit count slot total e =
    let below : slot < length (replicate count (pos 0)) = slice_get_within _ slot total e in
    let is : Some (pos 0) ≡ Some total = sym (get_zero count slot (omega (arith, length-replicate count (pos 0)))) ∙ e in
    let zero_is : pos 0 ≡ total = cc in
    record { low = omega (arith, ints); high = omega (arith, ints) }

-- ---- the payments of all lists

sum_values : {K X : Type 0} (f : X → ℤ) (ks : List K) (xs : List X) → length xs ≡ length ks → sum_entries (λ _ x. f x) (zip ks xs) ≡ sum_of f xs
sum_values f [] [] even = refl
sum_values f [] (x ∷ xs) even = absurd (omega arith)
sum_values f (k ∷ ks) [] even = refl
sum_values f (k ∷ ks) (x ∷ xs) even = ap (λ z. f x +ℤ z) (sum_values f ks xs (omega arith))

pub paid_is : (scale : Scale) (rows : TableRows) → FitsScale scale rows → (key : CustomerKey) → sum_of (paid_in key) rows.histories.items ≡ paid (database scale rows) key
paid_is scale rows fits key =
    sym (sum-dense districts_total districts_exact (λ _ payments. paid_in key payments) (district_keys scale) rows.histories.items district_at (place-district_at scale)
    ∙ sum_values (paid_in key) (district_keys scale) rows.histories.items (fits.counts.histories ∙ sym (length-district_keys scale)))

-- a list that is credited is no longer left
pub list_more : (key : CustomerKey) (lists : List (List History)) (n : ℕ) (list : List History) (whole : ℤ) → n < length lists → list ≡ get_or lists n list
    → ((whole -ℤ sum_of (paid_in key) (drop n lists)) +ℤ paid_in key list) ≡ (whole -ℤ sum_of (paid_in key) (drop (n + 1) lists))
list_more key lists n list whole below here =
    let left : sum_of (paid_in key) (drop n lists) ≡ (paid_in key list +ℤ sum_of (paid_in key) (drop (n + 1) lists)) =
    at_drop_more (sum_of (paid_in key)) lists n list below ∙ ap (λ l. paid_in key l +ℤ sum_of (paid_in key) (drop (n + 1) lists)) (sym here) in
    omega (arith, ints)

pub list_all : (key : CustomerKey) (lists : List (List History)) (n : ℕ) (whole : ℤ) → length lists ≤ n → (whole -ℤ sum_of (paid_in key) (drop n lists)) ≡ whole
list_all key lists n whole past =
    let none : sum_of (paid_in key) (drop n lists) ≡ pos 0 = at_drop_all (sum_of (paid_in key)) lists n past in
    omega (arith, ints)
