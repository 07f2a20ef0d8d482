-- How often a customer paid in one district.
use Rattle.std.proofs.Common.{◌≡◌, ℕ, zero, suc, ◌+◌, ◌*◌, ◌<◌, ◌≤◌, true, false, cond, ◌&&◌, ◌==◌, List, [], ◌∷◌, map, length, IsTrue, refl, sym, ap, ◌∙◌, arith}
use Rattle.std.proofs.lemmas.Bool.Decides.{nat_tests}
use Rattle.std.proofs.lemmas.List.{length-map}
use Rattle.std.proofs.lemmas.List.FromFn.{length-map-range_with_len}
use Rattle.std.proofs.lemmas.List.Elements.{recursion_from_All}
use Rattle.std.specs.Prelude.{pos}
use Rattle.std.specs.List.{filter, list_all, range_with_len}
use Rattle.rows.specs.declared.keys.DistrictKey.{DistrictKey}
use Rattle.rows.specs.declared.keys.CustomerKey.{CustomerKey}
use Rattle.rows.specs.declared.records.History.{History}
use Rattle.rows.specs.Ranged.{is_between}
use Rattle.schema.specs.declared.scale.Scale.{Scale}
use Rattle.schema.specs.Scale.{has_customer, has_district, customer_key}
use Rattle.schema.specs.Database.{are_payers_known}
use Rattle.schema.specs.Consistency.{amounts_of, is_payer}
use Rattle.consistency.specs.Balances.{is_customer}
use Rattle.population.specs.Population.{is_home}
use Rattle.population.specs.Rows.{AreOpeningPayments}
use Rattle.population.proofs.Lists.{each_kept}
use Rattle.population.proofs.Weights.{amounts_same}

payers_kept : (key : CustomerKey) (payments : List History) → length (filter (is_payer key) payments) ≡ length (filter (is_customer key) (map (λ row. row.customer) payments))
payers_kept key [] = refl
payers_kept key (row ∷ rows) =
    elim (is_customer key row.customer) as (λ b. length (cond b (row ∷ filter (is_payer key) rows) (filter (is_payer key) rows))
    ≡ length (cond b (row.customer ∷ filter (is_customer key) (map (λ row. row.customer) rows)) (filter (is_customer key) (map (λ row. row.customer) rows)))) [
      | true ↦ ap (λ n. suc n) (payers_kept key rows)
      | false ↦ payers_kept key rows
    ]

none_from : (key : CustomerKey) (home : DistrictKey) (first count : ℕ) → key.c_id < first → length (filter (is_customer key) (map (customer_key home) (range_with_len first count))) ≡ 0
none_from key home first zero h = refl
none_from key home first (suc count) h =
    let other : is_customer key (customer_key home first) ≡ false = grind (arith, nat_tests) in
    rw other (none_from key home (first + 1) count (omega arith))

none_elsewhere : (key : CustomerKey) (home : DistrictKey) (first count : ℕ) → is_home key home ≡ false → length (filter (is_customer key) (map (customer_key home) (range_with_len first count))) ≡ 0
none_elsewhere key home first zero h = refl
none_elsewhere key home first (suc count) h =
    let other : is_customer key (customer_key home first) ≡ false = grind (arith, nat_tests) in
    rw other (none_elsewhere key home (first + 1) count h)

one_at_home : (key : CustomerKey) (home : DistrictKey) (first count : ℕ) → is_home key home ≡ true → first ≤ key.c_id → key.c_id < first + count
    → length (filter (is_customer key) (map (customer_key home) (range_with_len first count))) ≡ 1
one_at_home key home first zero h low high = absurd (omega arith)
one_at_home key home first (suc count) h low high =
    let others = filter (is_customer key) (map (customer_key home) (range_with_len (first + 1) count)) in
    elim (first == key.c_id) as (λ b. (first == key.c_id) ≡ b → length (cond (is_customer key (customer_key home first)) (customer_key home first ∷ others) others) ≡ 1) [
      | true ↦ λ t.
          let itself : is_customer key (customer_key home first) ≡ true = grind (arith, nat_tests) in
          let at : key.c_id < first + 1 = grind (arith, nat_tests) in
          rw itself (ap (λ n. suc n) (none_from key home (first + 1) count at))
      | false ↦ λ t.
          let other : is_customer key (customer_key home first) ≡ false = grind (arith, nat_tests) in
          let above : first + 1 ≤ key.c_id = grind (arith, nat_tests) in
          rw other (one_at_home key home (first + 1) count h above (omega arith))
    ] refl

-- a customer of the scale paid once at home, and nowhere else
pub paid_times : {now : ℕ} (key : CustomerKey) (home : DistrictKey) (customers : ℕ) (payments : List History) → 1 ≤ key.c_id → key.c_id ≤ customers → AreOpeningPayments now home customers payments
    → length (filter (is_payer key) payments) ≡ cond (is_home key home) 1 0
paid_times key home customers payments low high are =
    payers_kept key payments ∙ ap (λ l. length (filter (is_customer key) l)) are.payers
    ∙ elim (is_home key home) as (λ b. is_home key home ≡ b → length (filter (is_customer key) (map (customer_key home) (range_with_len 1 customers))) ≡ cond b 1 0) [
      | true ↦ λ t. one_at_home key home 1 customers t low (omega arith)
      | false ↦ λ t. none_elsewhere key home 1 customers t
    ] refl

-- and so much
pub paid_amount : {now : ℕ} (key : CustomerKey) (home : DistrictKey) (customers : ℕ) (payments : List History) → 1 ≤ key.c_id → key.c_id ≤ customers → AreOpeningPayments now home customers payments
    → amounts_of (filter (is_payer key) payments) ≡ pos (cond (is_home key home) 1000 0)
paid_amount key home customers payments low high are =
    let each = recursion_from_All (λ (row : History). row.amount ≡ pos 1000) payments are.amounts in
    amounts_same 1000 (filter (is_payer key) payments) (each_kept (λ (row : History). row.amount ≡ pos 1000) (is_payer key) payments each)
    ∙ ap (λ n. pos (1000 * n)) (paid_times key home customers payments low high are)
    ∙ elim (is_home key home) as (λ b. pos (1000 * cond b 1 0) ≡ pos (cond b 1000 0)) [ true ↦ refl | false ↦ refl ]

-- what all customers paid
pub all_paid : {now : ℕ} (home : DistrictKey) (customers : ℕ) (payments : List History) → AreOpeningPayments now home customers payments → amounts_of payments ≡ pos (1000 * customers)
all_paid home customers payments are =
    let each = recursion_from_All (λ (row : History). row.amount ≡ pos 1000) payments are.amounts in
    let many : length payments ≡ customers = sym (length-map payments (λ (row : History). row.customer)) ∙ ap length are.payers ∙ length-map-range_with_len (customer_key home) 1 customers in
    amounts_same 1000 payments each ∙ ap (λ n. pos (1000 * n)) many

-- ---- the payers are customers of the scale

known_from : (scale : Scale) (home : DistrictKey) (first count : ℕ) → IsTrue (has_district scale home) → 1 ≤ first → first + count ≤ scale.customers + 1
    → IsTrue (list_all (has_customer scale) (map (customer_key home) (range_with_len first count)))
known_from scale home first zero there low high = refl
known_from scale home first (suc count) there low high =
    let here : is_between 1 scale.customers first ≡ true = grind (arith, nat_tests) in
    rw (there, here) (known_from scale home (first + 1) count there (omega arith) (omega arith))

payers_all : (scale : Scale) (payments : List History) → are_payers_known scale payments ≡ list_all (has_customer scale) (map (λ row. row.customer) payments)
payers_all scale [] = refl
payers_all scale (row ∷ rows) = ap (λ b. has_customer scale row.customer && b) (payers_all scale rows)

pub payers_known_of : {now : ℕ} (scale : Scale) (home : DistrictKey) (payments : List History) → IsTrue (has_district scale home) → AreOpeningPayments now home scale.customers payments → IsTrue (are_payers_known scale payments)
payers_known_of scale home payments there are =
    payers_all scale payments ∙ ap (list_all (has_customer scale)) are.payers ∙ known_from scale home 1 scale.customers there (omega arith) (omega arith)
