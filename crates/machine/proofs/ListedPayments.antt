-- What lists of payments come to, after one payment was added at the end of one list.
use Rattle.std.proofs.Common.{◌≡◌, ◌≢◌, Bool, true, false, cond, eqb, List, [], ◌∷◌, ◌++◌, Option, Some, None, unwrap_or, refl, sym, ap, ◌∙◌, arith}
use Rattle.std.specs.Prelude.{ℤ, pos, ◌+ℤ◌}
use Rattle.std.specs.List.{filter}
use Rattle.std.proofs.lemmas.Int.{ints}
use Rattle.std.proofs.lemmas.List.{append-nil}
use Rattle.std.proofs.lemmas.List.Elements.{filter-append}
use Rattle.std.proofs.lemmas.Bool.{eqb-true, eq-eqb, and_from, and_parts, false_from_ne_true}
use Rattle.std.specs.FinMap.{get}
use Rattle.rows.specs.declared.keys.DistrictKey.{DistrictKey}
use Rattle.rows.specs.declared.keys.CustomerKey.{CustomerKey}
use Rattle.rows.specs.declared.records.History.{History}
use Rattle.schema.specs.Sums.{weight_at, sum_rows}
use Rattle.schema.specs.Database.{HistoryTable, list_at, with_payment}
use Rattle.schema.specs.Consistency.{amounts_of, is_payer}
use Rattle.schema.proofs.KeyOrders.{districts_total, districts_exact}
use Rattle.machine.proofs.TableChanges.{sum_rows-grow}

pub amounts_of-append : (rows : List History) (row : History) → amounts_of (rows ++ row ∷ []) ≡ amounts_of rows +ℤ row.amount
amounts_of-append [] row = omega (arith, ints)
amounts_of-append (first ∷ rows) row = let rest = amounts_of-append rows row in omega (arith, ints, rest)

-- of the payments that pass a test
pub amounts_where-append : (test : History → Bool) (rows : List History) (row : History)
    → amounts_of (filter test (rows ++ row ∷ [])) ≡ amounts_of (filter test rows) +ℤ cond (test row) row.amount (pos 0)
amounts_where-append test rows row =
    ap amounts_of (filter-append test rows (row ∷ []))
    ∙ elim (test row) as (λ b. amounts_of (filter test rows ++ cond b (row ∷ []) []) ≡ amounts_of (filter test rows) +ℤ cond b row.amount (pos 0)) [
      | true ↦ amounts_of-append (filter test rows) row
      | false ↦ ap amounts_of (append-nil (filter test rows)) ∙ omega (arith, ints)
    ]

-- a district without a list has none of what an empty one has none of
list_weight : (weight : DistrictKey → List History → ℤ) (home : DistrictKey) (list : Option (List History)) → weight home [] ≡ pos 0
    → weight_at weight home list ≡ weight home (unwrap_or list [])
list_weight weight home None nothing = sym nothing
list_weight weight home (Some rows) nothing = refl

pub sum_payments-grow : (weight : DistrictKey → List History → ℤ) (histories : HistoryTable) (home : DistrictKey) (row : History) (amount : ℤ)
    → weight home [] ≡ pos 0
    → weight home (list_at histories home ++ row ∷ []) ≡ weight home (list_at histories home) +ℤ amount
    → sum_rows weight (with_payment histories home row) ≡ sum_rows weight histories +ℤ amount
sum_payments-grow weight histories home row amount nothing grows =
    sum_rows-grow districts_total districts_exact weight histories home (list_at histories home ++ row ∷ []) amount
    (grows ∙ ap (λ n. n +ℤ amount) (sym (list_weight weight home (get histories home) nothing)))

-- ---- who has paid

pub is_payer-own : (row : History) → is_payer row.customer row ≡ true
is_payer-own row =
    let key = row.customer in
    and_from _ _ (eq-eqb key.w_id key.w_id refl) (and_from _ _ (eq-eqb key.d_id key.d_id refl) (eq-eqb key.c_id key.c_id refl))

pub is_payer-other : (customer : CustomerKey) (row : History) → customer ≢ row.customer → is_payer customer row ≡ false
is_payer-other customer row apart =
    false_from_ne_true (is_payer customer row) (λ is.
    let at_warehouse = and_parts (eqb row.customer.w_id customer.w_id) _ is in
    let at_district = and_parts (eqb row.customer.d_id customer.d_id) (eqb row.customer.c_id customer.c_id) at_warehouse.1 in
    apart (λ i. record {
      w_id = sym (eqb-true _ _ at_warehouse.0) i;
      d_id = sym (eqb-true _ _ at_district.0) i;
      c_id = sym (eqb-true _ _ at_district.1) i;
    }))
