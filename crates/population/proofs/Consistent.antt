-- The tables of a population are consistent.
use Rattle.std.specs.Prelude.{ℕ}
use Rattle.schema.specs.declared.scale.Scale.{Scale}
use Rattle.schema.specs.declared.table_rows.TableRows.{TableRows}
use Rattle.schema.specs.Rows.{database}
use Rattle.schema.specs.Consistency.{Consistent}
use Rattle.population.specs.Filled.{IsPopulated}
use Rattle.population.proofs.ConditionsPayments.{sums_of_districts, sums_of_payments, district_payments, balances_owed, balances_paid}
use Rattle.population.proofs.ConditionsOrders.{next_orders, no_gaps, district_lines_counted, new_orders_wait, order_lines_counted, lines_come}

pub consistent : {seed now : ℕ} (scale : Scale) (rows : TableRows) → IsPopulated scale seed now rows → Consistent (database scale rows)
consistent scale rows h = record {
  warehouses_sum_districts = sums_of_districts scale rows h;
  next_orders_follow = next_orders scale rows h;
  new_orders_have_no_gap = no_gaps scale rows h;
  districts_count_lines = district_lines_counted scale rows h;
  new_orders_have_no_carrier = new_orders_wait scale rows h;
  orders_count_lines = order_lines_counted scale rows h;
  lines_come_with_orders = lines_come scale rows h;
  warehouses_sum_payments = sums_of_payments scale rows h;
  districts_sum_payments = district_payments scale rows h;
  balances_are_owed = balances_owed scale rows h;
  balances_are_paid = balances_paid scale rows h;
}
