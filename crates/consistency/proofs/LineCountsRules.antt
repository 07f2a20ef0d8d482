-- Tests of orders, against the conditions on the numbers of lines.
use Rattle.std.proofs.Common.{◌≡◌, ◌↔◌, ◌==◌, Bool, length, IsTrue, sym, subst}
use Rattle.std.specs.List.{list_all}
use Rattle.std.specs.FinMap as map
use Rattle.schema.specs.Database.{Database}
use Rattle.schema.specs.Consistency.{lines_of, OrdersCountLines}
use Rattle.schema.proofs.KeyOrders.{orders_total, orders_exact}
use Rattle.schema.proofs.EachRows.{EachRow-table}
use Rattle.consistency.proofs.OrderNumbersRules.{same_number}

pub counts_rule : (t : Database) (r : Bool) → r ≡ list_all (λ e. e.1.ol_cnt == length (lines_of t e.0)) (map.entries t.orders)
    → IsTrue r ↔ OrdersCountLines t
counts_rule t r is =
    let each = EachRow-table orders_total orders_exact (λ key row. row.ol_cnt == length (lines_of t key)) t.orders in (
      λ h key row found. (same_number row.ol_cnt (length (lines_of t key))).0 (each.0 (subst IsTrue is h) key row found),
      λ h. subst IsTrue (sym is) (each.1 (λ key row found. (same_number row.ol_cnt (length (lines_of t key))).1 (h key row found))),
    )
