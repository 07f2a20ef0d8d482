-- An order that was added is all there, and can be taken back.
use Rattle.std.proofs.Common.{◌≡◌, ℕ, zero, suc, ◌+◌, ◌<◌, List, [], ◌∷◌, length, map, Some, IsTrue, is_some, sym, ap, subst, ◌∙◌, arith}
use Rattle.std.specs.FinMap as table
use Rattle.rows.specs.declared.keys.OrderKey.{OrderKey}
use Rattle.rows.specs.declared.records.Order.{Order}
use Rattle.rows.specs.declared.records.OrderLine.{OrderLine}
use Rattle.schema.specs.declared.order_rows.Replaced.{Replaced}
use Rattle.schema.specs.Database.{Database, IsWithinScale}
use Rattle.schema.specs.OrderRows.{LineTable, StoodThere, line_key, put_lines, with_order, without_order}
use Rattle.schema.proofs.KeyOrders.{orders_total, orders_exact}
use Rattle.schema.proofs.LinesPut.{get-other_line, get-same_line, length-lines_at, taken_back}
use Rattle.schema.proofs.TableWrites.{now_there}

line_there : (order : OrderKey) (low : ℕ) (rows : List OrderLine) (lines : LineTable) (n : ℕ) → n < length rows → IsTrue (table.contains_key (put_lines order low (map Some rows) lines) (line_key order (low + n)))
line_there order low [] lines n below = absurd (omega arith)
line_there order low (row ∷ rows) lines zero below =
    let same : low + 0 ≡ low = omega arith in
    let outer = put_lines order low (map Some (row ∷ rows)) lines in
    ap (λ m. table.contains_key outer (line_key order m)) same
    ∙ ap is_some (get-same_line (put_lines order (low + 1) (map Some rows) lines) order low (Some row))
line_there order low (row ∷ rows) lines (suc n) below =
    let inner = put_lines order (low + 1) (map Some rows) lines in
    let next : low + 1 + n ≡ low + suc n = omega arith in
    ap is_some (get-other_line inner order (low + suc n) low (Some row) (λ same. absurd (omega arith)))
    ∙ ap (λ m. table.contains_key inner (line_key order m)) (sym next)
    ∙ line_there order (low + 1) rows lines n (omega arith)

module _ (t : Database) (key : OrderKey) (order : Order) (rows : List OrderLine) (replaced : Replaced) (stood : StoodThere t key (length rows) replaced) where
  pub as_many_lines : length replaced.lines.items ≡ length rows
  as_many_lines = ap length stood.lines ∙ length-lines_at t.lines key 1 (length rows)

  pub order_is_there : (left : Database) → left ≡ with_order t key order rows → IsTrue (table.contains_key left.orders key)
  order_is_there left is = ap (λ (x : Database). table.contains_key x.orders key) is ∙ now_there orders_total orders_exact t.orders key order

  pub new_order_is_there : (left : Database) → left ≡ with_order t key order rows → IsTrue (table.contains_key left.new_orders key)
  new_order_is_there left is = ap (λ (x : Database). table.contains_key x.new_orders key) is ∙ now_there orders_total orders_exact t.new_orders key (record {})

  pub lines_are_there : (left : Database) → left ≡ with_order t key order rows → (n : ℕ) → n < length replaced.lines.items → IsTrue (table.contains_key left.lines (line_key key (1 + n)))
  lines_are_there left is n below =
      let many : length replaced.lines.items ≡ length rows = as_many_lines in
      ap (λ (x : Database). table.contains_key x.lines (line_key key (1 + n))) is ∙ line_there key 1 rows t.lines n (omega arith)

  pub as_before : (left : Database) → left ≡ with_order t key order rows → without_order left key replaced ≡ t
  as_before left is = ap (λ (x : Database). without_order x key replaced) is ∙ taken_back t key order rows replaced stood

  pub within_as_before : (left : Database) → left ≡ with_order t key order rows → IsWithinScale t → IsWithinScale (without_order left key replaced)
  within_as_before left is h = subst IsWithinScale (sym (as_before left is)) h
