use Rattle.std.proofs.Common.{◌≡◌, true, false, Some, sym, ap, ◌∙◌}
use Rattle.schema.specs.Database.{rows_where, is_of_district}
use Rattle.schema.specs.Consistency.{numbers}
use Rattle.schema.specs.OrderRows.{smallest}
use Rattle.partitions.specs.NewOrders.{with_returned}
use Rattle.partitions.proofs.Returned.{oldest_here, oldest_elsewhere, same_district}
use Rattle.partitions.proofs.new_order_rows.+oldest_with.Goals as goal

pub returns-then-eq : goal.returns-then-eq
returns-then-eq t c = λ rows is.
    let home = c.args.home in
    let own : is_of_district home c.in-Row.key ≡ true = sym (same_district home c.district.result c.in-Row.key c.district.ensures) ∙ sym c.eq.ensures ∙ c.if-eq.true in
    ap Some c.lesser.ensures
    ∙ oldest_here home c.in-Row.key (with_returned c.in-Row.rest.value rows) c.oldest_with-oldest.result own (c.oldest_with-oldest.ensures rows is ∙ ap (λ r. smallest (numbers (rows_where (is_of_district home) (with_returned r rows)))) c.deref.ensures)
    ∙ ap (λ r. smallest (numbers (rows_where (is_of_district home) (with_returned r rows)))) (sym c.in-Row.is)

pub returns-else-eq : goal.returns-else-eq
returns-else-eq t c = λ rows is.
    let home = c.args.home in
    let other : is_of_district home c.in-Row.key ≡ false = sym (same_district home c.district.result c.in-Row.key c.district.ensures) ∙ sym c.eq.ensures ∙ c.if-eq.false in
    oldest_elsewhere home c.in-Row.key (with_returned c.in-Row.rest.value rows) c.oldest_with-oldest.result other (c.oldest_with-oldest.ensures rows is ∙ ap (λ r. smallest (numbers (rows_where (is_of_district home) (with_returned r rows)))) c.deref.ensures)
    ∙ ap (λ r. smallest (numbers (rows_where (is_of_district home) (with_returned r rows)))) (sym c.in-Row.is)
