use Rattle.std.proofs.Common.{sym, ap, subst, ◌∙◌}
use Rattle.rows.specs.Keys.{order_cmp}
use Rattle.schema.specs.EachRow.{EachRow}
use Rattle.schema.specs.MapRows.{table_of}
use Rattle.schema.specs.Database.{rows_where, is_of_district, is_order_id}
use Rattle.schema.specs.Consistency.{numbers}
use Rattle.schema.specs.OrderRows.{smallest}
use Rattle.rows.specs.declared.keys.OrderKey.{OrderKey}
use Rattle.partitions.proofs.Returned.{NewTable, each_of_map, seen}
use Rattle.partitions.proofs.new_order_rows.NewOrderRows.oldest_number.Goals as goal

pub oldest_number-oldest-requires : goal.oldest_number-oldest-requires
oldest_number-oldest-requires c =
    let own = c.self.inside in
    each_of_map (λ key. is_order_id key.o_id) own.returned (table_of order_cmp own.rows)
    (subst (λ (m : NewTable). EachRow (λ (key : OrderKey) _. is_order_id key.o_id) m) (seen own.returned own.rows c.args.self.now c.self.view_is) c.requires)

pub returns : goal.returns
returns c =
    let own = c.self.inside in
    c.oldest_with.ensures (table_of order_cmp own.rows) c.oldest_number-oldest.ensures
    ∙ ap (λ (m : NewTable). smallest (numbers (rows_where (is_of_district c.args.home) m))) (sym (seen own.returned own.rows c.args.self.now c.self.view_is))
