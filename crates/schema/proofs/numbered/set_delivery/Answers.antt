use Rattle.std.proofs.Common.{◌<◌, length, subst, arith}
use Rattle.rows.specs.declared.records.OrderLine.{OrderLine}
use Rattle.schema.specs.NumberedRows.{StandsAt, BelongsAt}
use Rattle.schema.proofs.NumberedRows.{place_of_row, replaced_order, changed_rows, unchanged_rows}
use Rattle.schema.proofs.numbered.set_delivery.Goals as goal

pub index_mut-requires : goal.index_mut-requires
index_mut-requires c =
    let below : c.in-Ok.place < length c.as_slice.result.now = place_of_row c.args.number c.in-Ok.place c.as_slice.result.now c.in-Ok.ensures.found in
    omega (arith, c.as_slice.ensures.len)

pub returns-in-Ok-clause-rows : goal.returns-in-Ok-clause-rows
returns-in-Ok-clause-rows c =
    let at = subst (λ l. StandsAt c.args.number l c.in-Ok.place) c.as_slice.ensures.value c.in-Ok.ensures.found in
    changed_rows (λ (row : OrderLine). record row { delivery_d = c.args.moment }) c.args.number c.in-Ok.place c.args.rows.now.items c.index_mut.result.now at c.index_mut.ensures.value

pub returns-in-Ok-clause-ordered : goal.returns-in-Ok-clause-ordered
returns-in-Ok-clause-ordered c =
    let at = subst (λ l. StandsAt c.args.number l c.in-Ok.place) c.as_slice.ensures.value c.in-Ok.ensures.found in
    let row = c.index_mut.result.now in
    replaced_order c.args.number c.in-Ok.place (record row.1 { delivery_d = c.args.moment }) c.args.rows.now.items row c.requires at c.index_mut.ensures.value

pub returns-in_default-clause-rows : goal.returns-in_default-clause-rows
returns-in_default-clause-rows c =
    let at = subst (λ l. BelongsAt c.args.number l c.in_default.field-0) c.as_slice.ensures.value c.in_default.ensures.missing in
    unchanged_rows (λ (row : OrderLine). record row { delivery_d = c.args.moment }) c.args.number c.in_default.field-0 c.args.rows.now.items c.requires at
