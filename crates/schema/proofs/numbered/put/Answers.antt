use Rattle.std.proofs.Common.{◌<◌, ◌≤◌, length, Some, sym, ap, subst, ◌∙◌, arith}
use Rattle.std.specs.List.{insert}
use Rattle.schema.specs.NumberedRows.{StandsAt, BelongsAt}
use Rattle.schema.proofs.NumberedRows.{place_of_row, place_for_row, read_there, read_missing, inserted_table, inserted_order, replaced_table, replaced_order}
use Rattle.schema.proofs.numbered.put.Goals as goal

pub index_mut-requires : goal.index_mut-requires
index_mut-requires c =
    let below : c.in-Ok.place < length c.as_slice.result.now = place_of_row c.args.number c.in-Ok.place c.as_slice.result.now c.in-Ok.ensures.found in
    omega (arith, c.as_slice.ensures.len)

pub insert-requires : goal.insert-requires
insert-requires c =
    let within : c.in-Err.place ≤ length c.as_slice.result.now = place_for_row c.args.number c.in-Err.place c.as_slice.result.now c.in-Err.ensures.missing in
    omega (arith, c.as_slice.ensures.len, c.reserve_exact.ensures.len)

pub returns-in-Ok-clause-was : goal.returns-in-Ok-clause-was
returns-in-Ok-clause-was c =
    let at = subst (λ l. StandsAt c.args.number l c.in-Ok.place) c.as_slice.ensures.value c.in-Ok.ensures.found in
    ap Some (c.replace.ensures.value ∙ ap (λ e. e.1) c.index_mut.ensures.value) ∙ sym (read_there c.args.number c.in-Ok.place c.args.rows.now.items c.index_mut.result.now at)

pub returns-in-Ok-clause-ok : goal.returns-in-Ok-clause-ok
returns-in-Ok-clause-ok c =
    let at = subst (λ l. StandsAt c.args.number l c.in-Ok.place) c.as_slice.ensures.value c.in-Ok.ensures.found in
    rw c.replace.ensures.after (replaced_table c.args.number c.in-Ok.place c.args.row c.args.rows.now.items c.index_mut.result.now at c.index_mut.ensures.value)

pub returns-in-Ok-clause-ordered : goal.returns-in-Ok-clause-ordered
returns-in-Ok-clause-ordered c =
    let at = subst (λ l. StandsAt c.args.number l c.in-Ok.place) c.as_slice.ensures.value c.in-Ok.ensures.found in
    replaced_order c.args.number c.in-Ok.place c.replace.new.dest c.args.rows.now.items c.index_mut.result.now c.requires at c.index_mut.ensures.value

pub returns-in_ok-insert-in-Err-clause-was : goal.returns-in_ok-insert-in-Err-clause-was
returns-in_ok-insert-in-Err-clause-was c =
    let at = subst (λ l. BelongsAt c.args.number l c.in-Err.place) c.as_slice.ensures.value c.in-Err.ensures.missing in
    sym (read_missing c.args.number c.in-Err.place c.args.rows.now.items c.requires at)

pub returns-in_ok-insert-in-Err-clause-ok : goal.returns-in_ok-insert-in-Err-clause-ok
returns-in_ok-insert-in-Err-clause-ok c =
    let at = subst (λ l. BelongsAt c.args.number l c.in-Err.place) c.as_slice.ensures.value c.in-Err.ensures.missing in
    inserted_table c.args.number c.in-Err.place c.args.row c.args.rows.now.items c.insert.new.self.items at
    (c.in_ok-insert-in-Err.ensures.items ∙ ap (λ l. insert l c.in-Err.place (c.args.number, c.args.row)) c.reserve_exact.ensures.items)

pub returns-in_ok-insert-in-Err-clause-ordered : goal.returns-in_ok-insert-in-Err-clause-ordered
returns-in_ok-insert-in-Err-clause-ordered c =
    let at = subst (λ l. BelongsAt c.args.number l c.in-Err.place) c.as_slice.ensures.value c.in-Err.ensures.missing in
    inserted_order c.args.number c.in-Err.place c.args.row c.args.rows.now.items c.insert.new.self.items c.requires at
    (c.in_ok-insert-in-Err.ensures.items ∙ ap (λ l. insert l c.in-Err.place (c.args.number, c.args.row)) c.reserve_exact.ensures.items)
