use Rattle.std.proofs.Common.{◌<◌, length, sym, ap, subst, ◌∙◌, arith}
use Rattle.schema.specs.MapRows.{put_row}
use Rattle.schema.specs.NumberedRows.{StandsAt, BelongsAt}
use Rattle.schema.specs.PackedLines.{numbered}
use Rattle.schema.proofs.NumberedRows.{place_of_row, not_missing, replaced_table, replaced_order, removed_table, removed_order}
use Rattle.schema.proofs.numbered.put_back.Goals as goal

pub index_mut-requires : goal.index_mut-requires
index_mut-requires c =
    let below : c.in-Ok.place < length c.as_slice.result.now = place_of_row c.args.number c.in-Ok.place c.as_slice.result.now c.in-Ok.ensures.found in
    omega (arith, c.as_slice.ensures.len)

pub remove-requires : goal.remove-requires
remove-requires c =
    let below : c.in-Ok.place < length c.as_slice.result.now = place_of_row c.args.number c.in-Ok.place c.as_slice.result.now c.in-Ok.ensures.found in
    omega (arith, c.as_slice.ensures.len)

pub returns-in-Some-clause-rows : goal.returns-in-Some-clause-rows
returns-in-Some-clause-rows c =
    let at = subst (λ l. StandsAt c.args.number l c.in-Ok.place) c.as_slice.ensures.value c.in-Ok.ensures.found in
    replaced_table c.args.number c.in-Ok.place c.in-Some.row c.args.rows.now.items c.index_mut.result.now at c.index_mut.ensures.value
    ∙ ap (put_row (numbered c.args.rows.now.items) c.args.number) (sym c.in-Some.is)

pub returns-in-Some-clause-ordered : goal.returns-in-Some-clause-ordered
returns-in-Some-clause-ordered c =
    let at = subst (λ l. StandsAt c.args.number l c.in-Ok.place) c.as_slice.ensures.value c.in-Ok.ensures.found in
    replaced_order c.args.number c.in-Ok.place c.in-Some.row c.args.rows.now.items c.index_mut.result.now c.requires.ordered at c.index_mut.ensures.value

pub returns-in-None-clause-rows : goal.returns-in-None-clause-rows
returns-in-None-clause-rows c =
    let at = subst (λ l. StandsAt c.args.number l c.in-Ok.place) c.as_slice.ensures.value c.in-Ok.ensures.found in
    removed_table c.args.number c.in-Ok.place c.args.rows.now.items c.remove.new.self.items c.requires.ordered at c.remove.ensures.items
    ∙ ap (put_row (numbered c.args.rows.now.items) c.args.number) (sym c.in-None.is)

pub returns-in-None-clause-ordered : goal.returns-in-None-clause-ordered
returns-in-None-clause-ordered c =
    let at = subst (λ l. StandsAt c.args.number l c.in-Ok.place) c.as_slice.ensures.value c.in-Ok.ensures.found in
    removed_order c.args.number c.in-Ok.place c.args.rows.now.items c.remove.new.self.items c.requires.ordered at c.remove.ensures.items

pub returns-in_default : goal.returns-in_default
returns-in_default c =
    let at = subst (λ l. BelongsAt c.args.number l c.in_default.field-0) c.as_slice.ensures.value c.in_default.ensures.missing in
    absurd (not_missing c.args.number c.in_default.field-0 c.args.rows.now.items c.requires.ordered at c.requires.there)
