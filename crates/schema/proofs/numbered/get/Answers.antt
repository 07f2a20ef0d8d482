use Rattle.std.proofs.Common.{◌<◌, length, Some, sym, ap, ◌∙◌, arith}
use Rattle.schema.proofs.NumberedRows.{place_of_row, read_there, read_missing}
use Rattle.schema.proofs.numbered.get.Goals as goal

pub returns-in_default : goal.returns-in_default
returns-in_default c = sym (read_missing c.args.number c.in_default.field-0 c.args.rows.now c.requires c.in_default.ensures.missing)

pub returns-in_err-row : goal.returns-in_err-row
returns-in_err-row c =
    let below : c.in-Ok.place < length c.args.rows.now = place_of_row c.args.number c.in-Ok.place c.args.rows.now c.in-Ok.ensures.found in
    absurd (omega (arith, c.in_err-row.ensures.lookup.3))

pub returns : goal.returns
returns c =
    let row = c.in_ok-row.row.now in
    ap (λ e. Some e.1) (c.in_ok-row.ensures.lookup.3.1 row) ∙ sym (read_there c.args.number c.in-Ok.place c.args.rows.now row c.in-Ok.ensures.found)
