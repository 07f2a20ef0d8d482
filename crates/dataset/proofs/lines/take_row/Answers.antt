use Rattle.std.proofs.Common.{refl}
use Rattle.files.specs.Columns.{MaybeMoment, Whole, Words}
use Rattle.files.proofs.ColumnValues.{read_as, read_none, read_then}
use Rattle.dataset.specs.Columns.{line_row_columns}
use Rattle.dataset.specs.TableRow.{line_row_of}
use Rattle.dataset.proofs.lines.take_row.Goals as goal

pub returns : goal.returns
returns c = read_as (line_row_columns c.args.scale.items c.args.scale.warehouses) (line_row_of c.args.scale.items c.args.scale.warehouses) _
    (read_then (Whole 1 c.args.scale.items) c.whole.ensures.field
    (read_then (Whole 1 c.args.scale.warehouses) c.whole-2.ensures.field
    (read_then (MaybeMoment) c.optional_moment.ensures.field
    (read_then (Whole 1 10) c.ranged.ensures.field
    (read_then (Whole 0 999999) c.ranged-2.ensures.field
    (read_then (Words 24) c.text.ensures.field read_none)))))) refl
