use Rattle.std.proofs.Common.{refl}
use Rattle.files.specs.Columns.{Whole}
use Rattle.dataset.specs.Columns.{district_key}
use Rattle.dataset.specs.TableRow.{district_key_of}
use Rattle.files.proofs.ColumnValues.{read_as, read_none, read_then}
use Rattle.dataset.proofs.districts.key.Goals as goal

pub returns-clause-reads : goal.returns-clause-reads
returns-clause-reads c = read_as (district_key c.args.scale.warehouses) (district_key_of c.args.scale.warehouses) _
    (read_then (Whole 1 c.args.scale.warehouses) c.whole.ensures.field
    (read_then (Whole 1 10) c.whole-2.ensures.field read_none)) refl
