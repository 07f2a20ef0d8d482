use Rattle.std.proofs.Common.{refl}
use Rattle.files.specs.Columns.{Whole}
use Rattle.dataset.specs.Columns.{order_key}
use Rattle.dataset.specs.TableRow.{order_key_of}
use Rattle.files.proofs.ColumnValues.{read_as, read_none, read_then}
use Rattle.dataset.proofs.orders.key.Goals as goal

pub returns : goal.returns
returns c = read_as (order_key c.args.scale.warehouses) (order_key_of c.args.scale.warehouses) _
    (read_then (Whole 1 c.args.scale.warehouses) c.whole.ensures.field
    (read_then (Whole 1 10) c.whole-2.ensures.field
    (read_then (Whole 1 9999999) c.whole-3.ensures.field read_none))) refl
