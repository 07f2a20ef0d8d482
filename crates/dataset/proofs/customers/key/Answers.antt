use Rattle.std.proofs.Common.{refl}
use Rattle.files.specs.Columns.{Whole}
use Rattle.dataset.specs.Columns.{customer_key}
use Rattle.dataset.specs.TableRow.{customer_key_of}
use Rattle.files.proofs.ColumnValues.{read_as, read_none, read_then}
use Rattle.dataset.proofs.customers.key.Goals as goal

pub returns : goal.returns
returns c = read_as (customer_key c.args.scale.warehouses c.args.scale.customers) (customer_key_of c.args.scale.warehouses c.args.scale.customers) _
    (read_then (Whole 1 c.args.scale.warehouses) c.whole.ensures.field
    (read_then (Whole 1 10) c.whole-2.ensures.field
    (read_then (Whole 1 c.args.scale.customers) c.whole-3.ensures.field read_none))) refl
