use Rattle.std.proofs.Common.{refl}
use Rattle.files.specs.Columns.{Words}
use Rattle.dataset.specs.Columns.{address_columns}
use Rattle.dataset.specs.TableRow.{address_of}
use Rattle.files.proofs.ColumnValues.{read_as, read_none, read_then}
use Rattle.dataset.proofs.warehouses.address.Goals as goal

pub returns : goal.returns
returns c = read_as address_columns address_of _
    (read_then (Words 20) c.text.ensures.field
    (read_then (Words 20) c.text-2.ensures.field
    (read_then (Words 20) c.text-3.ensures.field
    (read_then (Words 2) c.text-4.ensures.field
    (read_then (Words 9) c.text-5.ensures.field read_none))))) refl
