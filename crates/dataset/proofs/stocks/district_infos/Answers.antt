use Rattle.std.proofs.Common.{refl}
use Rattle.files.specs.Columns.{Words}
use Rattle.dataset.specs.Columns.{info_columns}
use Rattle.dataset.specs.TableRow.{infos_of}
use Rattle.files.proofs.ColumnValues.{read_as, read_none, read_then}
use Rattle.dataset.proofs.stocks.district_infos.Goals as goal

pub returns : goal.returns
returns c = read_as info_columns infos_of _
    (read_then (Words 24) c.text.ensures.field
    (read_then (Words 24) c.text-2.ensures.field
    (read_then (Words 24) c.text-3.ensures.field
    (read_then (Words 24) c.text-4.ensures.field
    (read_then (Words 24) c.text-5.ensures.field
    (read_then (Words 24) c.text-6.ensures.field
    (read_then (Words 24) c.text-7.ensures.field
    (read_then (Words 24) c.text-8.ensures.field
    (read_then (Words 24) c.text-9.ensures.field
    (read_then (Words 24) c.text-10.ensures.field read_none)))))))))) refl
