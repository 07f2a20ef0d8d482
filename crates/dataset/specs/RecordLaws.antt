-- What the records of tables determine.
use Rattle.std.specs.Prelude.{◌≡◌}
use Rattle.schema.specs.Database.{Database, IsWithinScale}
use Rattle.files.specs.Place.{Rows}
use Rattle.dataset.specs.declared.format.Format.{Format}
use Rattle.dataset.specs.Records.{AreRecordsIn}
use Rattle.dataset.specs.Ranges.{InRange}

-- if both tables have the same records, in whatever format each, they are equal
abbrev pub EqualIfSameRecords : Database → Database → Type 0
EqualIfSameRecords t u = (one other : Format) (rows : Rows) → AreRecordsIn one t rows → AreRecordsIn other u rows → t ≡ u

-- different tables have different records, in each format and across both
abbrev pub RecordsReportTables : Type 0
RecordsReportTables =
    (t u : Database) → IsWithinScale t → IsWithinScale u → InRange t → InRange u → EqualIfSameRecords t u
