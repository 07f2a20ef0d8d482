-- What has been read of a dataset so far.
use Rattle.std.specs.Prelude.{◌≡◌, ℕ, List, [], ◌∷◌, ◌++◌, Option, map, IsTrue}
use Rattle.std.specs.List.{AllByRecursion, AllZip}
use Rattle.std.specs.Ordering.{is_le}
use Rattle.schema.specs.declared.scale.Scale.{Scale}
use Rattle.schema.specs.declared.table_rows.TableRows.{TableRows}
use Rattle.schema.specs.Database.{Database}
use Rattle.schema.specs.Rows.{AreNoRows}
use Rattle.files.specs.declared.records.Records.{Records}
use Rattle.files.specs.Place.{Rows, HasRead}
use Rattle.dataset.specs.declared.loader.Loader.{Loader}
use Rattle.dataset.specs.declared.place.Place.{Place}
use Rattle.dataset.specs.Columns.{sizes}
use Rattle.dataset.specs.FirstFault.{last_place}
use Rattle.dataset.specs.Order.{place_cmp, place_numbers, follows}
use Rattle.dataset.specs.declared.header.Header.{Header}
use Rattle.dataset.specs.declared.format.Format.{Format}
use Rattle.dataset.specs.Records.{AreRecordsIn, AreSpelt, IsHeader}
use Rattle.dataset.specs.TableRow.{TableRow, AddsRow, IsKnown, row_fields, row_place, rows_read}
use Rattle.dataset.specs.Writing.{count_fields}

-- new consists of old with these rows added, one after another
abbrev pub AddsRows : Scale → List TableRow → TableRows → TableRows → Type 0
AddsRows scale [] old new = new ≡ old
AddsRows scale (row ∷ rows) old new = (mid : TableRows) × (AddsRow scale row old mid × AddsRows scale rows mid new)

-- each row follows all rows before it
abbrev pub AreInOrder : List TableRow → Type 0
AreInOrder [] = Unit {0}
AreInOrder (row ∷ rows) = AllByRecursion (λ later. IsTrue (follows (row_place later) (row_place row))) rows × AreInOrder rows

-- These are the rows of the records, in order, and no row's place is after last. The rows in has are exactly these, and
-- the records spell them.
pub record HasRows (format : Format) (scale : Scale) (has : TableRows) (last : Place) (records : Rows) (rows : List TableRow) : Type 0 where
  pub none : TableRows
  pub are_none : AreNoRows none
  pub added : AddsRows scale rows none has
  pub known : AllByRecursion (IsKnown format scale) rows
  pub in_order : AreInOrder rows
  pub not_after : AllByRecursion (λ row. IsTrue (is_le (place_cmp (row_place row) last))) rows
  pub are_spelt : AllZip AreSpelt (map row_fields rows) records

-- The loader's rows are those of these records. The first record is the header of the loader's format and scale, and the loader is
-- at the place of the last record.
pub record HasLoaded (l : Loader) (read : Rows) : Type 0 where
  pub header : List (List ℕ)
  pub records : Rows
  pub are : read ≡ header ∷ records
  pub is_header : IsHeader l.format l.scale header
  pub rows : HasRows l.format l.scale l.rows l.last records (rows_read (sizes l.format l.scale) records)
  pub last : place_numbers l.last ≡ last_place (sizes l.format l.scale) read

-- the records that were read, followed by the end record of the loader's rows, are those of the tables
abbrev pub HasReadTables : Loader → Database → Type 0
HasReadTables l t =
    (read : Rows) (end : List (List ℕ)) → HasLoaded l read → AreSpelt (count_fields l.rows) end → AreRecordsIn l.format t (read ++ end ∷ [])

-- one record of the text was read, which is that header
abbrev pub HasReadHeader : {R : Type 0} → (R → Option (List ℕ)) → List ℕ → Header → Records R → Type 0
HasReadHeader remaining text header r =
    (fields : List (List ℕ)) × IsHeader header.format header.scale fields × HasRead remaining text (fields ∷ []) r

-- the records that were read of a text are those of the loader's rows, followed by the end record of these rows
pub record HasEnded {R : Type 0} (remaining : R → Option (List ℕ)) (text : List ℕ) (l : Loader) (r : Records R) : Type 0 where
  pub read : Rows
  pub end : List (List ℕ)
  pub loaded : HasLoaded l read
  pub counted : AreSpelt (count_fields l.rows) end
  pub has_read : HasRead remaining text (read ++ (end ∷ [])) r
