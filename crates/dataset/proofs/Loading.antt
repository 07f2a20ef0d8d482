-- One row more of what was read.
use Rattle.std.proofs.Common.{◌≡◌, ℕ, List, [], ◌∷◌, ◌++◌, length, Bool, true, false, ◌&&◌, map, Option, Some, None, IsTrue, refl, sym, ap, subst, ◌∙◌}
use Rattle.std.specs.List.{AllByRecursion, AllZip}
use Rattle.std.specs.Ordering.{is_le}
use Rattle.std.proofs.lemmas.Bool.{and_parts}
use Rattle.std.proofs.lemmas.List.{map-append, append-nil}
use Rattle.std.proofs.lemmas.List.Concat.{flat_map-append}
use Rattle.schema.specs.declared.scale.Scale.{Scale}
use Rattle.schema.specs.declared.table_rows.TableRows.{TableRows}
use Rattle.schema.specs.Rows.{AreNoRows}
use Rattle.files.specs.declared.fault.FaultKind.{FaultKind}
use Rattle.files.specs.Columns.{columns_fault}
use Rattle.dataset.specs.declared.loader.Loader.{Loader}
use Rattle.dataset.specs.declared.place.Place.{Place}
use Rattle.dataset.specs.declared.place.Place.TheVariants as at
use Rattle.dataset.specs.Columns.{Sizes, comes_after, has_ascending_lines, kind_of, or_order, place_in, record_columns, sizes}
use Rattle.dataset.specs.FirstFault.{kind_place, last_place, record_place}
use Rattle.dataset.specs.Loading.{AddsRows, AreInOrder, HasLoaded, HasRows}
use Rattle.dataset.specs.Order.{place_cmp, place_numbers, follows}
use Rattle.dataset.specs.declared.format.Format.{Format}
use Rattle.dataset.specs.Records.{AreSpelt, IsHeader, header_fields}
use Rattle.dataset.specs.TableRow.{AddsRow, IsKnown, TableRow, has_rising_lines, kind_rows, record_rows, row_fields, row_place, row_read, rows_read}
use Rattle.dataset.specs.TakenAs.{HasRow}
use Rattle.files.specs.Columns.{read_columns}
use Rattle.dataset.proofs.ColumnFields.{read_are_between}
use Rattle.dataset.proofs.Keys.{all-append, all-weaker}
use Rattle.dataset.proofs.Order.{follows_before, follows_le, place_itself, place_reaches}
use Rattle.dataset.proofs.RowFields.{known_row, row_is_spelt}
use Rattle.dataset.proofs.RowTaken.{follows_reported, is_read}
use Rattle.dataset.proofs.Texts.{all_zip-append}

-- ---- one row more

adds-push : (scale : Scale) (rows : List TableRow) (row : TableRow) (old mid new : TableRows) → AddsRows scale rows old mid → AddsRow scale row mid new → AddsRows scale (rows ++ (row ∷ [])) old new
adds-push scale [] row old mid new h add = (new, (subst (λ r. AddsRow scale row r new) h add, refl))
adds-push scale (first ∷ rows) row old mid new h add = (h.0, (h.1.0, adds-push scale rows row h.0 mid new h.1.1 add))

in_order-push : (rows : List TableRow) (row : TableRow) → AreInOrder rows → AllByRecursion (λ before. IsTrue (follows (row_place row) (row_place before))) rows → AreInOrder (rows ++ (row ∷ []))
in_order-push [] row h after = (tt, tt)
in_order-push (first ∷ rows) row h after =
    (all-append (λ later. IsTrue (follows (row_place later) (row_place first))) rows (row ∷ []) h.0 (after.0, tt), in_order-push rows row h.1 after.1)

module _ (format : Format) (scale : Scale) (old new : TableRows) (last : Place) (records : List (List (List ℕ))) (rows : List TableRow) (h : HasRows format scale old last records rows)
    (row : TableRow) (texts : List (List ℕ)) (add : AddsRow scale row old new) (key : IsKnown format scale row) (follow : IsTrue (follows (row_place row) last)) (spelt : AreSpelt (row_fields row) texts) where
  pub rows-push : HasRows format scale new (row_place row) (records ++ (texts ∷ [])) (rows ++ (row ∷ []))
  rows-push = record {
    none = h.none;
    are_none = h.are_none;
    added = adds-push scale rows row h.none old new h.added add;
    known = all-append (IsKnown format scale) rows (row ∷ []) h.known (key, tt);
    in_order = in_order-push rows row h.in_order (all-weaker _ _ (λ before le. follows_before (row_place before) last (row_place row) le follow) rows h.not_after);
    not_after = all-append (λ r. IsTrue (is_le (place_cmp (row_place r) (row_place row)))) rows (row ∷ [])
        (all-weaker _ _ (λ before le. place_reaches (row_place before) last (row_place row) le (follows_le last (row_place row) follow)) rows h.not_after) (place_itself (row_place row), tt);
    are_spelt = subst (λ fields. AllZip AreSpelt fields (records ++ (texts ∷ []))) (sym (map-append row_fields rows (row ∷ [])))
        (all_zip-append AreSpelt (map row_fields rows) (row_fields row ∷ []) records (texts ∷ []) h.are_spelt (spelt, tt));
  }

-- ---- one record more

pub last-push : (scale : Sizes) (read : List (List (List ℕ))) (row : List (List ℕ)) → last_place scale (read ++ (row ∷ [])) ≡ record_place scale row
last-push scale [] row = refl
last-push scale (first ∷ []) row = refl
last-push scale (first ∷ next ∷ read) row = last-push scale (next ∷ read) row

order_none : (fault : Option FaultKind) (in_order : Bool) → or_order fault in_order ≡ None → (fault ≡ None) × IsTrue in_order
order_none None true e = (refl, refl)
order_none None false e = absurd cc
order_none (Some kind) b e = absurd cc

pub record_loaded : (l m : Loader) (read : List (List (List ℕ))) (word : List ℕ) (fields : List (List ℕ)) → HasRow l m word fields → HasLoaded l read → HasLoaded m (read ++ ((word ∷ fields) ∷ []))
record_loaded l m read word fields has h =
    let s = sizes l.format l.scale in
    let table = has.table in
    let row = row_read s table fields in
    let record_ = word ∷ fields in
    let count = length fields in
    let free = order_none (columns_fault (record_columns s table count) fields) (has_ascending_lines s table fields && comes_after table (place_in s table fields) (place_numbers l.last)) has.none in
    let ordered = and_parts (has_ascending_lines s table fields) (comes_after table (place_in s table fields) (place_numbers l.last)) free.1 in
    let read_is = is_read s table fields free.0 in
    let values = (read_columns (record_columns s table count) (record { left = fields; fault = None })).0 in
    let kind = has.is_kind in
    let reports : record_rows s record_ ≡ row ∷ [] = ap (λ k. kind_rows s k fields) kind in
    let follow : IsTrue (follows (row_place row) l.last) =
    follows_reported s table count values l.last ∙ ap (λ p. comes_after table p (place_numbers l.last)) read_is.place ∙ ordered.1 in
    let spelt : AreSpelt (row_fields row) record_ = subst (λ w. AreSpelt (row_fields row) (w ∷ fields)) (sym has.is_letter) (row_is_spelt l.format l.scale table fields read_is) in
    let rising : IsTrue (has_rising_lines row) = read_is.rises ∙ ordered.0 in
    let is_kind = ap (kind_of l.format) (sym has.is_letter) ∙ kind in
    let known = known_row l.format l.scale table count values is_kind rising (read_are_between (record_columns s table count) values fields read_is.are_read) in
    let pushed = rows-push l.format l.scale l.rows m.rows l.last h.records (rows_read s h.records) h.rows row record_ has.added.rows known follow spelt in
    let rows_are : rows_read s (h.records ++ (record_ ∷ [])) ≡ rows_read s h.records ++ (row ∷ []) =
    flat_map-append (record_rows s) h.records (record_ ∷ []) ∙ ap (λ l. rows_read s h.records ++ l) (append-nil (record_rows s record_) ∙ reports) in
    let with_rows : HasRows l.format l.scale m.rows (row_place row) (h.records ++ (record_ ∷ [])) (rows_read s (h.records ++ (record_ ∷ []))) =
    subst (HasRows l.format l.scale m.rows (row_place row) (h.records ++ (record_ ∷ []))) (sym rows_are) pushed in
    let same : ◌≡◌ {A = Format × Scale} (l.format, l.scale) (m.format, m.scale) = λ i. (sym has.added.format i, sym has.added.scale i) in
    let at_last : HasRows l.format l.scale m.rows m.last (h.records ++ (record_ ∷ [])) (rows_read s (h.records ++ (record_ ∷ []))) =
    subst (λ p. HasRows l.format l.scale m.rows p (h.records ++ (record_ ∷ [])) (rows_read s (h.records ++ (record_ ∷ [])))) (sym has.added.last) with_rows in
    record {
      header = h.header;
      records = h.records ++ (record_ ∷ []);
      are = ap (λ l. l ++ (record_ ∷ [])) h.are;
      is_header = subst (λ (f : Format × Scale). IsHeader f.0 f.1 h.header) same h.is_header;
      rows = subst (λ (f : Format × Scale). HasRows f.0 f.1 m.rows m.last (h.records ++ (record_ ∷ [])) (rows_read (sizes f.0 f.1) (h.records ++ (record_ ∷ [])))) same at_last;
      last = subst (λ (f : Format × Scale). place_numbers m.last ≡ last_place (sizes f.0 f.1) (read ++ (record_ ∷ []))) same
          (ap place_numbers has.added.last ∙ read_is.place ∙ sym (last-push s read record_ ∙ ap (λ k. kind_place s k fields) kind));
    }

-- ---- at first

-- the header is before all tables
pub header_place : (s : Sizes) (format : Format) (scale : Scale) (header : List (List ℕ)) → AreSpelt (header_fields format scale) header → last_place s (header ∷ []) ≡ 0 ∷ []
header_place s format scale [] spelt = refl
header_place s format scale (text ∷ texts) spelt = ap (λ w. kind_place s (kind_of s.format w) texts) spelt.0

-- the header alone
pub header_loaded : (l : Loader) (header : List (List ℕ)) → l.last ≡ at.Header → AreNoRows l.rows → IsHeader l.format l.scale header → HasLoaded l (header ∷ [])
header_loaded l header last none is_header = record {
  header = header;
  records = [];
  are = refl;
  is_header = is_header;
  rows = record { none = l.rows; are_none = none; added = refl; known = tt; in_order = tt; not_after = tt; are_spelt = tt };
  last = ap place_numbers last ∙ sym (header_place (sizes l.format l.scale) l.format l.scale header is_header.is_spelt);
}
