-- The lines in an order's record, taken one after another.
use Rattle.std.proofs.Common.{◌≡◌, ◌+◌, ℕ, length, suc, ◌&&◌, Bool, true, false, nat_lt, List, [], ◌∷◌, refl, sym, ap, subst, ◌∙◌, arith}
use Rattle.std.specs.BTreeMap.{insert_entry}
use Rattle.rows.specs.Keys.{order_cmp, line_cmp}
use Rattle.rows.specs.declared.keys.OrderKey.{OrderKey}
use Rattle.rows.specs.declared.keys.OrderLineKey.{OrderLineKey}
use Rattle.rows.specs.declared.records.Order.{Order}
use Rattle.rows.specs.declared.records.OrderLine.{OrderLine}
use Rattle.schema.specs.declared.scale.Scale.{Scale}
use Rattle.schema.specs.declared.table_rows.TableRows.{TableRows}
use Rattle.schema.specs.OrderRows.{line_key}
use Rattle.files.specs.Columns.{Reads, Whole}
use Rattle.files.specs.FieldRead.{FieldsView, fields_view, field_read, whole_read}
use Rattle.files.specs.declared.fields.Fields.{Fields}
use Rattle.files.specs.Taken.{fields_left}
use Rattle.files.proofs.ColumnValues.{of_reads, read_as, read_more, read_then}
use Rattle.dataset.specs.declared.format.Format.{Format}
use Rattle.dataset.specs.declared.loader.Loader.{Loader}
use Rattle.dataset.specs.declared.place.Place.TheVariants as at
use Rattle.dataset.specs.Columns.{Sizes, ascend_from, line_row_columns, lines_columns, sizes}
use Rattle.dataset.specs.Formats.{line_count, most_lines}
use Rattle.dataset.specs.Order.{follows}
use Rattle.dataset.specs.TableRow.{IsAdded, OfOrder, insert_lines, line_row_of, lines_made, numbers_of, row_follows}
use Rattle.dataset.specs.TakenAs.{ReadsLines, TakesLines}

-- ---- the lines of one record

-- so many lines were read in all, added to the old ones, and their numbers ascend or not
pub record AllRead (s : Sizes) (order : OrderKey) (n : ℕ) (ascends : Bool) (old new : List (OrderLineKey × OrderLine)) (start end : Fields) : Type 0 where
  pub lines : List (OrderLineKey × OrderLine)
  pub read : ReadsLines s order n lines start end
  pub ascend : ascend_from 0 (numbers_of lines) ≡ ascends
  pub inserted : insert_lines old lines ≡ new

-- After so many lines, the last of which has that number: those that are read next follow them.
pub record HasLines (order : OrderKey) (n last : ℕ) (ascends : Bool) (l m : Loader) (start mid : Fields) : Type 0 where
  pub loader : m ≡ record l { rows = record l.rows { lines = m.rows.lines } }
  pub more : (count : ℕ) (lines : List (OrderLineKey × OrderLine)) (end : Fields) → ReadsLines (sizes l.format l.scale) order count lines mid end
      → AllRead (sizes l.format l.scale) order (n + count) (ascends && ascend_from last (numbers_of lines)) l.rows.lines (insert_lines m.rows.lines lines) start end

pub lines-none : (order : OrderKey) (l : Loader) (start : Fields) → HasLines order 0 0 true l l start start
lines-none order l start = record {
  loader = refl;
  more = λ count lines end read. record {
    lines = lines;
    read = let same : count ≡ 0 + count = omega arith in subst (λ n. ReadsLines (sizes l.format l.scale) order n lines start end) same read;
    ascend = refl;
    inserted = refl;
  };
}

and_assoc : (a b c : Bool) → (a && (b && c)) ≡ ((a && b) && c)
and_assoc true b c = refl
and_assoc false b c = refl

-- one line more, whose number was compared with the last
pub lines-next : (order : OrderKey) (n last number : ℕ) (ascends ascended : Bool) (row : OrderLine) (lines : List (OrderLineKey × OrderLine)) (l m : Loader) (start mid first end : Fields)
    → HasLines order n last ascends l m start mid
    → ◌≡◌ {A = ℕ × FieldsView} (number, fields_view first) (field_read (whole_read 1 (most_lines m.format)) 1 (fields_view mid))
    → Reads (line_row_columns m.scale.items m.scale.warehouses) (line_row_of m.scale.items m.scale.warehouses) row first end
    → lines ≡ insert_entry line_cmp m.rows.lines (line_key order number) row → ascended ≡ (ascends && nat_lt last number)
    → HasLines order (n + 1) number ascended l (record m { rows = record m.rows { lines = lines } }) start end
lines-next order n last number ascends ascended row lines l m start mid first end has is_number is_row inserted is =
    let s = sizes l.format l.scale in
    let format : m.format ≡ l.format = ap (λ (x : Loader). x.format) has.loader in
    let scale : m.scale ≡ l.scale = ap (λ (x : Loader). x.scale) has.loader in
    let number_read = subst (λ (f : Format). ◌≡◌ {A = ℕ × FieldsView} (number, fields_view first) (field_read (whole_read 1 (most_lines f)) 1 (fields_view mid))) format is_number in
    let row_read = subst (λ (x : Scale). Reads (line_row_columns x.items x.warehouses) (line_row_of x.items x.warehouses) row first end) scale is_row in
    record {
      loader = ap (λ (x : Loader). record x { rows = record x.rows { lines = lines } }) has.loader;
      more = λ count rest last_fields read.
          let line : OrderLineKey × OrderLine = (line_key order number, row) in
          let longer : ReadsLines s order (suc count) (line ∷ rest) mid last_fields = read_as (lines_columns s (suc count)) (lines_made s order (suc count)) (line ∷ rest)
          (read_then (Whole 1 (most_lines l.format)) number_read (read_more (line_row_columns l.scale.items l.scale.warehouses) (of_reads row_read) (of_reads read)))
          (λ i. (line_key order number, row_read.value i) ∷ read.value i) in
          let all = has.more (suc count) (line ∷ rest) last_fields longer in
          let many : n + suc count ≡ (n + 1) + count = omega arith in
          record {
            lines = all.lines;
            read = subst (λ k. ReadsLines s order k all.lines start last_fields) many all.read;
            ascend = all.ascend ∙ and_assoc ascends (nat_lt last number) (ascend_from number (numbers_of rest)) ∙ ap (λ b. b && ascend_from number (numbers_of rest)) (sym is);
            inserted = all.inserted ∙ ap (λ old. insert_lines old rest) (sym inserted);
          };
    }

and_true : (a : Bool) → (a && true) ≡ a
and_true true = refl
and_true false = refl

-- all lines that the fields make were taken
pub lines-taken : (order : OrderKey) (n last : ℕ) (ascends : Bool) (l m : Loader) (start end : Fields) → HasLines order n last ascends l m start end
    → n ≡ line_count l.format (length (fields_left start)) → TakesLines order ascends l m start end
lines-taken order n last ascends l m start end has many =
    let s = sizes l.format l.scale in
    let all = has.more 0 [] end (record { value = refl; after = refl }) in
    let count : n + 0 ≡ line_count l.format (length (fields_left start)) = let same : n + 0 ≡ n = omega arith in same ∙ many in
    record {
      lines = all.lines;
      read = subst (λ k. ReadsLines s order k all.lines start end) count all.read;
      ascend = sym (all.ascend ∙ and_true ascends);
      added = has.loader ∙ ap (λ ls. record l { rows = record l.rows { lines = ls } }) (sym all.inserted);
    }

-- ---- the order that they are of

module _ {order : OrderKey} {ascends : Bool} {l m : Loader} {old new : Fields} (row : Order) (taken : TakesLines order ascends l m old new) where
  -- whether its record follows
  pub order_follows : (ascends && follows (at.Order order) m.last) ≡ row_follows (OfOrder order row taken.lines) l.last
  order_follows = λ i. taken.ascend i && follows (at.Order order) (ap (λ (x : Loader). x.last) taken.added i)

  -- its row and its lines were added
  pub order_added : {stood : Loader} {rows : TableRows} → stood ≡ record m { last = at.Order order } → rows ≡ record stood.rows { orders = rows.orders }
      → rows.orders.entries ≡ insert_entry order_cmp stood.rows.orders.entries order row → IsAdded (OfOrder order row taken.lines) l (record stood { rows = rows })
  order_added {stood} {rows} same kept put =
      let lines = insert_lines l.rows.lines taken.lines in
      let is : stood ≡ record l { last = at.Order order; rows = record l.rows { lines = lines } } = same ∙ ap (λ (x : Loader). record x { last = at.Order order }) taken.added in
      let before : stood.rows ≡ record l.rows { lines = lines } = ap (λ (x : Loader). x.rows) is in
      let after : rows ≡ record l.rows { orders = rows.orders; lines = lines } = kept ∙ ap (λ (t : TableRows). record t { orders = rows.orders }) before in
      let added : rows.lines ≡ lines = ap (λ (t : TableRows). t.lines) after in
      record {
        format = ap (λ (x : Loader). x.format) is;
        scale = ap (λ (x : Loader). x.scale) is;
        last = ap (λ (x : Loader). x.last) is;
        rows = (
          after ∙ ap (λ ls. record l.rows { orders = rows.orders; lines = ls }) (sym added),
          put ∙ ap (λ (t : TableRows). insert_entry order_cmp t.orders.entries order row) before,
          added,
        );
      }
