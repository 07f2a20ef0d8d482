-- What is added to a record, and to a file.
use Rattle.std.specs.Prelude.{◌≡◌, ℕ, List, [], ◌∷◌, ◌++◌, length, map, Option, codes}
use Rattle.std.specs.List.{AllZip}
use Rattle.files.specs.Sending.{Begins, Sends}
use Rattle.files.specs.Written.{csv_text}
use Rattle.schema.specs.declared.table_rows.TableRows.{TableRows}
use Rattle.files.specs.Columns.{Column, Count}
use Rattle.dataset.specs.Payments.{payment_count}
use Rattle.rows.specs.declared.keys.OrderKey.{OrderKey}
use Rattle.rows.specs.declared.keys.OrderLineKey.{OrderLineKey}
use Rattle.rows.specs.declared.records.Order.{Order}
use Rattle.rows.specs.declared.records.OrderLine.{OrderLine}
use Rattle.schema.specs.Database.{rows_where, is_of_order}
use Rattle.schema.specs.OrderRows.{line_table}
use Rattle.dataset.specs.Records.{Field, Words, Number, AreSpelt, order_record, row_records}

-- texts that spell these fields were appended to a record
pub record Adds (fields : List Field) (old new : List (List ℕ)) : Type 0 where
  pub texts : List (List ℕ)
  pub are_spelt : AreSpelt fields texts
  pub added : new ≡ old ++ texts

-- the number of rows of each table
abbrev pub table_counts : TableRows → List ℕ
table_counts rows =
    length rows.items.items ∷ length rows.warehouses.items ∷ length rows.districts.items ∷ length rows.stocks.items
    ∷ length rows.customers.items ∷ payment_count rows.histories.items ∷ length rows.orders.entries
    ∷ length rows.new_orders.entries ∷ length rows.lines ∷ []

-- these numbers as fields
abbrev pub row_counts : TableRows → List Field
row_counts rows = map (λ count. Number count) (table_counts rows)

-- the columns of an end record, each of which must be one of these numbers
abbrev pub count_columns : TableRows → List Column
count_columns rows = map (λ count. Count count) (table_counts rows)

-- the end record of these rows
abbrev pub count_fields : TableRows → List Field
count_fields rows = Words (codes "END") ∷ row_counts rows

-- the records of orders in format 2, each with those of these lines that are its own
abbrev pub records_with : List (OrderLineKey × OrderLine) → List (OrderKey × Order) → List (List Field)
records_with lines orders = row_records (λ key row. order_record key row (rows_where (is_of_order key) (line_table lines))) orders

-- The effect on a sink if records are written: the text gathered before, followed by that of the records, was sent,
-- except for new, which is still gathered.
pub record Puts (before after : Option (List ℕ)) (old new : List ℕ) (records : List (List Field)) : Type 0 where
  pub rows : List (List (List ℕ))
  pub are_spelt : AllZip AreSpelt records rows
  pub sends : Sends before after (old ++ csv_text rows) new

-- the same if writing ended early: a prefix of that text, with the first of these records, was sent
pub record StopsIn (before after : Option (List ℕ)) (old : List ℕ) (records : List (List Field)) : Type 0 where
  pub first : List (List Field)
  pub others : List (List Field)
  pub parts : records ≡ first ++ others
  pub rows : List (List (List ℕ))
  pub are_spelt : AllZip AreSpelt first rows
  pub begins : Begins before after (old ++ csv_text rows)
