-- The columns of a reply in a log's record.
use Rattle.std.specs.Prelude.{ℕ, ◌-◌, ◌/◌, min, List, [], ◌∷◌, ◌++◌, length, drop, codes, Option, Some, None, if◌then◌else◌}
use Rattle.std.specs.Str.{bytes_eq}
use Rattle.files.specs.declared.fault.FaultKind.{FaultKind}
use Rattle.files.specs.declared.fault.FaultKind.TheVariants.{NotOfKind, OutOfRange}
use Rattle.files.specs.Columns.{Cents, Column, Credit, MaybeMoment, MaybeWhole, Moment, Spelt, Whole, Words, take_word}
use Rattle.files.specs.FieldRead.{FieldsView}
use Rattle.terminals.specs.declared.new_order.TheConstants.{MOST_RECORD_LINES}
use Rattle.terminals.specs.RequestColumns.{number, repeated, after_known}

-- A rate in ten-thousandths.
abbrev pub rate : Column
rate = Whole 0 9999

-- The fault of a brand: it must be `B` or `G`.
abbrev pub brand_fault : List ℕ → Option FaultKind
brand_fault word = if bytes_eq word (codes "B") then None else (if bytes_eq word (codes "G") then None else Some OutOfRange)

-- What is shown of a line of a New-Order: supply warehouse, item and its name, quantity, stock quantity, brand, price and
-- amount (clause 2.4.3.3).
abbrev pub shown_columns : List Column
shown_columns =
    number ∷ number ∷ Words 24 ∷ Whole 1 10 ∷ Whole 10 100 ∷ Spelt brand_fault ∷ Whole 1 99999 ∷ Whole 0 999999 ∷ []

-- The number of lines of a New-Order's reply in this many fields: at most MOST_RECORD_LINES.
abbrev pub shown_in : ℕ → ℕ
shown_in left = min (left / 8) MOST_RECORD_LINES

-- What a New-Order shows: C_LAST, C_CREDIT, the discount and the taxes, O_ID, O_ENTRY_D, the total and the lines.
abbrev pub new_order_shown : ℕ → List Column
new_order_shown left =
    (Words 16 ∷ Credit ∷ rate ∷ rate ∷ rate ∷ Whole 1 9999999 ∷ Moment ∷ Cents ∷ []) ++ repeated (shown_in (left - 8)) shown_columns

-- What a payment shows: C_ID, the customer's names, credit, discount and balance, and C_DATA.
abbrev pub payment_shown : List Column
payment_shown = number ∷ Words 16 ∷ Words 2 ∷ Words 16 ∷ Credit ∷ rate ∷ Cents ∷ Words 200 ∷ []

-- The fault of a field that must be empty.
abbrev pub null_fault : List ℕ → Option FaultKind
null_fault [] = None
null_fault (byte ∷ bytes) = Some NotOfKind

abbrev pub null : Column
null = Spelt null_fault

-- What an Order-Status shows of a line.
abbrev pub status_columns : List Column
status_columns = number ∷ number ∷ Whole 1 10 ∷ Whole 0 999999 ∷ MaybeMoment ∷ []

-- What an Order-Status shows of an order: O_ID, O_ENTRY_D, O_CARRIER_ID and the lines. If the first field is empty there is no
-- order, and the three fields are empty.
abbrev pub status_order : List (List ℕ) → List Column
status_order ([] ∷ fields) = null ∷ null ∷ null ∷ []
status_order fields = (Whole 1 9999999 ∷ Moment ∷ MaybeWhole 1 10 ∷ []) ++ repeated ((length fields - 3) / 5) status_columns

-- What an Order-Status shows: C_ID, the customer's names and balance, and the order.
abbrev pub order_status_shown : List (List ℕ) → List Column
order_status_shown fields = (number ∷ Words 16 ∷ Words 2 ∷ Words 16 ∷ Cents ∷ []) ++ status_order (drop 5 fields)

-- What a Delivery shows: D_ID, O_CARRIER_ID, and the order, if there was one.
abbrev pub delivery_shown : List Column
delivery_shown = Whole 1 10 ∷ Whole 1 10 ∷ MaybeWhole 1 9999999 ∷ []

-- What a Stock-Level shows.
abbrev pub stock_level_shown : List Column
stock_level_shown = number ∷ []

-- The columns after a letter, given the fields left. None if the letter is of no kind.
abbrev pub shown_columns_of : List ℕ → List (List ℕ) → Option (List Column)
shown_columns_of letter fields =
    if bytes_eq letter (codes "N") then Some (new_order_shown (length fields))
    else (if bytes_eq letter (codes "P") then Some payment_shown
    else (if bytes_eq letter (codes "O") then Some (order_status_shown fields)
    else (if bytes_eq letter (codes "D") then Some delivery_shown
    else (if bytes_eq letter (codes "L") then Some stock_level_shown else None))))

-- The columns after the word for the reason of a rollback. None if the word is unknown.
abbrev pub fault_columns : List ℕ → Option (List Column)
fault_columns word =
    if bytes_eq word (codes "nocustomer") then Some []
    else (if bytes_eq word (codes "noitem") then Some (Words 16 ∷ Credit ∷ Whole 1 10000000 ∷ [])
    else (if bytes_eq word (codes "range") then Some [] else None))

-- What has been read of a record once the reason of a rollback is taken.
abbrev pub after_why : FieldsView → FieldsView
after_why t = after_known (fault_columns (take_word t).0) (take_word t).1

-- The same for a reply, after its letter.
abbrev pub after_reply : List ℕ → FieldsView → FieldsView
after_reply letter t =
    if bytes_eq letter (codes "X") then after_why t else after_known (shown_columns_of letter t.left) t
