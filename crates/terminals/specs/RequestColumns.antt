-- The columns of a request's record. They determine its fault.
use Rattle.std.specs.Prelude.{◌≡◌, ℕ, zero, suc, ◌+◌, ◌-◌, ◌*◌, ◌/◌, min, List, [], ◌∷◌, ◌++◌, length, ◌==◌, codes, Option, Some, None, Result, Ok, Err, if◌then◌else◌}
use Rattle.std.specs.Str.{bytes_eq}
use Rattle.files.specs.declared.fault.FaultKind.{FaultKind}
use Rattle.files.specs.declared.fault.FaultKind.TheVariants.{WrongShape}
use Rattle.files.specs.Columns.{Column, Moment, Spelt, Whole, found, take_columns}
use Rattle.files.specs.FieldRead.{FieldsView, whole_read}
use Rattle.files.specs.Word.{text_read}
use Rattle.requests.specs.declared.request.Request.{Request}
use Rattle.requests.specs.declared.request.Request.TheVariants.{NewOrder, Payment, OrderStatus, Delivery, StockLevel}
use Rattle.terminals.specs.declared.new_order.TheConstants.{MOST_RECORD_LINES}

-- A number of 32 bits.
abbrev pub number : Column
number = Whole 0 4294967295

-- The fault if nothing could be read.
abbrev pub fault_in : {X : Type 0} → Result X FaultKind → Option FaultKind
fault_in (Ok value) = None
fault_in (Err kind) = Some kind

-- The fault of a field that identifies a customer: `#` and a C_ID, or a C_LAST of at most 16 bytes.
abbrev pub choice_fault : List ℕ → Option FaultKind
choice_fault [] = None
choice_fault (first ∷ rest) =
    if first == 35 then fault_in (whole_read 0 4294967295 rest) else fault_in (text_read 16 (first ∷ rest))

abbrev pub choice : Column
choice = Spelt choice_fault

-- The same columns this many times.
abbrev pub repeated : ℕ → List Column → List Column
repeated zero columns = []
repeated (suc times) columns = repeated times columns ++ columns

-- A line of an order: item, supply warehouse and quantity.
abbrev pub line_columns : List Column
line_columns = number ∷ number ∷ number ∷ []

-- The number of lines of a New-Order that should have `count` fields, including its letter, if `left` fields are left for
-- lines: at most MOST_RECORD_LINES.
abbrev pub lines_in : ℕ → ℕ → ℕ
lines_in count left = min (min ((count - 5) / 3) (left / 3)) MOST_RECORD_LINES

-- The columns after the letter of each kind.
abbrev pub new_order_columns : ℕ → ℕ → List Column
new_order_columns count left = (number ∷ number ∷ number ∷ Moment ∷ []) ++ repeated (lines_in count (left - 4)) line_columns

abbrev pub payment_columns : List Column
payment_columns = number ∷ number ∷ number ∷ number ∷ choice ∷ number ∷ Moment ∷ []

abbrev pub order_status_columns : List Column
order_status_columns = number ∷ number ∷ choice ∷ []

abbrev pub delivery_columns : List Column
delivery_columns = number ∷ number ∷ number ∷ Moment ∷ []

-- A Delivery of a warehouse names no district.
abbrev pub warehouse_delivery_columns : List Column
warehouse_delivery_columns = number ∷ number ∷ Moment ∷ []

abbrev pub stock_level_columns : List Column
stock_level_columns = number ∷ number ∷ number ∷ []

-- The columns after a letter, of a request of `count` fields including the letter, if `left` fields are left. None if the
-- letter is of no kind.
abbrev pub request_columns : ℕ → List ℕ → ℕ → Option (List Column)
request_columns count letter left =
    if bytes_eq letter (codes "N") then Some (new_order_columns count left)
    else (if bytes_eq letter (codes "P") then Some payment_columns
    else (if bytes_eq letter (codes "O") then Some order_status_columns
    else (if bytes_eq letter (codes "D") then Some delivery_columns
    else (if bytes_eq letter (codes "L") then Some stock_level_columns else None))))

-- The same of what a terminal asks for, in a script. A Delivery is of a warehouse.
abbrev pub terminal_columns : ℕ → List ℕ → ℕ → Option (List Column)
terminal_columns count letter left =
    if bytes_eq letter (codes "D") then Some warehouse_delivery_columns else request_columns count letter left

-- What has been read of a record once these columns are taken. An unknown letter has no columns and is a wrong shape.
abbrev pub after_known : Option (List Column) → FieldsView → FieldsView
after_known (Some columns) t = take_columns columns t
after_known None t = found (Some WrongShape) t

-- The same for a request, after its letter.
abbrev pub after_request : ℕ → List ℕ → FieldsView → FieldsView
after_request count letter t = after_known (request_columns count letter (length t.left)) t

-- The number of fields of a request, including its letter.
abbrev pub request_size : Request → ℕ
request_size (NewOrder n) = 5 + 3 * length n.lines
request_size (Payment p) = 8
request_size (OrderStatus o) = 4
request_size (Delivery d) = 5
request_size (StockLevel s) = 4

-- A request has these columns after its letter. No request was taken if there are none.
abbrev pub HasColumns : Option Request → Option (List Column) → Type 0
HasColumns None columns = columns ≡ None
HasColumns (Some request) columns = (own : List Column) × (columns ≡ Some own) × (length own + 1 ≡ request_size request)
