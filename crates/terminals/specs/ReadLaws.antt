-- The records of a script, of moves, of a schedule and of a log have no fault if their values are in range.
use Rattle.std.specs.Prelude.{◌≡◌, ◌≤◌, ◌<◌, ◌^◌, ℕ, List, length, None, IfSome}
use Rattle.std.specs.List.{AllByRecursion}
use Rattle.amounts.specs.Money.{IsMoney}
use Rattle.rows.specs.Text.{IsText}
use Rattle.commit_log.specs.declared.entry.Entry.{Entry}
use Rattle.files.specs.MomentText.{IsMoment}
use Rattle.files.specs.Place.{IsKept}
use Rattle.requests.specs.declared.request.Choice.{Choice}
use Rattle.requests.specs.declared.request.Choice.TheVariants.{Number, LastName}
use Rattle.requests.specs.declared.request.Request.{Request}
use Rattle.requests.specs.declared.request.Request.TheVariants as request
use Rattle.requests.specs.declared.script.Part.{Part}
use Rattle.requests.specs.declared.new_order.NewOrderLine.{NewOrderLine}
use Rattle.requests.specs.declared.order_status.StatusLine.{StatusLine}
use Rattle.requests.specs.declared.order_status.StatusOrder.{StatusOrder}
use Rattle.requests.specs.declared.reply.Fault.{Fault}
use Rattle.requests.specs.declared.reply.Fault.TheVariants.{NoCustomer, NoItem, Range}
use Rattle.requests.specs.declared.reply.Reply.{Reply}
use Rattle.requests.specs.declared.reply.Reply.TheVariants.{Done, RolledBack}
use Rattle.requests.specs.declared.reply.Shown.{Shown}
use Rattle.requests.specs.declared.reply.Shown.TheVariants as shown
use Rattle.history.specs.declared.event.Event.{Event}
use Rattle.history.specs.declared.event.Event.TheVariants.{Submit, Order, Take, Send}
use Rattle.history.specs.declared.schedule.Scheduled.{Scheduled}
use Rattle.history.specs.declared.schedule.Scheduled.TheVariants as scheduled
use Rattle.range_moves.specs.declared.order.MoveOrder.{MoveOrder}
use Rattle.terminals.specs.declared.new_order.TheConstants.{MOST_RECORD_LINES}
use Rattle.terminals.specs.FirstFault.{log_fault, moves_fault, schedule_fault, script_fault}
use Rattle.terminals.specs.LogRecord.{IsLog}
use Rattle.terminals.specs.Moves.{AreMoves}
use Rattle.terminals.specs.RecordLaws.{CanBeAsked, CanBeOrdered, IsWord}
use Rattle.terminals.specs.Schedule.{IsSchedule}
use Rattle.terminals.specs.Script.{IsScript}

-- A number from low to high.
abbrev pub IsBetween : ℕ → ℕ → ℕ → Type 0
IsBetween low high n = (low ≤ n) × (n ≤ high)

-- A last name fits its column.
abbrev pub IsNamed : Choice → Type 0
IsNamed (Number number) = Unit {0}
IsNamed (LastName last) = IsText 16 last

-- Further ranges of a request's type, and the limit on the lines of a New-Order's record.
abbrev pub Fits : Request → Type 0
Fits (request.NewOrder n) = IsMoment n.moment × (length n.lines ≤ MOST_RECORD_LINES)
Fits (request.Payment p) = IsNamed p.customer × IsMoment p.moment
Fits (request.OrderStatus o) = IsNamed o.customer
Fits (request.Delivery d) = IsMoment d.moment
Fits (request.StockLevel s) = Unit {0}

-- A request that can be read.
abbrev pub CanBeRead : Request → Type 0
CanBeRead r = CanBeAsked r × Fits r

-- A part of a script that can be read.
abbrev pub CanBeReadPart : Part → Type 0
CanBeReadPart part = CanBeRead part.request

-- An item of a schedule that can be read.
abbrev pub CanBeReadEvent : Event → Type 0
CanBeReadEvent (Submit session number request) = IsWord session × IsWord number × CanBeRead request
CanBeReadEvent (Order order) = CanBeOrdered order
CanBeReadEvent (Take executor) = IsWord executor
CanBeReadEvent (Send executor) = IsWord executor

abbrev pub CanBeReadItem : Scheduled → Type 0
CanBeReadItem (scheduled.Event event) = CanBeReadEvent event
CanBeReadItem scheduled.Rounds = Unit {0}

-- The ranges of a line that a New-Order shows.
abbrev pub FitsShownLine : NewOrderLine → Type 0
FitsShownLine line =
    IsWord line.supply_w_id × IsWord line.i_id × IsText 24 line.name × IsBetween 1 10 line.quantity
    × IsBetween 10 100 line.stock_quantity × IsBetween 1 99999 line.price × IsBetween 0 999999 line.amount

-- The ranges of a line that an Order-Status shows.
abbrev pub FitsStatusLine : StatusLine → Type 0
FitsStatusLine line =
    IsWord line.i_id × IsWord line.supply_w_id × IsBetween 1 10 line.quantity × IsBetween 0 999999 line.amount × IfSome line.delivery_d IsMoment

-- The ranges of an order that an Order-Status shows.
abbrev pub FitsStatusOrder : StatusOrder → Type 0
FitsStatusOrder order =
    IsBetween 1 9999999 order.o_id × IsMoment order.entry_d × IfSome order.carrier_id (IsBetween 1 10) × AllByRecursion FitsStatusLine order.lines

-- The ranges of everything that is shown, and the number of lines.
abbrev pub FitsShown : Shown → Type 0
FitsShown (shown.NewOrder n) =
    IsText 16 n.last × IsBetween 0 9999 n.discount × IsBetween 0 9999 n.warehouse_tax × IsBetween 0 9999 n.district_tax × IsBetween 1 9999999 n.o_id
    × IsMoment n.entry_d × IsMoney n.total × (length n.lines ≤ MOST_RECORD_LINES) × AllByRecursion FitsShownLine n.lines
FitsShown (shown.Payment p) =
    IsWord p.c_id × IsText 16 p.first × IsText 2 p.middle × IsText 16 p.last × IsBetween 0 9999 p.discount × IsMoney p.balance × IsText 200 p.data
FitsShown (shown.OrderStatus o) =
    IsWord o.c_id × IsText 16 o.first × IsText 2 o.middle × IsText 16 o.last × IsMoney o.balance × IfSome o.order FitsStatusOrder
FitsShown (shown.Delivery d) = IsBetween 1 10 d.d_id × IsBetween 1 10 d.carrier_id × IfSome d.order (IsBetween 1 9999999)
FitsShown (shown.StockLevel s) = IsWord s.count

-- The ranges of the reason of a rollback.
abbrev pub FitsFault : Fault → Type 0
FitsFault NoCustomer = Unit {0}
FitsFault (NoItem last credit o_id) = IsText 16 last × IsBetween 1 10000000 o_id
FitsFault Range = Unit {0}

-- A reply that can be read.
abbrev pub FitsReply : Reply → Type 0
FitsReply (Done shown) = FitsShown shown
FitsReply (RolledBack fault) = FitsFault fault

-- An entry that can be read.
abbrev pub CanBeReadEntry : Entry → Type 0
CanBeReadEntry entry = IsWord entry.session × IsWord entry.number × CanBeRead entry.request × FitsReply entry.reply

-- ---- the laws: if no record is too long, there is no fault

abbrev pub ScriptsAreRead : Type 0
ScriptsAreRead =
    (script : List Part) → length script < 2 ^ 32 → AllByRecursion CanBeReadPart script
    → (rows : List (List (List ℕ))) → AllByRecursion IsKept rows → IsScript script rows → script_fault rows ≡ None

abbrev pub MovesAreRead : Type 0
MovesAreRead =
    (moves : List MoveOrder) → length moves < 2 ^ 32 → AllByRecursion CanBeOrdered moves
    → (rows : List (List (List ℕ))) → AllByRecursion IsKept rows → AreMoves moves rows → moves_fault rows ≡ None

abbrev pub SchedulesAreRead : Type 0
SchedulesAreRead =
    (schedule : List Scheduled) → length schedule < 2 ^ 32 → AllByRecursion CanBeReadItem schedule
    → (rows : List (List (List ℕ))) → AllByRecursion IsKept rows → IsSchedule schedule rows → schedule_fault rows ≡ None

abbrev pub LogsAreRead : Type 0
LogsAreRead =
    (entries : List Entry) → length entries < 2 ^ 32 → AllByRecursion CanBeReadEntry entries
    → (rows : List (List (List ℕ))) → AllByRecursion IsKept rows → IsLog entries rows → log_fault rows ≡ None
