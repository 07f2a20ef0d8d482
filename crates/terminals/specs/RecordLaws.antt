-- The records of a script, of moves, of a schedule and of a log determine it.
use Rattle.std.specs.Prelude.{◌≡◌, ◌<◌, ◌^◌, ℕ, List, length, IfSome}
use Rattle.std.specs.List.{AllByRecursion}
use Rattle.amounts.specs.Money.{IsMoney}
use Rattle.rows.specs.declared.keys.DistrictKey.{DistrictKey}
use Rattle.requests.specs.declared.request.Request.{Request}
use Rattle.requests.specs.declared.request.Request.TheVariants as request
use Rattle.requests.specs.declared.script.Part.{Part}
use Rattle.requests.specs.declared.new_order.OrderedLine.{OrderedLine}
use Rattle.requests.specs.declared.new_order.NewOrderLine.{NewOrderLine}
use Rattle.requests.specs.declared.order_status.StatusLine.{StatusLine}
use Rattle.requests.specs.declared.order_status.StatusOrder.{StatusOrder}
use Rattle.requests.specs.declared.reply.Fault.{Fault}
use Rattle.requests.specs.declared.reply.Fault.TheVariants.{NoCustomer, NoItem, Range}
use Rattle.requests.specs.declared.reply.Reply.{Reply}
use Rattle.requests.specs.declared.reply.Reply.TheVariants.{Done, RolledBack}
use Rattle.requests.specs.declared.reply.Shown.{Shown}
use Rattle.requests.specs.declared.reply.Shown.TheVariants as shown
use Rattle.commit_log.specs.declared.entry.Entry.{Entry}
use Rattle.history.specs.declared.event.Event.{Event}
use Rattle.history.specs.declared.event.Event.TheVariants.{Submit, Order, Take, Send}
use Rattle.history.specs.declared.schedule.Scheduled.{Scheduled}
use Rattle.history.specs.declared.schedule.Scheduled.TheVariants as scheduled
use Rattle.range_moves.specs.declared.order.MoveOrder.{MoveOrder}
use Rattle.terminals.specs.ChoiceLaws.{IsChoice}
use Rattle.terminals.specs.Moves.{AreMoves}
use Rattle.terminals.specs.Script.{IsScript}
use Rattle.terminals.specs.Schedule.{IsSchedule}
use Rattle.terminals.specs.LogRecord.{IsLog}

-- ---- the ranges of the types

-- A number of 32 bits.
abbrev pub IsWord : ℕ → Type 0
IsWord number = number < 2 ^ 32

-- The key of a district.
abbrev pub IsDistrictKey : DistrictKey → Type 0
IsDistrictKey key = IsWord key.w_id × IsWord key.d_id

-- A line of an order in a request.
abbrev pub IsOrderedLine : OrderedLine → Type 0
IsOrderedLine line = IsWord line.i_id × IsWord line.supply_w_id × IsWord line.quantity

-- A possible request.
abbrev pub CanBeAsked : Request → Type 0
CanBeAsked (request.NewOrder n) = IsDistrictKey n.home × IsWord n.c_id × IsWord (length n.lines) × AllByRecursion IsOrderedLine n.lines
CanBeAsked (request.Payment p) = IsDistrictKey p.home × IsDistrictKey p.customer_home × IsChoice p.customer × IsWord p.amount
CanBeAsked (request.OrderStatus o) = IsDistrictKey o.home × IsChoice o.customer
CanBeAsked (request.Delivery d) = IsDistrictKey d.home × IsWord d.carrier_id
CanBeAsked (request.StockLevel s) = IsDistrictKey s.home × IsWord s.threshold

-- A possible part of a script.
abbrev pub CanBePart : Part → Type 0
CanBePart part = CanBeAsked part.request

-- A line of an order, as a New-Order shows it.
abbrev pub IsShownLine : NewOrderLine → Type 0
IsShownLine line =
    IsWord line.supply_w_id × IsWord line.i_id × IsWord line.quantity × IsWord line.stock_quantity × IsWord line.price × IsWord line.amount

-- A line of an order, as an Order-Status shows it.
abbrev pub IsLineOfStatus : StatusLine → Type 0
IsLineOfStatus line = IsWord line.i_id × IsWord line.supply_w_id × IsWord line.quantity × IsWord line.amount

-- An order, as an Order-Status shows it.
abbrev pub IsOrderOfStatus : StatusOrder → Type 0
IsOrderOfStatus order = IsWord order.o_id × IfSome order.carrier_id IsWord × AllByRecursion IsLineOfStatus order.lines

-- A possible output of a transaction.
abbrev pub CanBeShown : Shown → Type 0
CanBeShown (shown.NewOrder n) =
    IsWord n.discount × IsWord n.warehouse_tax × IsWord n.district_tax × IsWord n.o_id × IsMoney n.total × AllByRecursion IsShownLine n.lines
CanBeShown (shown.Payment p) = IsWord p.c_id × IsWord p.discount × IsMoney p.balance
CanBeShown (shown.OrderStatus o) = IsWord o.c_id × IsMoney o.balance × IfSome o.order IsOrderOfStatus
CanBeShown (shown.Delivery d) = IsWord d.d_id × IsWord d.carrier_id × IfSome d.order IsWord
CanBeShown (shown.StockLevel s) = IsWord s.count

-- A possible reason of a rollback.
abbrev pub CanBeFault : Fault → Type 0
CanBeFault NoCustomer = Unit {0}
CanBeFault (NoItem last credit o_id) = IsWord o_id
CanBeFault Range = Unit {0}

-- A possible reply.
abbrev pub CanBeReplied : Reply → Type 0
CanBeReplied (Done shown) = CanBeShown shown
CanBeReplied (RolledBack fault) = CanBeFault fault

-- A possible entry of a log.
abbrev pub CanBeLogged : Entry → Type 0
CanBeLogged entry = IsWord entry.session × IsWord entry.number × CanBeAsked entry.request × CanBeReplied entry.reply

-- A possible move order.
abbrev pub CanBeOrdered : MoveOrder → Type 0
CanBeOrdered order = IsWord order.lo × IsWord order.hi × IsWord order.to

-- A possible event.
abbrev pub CanBeEvent : Event → Type 0
CanBeEvent (Submit session number request) = IsWord session × IsWord number × CanBeAsked request
CanBeEvent (Order order) = CanBeOrdered order
CanBeEvent (Take executor) = IsWord executor
CanBeEvent (Send executor) = IsWord executor

-- A possible item of a schedule.
abbrev pub CanBeScheduled : Scheduled → Type 0
CanBeScheduled (scheduled.Event event) = CanBeEvent event
CanBeScheduled scheduled.Rounds = Unit {0}

-- ---- the laws

-- Different scripts have different records.
abbrev pub ScriptsDiffer : Type 0
ScriptsDiffer =
    (one other : List Part) → AllByRecursion CanBePart one → AllByRecursion CanBePart other
    → (rows : List (List (List ℕ))) → IsScript one rows → IsScript other rows → one ≡ other

-- Different lists of moves have different records.
abbrev pub MovesDiffer : Type 0
MovesDiffer =
    (one other : List MoveOrder) → AllByRecursion CanBeOrdered one → AllByRecursion CanBeOrdered other
    → (rows : List (List (List ℕ))) → AreMoves one rows → AreMoves other rows → one ≡ other

-- Different schedules have different records.
abbrev pub SchedulesDiffer : Type 0
SchedulesDiffer =
    (one other : List Scheduled) → AllByRecursion CanBeScheduled one → AllByRecursion CanBeScheduled other
    → (rows : List (List (List ℕ))) → IsSchedule one rows → IsSchedule other rows → one ≡ other

-- Different logs have different records.
abbrev pub LogsDiffer : Type 0
LogsDiffer =
    (one other : List Entry) → AllByRecursion CanBeLogged one → AllByRecursion CanBeLogged other
    → (rows : List (List (List ℕ))) → IsLog one rows → IsLog other rows → one ≡ other
