-- The numbers of the kinds and ends of requests.
use Rattle.std.specs.Prelude.{ℕ, ◌+◌, Bool, true, false, List, Option, None, Some, Result, Ok, Err}
use Rattle.std.specs.List.{slice_get}
use Rattle.requests.specs.declared.request.Request.{Request}
use Rattle.requests.specs.declared.request.Request.TheVariants.{NewOrder, Payment, OrderStatus, Delivery, StockLevel}
use Rattle.requests.specs.declared.request.Choice.{Choice}
use Rattle.requests.specs.declared.request.Choice.TheVariants.{Number, LastName}
use Rattle.requests.specs.declared.reply.Fault.{Fault}
use Rattle.requests.specs.declared.reply.Fault.TheVariants.{NoCustomer, NoItem, Range}
use Rattle.requests.specs.declared.reply.Reply.{Reply}
use Rattle.requests.specs.declared.reply.Reply.TheVariants as replied
use Rattle.requests.specs.declared.refusal.Refusal.{Refusal}
use Rattle.requests.specs.Refusal.{refusal_number}
use Rattle.commit_log.specs.declared.entry.Entry.{Entry}

-- the number of a request's kind, in the order of TPC-C
abbrev pub kind_number : Request → ℕ
kind_number (NewOrder order) = 0
kind_number (Payment payment) = 1
kind_number (OrderStatus status) = 2
kind_number (Delivery delivery) = 3
kind_number (StockLevel level) = 4

-- whether the choice is a last name
abbrev pub is_name : Choice → Bool
is_name (Number number) = false
is_name (LastName name) = true

-- whether a request chooses its customer by last name
abbrev pub chooses_by_name : Request → Bool
chooses_by_name (NewOrder order) = false
chooses_by_name (Payment payment) = is_name payment.customer
chooses_by_name (OrderStatus status) = is_name status.customer
chooses_by_name (Delivery delivery) = false
chooses_by_name (StockLevel level) = false

-- a rollback is 1, and 16 if no customer has the last name that chooses the customer
abbrev pub rollback_number : Bool → Fault → ℕ
rollback_number true NoCustomer = 16
rollback_number false NoCustomer = 1
rollback_number by_name (NoItem last credit number) = 1
rollback_number by_name Range = 1

-- a reply is that of a request that was done, which is 0, or of a rollback
abbrev pub reply_number : Bool → Reply → ℕ
reply_number by_name (replied.Done shown) = 0
reply_number by_name (replied.RolledBack fault) = rollback_number by_name fault

-- the end of an entry
abbrev pub end_number : Entry → ℕ
end_number entry = reply_number (chooses_by_name entry.request) entry.reply

-- the end of an entry of the log, if there is one; 0 if there is none
unfoldable pub entry_number : Option Entry → ℕ
entry_number (Some entry) = end_number entry
entry_number None = 0

-- the end of a request with this answer: that of the entry at its place in the log, or one more than the refusal's number
unfoldable pub answer_number : List Entry → Result ℕ Refusal → ℕ
answer_number log (Ok place) = entry_number (slice_get log place)
answer_number log (Err refusal) = 1 + refusal_number refusal
