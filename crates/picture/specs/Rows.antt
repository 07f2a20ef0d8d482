-- The rows of a picture.
use Rattle.std.specs.Prelude.{ℕ, ◌+◌, true, false, Bool, List, [], ◌∷◌, ◌++◌, Option, Some, None, Result, Ok, Err, slice_get}
use Rattle.requests.specs.declared.request.Request.{Request}
use Rattle.requests.specs.declared.request.Request.TheVariants as request
use Rattle.requests.specs.declared.reply.Reply.{Reply}
use Rattle.requests.specs.declared.reply.Reply.TheVariants.{RolledBack}
use Rattle.requests.specs.declared.refusal.Refusal.{Refusal}
use Rattle.commit_log.specs.declared.entry.Entry.{Entry}
use Rattle.history.specs.declared.event.Event.{Event as AnyEvent}
use Rattle.history.specs.declared.event.Event.TheVariants as event
use Rattle.history.specs.declared.event.EventAnswer.{EventAnswer}
use Rattle.history.specs.declared.event.EventAnswer.TheVariants as came
use Rattle.history.specs.declared.schedule.Scheduled.{Scheduled}
use Rattle.history.specs.declared.schedule.Scheduled.TheVariants as scheduled
use Rattle.history.specs.declared.schedule.Output.{Output}
use Rattle.history.specs.declared.schedule.Output.TheVariants as output
use Rattle.picture.specs.declared.row.Kind.{Kind}
use Rattle.picture.specs.declared.row.Kind.TheVariants as kind
use Rattle.picture.specs.declared.row.Deed.{Deed}
use Rattle.picture.specs.declared.row.Deed.TheVariants as deed
use Rattle.picture.specs.declared.row.RowAnswer.{RowAnswer}
use Rattle.picture.specs.declared.row.RowAnswer.TheVariants as reported
use Rattle.picture.specs.declared.row.Row.{Row}
use Rattle.picture.specs.declared.row.Row.TheVariants as row

-- The kind of a request.
abbrev pub kind_of : Request → Kind
kind_of (request.NewOrder r) = kind.NewOrder
kind_of (request.Payment r) = kind.Payment
kind_of (request.OrderStatus r) = kind.OrderStatus
kind_of (request.Delivery r) = kind.Delivery
kind_of (request.StockLevel r) = kind.StockLevel

-- What an event does.
abbrev pub deed_of : AnyEvent → Deed
deed_of (event.Submit session number request) = deed.Submit session number (kind_of request)
deed_of (event.Order order) = deed.Order order
deed_of (event.Take executor) = deed.Take executor
deed_of (event.Send executor) = deed.Send executor

-- Whether the transaction was rolled back.
abbrev pub is_rolled_back : Reply → Bool
is_rolled_back (RolledBack fault) = true
is_rolled_back reply = false

-- Whether the transaction of an entry was rolled back.
abbrev pub entry_is_rolled_back : Option Entry → Bool
entry_is_rolled_back (Some entry) = is_rolled_back entry.reply
entry_is_rolled_back None = false

-- An answer: its session, its number, and its place in the log, with whether that transaction was rolled back; or its refusal.
abbrev pub reported_of_answer : List Entry → ℕ → ℕ → Result ℕ Refusal → RowAnswer
reported_of_answer log session number (Ok place) = reported.Done session number place (entry_is_rolled_back (slice_get log place))
reported_of_answer log session number (Err refusal) = reported.Refused session number refusal

-- The output of an event.
abbrev pub reported_of_event : List Entry → EventAnswer → RowAnswer
reported_of_event log (came.Accepted age) = reported.Accepted age
reported_of_event log came.Ordered = reported.Ordered
reported_of_event log came.Took = reported.Took
reported_of_event log came.Sent = reported.Sent
reported_of_event log came.Full = reported.Full
reported_of_event log (came.Logged place) = reported.Logged place
reported_of_event log came.Moved = reported.Moved
reported_of_event log (came.Answered session number answer) = reported_of_answer log session number answer
reported_of_event log came.Nothing = reported.Nothing

-- The output of an event, or how rounds ended.
abbrev pub reported_of : List Entry → Output → RowAnswer
reported_of log (output.Event came) = reported_of_event log came
reported_of log output.Quiet = reported.Quiet
reported_of log output.Limit = reported.Limit

-- The row of an event with this output.
abbrev pub event_row : List Entry → ℕ → AnyEvent → Output → Row
event_row log number event output = row.Event number (deed_of event) (reported_of log output)

-- A row for each output of rounds, up to their end.
abbrev pub rows_in_rounds : List Entry → List Output → List Row
rows_in_rounds log [] = []
rows_in_rounds log (output.Event came ∷ outputs) = row.InRounds (reported_of_event log came) ∷ rows_in_rounds log outputs
rows_in_rounds log (output.Quiet ∷ outputs) = row.InRounds reported.Quiet ∷ []
rows_in_rounds log (output.Limit ∷ outputs) = row.InRounds reported.Limit ∷ []

-- The outputs after the end of rounds.
abbrev pub after_rounds : List Output → List Output
after_rounds [] = []
after_rounds (output.Event came ∷ outputs) = after_rounds outputs
after_rounds (output.Quiet ∷ outputs) = outputs
after_rounds (output.Limit ∷ outputs) = outputs

-- The rows of a schedule whose first item has this number, played with this log. Each event has a row with its output, in
-- order. Rounds have a row, and one for each of their outputs.
abbrev pub rows_of : List Entry → ℕ → List Scheduled → List Output → List Row
rows_of log number [] outputs = []
rows_of log number (scheduled.Event event ∷ schedule) [] = []
rows_of log number (scheduled.Event event ∷ schedule) (first ∷ outputs) = event_row log number event first ∷ rows_of log (number + 1) schedule outputs
rows_of log number (scheduled.Rounds ∷ schedule) outputs = row.Rounds number ∷ (rows_in_rounds log outputs ++ rows_of log (number + 1) schedule (after_rounds outputs))
