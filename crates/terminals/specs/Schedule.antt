-- The records of a schedule.
use Rattle.std.specs.Prelude.{◌≡◌, ℕ, List, [], ◌∷◌, codes}
use Rattle.std.specs.Fmt.{decimal}
use Rattle.history.specs.declared.event.Event.{Event}
use Rattle.history.specs.declared.event.Event.TheVariants.{Submit, Order, Take, Send}
use Rattle.history.specs.declared.schedule.Scheduled.{Scheduled}
use Rattle.history.specs.declared.schedule.Scheduled.TheVariants as scheduled
use Rattle.terminals.specs.Listing.{IsListing}
use Rattle.terminals.specs.MoveOrders.{order_fields}
use Rattle.terminals.specs.RequestFields.{IsRequest}

-- These are the fields of the event: `S` with the session, the number and the request; `M` with the range of warehouses and the
-- executor that gets them; or `T` or `X` with the executor.
abbrev pub IsEventRecord : Event → List (List ℕ) → Type 0
IsEventRecord (Submit session number request) fields =
    (asked : List (List ℕ)) × IsRequest request asked × (fields ≡ codes "S" ∷ decimal session ∷ decimal number ∷ asked)
IsEventRecord (Order order) fields = fields ≡ codes "M" ∷ order_fields order
IsEventRecord (Take executor) fields = fields ≡ codes "T" ∷ decimal executor ∷ []
IsEventRecord (Send executor) fields = fields ≡ codes "X" ∷ decimal executor ∷ []

-- These are the fields of an event, or `R` alone for rounds.
abbrev pub IsScheduleRecord : Scheduled → List (List ℕ) → Type 0
IsScheduleRecord (scheduled.Event event) fields = IsEventRecord event fields
IsScheduleRecord scheduled.Rounds fields = fields ≡ codes "R" ∷ []

-- The records of a schedule: one for each item, and then the end record.
abbrev pub IsSchedule : List Scheduled → List (List (List ℕ)) → Type 0
IsSchedule schedule rows = IsListing (λ place. IsScheduleRecord) schedule rows
