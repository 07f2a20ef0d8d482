-- The answer to a report to a shared meeting.
use Rattle.rendezvous.specs.declared.results.Reported.{Reported}
use Rattle.rendezvous.specs.declared.results.Reported.TheVariants.{NotLast, Last}
use Rattle.rendezvous.specs.Meetings.{ResultsView}

module _ {R T : Type 0} where
  -- P holds if another place is awaited
  abbrev pub OnNotLast : Reported R T → Type 0 → Type 0
  OnNotLast NotLast P = P
  OnNotLast (Last results) P = Unit {0}

  -- P holds of the results if the report was the last one
  abbrev pub IfLast : Reported R T → (ResultsView R → Type 0) → Type 0
  IfLast NotLast P = Unit {0}
  IfLast (Last results) P = P results
