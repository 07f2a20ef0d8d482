-- The results are of a round of the meeting.
use Rattle.std.proofs.Common.{◌≡◌, length}
use Rattle.std.specs.Arc.{arc_value}
use Rattle.transactions.specs.declared.laws.TheConstants.{MOST_ACTIONS}
use Rattle.executor.proofs.completion.CompletionPlace.report.Given as goal

abbrev pub invariant-loop : goal.invariant-loop
invariant-loop l = (l.results.meeting ≡ arc_value l.meeting) × ((arc_value l.meeting).slots ≡ MOST_ACTIONS)

abbrev pub decreases-loop : goal.decreases-loop
decreases-loop l = length l.results.items
