-- The results are of a round of the meeting.
use Rattle.std.proofs.Common.{◌≡◌, ◌≤◌, length}
use Rattle.meeting_tests.proofs.tests.report_all.Given as goal

abbrev pub invariant-loop-result : goal.invariant-loop-result
invariant-loop-result g l = (l.results.meeting ≡ l.meeting) × (8 ≤ l.meeting.slots)

abbrev pub decreases-loop-result : goal.decreases-loop-result
decreases-loop-result g l = length l.results.items
