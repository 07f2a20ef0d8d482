-- The places are of a round of the meeting.
use Rattle.std.proofs.Common.{◌≡◌, ◌≤◌}
use Rattle.meeting_tests.proofs.tests.convene_for.Given as goal

abbrev pub invariant-loop-inbox : goal.invariant-loop-inbox
invariant-loop-inbox g l = (l.places.of_round.meeting ≡ l.meeting) × (8 ≤ l.meeting.slots)
