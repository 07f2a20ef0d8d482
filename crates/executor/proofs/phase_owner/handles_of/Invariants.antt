-- So many handles are there, each of the meeting.
use Rattle.std.proofs.Common.{◌≡◌, length}
use Rattle.std.specs.Arc.{arc_value}
use Rattle.executor.specs.AgreedPhases.{AreHandles}
use Rattle.executor.proofs.phase_owner.handles_of.Given as goal

abbrev pub invariant-loop : goal.invariant-loop
invariant-loop g l = record {
  each : AreHandles arc_value (arc_value l.fn.meeting) l.handles.items;
  many : length l.handles.items ≡ l.counter;
}
