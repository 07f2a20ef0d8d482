use Rattle.partitions.proofs.Joined.{IsWholeTo}
use Rattle.partitions.proofs.joining.whole.Given as goal

abbrev pub invariant-loop-part : goal.invariant-loop-part
invariant-loop-part l = IsWholeTo l.scale l.yielded l.rows
