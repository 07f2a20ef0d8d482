use Rattle.std.proofs.Common.{◌≡◌, None, length, replicate}
use Rattle.rows.specs.declared.limits.TheConstants.{MOST_LINES}
use Rattle.partitions.proofs.MomentsRead.{written}
use Rattle.partitions.proofs.delivery_rows.moments_of.Given as goal

abbrev pub invariant-loop-key : goal.invariant-loop-key
invariant-loop-key l = record {
  long : length l.moments ≡ MOST_LINES;
  read : written l.key-iterator l.moments ≡ written l.initial.key-iterator (replicate MOST_LINES None);
}
