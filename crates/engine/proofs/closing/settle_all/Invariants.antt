-- The slices of the first warehouses are settled.
use Rattle.std.proofs.Common.{◌≡◌, ℕ, ◌+◌, length, Some}
use Rattle.std.specs.List.{slice_get}
use Rattle.machine.specs.Machine.{tables_after}
use Rattle.commit_log.specs.Log.{requests_of}
use Rattle.slices.specs.SliceView.{SliceView}
use Rattle.engine.specs.Closing.{IsSettledAt}
use Rattle.engine.proofs.closing.settle_all.Given as goal

abbrev pub invariant-loop-place : goal.invariant-loop-place
invariant-loop-place g l = record {
  many : length l.slices.items ≡ l.place;
  each : (k : ℕ) (s : SliceView) → slice_get l.slices.items k ≡ Some s → IsSettledAt g.J.LogNames.opening (tables_after g.J.LogNames.opening (requests_of l.fn.log)) (k + 1) s;
  same : l.log ≡ l.fn.log;
}
