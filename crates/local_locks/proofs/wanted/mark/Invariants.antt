use Rattle.std.proofs.Common.{◌≡◌, ◌<◌, ◌&&◌, ◌||◌, ℕ, false}
use Rattle.std.specs.Prelude.{nat_le, nat_lt, slice_index_or}
use Rattle.local_locks.proofs.wanted.mark.Given as goal

-- the places before this one are marked
abbrev pub invariant-loop-place : goal.invariant-loop-place
invariant-loop-place l = (place : ℕ) → place < 105 → slice_index_or l.places place false ≡ (slice_index_or l.fn.places place false || (nat_le l.first place && nat_lt place l.place))
