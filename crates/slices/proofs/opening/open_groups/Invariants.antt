use Rattle.std.proofs.Common.{◌≡◌, length}
use Rattle.slices.proofs.Opened.{AreOpenedSoFar}
use Rattle.slices.proofs.opening.open_groups.Given as goal

-- the groups so far were opened, in the order of their places
abbrev pub invariant-loop-place : goal.invariant-loop-place
invariant-loop-place l = record {
  count : length l.openings.items ≡ l.place;
  contents : AreOpenedSoFar l.tables l.openings.items;
}
