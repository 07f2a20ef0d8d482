use Rattle.std.proofs.Common.{◌≡◌, take}
use Rattle.std.specs.Prelude.{MatchOption}
use Rattle.wait_die.specs.Verdicts.{IsOldest}
use Rattle.wait_die.proofs.deciding.oldest.Given as goal

abbrev pub invariant-loop-holder : goal.invariant-loop-holder
invariant-loop-holder l = MatchOption l.oldest (l.holder-index ≡ 0) (IsOldest (take l.holder-index l.holders))
