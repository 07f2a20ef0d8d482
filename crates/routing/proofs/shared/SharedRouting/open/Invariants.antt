-- There is a word for each warehouse before this one.
use Rattle.std.proofs.Common.{◌≡◌, vec_len}
use Rattle.routing.proofs.shared.SharedRouting.open.Given as goal

abbrev pub invariant-loop-before : goal.invariant-loop-before
invariant-loop-before l = vec_len l.words ≡ l.before
