use Rattle.std.proofs.Common.{◌≡◌, ◌||◌, ◌&&◌, ◌∙◌, false, ap, arith}
use Rattle.std.specs.Prelude.{ℕ, nat_le, nat_lt, slice_index_or}
use Rattle.local_locks.proofs.wanted.mark.Goals as goal

pub returns : goal.returns
returns c = λ place small.
    let all : c.loop-place.place ≡ c.args.end = omega (arith, c.requires.rising) in
    c.loop-place.invariant place small ∙ ap (λ (n : ℕ). slice_index_or c.args.places.now place false || (nat_le c.args.first place && nat_lt place n)) all
