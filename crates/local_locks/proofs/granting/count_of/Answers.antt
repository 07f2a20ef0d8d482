use Rattle.std.proofs.Common.{length, get_or, take, ap, arith}
use Rattle.std.specs.List.{flat_map}
use Rattle.std.proofs.lemmas.List.{length-append}
use Rattle.local_locks.specs.Rulings.{spots_of, first_place, count_in}
use Rattle.local_locks.proofs.Spots.{no_want, joined_length, joined_walked, length-spots}
use Rattle.local_locks.proofs.granting.count_of.Goals as goal

pub overflow_add-count : goal.overflow_add-count
overflow_add-count g c =
    let want = get_or c.args.wants.now c.loop-want.want-index no_want in
    omega (arith, joined_length spots_of c.args.wants.now c.loop-want.want-index no_want c.loop-want-test.true, length-spots (first_place want.extent) (count_in want.extent) want.mode, c.requires.few, c.loop-want.invariant)

pub loop-want-preserved : goal.loop-want-preserved
loop-want-preserved g c =
    let want = get_or c.args.wants.now c.loop-want.want-index no_want in
    omega (arith, ap length (joined_walked spots_of c.args.wants.now c.loop-want.want-index no_want c.loop-want-test.true), length-append (flat_map spots_of (take c.loop-want.want-index c.args.wants.now)) (spots_of want), length-spots (first_place want.extent) (count_in want.extent) want.mode, c.loop-want.invariant)
