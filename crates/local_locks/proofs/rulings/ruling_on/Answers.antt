use Rattle.std.proofs.Common.{◌+◌, List, take, sym, subst}
use Rattle.std.specs.List.{flat_map}
use Rattle.local_locks.specs.Rulings.{IsRuling, Spot, spots_of}
use Rattle.local_locks.specs.declared.rulings.Ruling.{Ruling}
use Rattle.local_locks.proofs.Joins.{walked}
use Rattle.local_locks.proofs.Spots.{joined_all}
use Rattle.local_locks.proofs.rulings.ruling_on.Goals as goal

pub loop-want-preserved : goal.loop-want-preserved
loop-want-preserved g c =
    let P : Ruling → Type 0 = λ r. IsRuling c.args.age c.args.locks.now (flat_map spots_of (take (c.loop-want.want-index + 1) c.args.wants.now)) r in
    subst P (sym c.join-ruling.ensures)
    (walked c.args.age c.args.locks.now c.args.wants.now c.loop-want.want-index _ c.loop-want.ruling c.ruling_on_want.result c.loop-want-test.true c.loop-want.invariant c.ruling_on_want.ensures)

pub returns : goal.returns
returns g c =
    let P : List Spot → Type 0 = λ wanted. IsRuling c.args.age c.args.locks.now wanted c.loop-want.ruling in
    subst P (joined_all spots_of c.args.wants.now c.loop-want.want-index c.loop-want-test.false) c.loop-want.invariant
