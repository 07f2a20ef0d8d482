use Rattle.std.proofs.Common.{◌+◌, List, length, get_or, take, map, sym, ap, subst, ◌∙◌, arith}
use Rattle.std.specs.List.{flat_map}
use Rattle.std.proofs.lemmas.List.{length-append}
use Rattle.local_locks.specs.Granting.{AreGranted}
use Rattle.local_locks.specs.Locks.{stand_in}
use Rattle.local_locks.specs.Rulings.{Spot, spots_of}
use Rattle.local_locks.proofs.Grants.{claims_more, granted_more, next_open}
use Rattle.local_locks.proofs.Spots.{no_want, joined_length, joined_walked}
use Rattle.local_locks.proofs.granting.grant_all.Goals as goal

pub grant_want-requires-clause-open : goal.grant_want-requires-clause-open
grant_want-requires-clause-open g c =
    next_open g.J.GroupNames.warehouses c.args.by c.args.wants.now c.loop-want.want-index no_want c.args.locks.now c.loop-want.locks c.loop-want-test.true c.requires.places
    (c.requires.there c.loop-want.want-index no_want c.loop-want-test.true) c.requires.open c.requires.once c.loop-want.invariant.granted

pub grant_want-requires-clause-room : goal.grant_want-requires-clause-room
grant_want-requires-clause-room g c =
    omega (arith, joined_length spots_of c.args.wants.now c.loop-want.want-index no_want c.loop-want-test.true, c.loop-want.invariant.count, c.loop-want.invariant.room, c.requires.room)

pub loop-want-preserved : goal.loop-want-preserved
loop-want-preserved g c =
    let wants = c.args.wants.now in
    let i = c.loop-want.want-index in
    let done = flat_map spots_of (take i wants) in
    let next = spots_of (get_or wants i no_want) in
    let walked = joined_walked spots_of wants i no_want c.loop-want-test.true in
    let P : List Spot → Type 0 = λ granted. AreGranted g.J.GroupNames.warehouses c.args.by granted c.args.locks.now c.grant_want.new.locks in
    record {
      claims = claims_more c.args.by (map stand_in c.args.locks.now) (map stand_in c.loop-want.locks) c.args.claims.now.items c.loop-want.claims.items c.grant_want.new.claims.items
          done next (flat_map spots_of (take (i + 1) wants)) c.loop-want.invariant.granted.stands c.loop-want.invariant.claims c.grant_want.ensures.claims walked;
      count = omega (arith, c.grant_want.ensures.count, c.loop-want.invariant.count, ap length walked, length-append done next);
      room = c.grant_want.ensures.room ∙ c.loop-want.invariant.room;
      granted = subst P (sym walked) (granted_more g.J.GroupNames.warehouses c.args.by done next c.args.locks.now c.loop-want.locks c.grant_want.new.locks c.loop-want.invariant.granted c.grant_want.ensures.granted);
    }
