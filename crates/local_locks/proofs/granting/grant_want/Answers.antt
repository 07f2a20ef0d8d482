use Rattle.std.proofs.Common.{◌≡◌, ◌<◌, ◌≤◌, ◌+◌, ◌-◌, ◌∷◌, [], ℕ, List, length, map, sym, ap, refl, ◌++◌, subst, ◌∙◌, arith}
use Rattle.std.proofs.lemmas.List.Elements.{All-contains}
use Rattle.tickets.specs.Claims.{ClaimView}
use Rattle.local_locks.specs.Granting.{AreGranted, IsOpen, claim_at}
use Rattle.groups.specs.declared.group_wants.Mode.{Mode}
use Rattle.local_locks.specs.Locks.{stand_in}
use Rattle.local_locks.specs.Rulings.{Spot, spot, spots, spots_of, first_place, count_in}
use Rattle.local_locks.proofs.Grants.{claims_none, claims_more, granted_none, granted_more, still_open}
use Rattle.local_locks.proofs.Spots.{extent_inside, inside_spots, length-spots, spots-walked, spots_before, spots_none}
use Rattle.local_locks.proofs.granting.grant_want.Goals as goal

pub loop-number-init : goal.loop-number-init
loop-number-init g c =
    let first = c.places_of-first.result.0 in
    let none = spots_none first (first - first) c.args.want.mode (omega arith) in
    let P : List Spot → Type 0 = λ granted. AreGranted g.J.GroupNames.warehouses c.args.by granted c.args.locks.now c.args.locks.now in
    record {
      claims = claims_none c.args.by (map stand_in c.args.locks.now) (spots first (first - first) c.args.want.mode) c.args.claims.now.items none;
      count = omega arith;
      room = refl;
      granted = subst P (sym none) (granted_none g.J.GroupNames.warehouses c.args.by c.args.locks.now);
    }

pub grant_at-requires-clause-open : goal.grant_at-requires-clause-open
grant_at-requires-clause-open g c =
    let first = c.places_of-first.result.0 in
    let number = c.loop-number.number in
    let want = c.args.want in
    let from : first ≤ number = omega arith in
    let before : first + (number - first) ≤ number = omega arith in
    let inside = extent_inside g.J.GroupNames.warehouses want.extent c.requires.there in
    let small : number < length c.args.locks.now = omega (arith, inside) in
    let here = inside_spots (first_place want.extent) (count_in want.extent) number want.mode (omega arith) (omega arith) in
    still_open g.J.GroupNames.warehouses c.args.by (spots first (number - first) want.mode) c.args.locks.now c.loop-number.locks (spot number want.mode) c.loop-number.invariant.granted small
    (spots_before first (number - first) number want.mode before)
    (All-contains (IsOpen c.args.locks.now) (spots_of want) (spot number want.mode) c.requires.open here)

pub push_reserved-requires : goal.push_reserved-requires
push_reserved-requires g c =
    omega (arith, length-spots (first_place c.args.want.extent) (count_in c.args.want.extent) c.args.want.mode, c.loop-number.invariant.count, c.loop-number.invariant.room, c.requires.room)

pub loop-number-preserved : goal.loop-number-preserved
loop-number-preserved g c =
    let first = c.places_of-first.result.0 in
    let number = c.loop-number.number in
    let mode = c.args.want.mode in
    let from : first ≤ number = omega arith in
    let walked = spots-walked first number mode from in
    let P : List Spot → Type 0 = λ granted. AreGranted g.J.GroupNames.warehouses c.args.by granted c.args.locks.now c.grant_at.new.locks in
    record {
      claims = claims_more c.args.by (map stand_in c.args.locks.now) (map stand_in c.loop-number.locks) c.args.claims.now.items c.loop-number.claims.items c.push_reserved.new.self.items
          (spots first (number - first) mode) (spot number mode ∷ []) (spots first (number + 1 - first) mode)
          c.loop-number.invariant.granted.stands c.loop-number.invariant.claims
          (c.push_reserved.ensures.items ∙ ap (λ (claim : ClaimView). c.loop-number.claims.items ++ claim ∷ []) c.grant_at.ensures.claim) walked;
      count = omega (arith, c.push_reserved.ensures.len, c.loop-number.invariant.count);
      room = c.push_reserved.ensures.capacity ∙ c.loop-number.invariant.room;
      granted = subst P (sym walked) (granted_more g.J.GroupNames.warehouses c.args.by (spots first (number - first) mode) (spot number mode ∷ []) c.args.locks.now c.loop-number.locks c.grant_at.new.locks c.loop-number.invariant.granted c.grant_at.ensures.granted);
    }

same_spots : (first number start count : ℕ) (mode : Mode) → first ≡ start → number - first ≡ count → spots first (number - first) mode ≡ spots start count mode
same_spots first number start count mode same long = ap (λ (n : ℕ). spots n (number - first) mode) same ∙ ap (λ (n : ℕ). spots start n mode) long

pub returns-clause-claims : goal.returns-clause-claims
returns-clause-claims g c =
    let first = c.places_of-first.result.0 in
    let want = c.args.want in
    let same = same_spots first c.loop-number.number (first_place want.extent) (count_in want.extent) want.mode c.places_of-first.ensures.first (omega arith) in
    c.loop-number.invariant.claims ∙ ap (λ (wanted : List Spot). c.args.claims.now.items ++ map (claim_at c.args.by (map stand_in c.args.locks.now)) wanted) same

pub returns-clause-count : goal.returns-clause-count
returns-clause-count g c =
    omega (arith, length-spots (first_place c.args.want.extent) (count_in c.args.want.extent) c.args.want.mode, c.loop-number.invariant.count)

pub returns-clause-granted : goal.returns-clause-granted
returns-clause-granted g c =
    let first = c.places_of-first.result.0 in
    let want = c.args.want in
    let same = same_spots first c.loop-number.number (first_place want.extent) (count_in want.extent) want.mode c.places_of-first.ensures.first (omega arith) in
    let P : List Spot → Type 0 = λ granted. AreGranted g.J.GroupNames.warehouses c.args.by granted c.args.locks.now c.loop-number.locks in
    subst P same c.loop-number.invariant.granted
