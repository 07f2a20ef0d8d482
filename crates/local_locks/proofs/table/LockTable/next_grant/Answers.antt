use Rattle.std.proofs.Common.{◌≡◌, ◌++◌, List, Option, length, take, drop, get_or, map, sym, ap, subst, ◌∙◌, arith}
use Rattle.std.specs.Prelude.{All, AllPairs, IfNone, filter}
use Rattle.std.specs.List.{flat_map}
use Rattle.requests.specs.declared.group.Group.{Group}
use Rattle.groups.specs.declared.wants.Want.{Want}
use Rattle.local_locks.specs.declared.rulings.Ruling.TheVariants.{Free}
use Rattle.local_locks.specs.EntryPlaces.{AreEntryPlaces, is_used_at}
use Rattle.local_locks.specs.LockTableView.{LockTableView, Stand}
use Rattle.local_locks.specs.Conflicts.{MustDie}
use Rattle.local_locks.specs.Asking.{Grants, StillWaits}
use Rattle.local_locks.specs.Locks.{LockView, WaiterView, groups_at, locking, stand_in}
use Rattle.local_locks.specs.Rulings.{IsRuling, spots_of}
use Rattle.local_locks.specs.Granting.{AreElsewhere, AreGranted, claim_at}
use Rattle.local_locks.specs.Turns.{IsParkedThere, StaysParked}
use Rattle.local_locks.proofs.Apartness.{places_apart}
use Rattle.local_locks.proofs.Asks as asks
use Rattle.local_locks.proofs.Grants.{same_length}
use Rattle.local_locks.proofs.Entered.{all_there, death_entered, death_table, turn_entered}
use Rattle.local_locks.proofs.Taken as taken
use Rattle.local_locks.proofs.Taken.{IsTaken}
use Rattle.local_locks.proofs.table.LockTable.next_grant.Given as given
use Rattle.local_locks.proofs.table.LockTable.next_grant.Goals as goal
use Rattle.local_locks.proofs.table.LockTable.next_grant.Goals.{After-grant_all, After-keep_used}

pub returns-in_err-index-clause-none : goal.returns-in_err-index-clause-none
returns-in_err-index-clause-none g c =
    let P : List WaiterView → Type 0 = λ ws. All (StaysParked c.deref.result.now) ws in
    let Q : List LockView → Type 0 = λ ls. All (StaysParked ls) c.self.inside.waiters.items in
    let R : LockTableView → Type 0 = λ t. All (StillWaits t.holdings) t.waiters in
    let S : Option _ → Type 0 = λ r. IfNone r (All (StillWaits c.args.self.now.holdings) c.args.self.now.waiters) in
    let stay = subst Q c.deref.ensures.value (subst P c.deref-2.ensures.value c.in_err-index.ensures.none) in
    subst S (sym c.from_residual.ensures) (subst R c.self.view_is (taken.all_still_wait g.J.GroupNames.warehouses c.self.inside.w_id c.self.inside.locks.items c.self.inside.waiters.items c.self.invariant.0 c.self.invariant.1 stay))

pub grant_all-requires-clause-open : goal.grant_all-requires-clause-open
grant_all-requires-clause-open g c =
    let next = c.in_ok-index.field-0 in
    let locks = c.self.inside.locks.items in
    let t = taken.taken_from g.J.GroupNames.warehouses c.self.inside.w_id locks c.deref.result.now c.self.inside.waiters.items c.deref-2.result.now c.remove.new.self.items c.remove.result next c.deref.ensures.value c.deref-2.ensures.value c.self.invariant.0 c.self.invariant.1 c.in_ok-index.ensures.next c.remove.ensures.value c.remove.ensures.items in
    let wants : c.remove.result.wants ≡ c.deref-in-Free.result.now = sym (ap (λ (q : WaiterView). q.wants) c.wants.view_is) ∙ sym c.deref-in-Free.ensures.value in
    let P : List Want → Type 0 = λ ws. IsRuling next.by.age c.deref_mut.result.now (flat_map spots_of ws) Free in
    let Q : List LockView → Type 0 = λ ls. IsRuling next.by.age ls (flat_map spots_of c.remove.result.wants) Free in
    asks.all_open next.by.age c.deref_mut.result.now (flat_map spots_of c.deref-in-Free.result.now)
    (subst P wants (subst Q (sym c.deref_mut.ensures.value) (taken.said_taken g.J.GroupNames.warehouses c.self.inside.w_id locks c.self.inside.waiters.items c.remove.new.self.items c.remove.result next Free t c.in-Free.is)))

pub grant_all-requires-clause-once : goal.grant_all-requires-clause-once
grant_all-requires-clause-once g c =
    let next = c.in_ok-index.field-0 in
    let locks = c.self.inside.locks.items in
    let t = taken.taken_from g.J.GroupNames.warehouses c.self.inside.w_id locks c.deref.result.now c.self.inside.waiters.items c.deref-2.result.now c.remove.new.self.items c.remove.result next c.deref.ensures.value c.deref-2.ensures.value c.self.invariant.0 c.self.invariant.1 c.in_ok-index.ensures.next c.remove.ensures.value c.remove.ensures.items in
    let wants : c.remove.result.wants ≡ c.deref-in-Free.result.now = sym (ap (λ (q : WaiterView). q.wants) c.wants.view_is) ∙ sym c.deref-in-Free.ensures.value in
    let is = taken.parked_taken g.J.GroupNames.warehouses c.self.inside.w_id locks c.self.inside.waiters.items c.remove.new.self.items c.remove.result next t in
    let P : List Want → Type 0 = λ ws. AllPairs AreElsewhere (flat_map spots_of ws) in
    subst P wants (places_apart g.J.GroupNames.warehouses c.self.inside.w_id locks c.remove.result.wants c.self.invariant.0 is.can.own is.can.once)

pub grant_all-requires-clause-room : goal.grant_all-requires-clause-room
grant_all-requires-clause-room g c =
    let next = c.in_ok-index.field-0 in
    let locks = c.self.inside.locks.items in
    let t = taken.taken_from g.J.GroupNames.warehouses c.self.inside.w_id locks c.deref.result.now c.self.inside.waiters.items c.deref-2.result.now c.remove.new.self.items c.remove.result next c.deref.ensures.value c.deref-2.ensures.value c.self.invariant.0 c.self.invariant.1 c.in_ok-index.ensures.next c.remove.ensures.value c.remove.ensures.items in
    let wants : c.remove.result.wants ≡ c.deref-in-Free.result.now = sym (ap (λ (q : WaiterView). q.wants) c.wants.view_is) ∙ sym c.deref-in-Free.ensures.value in
    let room = taken.room_taken g.J.GroupNames.warehouses c.self.inside.w_id locks c.self.inside.waiters.items c.remove.new.self.items c.remove.result next t in
    let long : length (flat_map spots_of c.remove.result.wants) ≡ length (flat_map spots_of c.deref-in-Free.result.now) = ap (λ (ws : List Want). length (flat_map spots_of ws)) wants in
    let capacity = ap (λ (q : WaiterView). q.room) c.wants.view_is in
    let none = ap length c.wants.invariant in
    let count = c.wants.inside.room.ok.0 in
    omega (arith, room, long, capacity, none, count)

-- the action that was removed
took : (g : given.Over) (c : After-grant_all g) → IsTaken g.J.GroupNames.warehouses c.self.inside.w_id c.self.inside.locks.items c.self.inside.waiters.items c.remove.new.self.items c.remove.result c.in_ok-index.field-0
took g c =
    let next = c.in_ok-index.field-0 in
    let locks = c.self.inside.locks in
    let p = c.remove.result in
    let rest = c.remove.new.self.items in
    let waiters = c.self.inside.waiters.items in
    taken.taken_from g.J.GroupNames.warehouses c.self.inside.w_id locks.items c.deref.result.now waiters c.deref-2.result.now rest p next c.deref.ensures.value c.deref-2.ensures.value c.self.invariant.0 c.self.invariant.1 c.in_ok-index.ensures.next c.remove.ensures.value c.remove.ensures.items

-- its groups are granted
granted : (g : given.Over) (c : After-grant_all g) → Grants c.in_ok-index.field-0.by c.remove.result.wants c.args.self.now c.grant_all.new.claims.items
    (locking c.self.inside.w_id (take c.self.inside.locks.len (c.grant_all.new.locks ++ drop (length c.grant_all.new.locks) c.self.inside.locks.items)) c.remove.new.self.items c.self.inside.entries)
granted g c =
    let next = c.in_ok-index.field-0 in
    let locks = c.self.inside.locks in
    let p = c.remove.result in
    let rest = c.remove.new.self.items in
    let waiters = c.self.inside.waiters.items in
    let t = took g c in
    let wants : c.deref-in-Free.result.now ≡ p.wants = c.deref-in-Free.ensures.value ∙ ap (λ (q : WaiterView). q.wants) c.wants.view_is in
    let wanted = flat_map spots_of c.deref-in-Free.result.now in
    let back = take locks.len (c.grant_all.new.locks ++ drop (length c.grant_all.new.locks) locks.items) in
    let long : length c.grant_all.new.locks ≡ length locks.items = same_length g.J.GroupNames.warehouses next.by wanted c.deref_mut.result.now c.grant_all.new.locks c.grant_all.ensures.granted ∙ ap length c.deref_mut.ensures.value in
    let is = taken.parked_taken g.J.GroupNames.warehouses c.self.inside.w_id locks.items waiters rest p next t in
    let P : List Want → Type 0 = λ ws. c.grant_all.new.claims.items ≡ c.wants.inside.room.items ++ map (claim_at next.by (map stand_in c.deref_mut.result.now)) (flat_map spots_of ws) in
    let Q : List Want → Type 0 = λ ws. AreGranted g.J.GroupNames.warehouses next.by (flat_map spots_of ws) c.deref_mut.result.now c.grant_all.new.locks in
    asks.answered_free g.J.GroupNames.warehouses c.self.inside.w_id next.by.age next.by p.wants c.args.self.now locks.items c.deref_mut.result.now c.grant_all.new.locks back waiters rest c.self.inside.entries c.self.inside.entries c.wants.inside.room.items c.grant_all.new.claims.items c.self.view_is
    c.deref_mut.ensures.value (asks.refilled locks.len locks.items c.grant_all.new.locks locks.ok.0 long) c.wants.invariant c.self.invariant.0 is.can.own
    (taken.said_taken g.J.GroupNames.warehouses c.self.inside.w_id locks.items waiters rest p next Free t c.in-Free.is) (subst P wants c.grant_all.ensures.claims) (subst Q wants c.grant_all.ensures.granted)

pub invariant_of-self : goal.invariant_of-self
invariant_of-self g c =
    let at = goal.at.invariant_of-self g c in
    let next = c.in_ok-index.field-0 in
    let locks = c.self.inside.locks in
    let p = c.remove.result in
    let rest = c.remove.new.self.items in
    let waiters = c.self.inside.waiters.items in
    let t = took g at.After-grant_all in
    let wanted = flat_map spots_of c.deref-in-Free.result.now in
    let back = take locks.len (c.grant_all.new.locks ++ drop (length c.grant_all.new.locks) locks.items) in
    let long : length c.grant_all.new.locks ≡ length locks.items = same_length g.J.GroupNames.warehouses next.by wanted c.deref_mut.result.now c.grant_all.new.locks c.grant_all.ensures.granted ∙ ap length c.deref_mut.ensures.value in (
      asks.still_locks g.J.GroupNames.warehouses c.self.inside.w_id next.by wanted locks.items c.deref_mut.result.now c.grant_all.new.locks back
          c.deref_mut.ensures.value (asks.refilled locks.len locks.items c.grant_all.new.locks locks.ok.0 long) c.self.invariant.0 c.grant_all.ensures.granted,
      taken.rest_parked g.J.GroupNames.warehouses c.self.inside.w_id locks.items waiters rest p next t,
      turn_entered c.self.inside.w_id next.by p.wants locks.items back waiters rest c.self.inside.entries c.self.inside.entries c.grant_all.new.claims.items c.self.invariant.2
          (taken.others g.J.GroupNames.warehouses c.self.inside.w_id locks.items waiters rest p next t)
          (subst (λ (u : LockTableView). Grants next.by p.wants u c.grant_all.new.claims.items (locking c.self.inside.w_id back rest c.self.inside.entries)) (sym c.self.view_is) (granted g at.After-grant_all)),
    )

pub returns-in-Free-clause-turn : goal.returns-in-Free-clause-turn
returns-in-Free-clause-turn g c =
    let at = goal.at.returns-in-Free-clause-turn g c in
    let next = c.in_ok-index.field-0 in
    let locks = c.self.inside.locks in
    let p = c.remove.result in
    let rest = c.remove.new.self.items in
    let back = take locks.len (c.grant_all.new.locks ++ drop (length c.grant_all.new.locks) locks.items) in
    let grants = granted g at.After-grant_all in (
      p.wants,
      taken.turn_taken g.J.GroupNames.warehouses c.self.inside.w_id c.args.self.now locks.items back c.self.inside.waiters.items rest c.self.inside.entries c.self.inside.entries p next c.self.view_is (took g at.After-grant_all),
      grants,
      ap (λ (ss : List Stand). groups_at ss c.self.inside.entries) (grants.stands ∙ sym (ap (λ (u : LockTableView). u.stands) c.self.view_is)) ∙ ap (λ (u : LockTableView). u.entries) c.self.view_is,
    )

pub index-requires : goal.index-requires
index-requires g c =
    let next = c.in_ok-index.field-0 in
    let locks = c.self.inside.locks in
    let t = taken.taken_from g.J.GroupNames.warehouses c.self.inside.w_id locks.items c.deref.result.now c.self.inside.waiters.items c.deref-2.result.now c.remove.new.self.items c.remove.result next c.deref.ensures.value c.deref-2.ensures.value c.self.invariant.0 c.self.invariant.1 c.in_ok-index.ensures.next c.remove.ensures.value c.remove.ensures.items in
    let death = taken.death_taken g.J.GroupNames.warehouses c.self.inside.w_id c.args.self.now locks.items c.self.inside.waiters.items c.remove.new.self.items c.self.inside.entries c.remove.result next c.in-Dies.number c.in-Dies.holder asks.no_lock c.self.view_is t c.in-Dies.is in
    let count = locks.ok.0 in
    omega (arith, death.0, count)

pub keep_used-requires : goal.keep_used-requires
keep_used-requires g c =
    let next = c.in_ok-index.field-0 in
    let locks = c.self.inside.locks in
    let p = c.remove.result in
    let rest = c.remove.new.self.items in
    let waiters = c.self.inside.waiters.items in
    let t = taken.taken_from g.J.GroupNames.warehouses c.self.inside.w_id locks.items c.deref.result.now waiters c.deref-2.result.now rest p next c.deref.ensures.value c.deref-2.ensures.value c.self.invariant.0 c.self.invariant.1 c.in_ok-index.ensures.next c.remove.ensures.value c.remove.ensures.items in
    let parked = taken.rest_parked g.J.GroupNames.warehouses c.self.inside.w_id locks.items waiters rest p next t in
    record {
      places = c.self.invariant.2.inside;
      all = ap length c.deref-in-Dies.ensures.value ∙ c.self.invariant.0.all_there;
      there = subst (All (IsParkedThere g.J.GroupNames.warehouses)) (sym c.deref-in-Dies-2.ensures.value) (all_there g.J.GroupNames.warehouses c.self.inside.w_id rest parked);
    }

-- the entries that are left
kept : (g : given.Over) (c : After-keep_used g) → c.keep_used.new.entries ≡ filter (is_used_at c.self.inside.locks.items c.remove.new.self.items) c.self.inside.entries
kept g c =
    let locks : c.deref-in-Dies.result.now ≡ c.self.inside.locks.items = c.deref-in-Dies.ensures.value in
    let rest : c.deref-in-Dies-2.result.now ≡ c.remove.new.self.items = c.deref-in-Dies-2.ensures.value in
    c.keep_used.ensures ∙ (λ i. filter (is_used_at (locks i) (rest i)) c.self.inside.entries)

pub invariant_of-self-in-Dies : goal.invariant_of-self-in-Dies
invariant_of-self-in-Dies g c =
    let next = c.in_ok-index.field-0 in
    let locks = c.self.inside.locks in
    let p = c.remove.result in
    let rest = c.remove.new.self.items in
    let waiters = c.self.inside.waiters.items in
    let t = taken.taken_from g.J.GroupNames.warehouses c.self.inside.w_id locks.items c.deref.result.now waiters c.deref-2.result.now rest p next c.deref.ensures.value c.deref-2.ensures.value c.self.invariant.0 c.self.invariant.1 c.in_ok-index.ensures.next c.remove.ensures.value c.remove.ensures.items in
    let parked = taken.rest_parked g.J.GroupNames.warehouses c.self.inside.w_id locks.items waiters rest p next t in (
      c.self.invariant.0,
      parked,
      subst (AreEntryPlaces c.self.inside.w_id locks.items rest) (sym (kept g (goal.at.invariant_of-self-in-Dies g c).After-keep_used))
          (death_entered g.J.GroupNames.warehouses c.self.inside.w_id next.by p.wants locks.items waiters rest c.self.inside.entries c.self.invariant.0 parked c.self.invariant.2 (taken.others g.J.GroupNames.warehouses c.self.inside.w_id locks.items waiters rest p next t)),
    )

pub returns-in-Dies-clause-turn : goal.returns-in-Dies-clause-turn
returns-in-Dies-clause-turn g c =
    let next = c.in_ok-index.field-0 in
    let locks = c.self.inside.locks.items in
    let p = c.remove.result in
    let rest = c.remove.new.self.items in
    let waiters = c.self.inside.waiters.items in
    let t = taken.taken_from g.J.GroupNames.warehouses c.self.inside.w_id locks c.deref.result.now waiters c.deref-2.result.now rest p next c.deref.ensures.value c.deref-2.ensures.value c.self.invariant.0 c.self.invariant.1 c.in_ok-index.ensures.next c.remove.ensures.value c.remove.ensures.items in
    let death = taken.death_taken g.J.GroupNames.warehouses c.self.inside.w_id c.args.self.now locks waiters rest c.self.inside.entries p next c.in-Dies.number c.in-Dies.holder c.index.result.now c.self.view_is t c.in-Dies.is in
    let same : (get_or locks c.in-Dies.number c.index.result.now).ticket_box.group ≡ c.group.result = ap (λ (l : LockView). l.ticket_box.group) (sym c.index.ensures) ∙ sym c.group.ensures in
    let P : Group → Type 0 = λ group. MustDie c.args.self.now.holdings next.by.age p.wants group c.in-Dies.holder in (
      p.wants,
      taken.turn_taken g.J.GroupNames.warehouses c.self.inside.w_id c.args.self.now locks locks waiters rest c.self.inside.entries c.keep_used.new.entries p next c.self.view_is t,
      subst P same death.1,
      death_table g.J.GroupNames.warehouses c.self.inside.w_id c.args.self.now locks waiters rest c.self.inside.entries c.keep_used.new.entries c.self.view_is c.self.invariant.0
          (taken.rest_parked g.J.GroupNames.warehouses c.self.inside.w_id locks waiters rest p next t) c.self.invariant.2.inside (kept g (goal.at.returns-in-Dies-clause-turn g c).After-keep_used),
    )
