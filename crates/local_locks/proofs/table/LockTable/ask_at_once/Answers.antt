use Rattle.std.proofs.Common.{◌≡◌, ◌++◌, ℕ, List, Result, Ok, Err, length, take, drop, get_or, refl, sym, ap, subst, ◌∙◌}
use Rattle.std.specs.Prelude.{All, OnErr}
use Rattle.std.specs.List.{flat_map}
use Rattle.std.proofs.lemmas.List.Elements.{All-weaker}
use Rattle.requests.specs.declared.group.Group.{Group}
use Rattle.groups.specs.declared.wants.Want.{Want}
use Rattle.local_locks.specs.declared.rulings.Ruling.TheVariants.{Free, Waits, Dies}
use Rattle.local_locks.specs.LockTableView.{LockTableView}
use Rattle.local_locks.specs.Conflicts.{IsFree, MustWait, MustDie}
use Rattle.local_locks.specs.Asking.{Grants}
use Rattle.local_locks.specs.Entries.{entered}
use Rattle.local_locks.specs.EntryPlaces.{with_wanted}
use Rattle.local_locks.specs.GroupWants.{IsOwn, IsWanted, CanAsk}
use Rattle.local_locks.specs.Locks.{LockView, WaiterView, groups_at, holdings_of, locking, AreLocksOf}
use Rattle.local_locks.specs.Rulings.{IsRuling, spots_of}
use Rattle.local_locks.proofs.Apartness.{few_places, places_apart}
use Rattle.local_locks.proofs.Asks as asks
use Rattle.local_locks.proofs.Asks.{no_lock}
use Rattle.local_locks.proofs.Entered.{entered_places, granted_entered}
use Rattle.local_locks.proofs.Grants.{same_length}
use Rattle.local_locks.proofs.Views.{records_free, records_wait, records_death}
use Rattle.local_locks.proofs.table.LockTable.ask_at_once.Given as given
use Rattle.local_locks.proofs.table.LockTable.ask_at_once.Goals as goal
use Rattle.local_locks.proofs.table.LockTable.ask_at_once.Goals.{After-grant_all}

on_err : {T E : Type 0} (r : Result T E) (P : Type 0) → P → OnErr r P
on_err (Ok x) P p = tt
on_err (Err e) P p = p

-- what is asked is asked of this warehouse
own_of : (warehouses w_id : ℕ) (table : LockTableView) (locks : List LockView) (waiters : List WaiterView) (places : List ℕ) (wants : List Want) → locking w_id locks waiters places ≡ table → CanAsk warehouses table.w_id wants → CanAsk warehouses w_id wants
own_of warehouses w_id table locks waiters places wants view can =
    subst (λ (w : ℕ). CanAsk warehouses w wants) (sym (ap (λ (t : LockTableView). t.w_id) view)) can

no_death_free : (warehouses w_id age : ℕ) (table : LockTableView) (locks shown : List LockView) (waiters : List WaiterView) (places : List ℕ) (wants : List Want) → locking w_id locks waiters places ≡ table → shown ≡ locks → AreLocksOf warehouses w_id locks
    → IsRuling age shown (flat_map spots_of wants) Free → (group : Group) (oldest : ℕ) → MustDie table.holdings age wants group oldest → ⊥
no_death_free warehouses w_id age table locks shown waiters places wants view showing are free group oldest death =
    let P : List LockView → Type 0 = λ ls. IsRuling age ls (flat_map spots_of wants) Free in
    let Q : LockTableView → Type 0 = λ t. IsFree t.holdings wants in
    asks.free_is_no_death table.holdings age wants group oldest (subst Q view (records_free warehouses w_id locks wants age are (subst P showing free))) death

waits_of : (warehouses w_id age : ℕ) (table : LockTableView) (locks shown : List LockView) (waiters : List WaiterView) (places : List ℕ) (wants : List Want) → locking w_id locks waiters places ≡ table → shown ≡ locks → AreLocksOf warehouses w_id locks
    → All (IsOwn warehouses w_id) wants → IsRuling age shown (flat_map spots_of wants) Waits → MustWait table.holdings age wants
waits_of warehouses w_id age table locks shown waiters places wants view showing are own waits =
    let P : List LockView → Type 0 = λ ls. IsRuling age ls (flat_map spots_of wants) Waits in
    let Q : LockTableView → Type 0 = λ t. MustWait t.holdings age wants in
    subst Q view (records_wait warehouses w_id locks wants age no_lock are own (subst P showing waits))

dies_of : (warehouses w_id age : ℕ) (table : LockTableView) (locks shown : List LockView) (waiters : List WaiterView) (places : List ℕ) (wants : List Want) (number oldest : ℕ) (lock : LockView) (group : Group) → locking w_id locks waiters places ≡ table → shown ≡ locks
    → AreLocksOf warehouses w_id locks → All (IsOwn warehouses w_id) wants → IsRuling age shown (flat_map spots_of wants) (Dies number oldest) → lock ≡ get_or locks number lock → group ≡ lock.ticket_box.group → MustDie table.holdings age wants group oldest
dies_of warehouses w_id age table locks shown waiters places wants number oldest lock group view showing are own dies is named =
    let P : List LockView → Type 0 = λ ls. IsRuling age ls (flat_map spots_of wants) (Dies number oldest) in
    let Q : LockTableView → Type 0 = λ t. MustDie t.holdings age wants group oldest in
    let R : Group → Type 0 = λ own. MustDie (flat_map holdings_of locks) age wants own oldest in
    let same : (get_or locks number lock).ticket_box.group ≡ group = ap (λ (l : LockView). l.ticket_box.group) (sym is) ∙ sym named in
    subst Q view (subst R same (records_death warehouses w_id locks wants age number oldest lock are own (subst P showing dies)).1)

pub count_of-requires-clause-few : goal.count_of-requires-clause-few
count_of-requires-clause-few g c =
    let can = own_of g.J.GroupNames.warehouses c.self.inside.w_id c.args.self.now c.self.inside.locks.items c.self.inside.waiters.items c.self.inside.entries c.args.wants.now c.self.view_is c.requires in
    few_places g.J.GroupNames.warehouses c.self.inside.w_id c.self.inside.locks.items c.args.wants.now c.self.invariant.0 can.own can.once

pub returns-in_err-claims-in-Free-clause-death_takes_none : goal.returns-in_err-claims-in-Free-clause-death_takes_none
returns-in_err-claims-in-Free-clause-death_takes_none g c =
    on_err c.from_residual.result _
    (no_death_free g.J.GroupNames.warehouses c.self.inside.w_id c.args.by.age c.args.self.now c.self.inside.locks.items c.deref.result.now c.self.inside.waiters.items c.self.inside.entries c.args.wants.now c.self.view_is c.deref.ensures.value c.self.invariant.0 c.in-Free.ensures)

pub grant_all-requires-clause-open : goal.grant_all-requires-clause-open
grant_all-requires-clause-open g c =
    let P : List LockView → Type 0 = λ ls. IsRuling c.args.by.age ls (flat_map spots_of c.args.wants.now) Free in
    asks.all_open c.args.by.age c.deref_mut.result.now (flat_map spots_of c.args.wants.now) (subst P (c.deref.ensures.value ∙ sym c.deref_mut.ensures.value) c.in-Free.ensures)

pub grant_all-requires-clause-once : goal.grant_all-requires-clause-once
grant_all-requires-clause-once g c =
    let can = own_of g.J.GroupNames.warehouses c.self.inside.w_id c.args.self.now c.self.inside.locks.items c.self.inside.waiters.items c.self.inside.entries c.args.wants.now c.self.view_is c.requires in
    places_apart g.J.GroupNames.warehouses c.self.inside.w_id c.self.inside.locks.items c.args.wants.now c.self.invariant.0 can.own can.once

pub returns-in_err-enter-in-Free-clause-death_takes_none : goal.returns-in_err-enter-in-Free-clause-death_takes_none
returns-in_err-enter-in-Free-clause-death_takes_none g c =
    on_err c.from_residual-in_err-enter-in-Free.result _
    (no_death_free g.J.GroupNames.warehouses c.self.inside.w_id c.args.by.age c.args.self.now c.self.inside.locks.items c.deref.result.now c.self.inside.waiters.items c.self.inside.entries c.args.wants.now c.self.view_is c.deref.ensures.value c.self.invariant.0 c.in-Free.ensures)

pub grant_all-requires-clause-there : goal.grant_all-requires-clause-there
grant_all-requires-clause-there g c =
    let can = own_of g.J.GroupNames.warehouses c.self.inside.w_id c.args.self.now c.self.inside.locks.items c.self.inside.waiters.items c.self.inside.entries c.args.wants.now c.self.view_is c.requires in
    All-weaker (IsOwn g.J.GroupNames.warehouses c.self.inside.w_id) (IsWanted g.J.GroupNames.warehouses) (λ want own. own.0) c.args.wants.now can.own

-- the groups are granted
granted : (g : given.Over) (c : After-grant_all g) → Grants c.args.by c.args.wants.now c.args.self.now c.grant_all.new.claims.items
    (locking c.self.inside.w_id (take c.self.inside.locks.len (c.grant_all.new.locks ++ drop (length c.grant_all.new.locks) c.self.inside.locks.items)) c.self.inside.waiters.items c.enter.new.self)
granted g c =
    let can = own_of g.J.GroupNames.warehouses c.self.inside.w_id c.args.self.now c.self.inside.locks.items c.self.inside.waiters.items c.self.inside.entries c.args.wants.now c.self.view_is c.requires in
    let locks = c.self.inside.locks in
    let long : length c.grant_all.new.locks ≡ length locks.items = same_length g.J.GroupNames.warehouses c.args.by (flat_map spots_of c.args.wants.now) c.deref_mut.result.now c.grant_all.new.locks c.grant_all.ensures.granted ∙ ap length c.deref_mut.ensures.value in
    let P : List LockView → Type 0 = λ ls. IsRuling c.args.by.age ls (flat_map spots_of c.args.wants.now) Free in
    asks.answered_free g.J.GroupNames.warehouses c.self.inside.w_id c.args.by.age c.args.by c.args.wants.now c.args.self.now locks.items c.deref_mut.result.now c.grant_all.new.locks (take locks.len (c.grant_all.new.locks ++ drop (length c.grant_all.new.locks) locks.items))
    c.self.inside.waiters.items c.self.inside.waiters.items c.self.inside.entries c.enter.new.self c.in_ok-claims-in-Free.claims.items c.grant_all.new.claims.items c.self.view_is c.deref_mut.ensures.value (asks.refilled locks.len locks.items c.grant_all.new.locks locks.ok.0 long)
    c.in_ok-claims-in-Free.ensures.items c.self.invariant.0 can.own (subst P c.deref.ensures.value c.in-Free.ensures) c.grant_all.ensures.claims c.grant_all.ensures.granted

-- and have entries
entries_are : (g : given.Over) (c : After-grant_all g) → c.enter.new.self ≡ with_wanted c.args.wants.now c.self.inside.entries
entries_are g c = c.in_ok-enter-in-Free.ensures.entered

pub invariant_of-self-in-Free : goal.invariant_of-self-in-Free
invariant_of-self-in-Free g c =
    let at = goal.at.invariant_of-self-in-Free g c in
    let locks = c.self.inside.locks in
    let long : length c.grant_all.new.locks ≡ length locks.items = same_length g.J.GroupNames.warehouses c.args.by (flat_map spots_of c.args.wants.now) c.deref_mut.result.now c.grant_all.new.locks c.grant_all.ensures.granted ∙ ap length c.deref_mut.ensures.value in
    let back = take locks.len (c.grant_all.new.locks ++ drop (length c.grant_all.new.locks) locks.items) in
    let can = own_of g.J.GroupNames.warehouses c.self.inside.w_id c.args.self.now locks.items c.self.inside.waiters.items c.self.inside.entries c.args.wants.now c.self.view_is c.requires in (
      asks.still_locks g.J.GroupNames.warehouses c.self.inside.w_id c.args.by (flat_map spots_of c.args.wants.now) locks.items c.deref_mut.result.now c.grant_all.new.locks back
          c.deref_mut.ensures.value (asks.refilled locks.len locks.items c.grant_all.new.locks locks.ok.0 long) c.self.invariant.0 c.grant_all.ensures.granted,
      c.self.invariant.1,
      granted_entered g.J.GroupNames.warehouses c.self.inside.w_id c.args.by c.args.wants.now locks.items back c.self.inside.waiters.items c.self.inside.entries c.enter.new.self c.grant_all.new.claims.items c.self.invariant.0 c.self.invariant.2 can.own
          (subst (λ (t : LockTableView). Grants c.args.by c.args.wants.now t c.grant_all.new.claims.items (locking c.self.inside.w_id back c.self.inside.waiters.items c.enter.new.self)) (sym c.self.view_is) (granted g at.After-grant_all))
          (entries_are g at.After-grant_all),
    )

pub returns-in_ok-enter-in-Free-clause-answers : goal.returns-in_ok-enter-in-Free-clause-answers
returns-in_ok-enter-in-Free-clause-answers g c =
    let at = goal.at.returns-in_ok-enter-in-Free-clause-answers g c in
    let locks = c.self.inside.locks in
    let back = take locks.len (c.grant_all.new.locks ++ drop (length c.grant_all.new.locks) locks.items) in
    let can = own_of g.J.GroupNames.warehouses c.self.inside.w_id c.args.self.now locks.items c.self.inside.waiters.items c.self.inside.entries c.args.wants.now c.self.view_is c.requires in
    let grants = granted g at.After-grant_all in (
      grants,
      ap (λ (t : LockTableView). t.waiters) c.self.view_is,
      (λ i. groups_at ((grants.stands ∙ sym (ap (λ (t : LockTableView). t.stands) c.self.view_is)) i) (entries_are g at.After-grant_all i))
          ∙ entered_places g.J.GroupNames.warehouses c.self.inside.w_id locks.items c.self.inside.waiters.items c.self.inside.entries c.args.wants.now c.self.invariant.0 c.self.invariant.2.inside can.own
          ∙ ap (entered c.args.wants.now) c.self.view_is,
    )

pub returns-in-Waits-clause-answers : goal.returns-in-Waits-clause-answers
returns-in-Waits-clause-answers g c =
    let can = own_of g.J.GroupNames.warehouses c.self.inside.w_id c.args.self.now c.self.inside.locks.items c.self.inside.waiters.items c.self.inside.entries c.args.wants.now c.self.view_is c.requires in (
      waits_of g.J.GroupNames.warehouses c.self.inside.w_id c.args.by.age c.args.self.now c.self.inside.locks.items c.deref.result.now c.self.inside.waiters.items c.self.inside.entries c.args.wants.now c.self.view_is c.deref.ensures.value c.self.invariant.0 can.own c.in-Waits.ensures,
      refl,
    )

pub returns-in-Dies-clause-answers : goal.returns-in-Dies-clause-answers
returns-in-Dies-clause-answers g c =
    let can = own_of g.J.GroupNames.warehouses c.self.inside.w_id c.args.self.now c.self.inside.locks.items c.self.inside.waiters.items c.self.inside.entries c.args.wants.now c.self.view_is c.requires in (
      dies_of g.J.GroupNames.warehouses c.self.inside.w_id c.args.by.age c.args.self.now c.self.inside.locks.items c.deref.result.now c.self.inside.waiters.items c.self.inside.entries c.args.wants.now c.in-Dies.number c.in-Dies.holder c.index.result.now c.group.result
          c.self.view_is c.deref.ensures.value c.self.invariant.0 can.own c.in-Dies.ensures c.index.ensures c.group.ensures,
      refl,
    )
