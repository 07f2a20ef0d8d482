use Rattle.std.proofs.Common.{◌≡◌, ◌++◌, ◌∷◌, [], ℕ, List, Result, Ok, Err, sym, ap, subst, ◌∙◌}
use Rattle.std.specs.Prelude.{All, OnErr}
use Rattle.requests.specs.declared.group.Group.{Group}
use Rattle.groups.specs.declared.wants.Want.{Want}
use Rattle.wait_die.specs.declared.deciding.Holder.{Holder}
use Rattle.local_locks.specs.declared.table.Asked.{Asked}
use Rattle.local_locks.specs.declared.table.Asked.TheVariants.{Waits}
use Rattle.local_locks.specs.Asking.{AnswersAtOnce}
use Rattle.local_locks.specs.Conflicts.{MustDie, MustWait}
use Rattle.local_locks.specs.EntryPlaces.{AreEntryPlaces, with_wanted}
use Rattle.local_locks.specs.LockTableView.{LockTableView}
use Rattle.local_locks.specs.Locks.{IsParked, WaiterView, waiter_view}
use Rattle.local_locks.specs.GroupWants.{CanAsk}
use Rattle.local_locks.proofs.Apartness.{few_places}
use Rattle.local_locks.proofs.Asks as asks
use Rattle.local_locks.proofs.Entered.{waiting_entered, waits_more}
use Rattle.local_locks.proofs.table.LockTable.ask.Given as given
use Rattle.local_locks.proofs.table.LockTable.ask.Goals as goal
use Rattle.local_locks.proofs.table.LockTable.ask.Goals.{After-push_reserved}

on_err : {T E : Type 0} (r : Result T E) (P : Type 0) → P → OnErr r P
on_err (Ok x) P p = tt
on_err (Err e) P p = p

-- an action that has to wait gets `Waits`, and nothing has changed
recorded_to_wait : {J : Type 0} (by : Holder) (wants : List Want) (old new : LockTableView) (answered : Asked J) → answered ≡ Waits → AnswersAtOnce by wants old answered new → MustWait old.holdings by.age wants × (new ≡ old)
recorded_to_wait {J} by wants old new answered is answers = subst (λ (a : Asked J). AnswersAtOnce by wants old a new) is answers

-- so what is asked is asked of this warehouse still
still_own : (warehouses w_id : ℕ) (old new : LockTableView) (wants : List Want) → w_id ≡ new.w_id → new ≡ old → CanAsk warehouses old.w_id wants → CanAsk warehouses w_id wants
still_own warehouses w_id old new wants here same can = subst (λ (w : ℕ). CanAsk warehouses w wants) (sym (here ∙ ap (λ (t : LockTableView). t.w_id) same)) can

-- and for what has to wait nothing dies
no_death : {J : Type 0} (by : Holder) (wants : List Want) (old new : LockTableView) (answered : Asked J) → answered ≡ Waits → AnswersAtOnce by wants old answered new
    → (group : Group) (oldest : ℕ) → MustDie old.holdings by.age wants group oldest → ⊥
no_death by wants old new answered is answers group oldest death =
    asks.wait_is_no_death old.holdings by.age wants group oldest (recorded_to_wait by wants old new answered is answers).0 death

pub count_of-requires-clause-few : goal.count_of-requires-clause-few
count_of-requires-clause-few g c =
    let waits = recorded_to_wait c.args.by c.args.wants.now c.args.self.now c.ask_at_once.new.self c.in_ok-answered.answered c.in-Waits.is c.in_ok-answered.ensures.answers in
    let can = still_own g.J.GroupNames.warehouses c.self.inside.w_id c.args.self.now c.ask_at_once.new.self c.args.wants.now (ap (λ (t : LockTableView). t.w_id) c.self.view_is) waits.1 c.requires in
    few_places g.J.GroupNames.warehouses c.self.inside.w_id c.self.inside.locks.items c.args.wants.now c.self.invariant.0 can.own can.once

pub returns-in_err-waiter-in-Waits-clause-death_takes_none : goal.returns-in_err-waiter-in-Waits-clause-death_takes_none
returns-in_err-waiter-in-Waits-clause-death_takes_none g c =
    on_err c.from_residual-in_err-waiter-in-Waits.result _ (no_death c.args.by c.args.wants.now c.args.self.now c.ask_at_once.new.self c.in_ok-answered.answered c.in-Waits.is c.in_ok-answered.ensures.answers)

pub returns-in_err-reserve-in-Waits-clause-death_takes_none : goal.returns-in_err-reserve-in-Waits-clause-death_takes_none
returns-in_err-reserve-in-Waits-clause-death_takes_none g c =
    on_err c.from_residual-in_err-reserve-in-Waits.result _ (no_death c.args.by c.args.wants.now c.args.self.now c.ask_at_once.new.self c.in_ok-answered.answered c.in-Waits.is c.in_ok-answered.ensures.answers)

pub returns-in_err-enter-in-Waits-clause-death_takes_none : goal.returns-in_err-enter-in-Waits-clause-death_takes_none
returns-in_err-enter-in-Waits-clause-death_takes_none g c =
    on_err c.from_residual-in_err-enter-in-Waits.result _ (no_death c.args.by c.args.wants.now c.args.self.now c.ask_at_once.new.self c.in_ok-answered.answered c.in-Waits.is c.in_ok-answered.ensures.answers)

pub invariant_of-self-in_err-enter-in-Waits : goal.invariant_of-self-in_err-enter-in-Waits
invariant_of-self-in_err-enter-in-Waits g c =
    let same : c.reserve.new.self.items ≡ c.self.inside.waiters.items = c.reserve.ensures.items in (
      c.self.invariant.0,
      subst (All (IsParked g.J.GroupNames.warehouses c.self.inside.w_id)) (sym same) c.self.invariant.1,
      subst (λ (ws : List WaiterView). AreEntryPlaces c.self.inside.w_id c.self.inside.locks.items ws c.enter.new.self) (sym same)
          (subst (AreEntryPlaces c.self.inside.w_id c.self.inside.locks.items c.self.inside.waiters.items) (sym c.in_err-enter-in-Waits.ensures.err) c.self.invariant.2),
    )

-- one more waits
waiters_are : (g : given.Over) (c : After-push_reserved g) → c.push_reserved.new.self.items ≡ c.self.inside.waiters.items ++ waiter_view c.args.by c.args.wants.now c.count_of.result ∷ []
waiters_are g c =
    let same : c.reserve.new.self.items ≡ c.self.inside.waiters.items = c.reserve.ensures.items in
    let is : c.in_ok-waiter-in-Waits.waiter ≡ waiter_view c.args.by c.args.wants.now c.count_of.result = c.in_ok-waiter-in-Waits.ensures in
    c.push_reserved.ensures.items ∙ (λ i. same i ++ is i ∷ [])

-- and its groups have entries
entries_are : (g : given.Over) (c : After-push_reserved g) → c.enter.new.self ≡ with_wanted c.args.wants.now c.self.inside.entries
entries_are g c = c.in_ok-enter-in-Waits.ensures.entered

pub invariant_of-self-in-Waits : goal.invariant_of-self-in-Waits
invariant_of-self-in-Waits g c =
    let at = goal.at.invariant_of-self-in-Waits g c in
    let waits = recorded_to_wait c.args.by c.args.wants.now c.args.self.now c.ask_at_once.new.self c.in_ok-answered.answered c.in-Waits.is c.in_ok-answered.ensures.answers in
    let can = still_own g.J.GroupNames.warehouses c.self.inside.w_id c.args.self.now c.ask_at_once.new.self c.args.wants.now (ap (λ (t : LockTableView). t.w_id) c.self.view_is) waits.1 c.requires in
    let home = asks.home_there g.J.GroupNames.warehouses c.self.inside.w_id c.self.inside.locks.items c.self.invariant.0 in
    let more = asks.parked_more g.J.GroupNames.warehouses c.self.inside.w_id c.self.inside.waiters.items c.args.by c.args.wants.now c.count_of.result c.self.invariant.1 can home c.count_of.ensures in
    let entries = waiting_entered g.J.GroupNames.warehouses c.self.inside.w_id c.self.inside.locks.items c.self.inside.waiters.items c.self.inside.entries c.args.by c.args.wants.now c.count_of.result c.self.invariant.0 c.self.invariant.2 can.own in (
      c.self.invariant.0,
      subst (All (IsParked g.J.GroupNames.warehouses c.self.inside.w_id)) (sym (waiters_are g at.After-push_reserved)) more,
      subst (λ (ws : List WaiterView). AreEntryPlaces c.self.inside.w_id c.self.inside.locks.items ws c.enter.new.self) (sym (waiters_are g at.After-push_reserved))
          (subst (AreEntryPlaces c.self.inside.w_id c.self.inside.locks.items (c.self.inside.waiters.items ++ waiter_view c.args.by c.args.wants.now c.count_of.result ∷ [])) (sym (entries_are g at.After-push_reserved)) entries),
    )

pub returns-in_ok-enter-in-Waits-clause-answers : goal.returns-in_ok-enter-in-Waits-clause-answers
returns-in_ok-enter-in-Waits-clause-answers g c =
    let at = goal.at.returns-in_ok-enter-in-Waits-clause-answers g c in
    let waits = recorded_to_wait c.args.by c.args.wants.now c.args.self.now c.ask_at_once.new.self c.in_ok-answered.answered c.in-Waits.is c.in_ok-answered.ensures.answers in
    let can = still_own g.J.GroupNames.warehouses c.self.inside.w_id c.args.self.now c.ask_at_once.new.self c.args.wants.now (ap (λ (t : LockTableView). t.w_id) c.self.view_is) waits.1 c.requires in
    let locks = c.self.inside.locks.items in
    let waiters = c.self.inside.waiters.items in (
      waits.0,
      waits_more g.J.GroupNames.warehouses c.self.inside.w_id c.args.self.now locks waiters c.push_reserved.new.self.items c.self.inside.entries c.enter.new.self c.args.by c.args.wants.now c.count_of.result
          (c.self.view_is ∙ waits.1) c.self.invariant.0 c.self.invariant.2.inside can.own (waiters_are g at.After-push_reserved) (entries_are g at.After-push_reserved),
    )
