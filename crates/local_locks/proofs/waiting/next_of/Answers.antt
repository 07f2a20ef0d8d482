use Rattle.std.proofs.Common.{◌≡◌, ◌+◌, List, Option, Some, None, take, refl, sym, ap, subst, ◌∙◌}
use Rattle.std.specs.Prelude.{All, IfNone, MatchOption}
use Rattle.std.specs.List.{flat_map}
use Rattle.std.proofs.lemmas.List.{take_all}
use Rattle.wait_die.specs.declared.deciding.Holder.{Holder}
use Rattle.groups.specs.declared.wants.Want.{Want}
use Rattle.local_locks.specs.declared.waiting.Next.{Next}
use Rattle.local_locks.specs.Locks.{LockView, WaiterView}
use Rattle.local_locks.specs.Rulings.{IsRuling, spots_of}
use Rattle.local_locks.specs.Turns.{IsNext, StaysParked}
use Rattle.local_locks.proofs.Turns.{next_walked}
use Rattle.local_locks.proofs.waiting.next_of.Goals as goal

pub loop-index-preserved : goal.loop-index-preserved
loop-index-preserved g c =
    let locks = c.args.locks.now in
    let p = c.index-waiters-index.result in
    let ruling = c.ruling_on-ruling.result in
    let wants : c.deref.result.now ≡ p.wants = c.deref.ensures.value ∙ ap (λ (q : WaiterView). q.wants) c.waiter.view_is in
    let by : c.waiter.inside.by ≡ p.by = ap (λ (q : WaiterView). q.by) c.waiter.view_is in
    let P : List Want → Type 0 = λ ws. IsRuling c.waiter.inside.by.age locks (flat_map spots_of ws) ruling in
    let Q : Holder → Type 0 = λ h. IsRuling h.age locks (flat_map spots_of p.wants) ruling in
    let said : Q p.by = subst Q by (subst P wants c.ruling_on-ruling.ensures) in
    let R : Option Next → Type 0 = λ found. MatchOption found (All (StaysParked locks) (take (c.loop-index.index + 1) c.args.waiters.now)) (IsNext locks (take (c.loop-index.index + 1) c.args.waiters.now)) in
    subst R (sym c.sooner-next.ensures)
    (next_walked locks c.args.waiters.now c.loop-index.index p c.loop-index.next (record { index = c.loop-index.index; by = c.waiter.inside.by; ruling = ruling })
    c.loop-index-test.true c.index-waiters-index.is c.loop-index.invariant refl by said)

none_left : (locks : List LockView) (found : Option Next) (xs ys : List WaiterView) → xs ≡ ys → MatchOption found (All (StaysParked locks) xs) (IsNext locks xs) → IfNone found (All (StaysParked locks) ys)
none_left locks None xs ys same stays = subst (All (StaysParked locks)) same stays
none_left locks (Some next) xs ys same is = tt

pub returns-clause-none : goal.returns-clause-none
returns-clause-none g c =
    none_left c.args.locks.now c.loop-index.next (take c.loop-index.index c.args.waiters.now) c.args.waiters.now (take_all c.loop-index.index c.args.waiters.now c.loop-index-test.false) c.loop-index.invariant
