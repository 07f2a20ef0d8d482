use Rattle.std.proofs.Common.{rules, ◌≡◌, [], ◌∷◌, ℕ, List, length, map, refl, subst, ◌∙◌, sym, arith}
use Rattle.std.specs.Prelude.{All}
use Rattle.std.proofs.lemmas.List.Elements.{All-nil, All-tail}
use Rattle.tickets.specs.Boxes.{TicketBoxView}
use Rattle.local_locks.specs.Locks.{LockView, WaiterView, AreLocksOf, IsParked, locking}
use Rattle.local_locks.specs.EntryPlaces.{AreEntryPlaces}
use Rattle.local_locks.proofs.EntryReturns.{none_entered}
use Rattle.local_locks.proofs.Opened.{IsIdle, all_opened, new_lock, one_more, opened_locks, opened_table}
use Rattle.local_locks.proofs.table.LockTable.open.Goals as goal

none_left : (boxes : List TicketBoxView) → length boxes ≡ 0 → boxes ≡ []
none_left [] none = refl
none_left (b ∷ boxes) none = absurd (omega (arith, none))

transp_entries : (w_id : ℕ) (made locks : List LockView) (waiters : List WaiterView) (places : List ℕ) → locks ≡ made → waiters ≡ [] → places ≡ [] → AreEntryPlaces w_id made [] [] → AreEntryPlaces w_id locks waiters places
transp_entries w_id made locks waiters places all none_wait none entries =
    subst (λ (ls : List LockView). AreEntryPlaces w_id ls waiters places) (sym all)
    (subst (λ (ws : List WaiterView). AreEntryPlaces w_id made ws places) (sym none_wait) (subst (AreEntryPlaces w_id made []) (sym none) entries))

pub loop-ticket_box-preserved : goal.loop-ticket_box-preserved
loop-ticket_box-preserved g c =
    let rest : c.loop-ticket_box.ticket_box-iterator.rest.items ≡ c.in-Some.ticket_box ∷ c.next.new.self.rest.items = search rules in
    record {
      can_next = tt;
      finite = tt;
      boxes = one_more c.args.boxes.items c.loop-ticket_box.ticket_box-iterator.rest.items c.next.new.self.rest.items c.loop-ticket_box.locks.items c.push.new.self.items c.in-Some.ticket_box c.new.result
          c.loop-ticket_box.invariant.boxes rest c.in_ok-push.ensures.items c.new.ensures;
      idle = All-tail IsIdle c.in-Some.ticket_box c.next.new.self.rest.items (subst (All IsIdle) rest c.loop-ticket_box.invariant.idle);
    }

pub invariant_of-result : goal.invariant_of-result
invariant_of-result g c =
    let rest = c.loop-ticket_box.ticket_box-iterator.rest in
    let none : rest.items ≡ [] = none_left rest.items (let long = rest.ok in omega (arith, c.in-None.ensures.steps.0, long)) in
    let all = all_opened c.args.boxes.items rest.items c.loop-ticket_box.locks.items c.loop-ticket_box.invariant.boxes none in
    let P : List LockView → Type 0 = λ ls. AreLocksOf g.J.GroupNames.warehouses c.args.w_id ls in
    let Q : List WaiterView → Type 0 = λ ws. All (IsParked g.J.GroupNames.warehouses c.args.w_id) ws in
    let none_wait : c.new-2.result.items ≡ [] = c.new-2.ensures.items in
    let none_entered_yet : c.in_ok-open.field-0 ≡ [] = c.in_ok-open.ensures in (
      subst P (sym all) (opened_locks g.J.GroupNames.warehouses c.args.w_id c.args.boxes.items c.requires),
      subst Q (sym none_wait) (All-nil (IsParked g.J.GroupNames.warehouses c.args.w_id)),
      transp_entries c.args.w_id (map new_lock c.args.boxes.items) c.loop-ticket_box.locks.items c.new-2.result.items c.in_ok-open.field-0 all none_wait none_entered_yet (none_entered c.args.w_id c.args.boxes.items),
    )

pub returns : goal.returns
returns g c =
    let rest = c.loop-ticket_box.ticket_box-iterator.rest in
    let none : rest.items ≡ [] = none_left rest.items (let long = rest.ok in omega (arith, c.in-None.ensures.steps.0, long)) in
    let all = all_opened c.args.boxes.items rest.items c.loop-ticket_box.locks.items c.loop-ticket_box.invariant.boxes none in
    let none_wait : c.new-2.result.items ≡ [] = c.new-2.ensures.items in
    let none_entered_yet : c.in_ok-open.field-0 ≡ [] = c.in_ok-open.ensures in
    (λ i. locking c.args.w_id (all i) (none_wait i) (none_entered_yet i)) ∙ opened_table c.args.w_id c.args.boxes.items
