use Rattle.std.proofs.Common.{◌≡◌, ℕ, [], ◌∷◌, length, set, length-set, map, refl, sym, ap, subst, ◌∙◌, arith}
use Rattle.std.specs.Prelude.{All, Contains}
use Rattle.std.specs.List.{flat_map}
use Rattle.std.specs.List.Sorted.{IsPermutation}
use Rattle.local_locks.specs.Asking.{held_by, kept_after, AreTogether}
use Rattle.local_locks.specs.Entries.{still_used}
use Rattle.local_locks.specs.EntryPlaces.{AreEntryPlaces, is_used_at, kept_if}
use Rattle.local_locks.specs.LockTableView.{LockTableView, groups_of}
use Rattle.local_locks.specs.Locks.{LockView, groups_at, holdings_of, stand_in, waiting_of}
use Rattle.local_locks.specs.Turns.{IsParkedThere}
use Rattle.local_locks.proofs.Entered.{all_there}
use Rattle.local_locks.proofs.EntryGroups.{groups_kept}
use Rattle.local_locks.proofs.EntryPlaces.{lock_group}
use Rattle.local_locks.proofs.EntryReturns.{IsBackAt, back_entered, back_entries}
use Rattle.local_locks.proofs.Returns.{ComesBack, IsHome, back_held, back_locks, back_out, back_stands, comes_home}
use Rattle.local_locks.proofs.table.LockTable.take_back.Given as given
use Rattle.local_locks.proofs.table.LockTable.take_back.Goals as goal
use Rattle.local_locks.proofs.table.LockTable.take_back.Goals.{After-index_mut, After-leave_if_unused, After-take_back}

-- the lock that was found is that of the claim's group
home : (g : given.Over) (c : After-index_mut g) → IsHome c.self.inside.locks.items c.args.claim c.place_of_claim-number.result c.index_mut.result.now
home g c =
    let own = ap (λ (t : LockTableView). t.w_id) c.self.view_is in
    comes_home g.J.GroupNames.warehouses c.self.inside.w_id c.self.inside.locks.items c.args.claim c.place_of_claim-number.result c.index_mut.result.now c.self.invariant.0 c.place_of_claim-number.ensures.known (c.requires.home ∙ sym own)
    c.place_of_claim-number.ensures.place c.index_mut.ensures.value

comes_back : (g : given.Over) (c : After-take_back g) → IsHome c.self.inside.locks.items c.args.claim c.place_of_claim-number.result c.index_mut.result.now → ComesBack c.index_mut.result.now c.take_back.new.self c.args.claim
comes_back g c is = record {
  agree = c.take_back.ensures.agree.0;
  box = c.take_back.ensures.ticket_box;
  fewer = c.take_back.ensures.fewer;
  holders = c.take_back.ensures.holders;
  group = is.group;
  mode = c.take_back.ensures.mode;
}

pub take_back-requires-clause-group : goal.take_back-requires-clause-group
take_back-requires-clause-group g c = (home g c).group

-- the table's locks and entries once the claim is back
back_at : (g : given.Over) (c : After-take_back g) → IsHome c.self.inside.locks.items c.args.claim c.place_of_claim-number.result c.index_mut.result.now → IsBackAt g.J.GroupNames.warehouses c.self.inside.w_id c.self.inside.locks.items (set c.self.inside.locks.items c.place_of_claim-number.result c.take_back.new.self) c.self.inside.waiters.items
    c.place_of_claim-number.result c.args.claim
back_at g c is =
    let locks = c.self.inside.locks.items in
    let number = c.place_of_claim-number.result in
    let old = c.index_mut.result.now in
    let later = set locks number c.take_back.new.self in
    record {
      before = c.self.invariant.0;
      after = back_locks g.J.GroupNames.warehouses locks number old c.take_back.new.self is.small c.index_mut.ensures.value c.take_back.ensures.ticket_box c.take_back.ensures.agree.1 c.self.inside.w_id c.self.invariant.0;
      all = c.self.invariant.1;
      small = omega (arith, is.small, c.self.invariant.0.all_there);
      group = is.group ∙ ap (λ (l : LockView). l.ticket_box.group) c.index_mut.ensures.value ∙ sym (lock_group locks number old is.small);
      groups = ap groups_of (back_stands g.J.GroupNames.warehouses c.self.inside.w_id locks number old c.take_back.new.self c.args.claim c.self.invariant.0 is.small c.index_mut.ensures.value c.take_back.ensures.ticket_box is.group)
          ∙ groups_kept (kept_after c.args.claim) (λ s. refl) (map stand_in locks);
      out = back_out locks number old c.take_back.new.self c.args.claim is.small c.index_mut.ensures.value (comes_back g c is);
    }

kept : (g : given.Over) (c : After-leave_if_unused g) → c.leave_if_unused.new.entries ≡ kept_if (is_used_at (set c.self.inside.locks.items c.place_of_claim-number.result c.take_back.new.self) c.self.inside.waiters.items c.place_of_claim-number.result) c.place_of_claim-number.result c.self.inside.entries
kept g c =
    let number = c.place_of_claim-number.result in
    let locks : c.deref.result.now ≡ set c.self.inside.locks.items number c.take_back.new.self = c.deref.ensures.value in
    let waiters : c.deref-2.result.now ≡ c.self.inside.waiters.items = c.deref-2.ensures.value in
    c.leave_if_unused.ensures ∙ (λ i. kept_if (is_used_at (locks i) (waiters i) number) number c.self.inside.entries)

pub leave_if_unused-requires : goal.leave_if_unused-requires
leave_if_unused-requires g c =
    let is = home g (goal.at.leave_if_unused-requires g c).After-index_mut in
    let long = length-set c.self.inside.locks.items c.place_of_claim-number.result c.take_back.new.self in
    record {
      place = omega (arith, is.small, long, ap {B = ℕ} length c.deref.ensures.value);
      there = subst (All (IsParkedThere g.J.GroupNames.warehouses)) (sym c.deref-2.ensures.value) (all_there g.J.GroupNames.warehouses c.self.inside.w_id c.self.inside.waiters.items c.self.invariant.1);
    }

pub invariant_of-self : goal.invariant_of-self
invariant_of-self g c =
    let at = goal.at.invariant_of-self g c in
    let back = back_at g at.After-take_back (home g at.After-index_mut) in
    let locks = c.self.inside.locks.items in
    let later = set locks c.place_of_claim-number.result c.take_back.new.self in (
      back.after,
      c.self.invariant.1,
      subst (AreEntryPlaces c.self.inside.w_id later c.self.inside.waiters.items) (sym (kept g at.After-leave_if_unused))
          (back_entered g.J.GroupNames.warehouses c.self.inside.w_id locks later c.self.inside.waiters.items c.place_of_claim-number.result c.args.claim c.self.inside.entries back c.self.invariant.2),
    )

pub returns-clause-entries : goal.returns-clause-entries
returns-clause-entries g c =
    let at = goal.at.returns-clause-entries g c in
    let locks = c.self.inside.locks.items in
    let later = set locks c.place_of_claim-number.result c.take_back.new.self in
    let stays = still_used (flat_map holdings_of later) (map waiting_of c.self.inside.waiters.items) in
    ap (groups_at (map stand_in later)) (kept g at.After-leave_if_unused)
    ∙ back_entries g.J.GroupNames.warehouses c.self.inside.w_id locks later c.self.inside.waiters.items c.place_of_claim-number.result c.args.claim c.self.inside.entries (back_at g at.After-take_back (home g at.After-index_mut)) c.self.invariant.2
    ∙ ap (λ (t : LockTableView). stays t.entries) c.self.view_is

pub returns-clause-out : goal.returns-clause-out
returns-clause-out g c =
    let at = goal.at.returns-clause-out g c in
    let is = home g at.After-index_mut in
    let locks = c.self.inside.locks.items in
    let later = flat_map holdings_of (set locks c.place_of_claim-number.result c.take_back.new.self) in
    subst (λ (t : LockTableView). AreTogether t.holdings (held_by c.args.claim ∷ []) later) c.self.view_is
    (back_out locks c.place_of_claim-number.result c.index_mut.result.now c.take_back.new.self c.args.claim is.small c.index_mut.ensures.value (comes_back g at.After-take_back is))

pub returns-clause-holdings : goal.returns-clause-holdings
returns-clause-holdings g c =
    let at = goal.at.returns-clause-holdings g c in
    let is = home g at.After-index_mut in
    let locks = c.self.inside.locks.items in
    let later = flat_map holdings_of (set locks c.place_of_claim-number.result c.take_back.new.self) in
    subst (λ (t : LockTableView). Contains t.holdings (held_by c.args.claim) → IsPermutation t.holdings (held_by c.args.claim ∷ later)) c.self.view_is
    (λ out. back_held locks c.place_of_claim-number.result c.index_mut.result.now c.take_back.new.self c.args.claim is.small c.index_mut.ensures.value (comes_back g at.After-take_back is) (is.held out))

pub returns-clause-stands : goal.returns-clause-stands
returns-clause-stands g c =
    let is = home g (goal.at.returns-clause-stands g c).After-index_mut in
    let locks = c.self.inside.locks.items in
    back_stands g.J.GroupNames.warehouses c.self.inside.w_id locks c.place_of_claim-number.result c.index_mut.result.now c.take_back.new.self c.args.claim c.self.invariant.0 is.small c.index_mut.ensures.value c.take_back.ensures.ticket_box is.group
    ∙ ap (λ (t : LockTableView). map (kept_after c.args.claim) t.stands) c.self.view_is
