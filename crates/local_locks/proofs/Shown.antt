-- The claims on the group at a place are those of its lock, and the actions that wait for it are those that want its place.
use Rattle.std.proofs.Common.{◌≡◌, ℕ, zero, suc, ◌<◌, ◌≤◌, Bool, true, false, eqb, not, List, [], ◌∷◌, ◌++◌, Some, None, length, get_or, map, refl, sym, ap, subst, ◌∙◌, append-nil, cond, ⊎_elim, arith}
use Rattle.std.specs.Prelude.{All, filter, slice_get}
use Rattle.std.specs.List.{flat_map}
use Rattle.std.proofs.lemmas.Bool.{eqb-true, false_from_ne_true}
use Rattle.std.proofs.lemmas.List.Elements.{filter-append}
use Rattle.std.proofs.lemmas.Option.{get_or_from_slice_get, none-some, slice_get_cases}
use Rattle.requests.specs.declared.group.Group.{Group}
use Rattle.groups.specs.Groups.{is_same}
use Rattle.groups.specs.declared.group_wants.Mode.{Mode}
use Rattle.groups.proofs.SameGroups.{is_same-itself, is_same-other}
use Rattle.tickets.specs.Boxes.{TicketBoxView}
use Rattle.tickets.specs.Places.{place_in_warehouse}
use Rattle.wait_die.specs.declared.deciding.Holder.{Holder}
use Rattle.local_locks.specs.declared.entry.LockEntry.{LockEntry}
use Rattle.local_locks.specs.LockTableView.{HeldClaim, WaitingAction}
use Rattle.local_locks.specs.LockEntries.{age_of_holder, age_of_waiter, is_on, mode_of, waits_for, IsEntryAt}
use Rattle.local_locks.specs.EntryPlaces.{ArePlaces, mode_lent, waits_at}
use Rattle.local_locks.specs.Locks.{LockView, WaiterView, AreLocksOf, IsLockAt, IsParked, group_at, holding, holdings_of, lock_view, locking, waiting_of}
use Rattle.local_locks.proofs.Asks.{home_there}
use Rattle.local_locks.proofs.Entered.{entry_at}
use Rattle.local_locks.proofs.EntryPlaces.{IsGroupAt, group_there, groups_in, lock_group, wanted_there}
use Rattle.local_locks.proofs.Tested.{filter_agrees, filter_mapped}
use Rattle.local_locks.proofs.Views.{AreFrom, are_from, lock_place}

-- ---- the claims on a group

-- all claims of a lock are on its own group
own_all : (group own : Group) (mode : Mode) (holders : List Holder) → is_same own group ≡ true → filter (is_on group) (map (holding own mode) holders) ≡ map (holding own mode) holders
own_all group own mode [] is = refl
own_all group own mode (by ∷ holders) is = let rest = own_all group own mode holders is in λ i. cond (is i) (holding own mode by ∷ rest i) (rest i)

-- and none is on another group
other_none : (group own : Group) (mode : Mode) (holders : List Holder) → is_same own group ≡ false → filter (is_on group) (map (holding own mode) holders) ≡ []
other_none group own mode [] isnt = refl
other_none group own mode (by ∷ holders) isnt = let rest = other_none group own mode holders isnt in λ i. cond (isnt i) (holding own mode by ∷ rest i) (rest i)

-- no claim of a later lock is on a group
later_none : (warehouses w_id first : ℕ) (locks : List LockView) (group : Group) → AreFrom warehouses w_id first locks → place_in_warehouse group < first → filter (is_on group) (flat_map holdings_of locks) ≡ []
later_none warehouses w_id first [] group are before = refl
later_none warehouses w_id first (lock ∷ locks) group are before =
    let own = lock.ticket_box.group in
    let none = other_none group own lock.ticket_box.mode lock.holders (is_same-other own group (λ same. omega (arith, before, are.0.place, ap place_in_warehouse same))) in
    let rest = later_none warehouses w_id (suc first) locks group are.1 (omega (arith, before)) in
    filter-append (is_on group) (holdings_of lock) (flat_map holdings_of locks) ∙ (λ i. none i ++ rest i)

-- the claims on a lock's group are its own
on_lock : (warehouses w_id first : ℕ) (locks : List LockView) (place : ℕ) (d : LockView) (group : Group) → AreFrom warehouses w_id first locks → place < length locks → group ≡ (get_or locks place d).ticket_box.group
    → filter (is_on group) (flat_map holdings_of locks) ≡ holdings_of (get_or locks place d)
on_lock warehouses w_id first [] place d group are small same = absurd (omega (arith, small))
on_lock warehouses w_id first (lock ∷ locks) zero d group are small same =
    let own = lock.ticket_box.group in
    let all = own_all group own lock.ticket_box.mode lock.holders (subst (λ (g : Group). is_same own g ≡ true) (sym same) (is_same-itself own)) in
    let none = later_none warehouses w_id (suc first) locks group are.1 (omega (arith, are.0.place, ap place_in_warehouse same)) in
    filter-append (is_on group) (holdings_of lock) (flat_map holdings_of locks) ∙ (λ i. all i ++ none i) ∙ append-nil (holdings_of lock)
on_lock warehouses w_id first (lock ∷ locks) (suc place) d group are small same =
    let own = lock.ticket_box.group in
    let inside : place < length locks = omega (arith, small) in
    let later = lock_place warehouses w_id (suc first) locks place d are.1 inside in
    let none =
    other_none group own lock.ticket_box.mode lock.holders
    (is_same-other own group (λ is. omega (arith, are.0.place, ap place_in_warehouse same, ap place_in_warehouse is, later))) in
    let rest = on_lock warehouses w_id (suc first) locks place d group are.1 inside same in
    filter-append (is_on group) (holdings_of lock) (flat_map holdings_of locks) ∙ (λ i. none i ++ rest i)

pub on_group : (warehouses w_id : ℕ) (locks : List LockView) (place : ℕ) (d : LockView) (group : Group) → AreLocksOf warehouses w_id locks → place < length locks → group ≡ (get_or locks place d).ticket_box.group
    → filter (is_on group) (flat_map holdings_of locks) ≡ holdings_of (get_or locks place d)
on_group warehouses w_id locks place d group are small same =
    on_lock warehouses w_id 0 locks place d group
    (are_from warehouses w_id 0 locks (λ k e inside. subst (λ (n : ℕ). IsLockAt warehouses w_id n (get_or locks k e)) (omega arith) (are.each k e inside))) small same

-- ---- what is shown

ages_same : (own : Group) (mode : Mode) (holders : List Holder) → map age_of_holder holders ≡ map (λ (claim : HeldClaim). claim.by.age) (map (holding own mode) holders)
ages_same own mode [] = refl
ages_same own mode (by ∷ holders) = ap (λ ages. by.age ∷ ages) (ages_same own mode holders)

some_lent : (one : Holder) (holders : List Holder) → eqb (length (one ∷ holders)) 0 ≡ false
some_lent one holders = false_from_ne_true (eqb (length (one ∷ holders)) 0) (λ none. omega (arith, eqb-true (length (one ∷ holders)) 0 none))

mode_held : (box : TicketBoxView) (holders : List Holder) → mode_lent (lock_view box holders) ≡ mode_of (map (holding box.group box.mode) holders)
mode_held box [] = refl
mode_held box (one ∷ holders) = ap (λ (none : Bool). cond (not none) (Some box.mode) None) (some_lent one holders)

mode_same : (lock : LockView) → mode_lent lock ≡ mode_of (holdings_of lock)
mode_same lock = mode_held lock.ticket_box lock.holders

waiting_same : (waiters : List WaiterView) → map age_of_waiter waiters ≡ map (λ (waiting : WaitingAction). waiting.by.age) (map waiting_of waiters)
waiting_same [] = refl
waiting_same (p ∷ waiters) = ap (λ ages. p.by.age ∷ ages) (waiting_same waiters)

-- who waits for the group at a place
pub waiting_there : (warehouses w_id place : ℕ) (group : Group) (waiters : List WaiterView) → (1 ≤ w_id) × (w_id ≤ warehouses) → IsGroupAt warehouses w_id place group → All (IsParked warehouses w_id) waiters
    → map age_of_waiter (filter (waits_at place) waiters) ≡ map (λ (waiting : WaitingAction). waiting.by.age) (filter (waits_for group) (map waiting_of waiters))
waiting_there warehouses w_id place group waiters home at all =
    ap (map age_of_waiter) (sym (filter_agrees (IsParked warehouses w_id) (λ (p : WaiterView). waits_for group (waiting_of p)) (waits_at place) (λ p parked. wanted_there warehouses w_id place group p.wants home at parked.can.own) waiters all))
    ∙ waiting_same (filter (λ (p : WaiterView). waits_for group (waiting_of p)) waiters)
    ∙ ap (map (λ (waiting : WaitingAction). waiting.by.age)) (sym (filter_mapped (waits_for group) waiting_of waiters))

-- an entry shows what the table has at its place
pub shown : (warehouses w_id : ℕ) (locks : List LockView) (waiters : List WaiterView) (places : List ℕ) (n place : ℕ) (lock : LockView) (entry : LockEntry) → AreLocksOf warehouses w_id locks → All (IsParked warehouses w_id) waiters → ArePlaces places
    → slice_get places n ≡ Some place → lock ≡ get_or locks place lock → entry.group ≡ lock.ticket_box.group → entry.mode ≡ mode_lent lock → entry.holders.items ≡ map age_of_holder lock.holders
    → entry.waiters.items ≡ map age_of_waiter (filter (waits_at place) waiters) → IsEntryAt (locking w_id locks waiters places) n entry
shown warehouses w_id locks waiters places n place lock entry are all inside at there group mode holders waiting = record {
  group = sym (entry_at locks places n place lock entry.group are.all_there inside at there group);
  mode = mode ∙ mode_same lock ∙ ap mode_of (sym on);
  holders = holders ∙ ages_same lock.ticket_box.group lock.ticket_box.mode lock.holders ∙ ap (map (λ (claim : HeldClaim). claim.by.age)) (sym on);
  waiters = waiting ∙ waiting_there warehouses w_id place entry.group waiters (home_there warehouses w_id locks are) at_place all;
}
  where
    small : place < 105
    small =
        ⊎_elim
        (λ (is : (x : ℕ) × (n < length places) × (slice_get places n ≡ Some x) × (get_or places n x ≡ x)).
        omega (arith, inside n 0 is.1, get_or_from_slice_get places n place 0 at))
        (λ (past : (length places ≤ n) × (slice_get places n ≡ None)). absurd (none-some place (sym past.1 ∙ at)))
        (slice_get_cases places n).1

    in_locks : place < length locks
    in_locks = omega (arith, small, are.all_there)

    on : filter (is_on entry.group) (flat_map holdings_of locks) ≡ holdings_of lock
    on = on_group warehouses w_id locks place lock entry.group are in_locks (group ∙ ap (λ (l : LockView). l.ticket_box.group) there) ∙ ap holdings_of (sym there)

    same : entry.group ≡ group_at (groups_in locks) place
    same = group ∙ ap (λ (l : LockView). l.ticket_box.group) there ∙ sym (lock_group locks place lock in_locks)

    at_place : IsGroupAt warehouses w_id place entry.group
    at_place = subst (IsGroupAt warehouses w_id place) (sym same) (group_there warehouses w_id locks place are small)
