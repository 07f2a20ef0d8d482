-- A table that was just opened, and what all tables keep.
use Rattle.std.proofs.Common.{◌≡◌, ◌≢◌, ◌⊎◌, ℕ, suc, ◌+◌, ◌<◌, ◌≤◌, true, false, List, [], ◌∷◌, ◌++◌, length, get_or, map, refl, sym, ap, subst, ◌∙◌, ⊎_elim, arith, append_assoc}
use Rattle.std.specs.Prelude.{All, AllPairs, Contains, ◌&&◌}
use Rattle.std.specs.List.{flat_map}
use Rattle.std.proofs.lemmas.List.{append-nil, get_or-map, length-map}
use Rattle.std.proofs.lemmas.List.Elements.{All-contains, All-contains_itself, All-map, All-weaker}
use Rattle.requests.specs.declared.group.Group.{Group}
use Rattle.groups.specs.Groups.{is_same, warehouse_of}
use Rattle.groups.specs.declared.group_wants.Mode.{Mode}
use Rattle.groups.specs.declared.group_wants.Mode.TheVariants.{Shared, Exclusive}
use Rattle.tickets.specs.Boxes.{TicketBoxView, sharing}
use Rattle.tickets.specs.Places.{IsGroupOf, place_in_warehouse}
use Rattle.tickets.proofs.Apart.{apart, by_mode}
use Rattle.wait_die.specs.declared.deciding.Holder.{Holder}
use Rattle.local_locks.specs.LockTableView.{HeldClaim, AreBoxesOf, stand_of, opened}
use Rattle.local_locks.specs.Conflicts.{shared_on, is_shared}
use Rattle.local_locks.specs.Laws.{AreCompatible, NoneConflict, IsNotAlone, IsUntouched, AreUntouched, IsClaimOf, CouldAsk}
use Rattle.local_locks.specs.Locks.{LockView, lock_view, Agree, IsLocked, holding, holdings_of, stand_in, locking, WaiterView, waiting_of, IsLockAt, AreLocksOf, IsParked}
use Rattle.local_locks.proofs.Apartness.{pairs_append, pairs_none}
use Rattle.local_locks.proofs.Members.{contains_here}
use Rattle.local_locks.proofs.Views.{AreFrom, are_from, few_holders, held_here, held_somewhere, none_there, all_there, shared_elsewhere, shared_count, count_append, unmapped, lock_place}

-- ---- opened

abbrev pub new_lock : TicketBoxView → LockView
new_lock b = lock_view b []

abbrev pub IsIdle : TicketBoxView → Type 0
IsIdle b = b ≡ sharing b.group b.left 0

idle_locked : (b : TicketBoxView) → IsIdle b → IsLocked (new_lock b)
idle_locked b idle = subst (λ (m : Mode). Agree m b []) (sym (ap (λ (c : TicketBoxView). c.mode) idle)) (idle, omega arith)

pub opened_locks : (warehouses w_id : ℕ) (boxes : List TicketBoxView) → AreBoxesOf warehouses w_id boxes → AreLocksOf warehouses w_id (map new_lock boxes)
opened_locks warehouses w_id boxes are = record {
  all_there = length-map boxes new_lock ∙ are.all_there;
  each = λ k d small.
      let there : k < length boxes = omega (arith, small, length-map boxes new_lock) in
      let found = are.each k d.ticket_box (omega (arith, there, are.all_there)) in
      let b = get_or boxes k d.ticket_box in
      let is : IsLockAt warehouses w_id k (new_lock b) = record { known = found.known; here = found.here; place = found.place; agree = idle_locked b found.idle } in
      subst (IsLockAt warehouses w_id k) (sym (get_or-map new_lock boxes k d.ticket_box d there)) is;
}

pub no_holdings : (boxes : List TicketBoxView) → flat_map holdings_of (map new_lock boxes) ≡ []
no_holdings [] = refl
no_holdings (b ∷ boxes) = no_holdings boxes

same_stands : (boxes : List TicketBoxView) → map stand_in (map new_lock boxes) ≡ map stand_of boxes
same_stands [] = refl
same_stands (b ∷ boxes) = ap (λ ss. stand_of b ∷ ss) (same_stands boxes)

pub opened_table : (w_id : ℕ) (boxes : List TicketBoxView) → locking w_id (map new_lock boxes) [] [] ≡ opened w_id boxes
opened_table w_id boxes = λ i. record { w_id = w_id; stands = same_stands boxes i; holdings = no_holdings boxes i; waiters = []; entries = [] }

pub one_more : (boxes rest next : List TicketBoxView) (locks new : List LockView) (b : TicketBoxView) (lock : LockView) → map new_lock boxes ≡ locks ++ map new_lock rest → rest ≡ b ∷ next → new ≡ locks ++ lock ∷ [] → lock ≡ new_lock b
    → map new_lock boxes ≡ new ++ map new_lock next
one_more boxes rest next locks new b lock so_far listed put is =
    so_far ∙ ap (λ bs. locks ++ map new_lock bs) listed ∙ sym (append_assoc locks (new_lock b ∷ []) (map new_lock next))
    ∙ ap (λ (l : LockView). (locks ++ l ∷ []) ++ map new_lock next) (sym is) ∙ ap (λ ls. ls ++ map new_lock next) (sym put)

pub all_opened : (boxes rest : List TicketBoxView) (locks : List LockView) → map new_lock boxes ≡ locks ++ map new_lock rest → rest ≡ [] → locks ≡ map new_lock boxes
all_opened boxes rest locks so_far none = sym (append-nil locks) ∙ sym (ap (λ bs. locks ++ map new_lock bs) none) ∙ sym so_far

-- ---- no two claims conflict

abbrev IsShared : HeldClaim → Type 0
IsShared h = h.mode ≡ Shared

pairs_of : (hs : List HeldClaim) → All IsShared hs → AllPairs AreCompatible hs
pairs_of hs all = λ i j d before small same. (all i d (omega (arith, before, small)), all j d small)

-- of one lock
lock_pairs : (lock : LockView) → IsLocked lock → AllPairs AreCompatible (holdings_of lock)
lock_pairs lock agree =
    let hold = holding lock.ticket_box.group lock.ticket_box.mode in
    by_mode lock.ticket_box.mode refl
    (λ exclusive.
    let one : Agree Exclusive lock.ticket_box lock.holders = subst (λ m. Agree m lock.ticket_box lock.holders) exclusive agree in
    λ i j d before small. absurd (omega (arith, before, small, one.1, length-map lock.holders hold)))
    (λ shared. pairs_of (holdings_of lock) (All-map IsShared hold lock.holders (λ k d small. shared)))

all_pairs : (warehouses w_id first : ℕ) (locks : List LockView) → AreFrom warehouses w_id first locks → AllPairs AreCompatible (flat_map holdings_of locks)
all_pairs warehouses w_id first [] are = pairs_none AreCompatible
all_pairs warehouses w_id first (lock ∷ locks) are =
    pairs_append AreCompatible (holdings_of lock) (flat_map holdings_of locks) (lock_pairs lock are.0.agree) (all_pairs warehouses w_id (suc first) locks are.1)
    (λ a b c e same.
    let own = unmapped (holding lock.ticket_box.group lock.ticket_box.mode) lock.holders a c in
    let found = held_somewhere locks b e in
    let held = found.2 in
    let later = lock_place warehouses w_id (suc first) locks found.0 found.1 are.1 held.small in
    let there : place_in_warehouse b.group ≡ suc first + found.0 = ap place_in_warehouse (sym held.group) ∙ ap (λ (l : LockView). place_in_warehouse l.ticket_box.group) (sym held.is) ∙ later in
    let here : place_in_warehouse a.group ≡ first = ap (λ (h : HeldClaim). place_in_warehouse h.group) (sym own.2) ∙ are.0.place in
    absurd (omega (arith, here, there, ap place_in_warehouse same)))

few_shared : (mode : Mode) (holders : List Holder) → length holders ≤ 8 → shared_count mode holders ≤ 8
few_shared Shared holders few = few
few_shared Exclusive holders few = omega arith

most_shared : (warehouses w_id first : ℕ) (locks : List LockView) (group : Group) → AreFrom warehouses w_id first locks → shared_on group (flat_map holdings_of locks) ≤ 8
most_shared warehouses w_id first [] group are = omega arith
most_shared warehouses w_id first (lock ∷ locks) group are = by_group (apart own group) (most_shared warehouses w_id (suc first) locks group are.1)
  where
    own : Group
    own = lock.ticket_box.group

    whole : shared_on group (holdings_of lock ++ flat_map holdings_of locks) ≡ shared_on group (holdings_of lock) + shared_on group (flat_map holdings_of locks)
    whole = count_append (λ h. is_same h.group group && is_shared h.mode) (holdings_of lock) (flat_map holdings_of locks)

    by_group : ((is_same own group ≡ true) × (own ≡ group)) ⊎ ((is_same own group ≡ false) × (own ≢ group)) → shared_on group (flat_map holdings_of locks) ≤ 8 → shared_on group (flat_map holdings_of (lock ∷ locks)) ≤ 8
    by_group which rest =
        ⊎_elim
        (λ (same : (is_same own group ≡ true) × (own ≡ group)).
        omega (
          arith,
          whole,
          all_there group own lock.ticket_box.mode lock.holders same.1,
          few_shared lock.ticket_box.mode lock.holders (few_holders lock are.0.agree),
          shared_elsewhere warehouses w_id (suc first) locks group are.1 (omega (arith, are.0.place, ap place_in_warehouse same.1)),
        ))
        (λ (other : (is_same own group ≡ false) × (own ≢ group)). omega (arith, whole, none_there group own lock.ticket_box.mode lock.holders other.1, rest))
        which

pub none_conflict : (warehouses w_id : ℕ) (locks : List LockView) → AreLocksOf warehouses w_id locks → NoneConflict (flat_map holdings_of locks)
none_conflict warehouses w_id locks are =
    let from = are_from warehouses w_id 0 locks (λ k e inside. subst (λ (n : ℕ). IsLockAt warehouses w_id n (get_or locks k e)) (omega arith) (are.each k e inside)) in
    record { pairs = all_pairs warehouses w_id 0 locks from; most = λ group. most_shared warehouses w_id 0 locks group from }

-- ---- nothing to take back

first_of_one : (hs : List Holder) → length hs ≡ 1 → (h : Holder) × Contains hs h
first_of_one [] long = absurd (omega (arith, long))
first_of_one (h ∷ hs) long = (h, contains_here h hs)

pub untouched : (warehouses w_id : ℕ) (locks : List LockView) → AreLocksOf warehouses w_id locks → AreUntouched (flat_map holdings_of locks) (map stand_in locks)
untouched warehouses w_id locks are =
    All-map (IsUntouched (flat_map holdings_of locks)) stand_in locks (λ k d small not_alone.
    let lock = get_or locks k d in
    let group = lock.ticket_box.group in
    let agree = (are.each k d small).agree in
    by_mode lock.ticket_box.mode refl
    (λ exclusive.
    let one : Agree Exclusive lock.ticket_box lock.holders = subst (λ m. Agree m lock.ticket_box lock.holders) exclusive agree in
    let held = first_of_one lock.holders one.1 in
    let there = held_here locks k d held.0 small held.1 in
    let shared : lock.ticket_box.mode ≡ Shared = All-contains (IsNotAlone group) (flat_map holdings_of locks) (holding group lock.ticket_box.mode held.0) not_alone there refl in
    absurd (unlike (sym shared ∙ exclusive)))
    (λ shared.
    let some : Agree Shared lock.ticket_box lock.holders = subst (λ m. Agree m lock.ticket_box lock.holders) shared agree in
    ap (λ (b : TicketBoxView). b.back) some.0))
  where
    unlike : Shared ≡ Exclusive → ⊥
    unlike e = cc

-- ---- on which groups

pub claims_at_home : (warehouses w_id : ℕ) (locks : List LockView) → AreLocksOf warehouses w_id locks → All (IsClaimOf warehouses w_id) (flat_map holdings_of locks)
claims_at_home warehouses w_id locks are =
    All-weaker (Contains (flat_map holdings_of locks)) (IsClaimOf warehouses w_id)
    (λ h c.
    let found = held_somewhere locks h c in
    let held = found.2 in
    let at : IsLockAt warehouses w_id found.0 found.1 = subst (IsLockAt warehouses w_id found.0) held.is (are.each found.0 found.1 held.small) in
    (subst (IsGroupOf warehouses) held.group at.known, ap warehouse_of (sym held.group) ∙ at.here))
    (flat_map holdings_of locks) (All-contains_itself (flat_map holdings_of locks))

pub waiters_could_ask : (warehouses w_id : ℕ) (waiters : List WaiterView) → All (IsParked warehouses w_id) waiters → All (CouldAsk warehouses w_id) (map waiting_of waiters)
waiters_could_ask warehouses w_id waiters are =
    All-map (CouldAsk warehouses w_id) waiting_of waiters (λ k d small. (are k d small).can)
