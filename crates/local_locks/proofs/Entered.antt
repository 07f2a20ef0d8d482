-- The places of a table's entries, after a request, a grant, a turn and a return.
use Rattle.std.proofs.Common.{◌≡◌, ℕ, ◌<◌, ◌≤◌, Bool, List, [], ◌∷◌, ◌++◌, ◌||◌, ◌&&◌, not, Option, Some, None, slice_get, length, get_or, map, sym, ap, subst, ◌∙◌, ⊎_elim, arith}
use Rattle.std.specs.Prelude.{All, filter}
use Rattle.std.specs.List.{flat_map, range_with_len}
use Rattle.std.specs.List.Sorted.{IsPermutation}
use Rattle.std.proofs.lemmas.List.{get_or_default, map-append, same_lists}
use Rattle.std.specs.Option.{option_map}
use Rattle.std.proofs.lemmas.List.Elements.{All-append, All-filter, All-weaker}
use Rattle.std.proofs.lemmas.Option.{get_or_from_slice_get, none-some, slice_get-map, slice_get_cases}
use Rattle.std.proofs.lemmas.List.FromFn.{get_or-map-range_with_len, length-map-range_with_len}
use Rattle.requests.specs.declared.group.Group.{Group}
use Rattle.requests.specs.declared.group.Group.TheVariants.{Warehouse}
use Rattle.groups.specs.declared.wants.Want.{Want}
use Rattle.tickets.specs.Claims.{ClaimView}
use Rattle.wait_die.specs.declared.deciding.Holder.{Holder}
use Rattle.local_locks.specs.LockTableView.{LockTableView, Stand}
use Rattle.local_locks.specs.GroupWants.{IsOwn, IsWanted}
use Rattle.local_locks.specs.Asking.{Grants, waiting}
use Rattle.local_locks.specs.Entries.{entered, is_awaited, is_entered, is_held, is_new, is_used, is_wanted, still_used}
use Rattle.local_locks.specs.EntryPlaces.{AreEntryPlaces, ArePlaces, is_fresh, is_used_at, is_wanted_at, with_wanted}
use Rattle.local_locks.specs.Locks.{LockView, WaiterView, AreLocksOf, IsParked, group_at, groups_at, holdings_of, locking, stand_in, waiter_view, waiting_of}
use Rattle.local_locks.specs.Turns.{IsParkedThere}
use Rattle.local_locks.proofs.Asks.{home_there}
use Rattle.local_locks.proofs.EntryPlaces.{entered_there, group_there, groups_in, length-groups, lock_group, used_there, wanted_inside, wanted_there}
use Rattle.local_locks.proofs.EntryUses as uses
use Rattle.local_locks.proofs.WantedPlaces.{range_below}
use Rattle.local_locks.proofs.Tested.{filter_agrees, filter_mapped}

-- ---- groups are entered

-- all places give all groups
all_groups : (locks : List LockView) → length locks ≡ 105 → map (group_at (groups_in locks)) (range_with_len 0 105) ≡ groups_in locks
all_groups locks long =
    same_lists (map (group_at (groups_in locks)) (range_with_len 0 105)) (groups_in locks)
    (length-map-range_with_len (group_at (groups_in locks)) 0 105 ∙ sym (length-groups locks ∙ long))
    (λ k d small.
    let inside : k < 105 = omega (arith, small, length-map-range_with_len (group_at (groups_in locks)) 0 105) in
    get_or-map-range_with_len (group_at (groups_in locks)) 0 105 k k d inside (omega arith)
    ∙ get_or_default (groups_in locks) k (Warehouse 0) d (omega (arith, inside, length-groups locks, long)))

pub entered_places : (warehouses w_id : ℕ) (locks : List LockView) (waiters : List WaiterView) (places : List ℕ) (wants : List Want) → AreLocksOf warehouses w_id locks → ArePlaces places → All (IsOwn warehouses w_id) wants
    → groups_at (map stand_in locks) (with_wanted wants places) ≡ entered wants (locking w_id locks waiters places)
entered_places warehouses w_id locks waiters places wants are small own =
    map-append f places (filter fresh (range_with_len 0 105)) ∙ ap (λ gs. entries ++ gs) new_groups
  where
    f : ℕ → Group
    f = group_at (groups_in locks)

    entries : List Group
    entries = groups_at (map stand_in locks) places

    fresh : ℕ → Bool
    fresh = is_fresh wants places

    new : Group → Bool
    new = is_new wants entries

    agree : (k : ℕ) → k < 105 → fresh k ≡ new (f k)
    agree k inside =
        let marked : is_wanted_at wants k ≡ is_wanted wants (f k) =
        sym (wanted_there warehouses w_id k (f k) wants (home_there warehouses w_id locks are) (group_there warehouses w_id locks k are inside) own) in
        let there = entered_there warehouses w_id k locks places are small inside in
        λ i. marked i && not (sym there i)

    new_groups : map f (filter fresh (range_with_len 0 105)) ≡ filter new (groups_in locks)
    new_groups =
        ap (map f) (filter_agrees (λ k. k < 105) fresh (λ k. new (f k)) agree (range_with_len 0 105) (range_below 105))
        ∙ sym (filter_mapped new f (range_with_len 0 105)) ∙ ap (filter new) (all_groups locks are.all_there)

pub entered_inside : (wants : List Want) (places : List ℕ) → ArePlaces places → ArePlaces (with_wanted wants places)
entered_inside wants places small =
    All-append (λ k. k < 105) places (filter (is_fresh wants places) (range_with_len 0 105)) small
    (All-filter (is_fresh wants places) (λ k. k < 105) (range_with_len 0 105) (range_below 105))

-- for each group, whether it has an entry then
newly : (warehouses w_id : ℕ) (locks : List LockView) (waiters : List WaiterView) (places : List ℕ) (wants : List Want) (group : Group) → AreLocksOf warehouses w_id locks → AreEntryPlaces w_id locks waiters places → All (IsOwn warehouses w_id) wants
    → is_entered (groups_at (map stand_in locks) (with_wanted wants places)) group ≡ (is_wanted wants group || is_used (flat_map holdings_of locks) (map waiting_of waiters) group)
newly warehouses w_id locks waiters places wants group are entries own =
    ap (λ gs. is_entered gs group) (entered_places warehouses w_id locks waiters places wants are entries.inside own)
    ∙ uses.newly_entered (locking w_id locks waiters places) wants group (entries.used group) (wanted_inside warehouses w_id locks wants group are own)

-- an action waits for its groups
pub waiting_entered : (warehouses w_id : ℕ) (locks : List LockView) (waiters : List WaiterView) (places : List ℕ) (by : Holder) (wants : List Want) (count : ℕ) → AreLocksOf warehouses w_id locks → AreEntryPlaces w_id locks waiters places → All (IsOwn warehouses w_id) wants
    → AreEntryPlaces w_id locks (waiters ++ waiter_view by wants count ∷ []) (with_wanted wants places)
waiting_entered warehouses w_id locks waiters places by wants count are entries own = record {
  inside = entered_inside wants places entries.inside;
  used = λ group.
      let held = is_held (flat_map holdings_of locks) group in
      newly warehouses w_id locks waiters places wants group are entries own
      ∙ sym (uses.or_last held (is_awaited (map waiting_of waiters) group) (is_wanted wants group))
      ∙ sym (ap (λ b. held || b) (ap (λ ws. is_awaited ws group) (map-append waiting_of waiters (waiter_view by wants count ∷ [])) ∙ uses.awaited_more by wants (map waiting_of waiters) group));
}

-- the table then
pub waits_more : (warehouses w_id : ℕ) (table : LockTableView) (locks : List LockView) (waiters more : List WaiterView) (places after : List ℕ) (by : Holder) (wants : List Want) (count : ℕ) → locking w_id locks waiters places ≡ table
    → AreLocksOf warehouses w_id locks → ArePlaces places → All (IsOwn warehouses w_id) wants → more ≡ waiters ++ waiter_view by wants count ∷ [] → after ≡ with_wanted wants places
    → locking w_id locks more after ≡ record table { waiters = table.waiters ++ waiting by wants ∷ []; entries = entered wants table }
waits_more warehouses w_id table locks waiters more places after by wants count view are small own more_are after_are =
    let waits : map waiting_of more ≡ map waiting_of waiters ++ waiting by wants ∷ [] = ap (map waiting_of) more_are ∙ map-append waiting_of waiters (waiter_view by wants count ∷ []) in
    let entries : groups_at (map stand_in locks) after ≡ entered wants (locking w_id locks waiters places) =
    ap (groups_at (map stand_in locks)) after_are ∙ entered_places warehouses w_id locks waiters places wants are small own in
    (λ i. record (locking w_id locks waiters places) { waiters = waits i; entries = entries i })
    ∙ ap (λ (t : LockTableView). record t { waiters = t.waiters ++ waiting by wants ∷ []; entries = entered wants t }) view

-- an action is granted its groups
pub granted_entered : (warehouses w_id : ℕ) (by : Holder) (wants : List Want) (locks new : List LockView) (waiters : List WaiterView) (places after : List ℕ) (claims : List ClaimView) → AreLocksOf warehouses w_id locks
    → AreEntryPlaces w_id locks waiters places → All (IsOwn warehouses w_id) wants → Grants by wants (locking w_id locks waiters places) claims (locking w_id new waiters after) → after ≡ with_wanted wants places
    → AreEntryPlaces w_id new waiters after
granted_entered warehouses w_id by wants locks new waiters places after claims are entries own grants is = record {
  inside = subst ArePlaces (sym is) (entered_inside wants places entries.inside);
  used = λ group.
      let awaited = is_awaited (map waiting_of waiters) group in
      (λ i. is_entered (groups_at (grants.stands i) (is i)) group) ∙ newly warehouses w_id locks waiters places wants group are entries own
      ∙ sym (uses.or_assoc (is_wanted wants group) (is_held (flat_map holdings_of locks) group) awaited)
      ∙ sym (ap (λ b. b || awaited) (uses.held_granted by wants (flat_map holdings_of locks) (flat_map holdings_of new) group grants.holdings));
}

-- ---- turns

-- an action that waited is granted its groups
pub turn_entered : (w_id : ℕ) (by : Holder) (wants : List Want) (locks new : List LockView) (waiters rest : List WaiterView) (places after : List ℕ) (claims : List ClaimView) → AreEntryPlaces w_id locks waiters places
    → IsPermutation (map waiting_of waiters) (waiting by wants ∷ map waiting_of rest) → Grants by wants (locking w_id locks waiters places) claims (locking w_id new rest after) → AreEntryPlaces w_id new rest places
turn_entered w_id by wants locks new waiters rest places after claims entries moved grants = record {
  inside = entries.inside;
  used = λ group.
      let held = is_held (flat_map holdings_of locks) group in
      let awaited = is_awaited (map waiting_of rest) group in
      ap (λ (ss : List Stand). is_entered (groups_at ss places) group) grants.stands ∙ entries.used group
      ∙ ap (λ b. held || b) (uses.awaited_taken by wants (map waiting_of waiters) (map waiting_of rest) group moved)
      ∙ uses.or_middle held (is_wanted wants group) awaited
      ∙ sym (ap (λ b. b || awaited) (uses.held_granted by wants (flat_map holdings_of locks) (flat_map holdings_of new) group grants.holdings));
}

-- the entries that are still used
pub kept_places : (warehouses w_id : ℕ) (locks : List LockView) (rest : List WaiterView) (places : List ℕ) → AreLocksOf warehouses w_id locks → All (IsParked warehouses w_id) rest → ArePlaces places
    → groups_at (map stand_in locks) (filter (is_used_at locks rest) places) ≡ filter (is_used (flat_map holdings_of locks) (map waiting_of rest)) (groups_at (map stand_in locks) places)
kept_places warehouses w_id locks rest places are all small =
    let f = group_at (groups_in locks) in
    let used = is_used (flat_map holdings_of locks) (map waiting_of rest) in
    ap (map f) (filter_agrees (λ k. k < 105) (is_used_at locks rest) (λ k. used (f k)) (λ k inside. sym (used_there warehouses w_id k locks rest are all inside)) places small)
    ∙ sym (filter_mapped used f places)

-- an action that waited dies
pub death_entered : (warehouses w_id : ℕ) (by : Holder) (wants : List Want) (locks : List LockView) (waiters rest : List WaiterView) (places : List ℕ) → AreLocksOf warehouses w_id locks → All (IsParked warehouses w_id) rest → AreEntryPlaces w_id locks waiters places
    → IsPermutation (map waiting_of waiters) (waiting by wants ∷ map waiting_of rest) → AreEntryPlaces w_id locks rest (filter (is_used_at locks rest) places)
death_entered warehouses w_id by wants locks waiters rest places are all entries moved = record {
  inside = All-filter (is_used_at locks rest) (λ k. k < 105) places entries.inside;
  used = λ group.
      let used = is_used (flat_map holdings_of locks) (map waiting_of rest) in
      ap (λ gs. is_entered gs group) (kept_places warehouses w_id locks rest places are all entries.inside)
      ∙ uses.kept_entered used (groups_at (map stand_in locks) places) group
      (λ still. entries.used group ∙ uses.weaker (is_held (flat_map holdings_of locks) group) (is_awaited (map waiting_of rest) group) (is_awaited (map waiting_of waiters) group)
      (λ awaited. uses.awaited_taken by wants (map waiting_of waiters) (map waiting_of rest) group moved ∙ uses.or_right (is_wanted wants group) (is_awaited (map waiting_of rest) group) awaited) still);
}

-- the table then
pub death_table : (warehouses w_id : ℕ) (table : LockTableView) (locks : List LockView) (waiters rest : List WaiterView) (places kept : List ℕ) → locking w_id locks waiters places ≡ table → AreLocksOf warehouses w_id locks → All (IsParked warehouses w_id) rest → ArePlaces places
    → kept ≡ filter (is_used_at locks rest) places → locking w_id locks rest kept ≡ record table { waiters = map waiting_of rest; entries = still_used table.holdings (map waiting_of rest) table.entries }
death_table warehouses w_id table locks waiters rest places kept view are all small is =
    let entries : groups_at (map stand_in locks) kept ≡ still_used (flat_map holdings_of locks) (map waiting_of rest) (groups_at (map stand_in locks) places) =
    ap (groups_at (map stand_in locks)) is ∙ kept_places warehouses w_id locks rest places are all small in
    (λ i. record (locking w_id locks waiters places) { waiters = map waiting_of rest; entries = entries i })
    ∙ ap (λ (t : LockTableView). record t { waiters = map waiting_of rest; entries = still_used t.holdings (map waiting_of rest) t.entries }) view

-- all groups for which these wait exist
pub all_there : (warehouses w_id : ℕ) (waiters : List WaiterView) → All (IsParked warehouses w_id) waiters → All (IsParkedThere warehouses) waiters
all_there warehouses w_id waiters all =
    All-weaker (IsParked warehouses w_id) (IsParkedThere warehouses) (λ p parked. All-weaker (IsOwn warehouses w_id) (IsWanted warehouses) (λ want own. own.0) p.wants parked.can.own) waiters all

-- ---- one entry

pub entry_at : (locks : List LockView) (places : List ℕ) (n place : ℕ) (lock : LockView) (group : Group) → length locks ≡ 105 → ArePlaces places → slice_get places n ≡ Some place → lock ≡ get_or locks place lock → group ≡ lock.ticket_box.group
    → Some group ≡ slice_get (groups_at (map stand_in locks) places) n
entry_at locks places n place lock group long small found is own =
    ⊎_elim
    (λ (inside : (x : ℕ) × (n < length places) × (slice_get places n ≡ Some x) × (get_or places n x ≡ x)).
    let here : get_or places n 0 ≡ place = get_or_from_slice_get places n place 0 found in
    let below : place < length locks = omega (arith, small n 0 inside.1, here, long) in
    let same : group ≡ group_at (groups_in locks) place = own ∙ ap (λ (l : LockView). l.ticket_box.group) is ∙ sym (lock_group locks place lock below) in
    ap {B = Option Group} Some same ∙ sym (slice_get-map (group_at (groups_in locks)) places n ∙ ap (option_map (group_at (groups_in locks))) found))
    (λ (past : (length places ≤ n) × (slice_get places n ≡ None)). absurd (none-some place (sym past.1 ∙ found)))
    (slice_get_cases places n).1
