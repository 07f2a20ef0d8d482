-- The places of a table's entries, after a claim is back.
use Rattle.std.proofs.Common.{◌≡◌, ◌≢◌, ℕ, ◌<◌, Bool, true, false, eqb, List, [], ◌∷◌, ◌||◌, not, length, get_or, set, map, refl, sym, ap, ◌∙◌, ⊎_elim, cond, arith}
use Rattle.std.specs.Prelude.{All, filter}
use Rattle.std.specs.List.{AllByRecursion, IsDistinct, flat_map}
use Rattle.std.proofs.lemmas.Bool.Decides.{eqb_tells}
use Rattle.std.proofs.lemmas.List.{get_or-map, get_or_default, length-map}
use Rattle.std.proofs.lemmas.List.Elements.{All-filter, All-head, All-nil, All-tail}
use Rattle.std.proofs.lemmas.List.Folds.{list_any_at}
use Rattle.std.proofs.lemmas.Map.Keys.{IsDistinct-cons, IsDistinct-head, IsDistinct-tail}
use Rattle.requests.specs.declared.group.Group.{Group}
use Rattle.groups.specs.Groups.{is_same}
use Rattle.groups.proofs.SameGroups.{is_same-itself}
use Rattle.groups.specs.Content.{Content}
use Rattle.tickets.specs.Boxes.{TicketBoxView, with_left}
use Rattle.tickets.specs.Claims.{ClaimView}
use Rattle.tickets.specs.Places.{IsGroupOf, place_in_warehouse}
use Rattle.local_locks.specs.LockTableView.{HeldClaim}
use Rattle.local_locks.specs.Asking.{AreTogether, held_by, left_after}
use Rattle.local_locks.specs.Entries.{is_awaited, is_entered, is_held, is_used, still_used}
use Rattle.local_locks.specs.EntryPlaces.{AreEntryPlaces, ArePlaces, is_used_at, kept_if}
use Rattle.local_locks.specs.Locks.{LockView, lock_view, WaiterView, AreLocksOf, IsLocked, IsParked, group_at, groups_at, holdings_of, stand_in, waiting_of}
use Rattle.local_locks.proofs.EntryPlaces.{group_there, groups_in, same_place, used_there}
use Rattle.local_locks.proofs.EntryUses as uses
use Rattle.local_locks.proofs.EntryGroups.{entries_kept}
use Rattle.local_locks.proofs.Grants.{one_lock}
use Rattle.local_locks.proofs.Returns.{left_held, left_stands}
use Rattle.local_locks.proofs.Stands.{inside}
use Rattle.local_locks.proofs.Opened.{new_lock, no_holdings}
use Rattle.local_locks.proofs.Tested.{filter_agrees, filter_all, filter_mapped}

-- ---- one group may go

-- where all others are still used
kept_by : (test : Group → Bool) (f : ℕ → Group) (used : Bool) (place : ℕ) (places : List ℕ) → All (λ k. test (f k) ≡ cond (eqb place k) used true) places → map f (kept_if used place places) ≡ filter test (map f places)
kept_by test f true place places each =
    sym (filter_mapped test f places ∙ ap (map f) (filter_all (λ k. test (f k)) places (λ i d small. each i d small ∙ both (eqb place (get_or places i d)))))
  where
    both : (b : Bool) → cond b true true ≡ true
    both true = refl
    both false = refl
kept_by test f false place places each =
    sym (filter_mapped test f places ∙ ap (map f) (filter_agrees (λ k. test (f k) ≡ cond (eqb place k) false true) (λ k. test (f k)) (λ k. not (eqb place k)) (λ k is. is ∙ other (eqb place k)) places each))
  where
    other : (b : Bool) → cond b false true ≡ not b
    other true = refl
    other false = refl

kept_inside : (used : Bool) (place : ℕ) (places : List ℕ) → ArePlaces places → ArePlaces (kept_if used place places)
kept_inside true place places small = small
kept_inside false place places small = All-filter (λ k. not (eqb place k)) (λ k. k < 105) places small

-- A claim on the group at a place is back.
pub record IsBackAt (warehouses w_id : ℕ) (locks later : List LockView) (waiters : List WaiterView) (place : ℕ) (claim : ClaimView) : Type 0 where
  pub before : AreLocksOf warehouses w_id locks
  pub after : AreLocksOf warehouses w_id later
  pub all : All (IsParked warehouses w_id) waiters
  pub small : place < 105
  pub group : claim.group ≡ group_at (groups_in locks) place
  pub groups : groups_in later ≡ groups_in locks
  pub out : AreTogether (flat_map holdings_of locks) (held_by claim ∷ []) (flat_map holdings_of later)

pub back_entries : (warehouses w_id : ℕ) (locks later : List LockView) (waiters : List WaiterView) (place : ℕ) (claim : ClaimView) (places : List ℕ) → IsBackAt warehouses w_id locks later waiters place claim → AreEntryPlaces w_id locks waiters places
    → groups_at (map stand_in later) (kept_if (is_used_at later waiters place) place places) ≡ still_used (flat_map holdings_of later) (map waiting_of waiters) (groups_at (map stand_in locks) places)
back_entries warehouses w_id locks later waiters place claim places back entries =
    ap (λ (groups : List Group). map (group_at groups) (kept_if used place places)) back.groups ∙ kept_by test f used place places each
  where
    f : ℕ → Group
    f = group_at (groups_in locks)

    used : Bool
    used = is_used_at later waiters place

    test : Group → Bool
    test = is_used (flat_map holdings_of later) (map waiting_of waiters)

    here : test (f place) ≡ used
    here = ap (λ (groups : List Group). test (group_at groups place)) (sym back.groups) ∙ used_there warehouses w_id place later waiters back.after back.all back.small

    elsewhere : (k : ℕ) → k < 105 → place ≢ k → is_entered (groups_at (map stand_in locks) places) (f k) ≡ true → test (f k) ≡ true
    elsewhere k small apart has =
        let at = group_there warehouses w_id locks k back.before small in
        let own = group_there warehouses w_id locks place back.before back.small in
        let other : f k ≢ claim.group = λ same. apart (sym own.place_is ∙ ap place_in_warehouse (sym (same ∙ back.group)) ∙ at.place_is) in
        ap (λ b. b || is_awaited (map waiting_of waiters) (f k)) (sym (uses.held_elsewhere claim (flat_map holdings_of locks) (flat_map holdings_of later) (f k) other back.out))
        ∙ sym (entries.used (f k)) ∙ has

    each : All (λ k. test (f k) ≡ cond (eqb place k) used true) places
    each = λ i d small.
        let k = get_or places i d in
        let inside : k < 105 = entries.inside i d small in
        let has : is_entered (map f places) (f k) ≡ true =
        list_any_at (is_same (f k)) (map f places) i (f d) (omega (arith, small, length-map places f)) (ap (is_same (f k)) (get_or-map f places i d (f d) small) ∙ is_same-itself (f k)) in
        ⊎_elim
        (λ (same : (eqb place k ≡ true) × (place ≡ k)). ap (λ (n : ℕ). test (f n)) (sym same.1) ∙ here ∙ sym (ap (λ b. cond b used true) same.0))
        (λ (other : (eqb place k ≡ false) × (place ≢ k)). elsewhere k inside other.1 has ∙ sym (ap (λ b. cond b used true) other.0))
        (eqb_tells place k)

pub back_entered : (warehouses w_id : ℕ) (locks later : List LockView) (waiters : List WaiterView) (place : ℕ) (claim : ClaimView) (places : List ℕ) → IsBackAt warehouses w_id locks later waiters place claim → AreEntryPlaces w_id locks waiters places
    → AreEntryPlaces w_id later waiters (kept_if (is_used_at later waiters place) place places)
back_entered warehouses w_id locks later waiters place claim places back entries = record {
  inside = kept_inside (is_used_at later waiters place) place places entries.inside;
  used = λ group.
      ap (λ gs. is_entered gs group) (back_entries warehouses w_id locks later waiters place claim places back entries)
      ∙ uses.kept_entered (is_used (flat_map holdings_of later) (map waiting_of waiters)) (groups_at (map stand_in locks) places) group
      (λ used. entries.used group ∙ uses.used_before claim (flat_map holdings_of locks) (flat_map holdings_of later) (map waiting_of waiters) group back.out used);
}

-- ---- none has two

apart_from : (warehouses w_id : ℕ) (locks : List LockView) (place : ℕ) (places : List ℕ) → AreLocksOf warehouses w_id locks → place < 105 → ArePlaces places → AllByRecursion (λ k. eqb place k ≡ false) places
    → AllByRecursion (λ g. is_same (group_at (groups_in locks) place) g ≡ false) (map (group_at (groups_in locks)) places)
apart_from warehouses w_id locks place [] are small all apart = tt
apart_from warehouses w_id locks place (k ∷ places) are small all apart =
    let k_small : k < 105 = All-head (λ n. n < 105) k places all in (
      same_place warehouses w_id place k (group_at (groups_in locks) place) (group_at (groups_in locks) k) (group_there warehouses w_id locks place are small) (group_there warehouses w_id locks k are k_small) ∙ apart.0,
      apart_from warehouses w_id locks place places are small (All-tail (λ n. n < 105) k places all) apart.1,
    )

pub none_twice : (warehouses w_id : ℕ) (locks : List LockView) (places : List ℕ) → AreLocksOf warehouses w_id locks → ArePlaces places → IsDistinct eqb places → IsDistinct is_same (groups_at (map stand_in locks) places)
unfolding IsDistinct
none_twice warehouses w_id locks [] are all once = once
none_twice warehouses w_id locks (k ∷ places) are all once =
    IsDistinct-cons is_same (group_at (groups_in locks) k) (groups_at (map stand_in locks) places)
    (apart_from warehouses w_id locks k places are (All-head (λ n. n < 105) k places all) (All-tail (λ n. n < 105) k places all) (IsDistinct-head eqb k places once))
    (none_twice warehouses w_id locks places are (All-tail (λ n. n < 105) k places all) (IsDistinct-tail eqb k places once))

-- ---- none at first

pub none_entered : (w_id : ℕ) (boxes : List TicketBoxView) → AreEntryPlaces w_id (map new_lock boxes) [] []
none_entered w_id boxes = record {
  inside = All-nil (λ k. k < 105);
  used = λ group. sym (ap (λ (hs : List HeldClaim). is_held hs group || false) (no_holdings boxes));
}

-- ---- work under a claim

-- the table is as it was where something else is left in a group
pub left_kept : (warehouses w_id : ℕ) (locks : List LockView) (waiters : List WaiterView) (places : List ℕ) (number : ℕ) (d new : LockView) (group : Group) (content : Content) → AreLocksOf warehouses w_id locks → All (IsParked warehouses w_id) waiters
    → AreEntryPlaces w_id locks waiters places → IsGroupOf warehouses group → number ≡ place_in_warehouse group → new ≡ lock_view (with_left (get_or locks number d).ticket_box content) (get_or locks number d).holders → IsLocked new
    → AreLocksOf warehouses w_id (set locks number new) × All (IsParked warehouses w_id) waiters × AreEntryPlaces w_id (set locks number new) waiters places
left_kept warehouses w_id locks waiters places number d new group content are all entries known at made agree =
    let old = get_or locks number d in
    let small : number < length locks = omega (arith, inside warehouses group known, at, are.all_there) in
    let is : old ≡ get_or locks number old = get_or_default locks number d old small in
    let stands = left_stands warehouses w_id locks number old new old.ticket_box.group content are small is made refl in
    let held = left_held locks number d new small (ap holdings_of made) in
    let groups : groups_at (map stand_in (set locks number new)) places ≡ groups_at (map stand_in locks) places =
    ap (λ ss. groups_at ss places) stands ∙ entries_kept (left_after old.ticket_box.group content) (λ s. refl) (map stand_in locks) places in (
      one_lock warehouses w_id locks number old new small is (ap (λ (l : LockView). l.ticket_box.group) made) agree are,
      all,
      record {
        inside = entries.inside;
        used = λ group. ap (λ gs. is_entered gs group) groups ∙ entries.used group ∙ sym (ap (λ hs. is_used hs (map waiting_of waiters) group) held);
      },
    )
