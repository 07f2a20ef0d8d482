-- Entries, by the places of groups.
use Rattle.std.proofs.Common.{◌≡◌, ℕ, ◌<◌, ◌≤◌, Bool, true, false, eqb, List, [], ◌∷◌, ◌||◌, not, length, get_or, map, refl, sym, ap, subst, ◌∙◌, arith}
use Rattle.std.specs.Prelude.{All, Contains}
use Rattle.std.specs.List.{flat_map, list_any, list_all}
use Rattle.std.proofs.lemmas.Bool.{and_parts, eqb-true, eq-eqb, false_from_ne_true, not_from_false}
use Rattle.std.proofs.lemmas.List.{get_or-map, get_or_default, length-map}
use Rattle.std.proofs.lemmas.List.Folds.{Any-from_list_any, list_any-from_Any, list_any_at, list_all-map}
use Rattle.requests.specs.declared.group.Group.{Group}
use Rattle.requests.specs.declared.group.Group.TheVariants.{Warehouse}
use Rattle.groups.specs.Groups.{is_same, warehouse_of}
use Rattle.groups.specs.declared.group_wants.GroupWant.{GroupWant}
use Rattle.groups.specs.declared.wants.Want.{Want}
use Rattle.groups.proofs.SameGroups.{is_same-equal, is_same-itself}
use Rattle.tickets.specs.Places.{IsGroupOf, place_in_warehouse}
use Rattle.wait_die.specs.declared.deciding.Holder.{Holder}
use Rattle.local_locks.specs.LockTableView.{HeldClaim, Stand, WaitingAction, groups_of}
use Rattle.local_locks.specs.GroupWants.{IsOwn, group_wants}
use Rattle.local_locks.specs.Entries.{is_wanted, is_held, is_awaited, is_used, is_entered}
use Rattle.local_locks.specs.EntryPlaces.{ArePlaces, is_at, is_wanted_at, is_lent, is_held_at, is_awaited_at, is_used_at, is_among}
use Rattle.local_locks.specs.Locks.{LockView, WaiterView, IsLockAt, AreLocksOf, IsParked, group_at, groups_at, holding, holdings_of, stand_in, waiting_of}
use Rattle.local_locks.specs.Rulings.{Spot, spots_of}
use Rattle.local_locks.proofs.Asks.{home_there, no_lock}
use Rattle.local_locks.proofs.Covering.{group_wanted_same, one_group}
use Rattle.local_locks.proofs.Members.{contains_any, some_of}
use Rattle.local_locks.proofs.Stands.{inside}
use Rattle.local_locks.proofs.Tested.{any_agrees, any_joined, any_mapped, same_test}
use Rattle.local_locks.proofs.Views.{held_here, held_somewhere}

-- this is the group of the warehouse at this place
pub record IsGroupAt (warehouses w_id place : ℕ) (group : Group) : Type 0 where
  pub small : place < 105
  pub known : IsGroupOf warehouses group
  pub home : warehouse_of group ≡ w_id
  pub place_is : place_in_warehouse group ≡ place

-- the groups of these locks
abbrev pub groups_in : List LockView → List Group
groups_in locks = groups_of (map stand_in locks)

pub length-groups : (locks : List LockView) → length (groups_in locks) ≡ length locks
length-groups locks = length-map (map stand_in locks) (λ s. s.group) ∙ length-map locks stand_in

-- the group at a place is its lock's
pub lock_group : (locks : List LockView) (place : ℕ) (d : LockView) → place < length locks → group_at (groups_in locks) place ≡ (get_or locks place d).ticket_box.group
lock_group locks place d small =
    get_or-map (λ (s : Stand). s.group) (map stand_in locks) place (stand_in d) (Warehouse 0) (omega (arith, small, length-map locks stand_in))
    ∙ ap (λ (s : Stand). s.group) (get_or-map stand_in locks place d (stand_in d) small)

pub group_there : (warehouses w_id : ℕ) (locks : List LockView) (place : ℕ) → AreLocksOf warehouses w_id locks → place < 105 → IsGroupAt warehouses w_id place (group_at (groups_in locks) place)
group_there warehouses w_id locks place are small =
    let there : place < length locks = omega (arith, small, are.all_there) in
    let at = are.each place no_lock there in
    let same = lock_group locks place no_lock there in
    subst (IsGroupAt warehouses w_id place) (sym same) (record { small = small; known = at.known; home = at.here; place_is = at.place })

-- groups of one warehouse are equal exactly if their places are
pub same_place : (warehouses w_id m n : ℕ) (a b : Group) → IsGroupAt warehouses w_id m a → IsGroupAt warehouses w_id n b → is_same a b ≡ eqb m n
same_place warehouses w_id m n a b at bt =
    same_test (is_same a b) (eqb m n)
    (λ same. eq-eqb m n (sym at.place_is ∙ ap place_in_warehouse (is_same-equal a b same) ∙ bt.place_is))
    (λ same. subst (λ (g : Group). is_same a g ≡ true)
    (one_group warehouses a b at.known bt.known (at.home ∙ sym bt.home) (at.place_is ∙ eqb-true m n same ∙ sym bt.place_is)) (is_same-itself a))

-- ---- wanted

pub wanted_there : (warehouses w_id place : ℕ) (group : Group) (wants : List Want) → (1 ≤ w_id) × (w_id ≤ warehouses) → IsGroupAt warehouses w_id place group → All (IsOwn warehouses w_id) wants
    → is_wanted wants group ≡ is_wanted_at wants place
wanted_there warehouses w_id place group wants home at own =
    let H : GroupWant → Bool = λ w. is_same w.group group in
    let id : Bool → Bool = λ b. b in
    let same : map (is_at place) (flat_map spots_of wants) ≡ map H (group_wants wants) =
    group_wanted_same warehouses w_id wants (is_at place) H home own
    (λ other mode known own_home. sym (same_place warehouses w_id (place_in_warehouse other) place other group (record { small = inside warehouses other known; known = known; home = own_home; place_is = refl }) at)) in
    sym (any_mapped id H (group_wants wants)) ∙ sym (ap (list_any id) same) ∙ any_mapped id (is_at place) (flat_map spots_of wants)
    ∙ any_joined (is_at place) spots_of wants

unlike : false ≡ true → ⊥
unlike e = cc

-- what is wanted is among the warehouse's groups
each_inside : (groups : List Group) (group : Group) (ws : List GroupWant) → list_all (λ w. is_entered groups w.group) ws ≡ true → list_any (λ w. is_same w.group group) ws ≡ true → is_entered groups group ≡ true
each_inside groups group [] all some = absurd (unlike some)
each_inside groups group (w ∷ ws) all some = by (is_same w.group group) refl (each_inside groups group ws parts.1)
  where
    parts : (is_entered groups w.group ≡ true) × (list_all (λ v. is_entered groups v.group) ws ≡ true)
    parts = and_parts (is_entered groups w.group) (list_all (λ v. is_entered groups v.group) ws) all

    by : (b : Bool) → is_same w.group group ≡ b → (list_any (λ v. is_same v.group group) ws ≡ true → is_entered groups group ≡ true) → is_entered groups group ≡ true
    by true is rest = subst (λ (g : Group). is_entered groups g ≡ true) (is_same-equal w.group group is) parts.0
    by false isnt rest = rest (sym (ap (λ (b : Bool). b || list_any (λ v. is_same v.group group) ws) isnt) ∙ some)

all_true : (xs : List Spot) → list_all (λ b. b) (map (λ s. true) xs) ≡ true
all_true [] = refl
all_true (x ∷ xs) = all_true xs

pub there_entered : (warehouses w_id place : ℕ) (locks : List LockView) (group : Group) → AreLocksOf warehouses w_id locks → IsGroupAt warehouses w_id place group → is_entered (groups_in locks) group ≡ true
there_entered warehouses w_id place locks group are at =
    let small : place < length locks = omega (arith, at.small, are.all_there) in
    list_any_at (is_same group) (groups_in locks) place (Warehouse 0) (omega (arith, small, length-groups locks))
    (same_place warehouses w_id place place group (group_at (groups_in locks) place) at (group_there warehouses w_id locks place are at.small) ∙ eq-eqb place place refl)

pub wanted_inside : (warehouses w_id : ℕ) (locks : List LockView) (wants : List Want) (group : Group) → AreLocksOf warehouses w_id locks → All (IsOwn warehouses w_id) wants → is_wanted wants group ≡ true
    → is_entered (groups_in locks) group ≡ true
wanted_inside warehouses w_id locks wants group are own wanted =
    let H : GroupWant → Bool = λ w. is_entered (groups_in locks) w.group in
    let F : Spot → Bool = λ s. true in
    let id : Bool → Bool = λ b. b in
    let same : map F (flat_map spots_of wants) ≡ map H (group_wants wants) =
    group_wanted_same warehouses w_id wants F H (home_there warehouses w_id locks are) own
    (λ other mode known own_home.
    sym (there_entered warehouses w_id (place_in_warehouse other) locks other are (record { small = inside warehouses other known; known = known; home = own_home; place_is = refl }))) in
    each_inside (groups_in locks) group (group_wants wants) (sym (list_all-map id H (group_wants wants)) ∙ sym (ap (list_all id) same) ∙ all_true (flat_map spots_of wants)) wanted

-- ---- held and waited for

pub held_there : (warehouses w_id place : ℕ) (locks : List LockView) → AreLocksOf warehouses w_id locks → place < 105
    → is_held (flat_map holdings_of locks) (group_at (groups_in locks) place) ≡ is_held_at locks place
held_there warehouses w_id place locks are small =
    same_test (is_held holdings group) (is_held_at locks place) there back
  where
    holdings : List HeldClaim
    holdings = flat_map holdings_of locks

    group : Group
    group = group_at (groups_in locks) place

    lock : LockView
    lock = get_or locks place no_lock

    in_locks : place < length locks
    in_locks = omega (arith, small, are.all_there)

    at : IsGroupAt warehouses w_id place group
    at = group_there warehouses w_id locks place are small

    lent : is_held_at locks place ≡ is_lent lock
    lent = get_or-map is_lent locks place no_lock false in_locks

    filled : (l : LockView) (by : Holder) → Contains l.holders by → is_lent l ≡ true
    filled l by c = not_from_false (eqb (length l.holders) 0) (false_from_ne_true (eqb (length l.holders) 0) (λ none. omega (arith, c.1, eqb-true (length l.holders) 0 none)))

    there : is_held holdings group ≡ true → is_held_at locks place ≡ true
    there held =
        let found = Any-from_list_any (λ (h : HeldClaim). is_same h.group group) holdings held in
        let h = found.1 in
        let spot = held_somewhere locks h (found.0, found.2, found.3) in
        let number = spot.0 in
        let there_at : IsLockAt warehouses w_id number spot.1 = subst (IsLockAt warehouses w_id number) spot.2.is (are.each number spot.1 spot.2.small) in
        let same : number ≡ place = sym there_at.place ∙ ap place_in_warehouse (spot.2.group ∙ is_same-equal h.group group found.4) ∙ at.place_is in
        let one : lock ≡ spot.1 = ap (λ (n : ℕ). get_or locks n no_lock) (sym same) ∙ get_or_default locks number no_lock spot.1 spot.2.small ∙ spot.2.is in
        lent ∙ filled lock h.by (subst (λ (l : LockView). Contains l.holders h.by) (sym one) spot.2.by)

    back : is_held_at locks place ≡ true → is_held holdings group ≡ true
    back is =
        let some = some_of lock.holders (λ none. unlike (sym (ap (λ (hs : List Holder). not (eqb (length hs) 0)) none) ∙ sym lent ∙ is)) in
        let h = holding lock.ticket_box.group lock.ticket_box.mode some.0 in
        let own : lock.ticket_box.group ≡ group = sym (lock_group locks place no_lock in_locks) in
        list_any-from_Any (λ (x : HeldClaim). is_same x.group group) holdings
        (contains_any (λ (x : HeldClaim). is_same x.group group ≡ true) holdings h (held_here locks place no_lock some.0 in_locks some.1)
        (subst (λ (g : Group). is_same lock.ticket_box.group g ≡ true) own (is_same-itself lock.ticket_box.group)))

pub awaited_there : (warehouses w_id place : ℕ) (group : Group) (waiters : List WaiterView) → (1 ≤ w_id) × (w_id ≤ warehouses) → IsGroupAt warehouses w_id place group → All (IsParked warehouses w_id) waiters
    → is_awaited (map waiting_of waiters) group ≡ is_awaited_at waiters place
awaited_there warehouses w_id place group waiters home at all =
    any_mapped (λ (w : WaitingAction). is_wanted w.wants group) waiting_of waiters
    ∙ any_agrees (IsParked warehouses w_id) (λ (p : WaiterView). is_wanted p.wants group) (λ (p : WaiterView). is_wanted_at p.wants place)
    (λ p parked. wanted_there warehouses w_id place group p.wants home at parked.can.own) waiters all

pub used_there : (warehouses w_id place : ℕ) (locks : List LockView) (waiters : List WaiterView) → AreLocksOf warehouses w_id locks → All (IsParked warehouses w_id) waiters → place < 105
    → is_used (flat_map holdings_of locks) (map waiting_of waiters) (group_at (groups_in locks) place) ≡ is_used_at locks waiters place
used_there warehouses w_id place locks waiters are all small =
    let held = held_there warehouses w_id place locks are small in
    let awaited = awaited_there warehouses w_id place (group_at (groups_in locks) place) waiters (home_there warehouses w_id locks are) (group_there warehouses w_id locks place are small) all in
    λ i. held i || awaited i

-- ---- entries

pub entered_there : (warehouses w_id place : ℕ) (locks : List LockView) (places : List ℕ) → AreLocksOf warehouses w_id locks → ArePlaces places → place < 105
    → is_entered (groups_at (map stand_in locks) places) (group_at (groups_in locks) place) ≡ is_among places place
entered_there warehouses w_id place locks places are small_places small =
    let group = group_at (groups_in locks) place in
    any_mapped (is_same group) (group_at (groups_in locks)) places
    ∙ any_agrees (λ k. k < 105) (λ k. is_same group (group_at (groups_in locks) k)) (λ k. eqb place k)
    (λ k k_small. same_place warehouses w_id place k group (group_at (groups_in locks) k) (group_there warehouses w_id locks place are small) (group_there warehouses w_id locks k are k_small)) places small_places
