-- A claim comes back to its lock.
use Rattle.std.proofs.Common.{◌≡◌, ◌≢◌, ℕ, zero, suc, ◌+◌, ◌<◌, ◌≤◌, Bool, true, false, List, [], ◌∷◌, ◌++◌, length, get_or, set, map, refl, sym, ap, subst, ◌∙◌, ⊎_elim, cond, arith, length-set, append_assoc}
use Rattle.std.specs.Prelude.{Contains, count_by, if◌then◌else◌, ◌==◌, ◌&&◌}
use Rattle.std.specs.List.{flat_map}
use Rattle.std.specs.List.Sorted.{IsPermutation}
use Rattle.std.proofs.lemmas.Bool.{and_from, and_parts, eq-eqb, eqb-true}
use Rattle.std.proofs.lemmas.Bool.Decides.{eqb_tells}
use Rattle.std.proofs.lemmas.List.Sums.{sum_by-cons, sum_by-append}
use Rattle.std.proofs.lemmas.List.{append-nil, nil_from_length, get_or-map, get_or-set_same, get_or-set_other, get_or_default, length-map, map-append, same_lists}
use Rattle.std.proofs.lemmas.List.Sorted.{IsPermutation-refl, IsPermutation-sym, IsPermutation-trans, IsPermutation-append_left, IsPermutation-append_right, IsPermutation-map, sum_by-IsPermutation}
use Rattle.std.proofs.lemmas.Simd.{map-map}
use Rattle.requests.specs.declared.group.Group.{Group}
use Rattle.groups.specs.Groups.{is_same, warehouse_of}
use Rattle.groups.specs.declared.group_wants.Mode.{Mode}
use Rattle.groups.specs.declared.group_wants.GroupWant.{GroupWant}
use Rattle.groups.specs.declared.group_wants.Mode.TheVariants.{Shared, Exclusive}
use Rattle.groups.proofs.SameGroups.{is_same-itself, is_same-other}
use Rattle.tickets.proofs.Apart.{by_mode, is_same-equal}
use Rattle.groups.specs.Content.{Content}
use Rattle.tickets.specs.Boxes.{TicketBoxView, taken_back, with_left}
use Rattle.tickets.specs.Claims.{ClaimView}
use Rattle.tickets.specs.Places.{IsGroupOf, place_in_warehouse}
use Rattle.wait_die.specs.declared.deciding.Holder.{Holder}
use Rattle.local_locks.specs.LockTableView.{HeldClaim, Stand, LockTableView, stand_of}
use Rattle.local_locks.specs.Asking.{claimed, held_by, AreHeld, AreTogether, kept_after, left_after, leaving_in}
use Rattle.local_locks.specs.Locks.{LockView, lock_view, Agree, IsLocked, holding, holdings_of, stand_in, groups_at, IsLockAt, AreLocksOf, KeepsLocks, WaiterView, waiting_of, locking}
use Rattle.local_locks.proofs.Covering.{one_group}
use Rattle.local_locks.proofs.EntryGroups.{entries_kept}
use Rattle.local_locks.proofs.Grants.{one_lock}
use Rattle.local_locks.proofs.InPlace.{in_place}
use Rattle.local_locks.proofs.Members.{contains_here, contains_there}
use Rattle.local_locks.proofs.Stands.{inside}
use Rattle.local_locks.proofs.Views.{held_somewhere}

-- The lock at the place of a claim's group is the group's; and if the claim is out, its holder is in that lock.
pub record IsHome (locks : List LockView) (claim : ClaimView) (number : ℕ) (lock : LockView) : Type 0 where
  pub small : number < length locks
  pub group : claim.group ≡ lock.ticket_box.group
  pub held : Contains (flat_map holdings_of locks) (held_by claim) → Contains lock.holders claim.by

pub comes_home : (warehouses w_id : ℕ) (locks : List LockView) (claim : ClaimView) (number : ℕ) (lock : LockView) → AreLocksOf warehouses w_id locks → IsGroupOf warehouses claim.group → warehouse_of claim.group ≡ w_id
    → number ≡ place_in_warehouse claim.group → lock ≡ get_or locks number lock → IsHome locks claim number lock
comes_home warehouses w_id locks claim number lock are known home at is =
    let small : number < length locks = omega (arith, inside warehouses claim.group known, at, are.all_there) in
    let there : IsLockAt warehouses w_id number lock = subst (IsLockAt warehouses w_id number) (sym is) (are.each number lock small) in
    record {
      small = small;
      group = one_group warehouses claim.group lock.ticket_box.group known there.known (home ∙ sym there.here) (sym at ∙ sym there.place);
      held = λ c.
          let found = held_somewhere locks (held_by claim) c in
          let other = found.1 in
          let held = found.2 in
          let other_at : IsLockAt warehouses w_id found.0 other = subst (IsLockAt warehouses w_id found.0) held.is (are.each found.0 other held.small) in
          let place : found.0 ≡ number = sym other_at.place ∙ ap place_in_warehouse held.group ∙ sym at in
          let same : other ≡ lock = sym held.is ∙ ap (λ (n : ℕ). get_or locks n other) place ∙ get_or_default locks number other lock small ∙ sym is in
          subst (λ (l : LockView). Contains l.holders claim.by) same held.by;
    }

-- ---- one claim is back

-- those who still hold the group, hold it as they did
still_held : (old new : LockView) → IsLocked old → new.ticket_box ≡ taken_back old.ticket_box → length new.holders + 1 ≡ length old.holders → holdings_of new ≡ map (holding old.ticket_box.group old.ticket_box.mode) new.holders
still_held old new agree box fewer =
    let group : new.ticket_box.group ≡ old.ticket_box.group = ap (λ (b : TicketBoxView). b.group) box in
    let shared : new.ticket_box.mode ≡ Shared = ap (λ (b : TicketBoxView). b.mode) box in
    by_mode old.ticket_box.mode refl
    (λ exclusive.
    let one : Agree Exclusive old.ticket_box old.holders = subst (λ m. Agree m old.ticket_box old.holders) exclusive agree in
    let none : new.holders ≡ [] = nil_from_length new.holders (omega (arith, one.1, fewer)) in
    ap (map (holding new.ticket_box.group new.ticket_box.mode)) none ∙ sym (ap (map (holding old.ticket_box.group old.ticket_box.mode)) none))
    (λ was. (λ i. map (holding (group i) ((shared ∙ sym was) i)) new.holders))

-- one of all that the locks have goes, where one of those of a lock does
one_fewer : {A : Type 0} (f : LockView → List A) (locks : List LockView) (number : ℕ) (old new : LockView) (a : A) → number < length locks → old ≡ get_or locks number old → IsPermutation (f old) (a ∷ f new)
    → IsPermutation (flat_map f locks) (a ∷ flat_map f (set locks number new))
one_fewer {A} f locks number old new a small is moved =
    let place = in_place f locks number old small in
    let all = flat_map f in
    let before : IsPermutation (all locks) (f old ++ place.rest) = subst (λ (l : LockView). IsPermutation (all locks) (f l ++ place.rest)) (sym is) place.now in
    let parted : IsPermutation (f old ++ place.rest) ((a ∷ f new) ++ place.rest) = IsPermutation-append_left place.rest (f old) (a ∷ f new) moved in
    let joined : IsPermutation (a ∷ [] ++ (f new ++ place.rest)) (a ∷ [] ++ all (set locks number new)) =
    IsPermutation-append_right (a ∷ []) (f new ++ place.rest) (all (set locks number new)) (IsPermutation-sym (all (set locks number new)) (f new ++ place.rest) (place.after new)) in
    IsPermutation-trans (all locks) (f old ++ place.rest) (a ∷ all (set locks number new)) before
    (IsPermutation-trans (f old ++ place.rest) ((a ∷ f new) ++ place.rest) (a ∷ all (set locks number new)) parted joined)

-- A claim is back in its lock.
pub record ComesBack (old new : LockView) (claim : ClaimView) : Type 0 where
  pub agree : IsLocked old
  pub box : new.ticket_box ≡ taken_back old.ticket_box
  pub fewer : length new.holders + 1 ≡ length old.holders
  pub holders : Contains old.holders claim.by → IsPermutation old.holders (claim.by ∷ new.holders)
  pub group : claim.group ≡ old.ticket_box.group
  pub mode : claim.mode ≡ old.ticket_box.mode

-- what its holder held with it
pub back_held : (locks : List LockView) (number : ℕ) (old new : LockView) (claim : ClaimView) → number < length locks → old ≡ get_or locks number old → ComesBack old new claim → Contains old.holders claim.by
    → IsPermutation (flat_map holdings_of locks) (held_by claim ∷ flat_map holdings_of (set locks number new))
back_held locks number old new claim small is back here =
    let hold = holding old.ticket_box.group old.ticket_box.mode in
    let moved : IsPermutation (holdings_of old) (hold claim.by ∷ map hold new.holders) = IsPermutation-map hold old.holders (claim.by ∷ new.holders) (back.holders here) in
    let still : IsPermutation (holdings_of old) (hold claim.by ∷ holdings_of new) = subst (λ (hs : List HeldClaim). IsPermutation (holdings_of old) (hold claim.by ∷ hs)) (sym (still_held old new back.agree back.box back.fewer)) moved in
    let named : hold claim.by ≡ held_by claim = sym (λ i. holding (back.group i) (back.mode i) claim.by) in
    one_fewer holdings_of locks number old new (held_by claim) small is (subst (λ (h : HeldClaim). IsPermutation (holdings_of old) (h ∷ holdings_of new)) named still)

-- the groups that a lock's holders claim, and how
claims_of : LockView → List GroupWant
claims_of lock = map claimed (holdings_of lock)

claimed_all : (locks : List LockView) → map claimed (flat_map holdings_of locks) ≡ flat_map claims_of locks
unfolding claims_of
claimed_all [] = refl
claimed_all (lock ∷ locks) = map-append claimed (holdings_of lock) (flat_map holdings_of locks) ∙ ap (λ ws. map claimed (holdings_of lock) ++ ws) (claimed_all locks)

-- as many holders claim as much
as_many : (group : Group) (mode : Mode) (hs ks : List Holder) → length hs ≡ length ks → map claimed (map (holding group mode) hs) ≡ map claimed (map (holding group mode) ks)
as_many group mode [] [] long = refl
as_many group mode [] (k ∷ ks) long = absurd (omega (arith, long))
as_many group mode (h ∷ hs) [] long = absurd (omega (arith, long))
as_many group mode (h ∷ hs) (k ∷ ks) long = ap (λ ws. record { group = group; mode = mode } ∷ ws) (as_many group mode hs ks (omega (arith, long)))

-- what was claimed with it, whoever holds it
pub back_out : (locks : List LockView) (number : ℕ) (old new : LockView) (claim : ClaimView) → number < length locks → old ≡ get_or locks number old → ComesBack old new claim
    → IsPermutation (map claimed (flat_map holdings_of locks)) (claimed (held_by claim) ∷ map claimed (flat_map holdings_of (set locks number new)))
unfolding claims_of
back_out locks number old new claim small is back =
    let hold = holding old.ticket_box.group old.ticket_box.mode in
    let one : claimed (hold claim.by) ≡ claimed (held_by claim) = sym (λ i. record { group = back.group i; mode = back.mode i }) in
    let fewer : claims_of old ≡ claimed (held_by claim) ∷ claims_of new =
    as_many old.ticket_box.group old.ticket_box.mode old.holders (claim.by ∷ new.holders) (omega (arith, back.fewer))
    ∙ (λ i. one i ∷ map claimed (sym (still_held old new back.agree back.box back.fewer) i)) in
    let moved : IsPermutation (claims_of old) (claimed (held_by claim) ∷ claims_of new) = subst (IsPermutation (claims_of old)) fewer (IsPermutation-refl (claims_of old)) in
    let all = one_fewer claims_of locks number old new (claimed (held_by claim)) small is moved in
    subst (λ ws. IsPermutation ws (claimed (held_by claim) ∷ map claimed (flat_map holdings_of (set locks number new)))) (sym (claimed_all locks))
    (subst (λ ws. IsPermutation (flat_map claims_of locks) (claimed (held_by claim) ∷ ws)) (sym (claimed_all (set locks number new))) all)

-- The contents of the groups, if one of them changes.
pub one_stand : (warehouses w_id : ℕ) (locks : List LockView) (number : ℕ) (old new : LockView) (change : Stand → Stand) → AreLocksOf warehouses w_id locks → number < length locks → old ≡ get_or locks number old
    → stand_in new ≡ change (stand_in old) → ((stand : Stand) → stand.group ≢ old.ticket_box.group → change stand ≡ stand) → map stand_in (set locks number new) ≡ map change (map stand_in locks)
one_stand warehouses w_id locks number old new change are small is own others =
    same_lists (map stand_in (set locks number new)) (map change (map stand_in locks))
    (length-map (set locks number new) stand_in ∙ length-set locks number new ∙ sym (length-map locks stand_in) ∙ sym (length-map (map stand_in locks) change)) each
  where
    each : (k : ℕ) (d : Stand) → k < length (map stand_in (set locks number new)) → get_or (map stand_in (set locks number new)) k d ≡ get_or (map change (map stand_in locks)) k d
    each k d inside =
        let here : k < length (set locks number new) = omega (arith, inside, length-map (set locks number new) stand_in) in
        let there : k < length locks = omega (arith, here, length-set locks number new) in
        let mapped : get_or (map change (map stand_in locks)) k d ≡ change (stand_in (get_or locks k old)) =
        get_or-map change (map stand_in locks) k d d (omega (arith, there, length-map locks stand_in)) ∙ ap change (get_or-map stand_in locks k old d there) in
        let found : get_or (map stand_in (set locks number new)) k d ≡ stand_in (get_or (set locks number new) k old) = get_or-map stand_in (set locks number new) k old d here in
        ⊎_elim
        (λ (same : ((k == number) ≡ true) × (k ≡ number)).
        let P : ℕ → Type 0 = λ j. stand_in (get_or (set locks number new) j old) ≡ change (stand_in (get_or locks j old)) in
        found ∙ subst P (sym same.1) (ap stand_in (get_or-set_same locks number new old small) ∙ own ∙ ap (λ (l : LockView). change (stand_in l)) is) ∙ sym mapped)
        (λ (other : ((k == number) ≡ false) × (k ≢ number)).
        let lock = get_or locks k old in
        let place : place_in_warehouse lock.ticket_box.group ≡ k = (are.each k old there).place in
        let own_place : place_in_warehouse old.ticket_box.group ≡ number = ap (λ (l : LockView). place_in_warehouse l.ticket_box.group) is ∙ (are.each number old small).place in
        let apart : lock.ticket_box.group ≢ old.ticket_box.group = λ same. other.1 (sym place ∙ ap place_in_warehouse same ∙ own_place) in
        found ∙ ap stand_in (get_or-set_other locks number k new old other.1) ∙ sym (others (stand_in lock) apart) ∙ sym mapped)
        (eqb_tells k number)

-- once a claim is back
pub back_stands : (warehouses w_id : ℕ) (locks : List LockView) (number : ℕ) (old new : LockView) (claim : ClaimView) → AreLocksOf warehouses w_id locks → number < length locks → old ≡ get_or locks number old → new.ticket_box ≡ taken_back old.ticket_box
    → claim.group ≡ old.ticket_box.group → map stand_in (set locks number new) ≡ map (kept_after claim) (map stand_in locks)
back_stands warehouses w_id locks number old new claim are small is box group =
    one_stand warehouses w_id locks number old new (kept_after claim) are small is own others
  where
    own : stand_in new ≡ kept_after claim (stand_in old)
    own =
        let b = old.ticket_box in
        let test : is_same b.group claim.group ≡ true = ap (λ (g : Group). is_same b.group g) group ∙ is_same-itself b.group in
        ap stand_of box ∙ sym (ap (λ (t : Bool). record { group = b.group; left = b.left; back = if t then b.left else b.back }) test)

    others : (stand : Stand) → stand.group ≢ old.ticket_box.group → kept_after claim stand ≡ stand
    others stand apart =
        let test : is_same stand.group claim.group ≡ false = is_same-other stand.group claim.group (λ same. apart (sym same ∙ group)) in
        ap (λ (t : Bool). record { group = stand.group; left = stand.left; back = if t then stand.left else stand.back }) test

-- once something else is left in a group
pub left_stands : (warehouses w_id : ℕ) (locks : List LockView) (number : ℕ) (old new : LockView) (group : Group) (content : Content) → AreLocksOf warehouses w_id locks → number < length locks → old ≡ get_or locks number old
    → new ≡ lock_view (with_left old.ticket_box content) old.holders → group ≡ old.ticket_box.group → map stand_in (set locks number new) ≡ map (left_after group content) (map stand_in locks)
left_stands warehouses w_id locks number old new group content are small is made same =
    one_stand warehouses w_id locks number old new (left_after group content) are small is own others
  where
    own : stand_in new ≡ left_after group content (stand_in old)
    own =
        let b = old.ticket_box in
        let test : is_same b.group group ≡ true = ap (λ (g : Group). is_same b.group g) same ∙ is_same-itself b.group in
        ap stand_in made ∙ sym (ap (λ (t : Bool). record { group = b.group; left = if t then content else b.left; back = b.back }) test)

    others : (stand : Stand) → stand.group ≢ old.ticket_box.group → left_after group content stand ≡ stand
    others stand apart =
        let test : is_same stand.group group ≡ false = is_same-other stand.group group (λ e. apart (sym e ∙ same)) in
        ap (λ (t : Bool). record { group = stand.group; left = if t then content else stand.left; back = stand.back }) test

-- all holdings are unchanged
pub left_held : (locks : List LockView) (number : ℕ) (d new : LockView) → number < length locks → holdings_of new ≡ holdings_of (get_or locks number d) → flat_map holdings_of (set locks number new) ≡ flat_map holdings_of locks
left_held [] number d new small same = refl
left_held (lock ∷ locks) zero d new small same = ap (λ hs. hs ++ flat_map holdings_of locks) same
left_held (lock ∷ locks) (suc number) d new small same = ap (λ hs. holdings_of lock ++ hs) (left_held locks number d new (omega (arith, small)) same)

-- the table once something else is left in a group
pub left_table : (warehouses w_id : ℕ) (table : LockTableView) (locks : List LockView) (waiters : List WaiterView) (places : List ℕ) (number : ℕ) (d new : LockView) (group : Group) (content : Content) → locking w_id locks waiters places ≡ table → AreLocksOf warehouses w_id locks
    → IsGroupOf warehouses group → warehouse_of group ≡ table.w_id → number ≡ place_in_warehouse group → new ≡ lock_view (with_left (get_or locks number d).ticket_box content) (get_or locks number d).holders
    → locking w_id (set locks number new) waiters places ≡ leaving_in table group content
left_table warehouses w_id table locks waiters places number d new group content view are known home at made =
    let old = get_or locks number d in
    let small : number < length locks = omega (arith, inside warehouses group known, at, are.all_there) in
    let is : old ≡ get_or locks number old = get_or_default locks number d old small in
    let there = are.each number d small in
    let own_home : w_id ≡ table.w_id = ap (λ (t : LockTableView). t.w_id) view in
    let same : group ≡ old.ticket_box.group = one_group warehouses group old.ticket_box.group known there.known (home ∙ sym own_home ∙ sym there.here) (sym at ∙ sym there.place) in
    let stands = left_stands warehouses w_id locks number old new group content are small is made same in
    let held = left_held locks number d new small (ap holdings_of made) in
    let entries : groups_at (map stand_in (set locks number new)) places ≡ groups_at (map stand_in locks) places =
    ap (λ ss. groups_at ss places) stands ∙ entries_kept (left_after group content) (λ s. refl) (map stand_in locks) places in
    (λ i. record { w_id = w_id; stands = stands i; holdings = held i; waiters = map waiting_of waiters; entries = entries i }) ∙ ap (λ (t : LockTableView). leaving_in t group content) view

pub back_locks : (warehouses : ℕ) (locks : List LockView) (number : ℕ) (old new : LockView) → number < length locks → old ≡ get_or locks number old → new.ticket_box ≡ taken_back old.ticket_box → IsLocked new → KeepsLocks warehouses locks (set locks number new)
back_locks warehouses locks number old new small is box agree = λ w_id are.
    one_lock warehouses w_id locks number old new small is (ap (λ (b : TicketBoxView). b.group) box) agree are

-- ---- one after another

abbrev same_mode : Mode → Mode → Bool
same_mode Shared Shared = true
same_mode Exclusive Exclusive = true
same_mode Shared Exclusive = false
same_mode Exclusive Shared = false

-- whether two holdings are one
abbrev pub is_holding : HeldClaim → HeldClaim → Bool
is_holding a b = ((a.by.age == b.by.age) && (a.by.place == b.by.place)) && (is_same a.group b.group && same_mode a.mode b.mode)

mode_itself : (m : Mode) → same_mode m m ≡ true
mode_itself Shared = refl
mode_itself Exclusive = refl

mode_equal : (a b : Mode) → same_mode a b ≡ true → a ≡ b
mode_equal Shared Shared same = refl
mode_equal Exclusive Exclusive same = refl
mode_equal Shared Exclusive same = cc
mode_equal Exclusive Shared same = cc

pub holding_itself : (h : HeldClaim) → is_holding h h ≡ true
holding_itself h =
    and_from _ _ (and_from _ _ (eq-eqb h.by.age h.by.age refl) (eq-eqb h.by.place h.by.place refl)) (and_from _ _ (is_same-itself h.group) (mode_itself h.mode))

holding_equal : (a b : HeldClaim) → is_holding a b ≡ true → a ≡ b
holding_equal a b same =
    let parts = and_parts ((a.by.age == b.by.age) && (a.by.place == b.by.place)) (is_same a.group b.group && same_mode a.mode b.mode) same in
    let first = and_parts (a.by.age == b.by.age) (a.by.place == b.by.place) parts.0 in
    let second = and_parts (is_same a.group b.group) (same_mode a.mode b.mode) parts.1 in
    let age = eqb-true a.by.age b.by.age first.0 in
    let place = eqb-true a.by.place b.by.place first.1 in
    let group = is_same-equal a.group b.group second.0 in
    let mode = mode_equal a.mode b.mode second.1 in
    (λ i. record { by = record { age = age i; place = place i }; group = group i; mode = mode i })

-- how often a holding is among these
abbrev pub count_of : HeldClaim → List HeldClaim → ℕ
count_of h hs = count_by (is_holding h) hs

pub count_cons : (h x : HeldClaim) (xs : List HeldClaim) → count_of h (x ∷ xs) ≡ cond (is_holding h x) 1 0 + count_of h xs
count_cons h x xs = sum_by-cons (λ y. cond (is_holding h y) 1 0) x xs

pub count_append : (h : HeldClaim) (xs ys : List HeldClaim) → count_of h (xs ++ ys) ≡ count_of h xs + count_of h ys
count_append h xs ys = sum_by-append (λ y. cond (is_holding h y) 1 0) xs ys

pub count_moved : (h : HeldClaim) (xs ys : List HeldClaim) → IsPermutation xs ys → count_of h ys ≡ count_of h xs
count_moved h xs ys moved = sum_by-IsPermutation (λ y. cond (is_holding h y) 1 0) xs ys moved

pub counted_contains : (h : HeldClaim) (xs : List HeldClaim) → 1 ≤ count_of h xs → Contains xs h
counted_contains h [] some = absurd (omega (arith, some))
counted_contains h (x ∷ xs) some = by_test (is_holding h x) refl (counted_contains h xs)
  where
    by_test : (b : Bool) → is_holding h x ≡ b → (1 ≤ count_of h xs → Contains xs h) → Contains (x ∷ xs) h
    by_test true is later = subst (λ (y : HeldClaim). Contains (y ∷ xs) h) (holding_equal h x is) (contains_here h xs)
    by_test false isnt later = contains_there x xs h (later (omega (arith, some, count_cons h x xs, ap {B = ℕ} (λ b. cond b 1 0) isnt)))

-- ---- what came back so far, and what is still out

-- what a claim is on, and how
abbrev pub on : ClaimView → GroupWant
on claim = claimed (held_by claim)

pub record AreBack (holdings : List HeldClaim) (claims rest : List ClaimView) (left : List HeldClaim) : Type 0 where
  pub done : List ClaimView
  pub parts : claims ≡ done ++ rest
  pub out : IsPermutation (map claimed holdings) (map on done ++ map claimed left)
  pub held : AreHeld holdings claims → IsPermutation holdings (map held_by done ++ left)

pub none_back : (holdings : List HeldClaim) (claims : List ClaimView) → AreBack holdings claims claims holdings
none_back holdings claims = record { done = []; parts = refl; out = IsPermutation-refl (map claimed holdings); held = λ h. IsPermutation-refl holdings }

-- the next of those that come back is out
pub still_out : (holdings left : List HeldClaim) (claim : ClaimView) (claims rest : List ClaimView) → AreBack holdings claims (claim ∷ rest) left → AreHeld holdings claims → Contains left (held_by claim)
still_out holdings left claim claims rest back held =
    let one = held_by claim in
    let f = map held_by in
    let test : cond (is_holding one one) 1 0 ≡ 1 = ap {B = ℕ} (λ b. cond b 1 0) (holding_itself one) in
    let whole : f claims ≡ f back.done ++ (one ∷ f rest) = ap f back.parts ∙ map-append held_by back.done (claim ∷ rest) in
    counted_contains one left (omega (
      arith,
      count_moved one holdings (f claims ++ held.0) held.1,
      count_append one (f claims) held.0,
      ap {B = ℕ} (count_of one) whole,
      count_append one (f back.done) (one ∷ f rest),
      count_cons one one (f rest),
      test,
      count_moved one holdings (f back.done ++ left) (back.held held),
      count_append one (f back.done) left,
    ))

-- one more of all these is one of those that are done
one_done : {A : Type 0} (f : ClaimView → A) (all left next : List A) (done : List ClaimView) (claim : ClaimView) → IsPermutation all (map f done ++ left) → IsPermutation left (f claim ∷ next) → IsPermutation all (map f (done ++ claim ∷ []) ++ next)
one_done f all left next done claim before moved =
    let parts : map f (done ++ claim ∷ []) ++ next ≡ map f done ++ (f claim ∷ next) = ap (λ rest. rest ++ next) (map-append f done (claim ∷ [])) ∙ append_assoc (map f done) (f claim ∷ []) next in
    subst (IsPermutation all) (sym parts) (IsPermutation-trans all (map f done ++ left) (map f done ++ (f claim ∷ next)) before (IsPermutation-append_right (map f done) left (f claim ∷ next) moved))

pub one_back : (holdings left next : List HeldClaim) (claim : ClaimView) (claims rest : List ClaimView) → AreBack holdings claims (claim ∷ rest) left → IsPermutation (map claimed left) (claimed (held_by claim) ∷ map claimed next)
    → (Contains left (held_by claim) → IsPermutation left (held_by claim ∷ next)) → AreBack holdings claims rest next
one_back holdings left next claim claims rest back out held = record {
  done = back.done ++ claim ∷ [];
  parts = back.parts ∙ sym (append_assoc back.done (claim ∷ []) rest);
  out = one_done on (map claimed holdings) (map claimed left) (map claimed next) back.done claim back.out out;
  held = λ h. one_done held_by holdings left next back.done claim (back.held h) (held (still_out holdings left claim claims rest back h));
}

all_done : (holdings left : List HeldClaim) (claims rest : List ClaimView) → rest ≡ [] → (back : AreBack holdings claims rest left) → claims ≡ back.done
all_done holdings left claims rest none back = back.parts ∙ ap (λ cs. back.done ++ cs) none ∙ append-nil back.done

pub all_back : (holdings left : List HeldClaim) (claims rest : List ClaimView) → rest ≡ [] → AreBack holdings claims rest left → AreHeld holdings claims → IsPermutation holdings (map held_by claims ++ left)
all_back holdings left claims rest none back held =
    subst (λ (cs : List ClaimView). IsPermutation holdings (map held_by cs ++ left)) (sym (all_done holdings left claims rest none back)) (back.held held)

pub all_out : (holdings left : List HeldClaim) (claims rest : List ClaimView) → rest ≡ [] → AreBack holdings claims rest left → AreTogether holdings (map held_by claims) left
all_out holdings left claims rest none back =
    let mapped : map claimed (map held_by claims) ≡ map on claims = map-map claimed held_by claims in
    let whole : IsPermutation (map claimed holdings) (map on claims ++ map claimed left) = subst (λ (cs : List ClaimView). IsPermutation (map claimed holdings) (map on cs ++ map claimed left)) (sym (all_done holdings left claims rest none back)) back.out in
    subst (λ ws. IsPermutation (map claimed holdings) (ws ++ map claimed left)) (sym mapped) whole
