-- What grants leave: of one place, and of several.
use Rattle.std.proofs.Common.{◌≡◌, ◌≢◌, ℕ, ◌+◌, ◌<◌, ◌≤◌, true, false, List, [], ◌∷◌, ◌++◌, length, get_or, set, take, drop, map, refl, sym, ap, subst, ◌∙◌, ⊎_elim, arith, append_assoc, length-set}
use Rattle.std.specs.Prelude.{All, AllPairs, Contains, if◌then◌else◌, ◌==◌}
use Rattle.std.specs.List.{flat_map}
use Rattle.std.specs.List.Sorted.{IsPermutation}
use Rattle.std.proofs.Math.Seq.{map-set_same}
use Rattle.std.proofs.lemmas.Bool.Decides.{eqb_tells}
use Rattle.std.proofs.lemmas.List.{append-nil, get_or-map, get_or-set_same, get_or-set_other, length-map, map-append}
use Rattle.std.proofs.lemmas.List.Elements.{All-contains, All-contains_itself, All-weaker, Contains-append_left, Contains-get_or, All-cons, All-head, All-tail}
use Rattle.std.proofs.lemmas.List.Sorted.{IsPermutation-refl, IsPermutation-sym, IsPermutation-trans, IsPermutation-append_left, IsPermutation-append_right, IsPermutation-to_front}
use Rattle.requests.specs.declared.group.Group.{Group}
use Rattle.requests.specs.declared.group.Group.TheVariants.{Warehouse}
use Rattle.groups.specs.Groups.{warehouse_of}
use Rattle.groups.specs.declared.group_wants.Mode.{Mode}
use Rattle.groups.specs.declared.group_wants.Mode.TheVariants.{Shared, Exclusive}
use Rattle.tickets.proofs.Apart.{by_mode}
use Rattle.tickets.specs.Boxes.{TicketBoxView, sharing}
use Rattle.groups.specs.declared.wants.Want.{Want}
use Rattle.tickets.specs.Claims.{ClaimView}
use Rattle.tickets.specs.Places.{IsGroupOf, place_in_warehouse}
use Rattle.tickets.specs.Unset.{nothing}
use Rattle.wait_die.specs.declared.deciding.Holder.{Holder}
use Rattle.local_locks.specs.LockTableView.{HeldClaim, Stand, stand_of}
use Rattle.local_locks.specs.Locks.{LockView, lock_view, Agree, IsLocked, is_taken, conflicting, given_out, holding, holdings_of, stand_in, IsLockAt, AreLocksOf}
use Rattle.local_locks.specs.Rulings.{Spot, spot, spots_of, first_place, count_in}
use Rattle.local_locks.specs.GroupWants.{IsWanted}
use Rattle.local_locks.specs.Granting.{IsOpen, stand_at, claim_at, held_at, AreElsewhere, IsNotAt, AreGranted}
use Rattle.local_locks.proofs.InPlace.{in_place, swap_parts}
use Rattle.local_locks.proofs.Members.{contains_joined}
use Rattle.local_locks.proofs.Spots.{spot_inside, extent_inside, pairs_across, joined_parts}

-- ---- a lock that is open

-- where nobody conflicts with a want, no exclusive claim is out
pub open_is_shared : (mode : Mode) (lock : LockView) → IsLocked lock → conflicting mode lock ≡ [] → lock.ticket_box.mode ≡ Shared
open_is_shared mode lock agree clear =
    by_mode lock.ticket_box.mode refl
    (λ exclusive.
    let one : Agree Exclusive lock.ticket_box lock.holders = subst (λ m. Agree m lock.ticket_box lock.holders) exclusive agree in
    let P : Mode → Type 0 = λ m. (if is_taken mode m (length lock.holders) then lock.holders else []) ≡ [] in
    let none : lock.holders ≡ [] = all_taken mode lock.holders (subst P exclusive clear) in
    absurd (omega (arith, one.1, ap length none)))
    (λ shared. shared)
  where
    all_taken : (mode : Mode) (holders : List Holder) → (if is_taken mode Exclusive (length holders) then holders else []) ≡ [] → holders ≡ []
    all_taken Shared holders is = is
    all_taken Exclusive holders is = is

-- its box is that of a group of which as many shared claims are out as there are holders
open_box : (mode : Mode) (lock : LockView) → IsLocked lock → conflicting mode lock ≡ [] → lock.ticket_box ≡ sharing lock.ticket_box.group lock.ticket_box.left (length lock.holders)
open_box mode lock agree clear =
    let shared : Agree Shared lock.ticket_box lock.holders = subst (λ m. Agree m lock.ticket_box lock.holders) (open_is_shared mode lock agree clear) agree in
    shared.0

-- the content of its group is unchanged
pub open_stand : (mode : Mode) (lock : LockView) → IsLocked lock → conflicting mode lock ≡ [] → stand_of (given_out mode lock.ticket_box) ≡ stand_in lock
open_stand mode lock agree clear =
    let box = open_box mode lock agree clear in
    let back : lock.ticket_box.back ≡ lock.ticket_box.left = ap (λ (b : TicketBoxView). b.back) box in
    given mode lock.ticket_box back
  where
    given : (mode : Mode) (b : TicketBoxView) → b.back ≡ b.left → stand_of (given_out mode b) ≡ stand_of b
    given Shared b back = λ i. record { group = b.group; left = b.left; back = sym back i }
    given Exclusive b back = λ i. record { group = b.group; left = b.left; back = sym back i }

-- if a want of this mode is free, the present holders hold the group in that mode
open_held : (mode : Mode) (lock : LockView) → IsLocked lock → conflicting mode lock ≡ [] → holdings_of lock ≡ map (holding lock.ticket_box.group mode) lock.holders
open_held Shared lock agree clear =
    ap (λ m. map (holding lock.ticket_box.group m) lock.holders) (open_is_shared Shared lock agree clear)
open_held Exclusive lock agree clear =
    let none : lock.holders ≡ [] = clear in
    ap (λ hs. map (holding lock.ticket_box.group lock.ticket_box.mode) hs) none ∙ sym (ap (λ hs. map (holding lock.ticket_box.group Exclusive) hs) none)

given_mode : (mode : Mode) (b : TicketBoxView) → (given_out mode b).mode ≡ mode
given_mode Shared b = refl
given_mode Exclusive b = refl

given_group : (mode : Mode) (b : TicketBoxView) → (given_out mode b).group ≡ b.group
given_group Shared b = refl
given_group Exclusive b = refl

granted_held : (mode : Mode) (lock : LockView) (by : Holder) → IsLocked lock → conflicting mode lock ≡ []
    → holdings_of (lock_view (given_out mode lock.ticket_box) (lock.holders ++ by ∷ [])) ≡ holdings_of lock ++ holding lock.ticket_box.group mode by ∷ []
granted_held mode lock by agree clear =
    (λ i. map (holding (given_group mode lock.ticket_box i) (given_mode mode lock.ticket_box i)) (lock.holders ++ by ∷ []))
    ∙ map-append (holding lock.ticket_box.group mode) lock.holders (by ∷ [])
    ∙ ap (λ hs. hs ++ holding lock.ticket_box.group mode by ∷ []) (sym (open_held mode lock agree clear))

-- ---- one lock changes

pub one_lock : (warehouses w_id : ℕ) (locks : List LockView) (number : ℕ) (lock new : LockView) → number < length locks → lock ≡ get_or locks number lock → new.ticket_box.group ≡ lock.ticket_box.group → IsLocked new
    → AreLocksOf warehouses w_id locks → AreLocksOf warehouses w_id (set locks number new)
one_lock warehouses w_id locks number lock new here is group agree are = record {
  all_there = length-set locks number new ∙ are.all_there;
  each = each;
}
  where
    own : IsLockAt warehouses w_id number lock
    own = subst (IsLockAt warehouses w_id number) (sym is) (are.each number lock here)

    moved : IsLockAt warehouses w_id number new
    moved = record {
      known = subst (λ (g : Group). IsGroupOf warehouses g) (sym group) own.known;
      here = ap warehouse_of group ∙ own.here;
      place = ap place_in_warehouse group ∙ own.place;
      agree = agree;
    }

    each : (k : ℕ) (d : LockView) → k < length (set locks number new) → IsLockAt warehouses w_id k (get_or (set locks number new) k d)
    each k d small =
        let inside : k < length locks = omega (arith, small, length-set locks number new) in
        ⊎_elim
        (λ (same : ((k == number) ≡ true) × (k ≡ number)).
        let P : ℕ → Type 0 = λ j. IsLockAt warehouses w_id j (get_or (set locks number new) j d) in
        subst P (sym same.1) (subst (IsLockAt warehouses w_id number) (sym (get_or-set_same locks number new d here)) moved))
        (λ (other : ((k == number) ≡ false) × (k ≢ number)). subst (IsLockAt warehouses w_id k) (sym (get_or-set_other locks number k new d other.1)) (are.each k d inside))
        (eqb_tells k number)

-- ---- a grant

stand_there : (locks : List LockView) (number : ℕ) (lock : LockView) → number < length locks → lock ≡ get_or locks number lock → stand_at (map stand_in locks) number ≡ stand_in lock
stand_there locks number lock here is = get_or-map stand_in locks number lock _ here ∙ ap stand_in (sym is)

pub granted_one : (warehouses : ℕ) (by : Holder) (locks : List LockView) (number : ℕ) (mode : Mode) (lock new : LockView) → number < length locks → lock ≡ get_or locks number lock → IsLocked lock → IsLocked new
    → conflicting mode lock ≡ [] → new ≡ lock_view (given_out mode lock.ticket_box) (lock.holders ++ by ∷ []) → AreGranted warehouses by (spot number mode ∷ []) locks (set locks number new)
granted_one warehouses by locks number mode lock new here is agree agree_new clear made =
    let group : new.ticket_box.group ≡ lock.ticket_box.group = ap (λ (l : LockView). l.ticket_box.group) made ∙ given_group mode lock.ticket_box in
    let place = in_place holdings_of locks number lock here in
    let f = flat_map holdings_of in
    let one = holding lock.ticket_box.group mode by in
    let held : holdings_of new ≡ holdings_of lock ++ one ∷ [] = ap holdings_of made ∙ granted_held mode lock by agree clear in
    let before : IsPermutation (f locks) (holdings_of lock ++ place.rest) = subst (λ (l : LockView). IsPermutation (f locks) (holdings_of l ++ place.rest)) (sym is) place.now in
    let after : IsPermutation (f (set locks number new)) ((holdings_of lock ++ one ∷ []) ++ place.rest) = subst (λ hs. IsPermutation (f (set locks number new)) (hs ++ place.rest)) held (place.after new) in
    let front : IsPermutation ((holdings_of lock ++ one ∷ []) ++ place.rest) ((one ∷ holdings_of lock) ++ place.rest) = IsPermutation-append_left place.rest (holdings_of lock ++ one ∷ []) (one ∷ holdings_of lock) (IsPermutation-to_front (holdings_of lock) one) in
    let back : IsPermutation (one ∷ [] ++ (holdings_of lock ++ place.rest)) (one ∷ [] ++ f locks) = IsPermutation-append_right (one ∷ []) (holdings_of lock ++ place.rest) (f locks) (IsPermutation-sym (f locks) (holdings_of lock ++ place.rest) before) in
    let all : IsPermutation (f (set locks number new)) (one ∷ f locks) =
    IsPermutation-trans (f (set locks number new)) ((holdings_of lock ++ one ∷ []) ++ place.rest) (one ∷ f locks) after
    (IsPermutation-trans ((holdings_of lock ++ one ∷ []) ++ place.rest) ((one ∷ holdings_of lock) ++ place.rest) (one ∷ f locks) front back) in
    let named : one ≡ held_at by (map stand_in locks) (spot number mode) = ap (λ (s : Stand). holding s.group mode by) (sym (stand_there locks number lock here is)) in
    let d : LockView = lock in
    record {
      locks = λ w_id are. one_lock warehouses w_id locks number lock new here is group agree_new are;
      holdings = subst (λ (h : HeldClaim). IsPermutation (f (set locks number new)) (h ∷ f locks)) named all;
      stands = map-set_same stand_in locks number new lock (ap stand_in made ∙ open_stand mode lock agree clear ∙ ap stand_in is);
      others = λ other e apart. get_or-set_other locks number other new e (λ same. apart 0 (spot number mode) (omega arith) (sym same));
    }

-- ---- several grants

pub granted_none : (warehouses : ℕ) (by : Holder) (locks : List LockView) → AreGranted warehouses by [] locks locks
granted_none warehouses by locks = record {
  locks = λ w_id are. are;
  holdings = IsPermutation-refl (flat_map holdings_of locks);
  stands = refl;
  others = λ number d apart. refl;
}

all_left : (P : Spot → Type 0) (xs ys : List Spot) → All P (xs ++ ys) → All P xs
all_left P [] ys all = λ k d small. absurd (omega (arith, small))
all_left P (x ∷ xs) ys all = All-cons P x xs (All-head P x (xs ++ ys) all) (all_left P xs ys (All-tail P x (xs ++ ys) all))

all_right : (P : Spot → Type 0) (xs ys : List Spot) → All P (xs ++ ys) → All P ys
all_right P [] ys all = all
all_right P (x ∷ xs) ys all = all_right P xs ys (All-tail P x (xs ++ ys) all)

pub granted_more : (warehouses : ℕ) (by : Holder) (xs ys : List Spot) (old between new : List LockView) → AreGranted warehouses by xs old between → AreGranted warehouses by ys between new → AreGranted warehouses by (xs ++ ys) old new
granted_more warehouses by xs ys old between new a b =
    let f = flat_map holdings_of in
    let first = map (held_at by (map stand_in old)) xs in
    let second = map (held_at by (map stand_in old)) ys in
    let then_second : IsPermutation (f new) (second ++ f between) = subst (λ (stands : List Stand). IsPermutation (f new) (map (held_at by stands) ys ++ f between)) a.stands b.holdings in
    let all : IsPermutation (f new) (first ++ (second ++ f old)) =
    IsPermutation-trans (f new) (second ++ f between) (first ++ (second ++ f old)) then_second
    (IsPermutation-trans (second ++ f between) (second ++ (first ++ f old)) (first ++ (second ++ f old)) (IsPermutation-append_right second (f between) (first ++ f old) a.holdings) (swap_parts second first (f old))) in
    let parts : first ++ (second ++ f old) ≡ map (held_at by (map stand_in old)) (xs ++ ys) ++ f old =
    sym (append_assoc first second (f old)) ∙ ap (λ hs. hs ++ f old) (sym (map-append (held_at by (map stand_in old)) xs ys)) in
    record {
      locks = λ w_id are. b.locks w_id (a.locks w_id are);
      holdings = subst (λ hs. IsPermutation (f new) hs) parts all;
      stands = b.stands ∙ a.stands;
      others = λ number d apart. b.others number d (all_right (IsNotAt number) xs ys apart) ∙ a.others number d (all_left (IsNotAt number) xs ys apart);
    }

pub same_length : (warehouses : ℕ) (by : Holder) (granted : List Spot) (old new : List LockView) → AreGranted warehouses by granted old new → length new ≡ length old
same_length warehouses by granted old new a = sym (length-map new stand_in) ∙ ap length a.stands ∙ length-map old stand_in

-- a place that was not granted is clear as it was
pub still_open : (warehouses : ℕ) (by : Holder) (granted : List Spot) (old new : List LockView) (s : Spot) → AreGranted warehouses by granted old new → s.number < length old → All (IsNotAt s.number) granted → IsOpen old s → IsOpen new s
still_open warehouses by granted old new s a small apart clear =
    let d : LockView = lock_view (sharing (Warehouse 0) nothing 0) [] in
    let small_new : s.number < length new = omega (arith, small, same_length warehouses by granted old new a) in
    get_or-map (conflicting s.mode) new s.number d [] small_new ∙ ap (conflicting s.mode) (a.others s.number d apart) ∙ sym (get_or-map (conflicting s.mode) old s.number d [] small) ∙ clear

-- ---- the claims

pub claims_none : (by : Holder) (stands : List Stand) (wanted : List Spot) (items : List ClaimView) → wanted ≡ [] → items ≡ items ++ map (claim_at by stands) wanted
claims_none by stands wanted items none = sym (append-nil items) ∙ ap (λ ws. items ++ map (claim_at by stands) ws) (sym none)

pub claims_more : (by : Holder) (old between : List Stand) (before items new : List ClaimView) (xs ys zs : List Spot) → between ≡ old → items ≡ before ++ map (claim_at by old) xs → new ≡ items ++ map (claim_at by between) ys → zs ≡ xs ++ ys
    → new ≡ before ++ map (claim_at by old) zs
claims_more by old between before items new xs ys zs same first second parts =
    second ∙ ap (λ (stands : List Stand). items ++ map (claim_at by stands) ys) same
    ∙ ap (λ cs. cs ++ map (claim_at by old) ys) first
    ∙ append_assoc before (map (claim_at by old) xs) (map (claim_at by old) ys)
    ∙ ap (λ cs. before ++ cs) (sym (map-append (claim_at by old) xs ys))
    ∙ ap (λ ws. before ++ map (claim_at by old) ws) (sym parts)

-- ---- a walk over all that is wanted

-- what comes next is still open
pub next_open : (warehouses : ℕ) (by : Holder) (wants : List Want) (i : ℕ) (d : Want) (old new : List LockView) → i < length wants → 105 ≤ length old → IsWanted warehouses (get_or wants i d)
    → All (IsOpen old) (flat_map spots_of wants) → AllPairs AreElsewhere (flat_map spots_of wants) → AreGranted warehouses by (flat_map spots_of (take i wants)) old new
    → All (IsOpen new) (spots_of (get_or wants i d))
next_open warehouses by wants i d old new small places there all_open once granted =
    let want = get_or wants i d in
    let done = flat_map spots_of (take i wants) in
    let rest = flat_map spots_of (drop (i + 1) wants) in
    let parts = joined_parts spots_of wants i d small in
    let pairs : AllPairs AreElsewhere (done ++ (spots_of want ++ rest)) = subst (AllPairs AreElsewhere) parts once in
    let one : (s : Spot) → Contains (spots_of want) s → IsOpen new s = λ s c.
    let inside = spot_inside (first_place want.extent) (count_in want.extent) want.mode s c in
    let apart : All (IsNotAt s.number) done = All-weaker (Contains done) (IsNotAt s.number)
    (λ t e. pairs_across AreElsewhere done (spots_of want ++ rest) t s pairs e (Contains-append_left (spots_of want) rest s c)) done (All-contains_itself done) in
    still_open warehouses by done old new s granted (omega (arith, inside.below, extent_inside warehouses want.extent there, places)) apart
    (All-contains (IsOpen old) (flat_map spots_of wants) s all_open (contains_joined spots_of wants want s (Contains-get_or wants i d small) c)) in
    All-weaker (Contains (spots_of want)) (IsOpen new) one (spots_of want) (All-contains_itself (spots_of want))
