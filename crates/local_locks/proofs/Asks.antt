-- The table's answers, by the locks.
use Rattle.std.proofs.Common.{◌≡◌, ℕ, ◌<◌, ◌≤◌, List, [], ◌∷◌, ◌++◌, length, get_or, take, drop, map, refl, sym, ap, subst, ◌∙◌, arith}
use Rattle.std.specs.Prelude.{All, Contains}
use Rattle.std.specs.List.{flat_map}
use Rattle.std.specs.List.Sorted.{IsPermutation}
use Rattle.std.proofs.Math.ListN.{drop_of_length-le}
use Rattle.std.proofs.lemmas.List.{append-nil, get_or-map, take_all}
use Rattle.std.proofs.lemmas.List.Elements.{All-contains_itself, All-push, All-weaker}
use Rattle.requests.specs.declared.group.Group.{Group}
use Rattle.requests.specs.declared.group.Group.TheVariants.{Warehouse}
use Rattle.groups.specs.Groups.{warehouse_of}
use Rattle.groups.specs.declared.group_wants.Mode.{Mode}
use Rattle.groups.specs.declared.wants.Want.{Want}
use Rattle.tickets.specs.Boxes.{sharing}
use Rattle.tickets.specs.Claims.{ClaimView, fresh}
use Rattle.tickets.specs.Places.{IsGroupOf, place_in_warehouse}
use Rattle.tickets.specs.Unset.{nothing}
use Rattle.wait_die.specs.declared.deciding.Holder.{Holder}
use Rattle.local_locks.specs.declared.rulings.Ruling.TheVariants.{Free}
use Rattle.local_locks.specs.LockTableView.{HeldClaim, Stand, LockTableView, left_in}
use Rattle.local_locks.specs.Conflicts.{IsFree, MustWait, MustDie}
use Rattle.local_locks.specs.GroupWants.{IsOwn, CanAsk, group_wants}
use Rattle.local_locks.specs.Asking.{Grants, claim_for, held_for}
use Rattle.local_locks.specs.Locks.{LockView, lock_view, WaiterView, waiter_view, holding, holdings_of, stand_in, locking, AreLocksOf, IsParked}
use Rattle.local_locks.specs.Rulings.{Spot, spot, spots_of, conflicting_at, IsRuling}
use Rattle.local_locks.specs.Granting.{AreGranted, IsOpen, stand_at, claim_at, held_at}
use Rattle.local_locks.proofs.Members.{contains_here}
use Rattle.local_locks.proofs.Covering.{one_group, group_wanted_same, group_wanted_length}
use Rattle.local_locks.proofs.Views.{records_free}

-- a lock, where there is none
abbrev pub no_lock : LockView
no_lock = lock_view (sharing (Warehouse 0) nothing 0) []

-- a list written back in place of one as long
pub refilled : {X : Type 0} (n : ℕ) (xs ws : List X) → n ≡ length xs → length ws ≡ length xs → take n (ws ++ drop (length ws) xs) ≡ ws
refilled {X} n xs ws count long =
    let past : drop (length ws) xs ≡ [] = drop_of_length-le xs (omega (arith, long)) in
    ap (λ ys. take n (ws ++ ys)) past ∙ ap (take n) (append-nil ws) ∙ take_all n ws (omega (arith, count, long))

-- the warehouse is there
home_known : (warehouses : ℕ) (group : Group) → IsGroupOf warehouses group → (1 ≤ warehouse_of group) × (warehouse_of group ≤ warehouses)
home_known warehouses group known = grind arith

pub home_there : (warehouses w_id : ℕ) (locks : List LockView) → AreLocksOf warehouses w_id locks → (1 ≤ w_id) × (w_id ≤ warehouses)
home_there warehouses w_id locks are =
    let at = are.each 0 no_lock (omega (arith, are.all_there)) in
    let known = home_known warehouses (get_or locks 0 no_lock).ticket_box.group at.known in
    (omega (arith, known.0, at.here), omega (arith, known.1, at.here))

-- the content at a group's place is the group's content
stands_there : (warehouses w_id : ℕ) (locks : List LockView) (group : Group) → AreLocksOf warehouses w_id locks → IsGroupOf warehouses group → warehouse_of group ≡ w_id
    → (stand_at (map stand_in locks) (place_in_warehouse group) ≡ stand_in (get_or locks (place_in_warehouse group) no_lock))
    × (left_in (map stand_in locks) group ≡ (stand_in (get_or locks (place_in_warehouse group) no_lock)).left)
    × ((get_or locks (place_in_warehouse group) no_lock).ticket_box.group ≡ group)
stands_there warehouses w_id locks group are known home =
    let small : place_in_warehouse group < length locks = omega (arith, inside warehouses group known, are.all_there) in
    let at = are.each (place_in_warehouse group) no_lock small in (
      get_or-map stand_in locks (place_in_warehouse group) no_lock _ small,
      ap (λ (s : Stand). s.left) (get_or-map stand_in locks (place_in_warehouse group) no_lock _ small),
      one_group warehouses (get_or locks (place_in_warehouse group) no_lock).ticket_box.group group at.known known (at.here ∙ sym home) at.place,
    )
  where
    inside : (warehouses : ℕ) (group : Group) → IsGroupOf warehouses group → place_in_warehouse group < 105
    inside warehouses group known = grind arith

same_claim : (warehouses w_id : ℕ) (by : Holder) (locks : List LockView) → AreLocksOf warehouses w_id locks → (group : Group) (mode : Mode) → IsGroupOf warehouses group → warehouse_of group ≡ w_id
    → claim_at by (map stand_in locks) (spot (place_in_warehouse group) mode) ≡ claim_for by (map stand_in locks) (record { group = group; mode = mode })
same_claim warehouses w_id by locks are group mode known home =
    let there = stands_there warehouses w_id locks group are known home in
    ap (λ (s : Stand). fresh by s.group mode s.left) there.0 ∙ (λ i. fresh by (there.2 i) mode (sym there.1 i))

same_holding : (warehouses w_id : ℕ) (by : Holder) (locks : List LockView) → AreLocksOf warehouses w_id locks → (group : Group) (mode : Mode) → IsGroupOf warehouses group → warehouse_of group ≡ w_id
    → held_at by (map stand_in locks) (spot (place_in_warehouse group) mode) ≡ held_for by (record { group = group; mode = mode })
same_holding warehouses w_id by locks are group mode known home =
    let there = stands_there warehouses w_id locks group are known home in
    ap (λ (s : Stand). holding s.group mode by) there.0 ∙ ap (λ (own : Group). holding own mode by) there.2

-- ---- free

-- each place that is wanted is open
pub all_open : (age : ℕ) (locks : List LockView) (wanted : List Spot) → IsRuling age locks wanted Free → All (IsOpen locks) wanted
all_open age locks wanted free =
    All-weaker (Contains wanted) (IsOpen locks)
    (λ s c. none_of (conflicting_at locks s.mode s.number) (λ by e. free s.number by (record { mode = s.mode; wants = c; holds = e })))
    wanted (All-contains_itself wanted)
  where
    none_of : (holders : List Holder) → ((by : Holder) → Contains holders by → ⊥) → holders ≡ []
    none_of [] none = refl
    none_of (x ∷ xs) none = absurd (none x (contains_here x xs))

pub granted_all : (warehouses w_id age : ℕ) (by : Holder) (wants : List Want) (locks new : List LockView) (waiters later : List WaiterView) (places after : List ℕ) (claims : List ClaimView) → AreLocksOf warehouses w_id locks → All (IsOwn warehouses w_id) wants
    → IsRuling age locks (flat_map spots_of wants) Free → claims ≡ map (claim_at by (map stand_in locks)) (flat_map spots_of wants) → AreGranted warehouses by (flat_map spots_of wants) locks new
    → Grants by wants (locking w_id locks waiters places) claims (locking w_id new later after)
granted_all warehouses w_id age by wants locks new waiters later places after claims are own free made granted =
    let home = home_there warehouses w_id locks are in
    let holdings : map (held_at by (map stand_in locks)) (flat_map spots_of wants) ≡ map (held_for by) (group_wants wants) =
    group_wanted_same warehouses w_id wants (held_at by (map stand_in locks)) (held_for by) home own (same_holding warehouses w_id by locks are) in
    record {
      free = records_free warehouses w_id locks wants age are free;
      claims = made ∙ group_wanted_same warehouses w_id wants (claim_at by (map stand_in locks)) (claim_for by (map stand_in locks)) home own (same_claim warehouses w_id by locks are);
      holdings = subst (λ hs. IsPermutation (flat_map holdings_of new) (hs ++ flat_map holdings_of locks)) holdings granted.holdings;
      stands = granted.stands;
      w_id = refl;
    }

-- ---- waiting and dying

pub free_is_no_death : (holdings : List HeldClaim) (age : ℕ) (wants : List Want) (group : Group) (oldest : ℕ) → IsFree holdings wants → MustDie holdings age wants group oldest → ⊥
free_is_no_death holdings age wants group oldest free death = free death.some.0 death.some.1

pub wait_is_no_death : (holdings : List HeldClaim) (age : ℕ) (wants : List Want) (group : Group) (oldest : ℕ) → MustWait holdings age wants → MustDie holdings age wants group oldest → ⊥
wait_is_no_death holdings age wants group oldest wait death = omega (arith, wait.younger death.some.0 death.some.1, death.some.3, death.older)

-- one more waits
pub parked_more : (warehouses w_id : ℕ) (waiters : List WaiterView) (by : Holder) (wants : List Want) (count : ℕ) → All (IsParked warehouses w_id) waiters → CanAsk warehouses w_id wants → (1 ≤ w_id) × (w_id ≤ warehouses)
    → count ≡ length (flat_map spots_of wants) → All (IsParked warehouses w_id) (waiters ++ waiter_view by wants count ∷ [])
parked_more warehouses w_id waiters by wants count all can home is =
    All-push (IsParked warehouses w_id) waiters (waiter_view by wants count) all (record { can = can; room = omega (arith, is, group_wanted_length warehouses w_id wants home can.own) })

-- ---- as the table's code has it

pub still_locks : (warehouses w_id : ℕ) (by : Holder) (wanted : List Spot) (locks shown new back : List LockView) → shown ≡ locks → back ≡ new → AreLocksOf warehouses w_id locks → AreGranted warehouses by wanted shown new → AreLocksOf warehouses w_id back
still_locks warehouses w_id by wanted locks shown new back showing same are granted =
    subst (AreLocksOf warehouses w_id) (sym same) (granted.locks w_id (subst (AreLocksOf warehouses w_id) (sym showing) are))

pub answered_free : (warehouses w_id age : ℕ) (by : Holder) (wants : List Want) (table : LockTableView) (locks shown new back : List LockView) (waiters later : List WaiterView) (places after : List ℕ) (before claims : List ClaimView) → locking w_id locks waiters places ≡ table
    → shown ≡ locks → back ≡ new → before ≡ [] → AreLocksOf warehouses w_id locks → All (IsOwn warehouses w_id) wants → IsRuling age locks (flat_map spots_of wants) Free
    → claims ≡ before ++ map (claim_at by (map stand_in shown)) (flat_map spots_of wants) → AreGranted warehouses by (flat_map spots_of wants) shown new → Grants by wants table claims (locking w_id back later after)
answered_free warehouses w_id age by wants table locks shown new back waiters later places after before claims view showing same none are own free made granted =
    let P : List LockView → Type 0 = λ ls. Grants by wants (locking w_id locks waiters places) claims (locking w_id ls later after) in
    let Q : LockTableView → Type 0 = λ t. Grants by wants t claims (locking w_id back later after) in
    let spelt : claims ≡ map (claim_at by (map stand_in locks)) (flat_map spots_of wants) = made ∙ (λ i. none i ++ map (claim_at by (map stand_in (showing i))) (flat_map spots_of wants)) in
    let R : List LockView → Type 0 = λ ls. AreGranted warehouses by (flat_map spots_of wants) ls new in
    subst Q view (subst P (sym same) (granted_all warehouses w_id age by wants locks new waiters later places after claims are own free spelt (subst R showing granted)))
