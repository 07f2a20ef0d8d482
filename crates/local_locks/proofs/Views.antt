-- The locks, in terms of the plain list of all claims that are out.
use Rattle.std.proofs.Common.{◌≡◌, ◌≢◌, ◌⊎◌, ℕ, zero, suc, ◌+◌, ◌<◌, ◌≤◌, Bool, true, false, List, [], ◌∷◌, ◌++◌, length, get_or, map, inl, inr, refl, sym, ap, subst, ◌∙◌, ⊎_elim, cond, arith}
use Rattle.std.specs.Prelude.{All, Contains, count_by, if◌then◌else◌, ◌&&◌}
use Rattle.std.specs.List.{flat_map}
use Rattle.std.specs.declared.cmp.Ordering.TheVariants.{Greater}
use Rattle.std.specs.Ordering.{nat_cmp, ordering_then}
use Rattle.std.proofs.lemmas.Bool.{eqb-true, eq-eqb}
use Rattle.std.proofs.lemmas.List.{get_or_default, get_or_past, length-map}
use Rattle.std.proofs.lemmas.List.Elements.{All-contains, Contains-get_or}
use Rattle.std.proofs.lemmas.List.Sums.{sum_by-cons, sum_by-append}
use Rattle.requests.specs.declared.group.Group.{Group}
use Rattle.groups.specs.Groups.{group_cmp, is_same, warehouse_of, kind_of, number_of}
use Rattle.groups.specs.declared.group_wants.Mode.{Mode}
use Rattle.groups.specs.declared.group_wants.Mode.TheVariants.{Shared, Exclusive}
use Rattle.groups.specs.declared.wants.Want.{Want}
use Rattle.groups.proofs.SameGroups.{is_same-itself, is_same-other}
use Rattle.tickets.proofs.Apart.{by_mode}
use Rattle.tickets.specs.Places.{IsGroupOf, place_in_warehouse}
use Rattle.wait_die.specs.declared.deciding.Holder.{Holder}
use Rattle.local_locks.specs.declared.rulings.Ruling.TheVariants.{Free, Waits, Dies}
use Rattle.local_locks.specs.LockTableView.{HeldClaim}
use Rattle.local_locks.specs.Conflicts.{is_shared, shared_on, ClaimConflicts, Blocks, IsFree, MustWait, MustDie}
use Rattle.local_locks.specs.GroupWants.{IsOwn}
use Rattle.local_locks.specs.Locks.{LockView, Agree, IsLocked, is_taken, conflicting, holding, holdings_of, IsLockAt, AreLocksOf}
use Rattle.local_locks.specs.Rulings.{spot, spots_of, first_place, count_in, conflicting_at, Stops, IsRuling}
use Rattle.local_locks.proofs.Joins.{at_place}
use Rattle.local_locks.proofs.Members.{contains_none, contains_cases, contains_here, contains_there, contains_joined, joined_contains, contains_any}
use Rattle.local_locks.proofs.Spots.{spot_inside, inside_spots}
use Rattle.local_locks.proofs.Covering.{covered_place, place_covered}

pub mapped : {X Y : Type 0} (f : X → Y) (xs : List X) (x : X) → Contains xs x → Contains (map f xs) (f x)
mapped f [] x c = contains_none x c
mapped {X} {Y} f (y ∷ ys) x c =
    ⊎_elim
    (λ (same : y ≡ x). subst (λ (z : X). Contains (f y ∷ map f ys) (f z)) same (contains_here (f y) (map f ys)))
    (λ (rest : Contains ys x). contains_there (f y) (map f ys) (f x) (mapped f ys x rest))
    (contains_cases y ys x c)

pub unmapped : {X Y : Type 0} (f : X → Y) (xs : List X) (y : Y) → Contains (map f xs) y → (x : X) × Contains xs x × (f x ≡ y)
unmapped f [] y c = contains_none y c
unmapped {X} {Y} f (x ∷ xs) y c =
    ⊎_elim
    (λ (same : f x ≡ y). (x, contains_here x xs, same))
    (λ (rest : Contains (map f xs) y). let found = unmapped f xs y rest in (found.0, contains_there x xs found.0 found.1, found.2))
    (contains_cases (f x) (map f xs) y c)

-- ---- one lock after another

-- the locks of these places, from the first on
abbrev pub AreFrom : ℕ → ℕ → ℕ → List LockView → Type 0
AreFrom warehouses w_id first [] = Unit {0}
AreFrom warehouses w_id first (lock ∷ locks) = IsLockAt warehouses w_id first lock × AreFrom warehouses w_id (suc first) locks

pub are_from : (warehouses w_id first : ℕ) (locks : List LockView) → ((k : ℕ) (d : LockView) → k < length locks → IsLockAt warehouses w_id (first + k) (get_or locks k d)) → AreFrom warehouses w_id first locks
are_from warehouses w_id first [] each = tt
are_from warehouses w_id first (lock ∷ locks) each =
    let here : first + 0 ≡ first = omega arith in
    let next : (k : ℕ) → first + suc k ≡ suc first + k = λ k. omega arith in (
      subst (λ (n : ℕ). IsLockAt warehouses w_id n lock) here (each 0 lock (omega arith)),
      are_from warehouses w_id (suc first) locks (λ k d small. subst (λ (n : ℕ). IsLockAt warehouses w_id n (get_or locks k d)) (next k) (each (suc k) d (omega (arith, small)))),
    )

-- ---- shared claims

abbrev pub shared_count : Mode → List Holder → ℕ
shared_count Shared holders = length holders
shared_count Exclusive holders = 0

count_cons : (p : HeldClaim → Bool) (h : HeldClaim) (hs : List HeldClaim) → count_by p (h ∷ hs) ≡ cond (p h) 1 0 + count_by p hs
count_cons p h hs = sum_by-cons (λ x. cond (p x) 1 0) h hs

pub count_append : (p : HeldClaim → Bool) (xs ys : List HeldClaim) → count_by p (xs ++ ys) ≡ count_by p xs + count_by p ys
count_append p xs ys = sum_by-append (λ x. cond (p x) 1 0) xs ys

-- those of another group
pub none_there : (group own : Group) (mode : Mode) (holders : List Holder) → own ≢ group → shared_on group (map (holding own mode) holders) ≡ 0
none_there group own mode [] apart = refl
none_there group own mode (x ∷ xs) apart =
    let rest = none_there group own mode xs apart in
    let test : (is_same own group && is_shared mode) ≡ false = ap (λ (b : Bool). b && is_shared mode) (is_same-other own group (λ e. apart (sym e))) in
    count_cons (λ h. is_same h.group group && is_shared h.mode) (holding own mode x) (map (holding own mode) xs)
    ∙ ap (λ (b : Bool). cond b 1 0 + shared_on group (map (holding own mode) xs)) test ∙ omega (arith, rest)

-- those of the group
pub all_there : (group own : Group) (mode : Mode) (holders : List Holder) → own ≡ group → shared_on group (map (holding own mode) holders) ≡ shared_count mode holders
all_there group own mode [] same = nothing_there mode
  where
    nothing_there : (m : Mode) → 0 ≡ shared_count m []
    nothing_there Shared = refl
    nothing_there Exclusive = refl
all_there group own mode (x ∷ xs) same =
    let rest = all_there group own mode xs same in
    let test : is_same own group ≡ true = ap (λ (g : Group). is_same own g) (sym same) ∙ is_same-itself own in
    count_cons (λ h. is_same h.group group && is_shared h.mode) (holding own mode x) (map (holding own mode) xs)
    ∙ ap (λ (b : Bool). cond (b && is_shared mode) 1 0 + shared_on group (map (holding own mode) xs)) test ∙ one_more mode rest
  where
    one_more : (m : Mode) → shared_on group (map (holding own m) xs) ≡ shared_count m xs → cond (true && is_shared m) 1 0 + shared_on group (map (holding own m) xs) ≡ shared_count m (x ∷ xs)
    one_more Shared rest = omega (arith, rest)
    one_more Exclusive rest = omega (arith, rest)

pub shared_elsewhere : (warehouses w_id first : ℕ) (locks : List LockView) (group : Group) → AreFrom warehouses w_id first locks → place_in_warehouse group < first → shared_on group (flat_map holdings_of locks) ≡ 0
shared_elsewhere warehouses w_id first [] group are before = refl
shared_elsewhere warehouses w_id first (lock ∷ locks) group are before =
    let own = lock.ticket_box.group in
    let apart : own ≢ group = λ same. omega (arith, before, are.0.place, ap place_in_warehouse same) in
    count_append (λ h. is_same h.group group && is_shared h.mode) (holdings_of lock) (flat_map holdings_of locks)
    ∙ omega (arith, none_there group own lock.ticket_box.mode lock.holders apart, shared_elsewhere warehouses w_id (suc first) locks group are.1 (omega (arith, before)))

-- the place of a lock's group
pub lock_place : (warehouses w_id first : ℕ) (locks : List LockView) (k : ℕ) (d : LockView) → AreFrom warehouses w_id first locks → k < length locks → place_in_warehouse (get_or locks k d).ticket_box.group ≡ first + k
lock_place warehouses w_id first [] k d are small = absurd (omega (arith, small))
lock_place warehouses w_id first (lock ∷ locks) zero d are small = omega (arith, are.0.place)
lock_place warehouses w_id first (lock ∷ locks) (suc k) d are small = omega (arith, lock_place warehouses w_id (suc first) locks k d are.1 (omega (arith, small)))

shared_from : (warehouses w_id first : ℕ) (locks : List LockView) (k : ℕ) (d : LockView) → AreFrom warehouses w_id first locks → k < length locks
    → shared_on (get_or locks k d).ticket_box.group (flat_map holdings_of locks) ≡ shared_count (get_or locks k d).ticket_box.mode (get_or locks k d).holders
shared_from warehouses w_id first [] k d are small = absurd (omega (arith, small))
shared_from warehouses w_id first (lock ∷ locks) zero d are small =
    let own = lock.ticket_box.group in
    count_append (λ h. is_same h.group own && is_shared h.mode) (holdings_of lock) (flat_map holdings_of locks)
    ∙ omega (arith, all_there own own lock.ticket_box.mode lock.holders refl, shared_elsewhere warehouses w_id (suc first) locks own are.1 (omega (arith, are.0.place)))
shared_from warehouses w_id first (lock ∷ locks) (suc k) d are small =
    let found = get_or locks k d in
    let group = found.ticket_box.group in
    let own = lock.ticket_box.group in
    let at = lock_place warehouses w_id (suc first) locks k d are.1 (omega (arith, small)) in
    let apart : own ≢ group = λ same. omega (arith, at, are.0.place, ap place_in_warehouse same) in
    count_append (λ h. is_same h.group group && is_shared h.mode) (holdings_of lock) (flat_map holdings_of locks)
    ∙ omega (arith, none_there group own lock.ticket_box.mode lock.holders apart, shared_from warehouses w_id (suc first) locks k d are.1 (omega (arith, small)))

pub shared_there : (warehouses w_id : ℕ) (locks : List LockView) (number : ℕ) (d : LockView) → AreLocksOf warehouses w_id locks → number < length locks
    → shared_on (get_or locks number d).ticket_box.group (flat_map holdings_of locks) ≡ shared_count (get_or locks number d).ticket_box.mode (get_or locks number d).holders
shared_there warehouses w_id locks number d are small =
    shared_from warehouses w_id 0 locks number d (are_from warehouses w_id 0 locks (λ k e inside. subst (λ (n : ℕ). IsLockAt warehouses w_id n (get_or locks k e)) (omega arith) (are.each k e inside))) small

-- ---- holders and their holdings

-- a holder is in a lock, by its group and mode
pub record IsHeldAt (locks : List LockView) (h : HeldClaim) (number : ℕ) (lock : LockView) : Type 0 where
  pub small : number < length locks
  pub is : get_or locks number lock ≡ lock
  pub by : Contains lock.holders h.by
  pub group : lock.ticket_box.group ≡ h.group
  pub mode : lock.ticket_box.mode ≡ h.mode

pub held_somewhere : (locks : List LockView) (h : HeldClaim) → Contains (flat_map holdings_of locks) h → (number : ℕ) × (lock : LockView) × IsHeldAt locks h number lock
held_somewhere locks h c =
    let found = joined_contains holdings_of locks h c in
    let lock = found.0 in
    let one = unmapped (holding lock.ticket_box.group lock.ticket_box.mode) lock.holders h found.2 in (
      found.1.0,
      lock,
      record {
        small = found.1.1;
        is = found.1.2;
        by = subst (Contains lock.holders) (ap (λ (x : HeldClaim). x.by) one.2) one.1;
        group = ap (λ (x : HeldClaim). x.group) one.2;
        mode = ap (λ (x : HeldClaim). x.mode) one.2;
      },
    )

pub held_here : (locks : List LockView) (number : ℕ) (d : LockView) (by : Holder) → number < length locks → Contains (get_or locks number d).holders by
    → Contains (flat_map holdings_of locks) (holding (get_or locks number d).ticket_box.group (get_or locks number d).ticket_box.mode by)
held_here locks number d by small c =
    let lock = get_or locks number d in
    contains_joined holdings_of locks lock (holding lock.ticket_box.group lock.ticket_box.mode by) (Contains-get_or locks number d small) (mapped (holding lock.ticket_box.group lock.ticket_box.mode) lock.holders by c)

-- ---- conflicting holders

taken : (mode : Mode) (lock : LockView) (by : Holder) → is_taken mode lock.ticket_box.mode (length lock.holders) ≡ true → Contains lock.holders by → Contains (conflicting mode lock) by
taken mode lock by is c = subst (λ (b : Bool). Contains (if b then lock.holders else []) by) (sym is) c

untaken : (mode : Mode) (lock : LockView) (by : Holder) → Contains (conflicting mode lock) by → (is_taken mode lock.ticket_box.mode (length lock.holders) ≡ true) × Contains lock.holders by
untaken mode lock by c = by_test (is_taken mode lock.ticket_box.mode (length lock.holders)) refl c
  where
    by_test : (b : Bool) → is_taken mode lock.ticket_box.mode (length lock.holders) ≡ b → Contains (if b then lock.holders else []) by → (is_taken mode lock.ticket_box.mode (length lock.holders) ≡ true) × Contains lock.holders by
    by_test true is c = (is, c)
    by_test false is c = contains_none by c

-- whether a want for a lock's group conflicts with its holders
taken_where : (mode held : Mode) (holders : List Holder) (shared : ℕ) → length holders ≤ 8 → shared ≡ shared_count held holders → (mode ≡ Exclusive) ⊎ ((held ≡ Exclusive) ⊎ (8 ≤ shared)) → is_taken mode held (length holders) ≡ true
taken_where Exclusive held holders shared few is conflict = refl
taken_where Shared Exclusive holders shared few is conflict = refl
taken_where Shared Shared holders shared few is conflict =
    ⊎_elim (λ (e : Shared ≡ Exclusive). absurd (unlike e))
    (λ (rest : (Shared ≡ Exclusive) ⊎ (8 ≤ shared)). ⊎_elim (λ (e : Shared ≡ Exclusive). absurd (unlike e)) (λ (many : 8 ≤ shared). eq-eqb (length holders) 8 (omega (arith, many, is, few))) rest)
    conflict
  where
    unlike : Shared ≡ Exclusive → ⊥
    unlike e = cc

where_taken : (mode held : Mode) (holders : List Holder) (shared : ℕ) → shared ≡ shared_count held holders → is_taken mode held (length holders) ≡ true → (mode ≡ Exclusive) ⊎ ((held ≡ Exclusive) ⊎ (8 ≤ shared))
where_taken Exclusive held holders shared is taken = inl refl
where_taken Shared Exclusive holders shared is taken = inr (inl refl)
where_taken Shared Shared holders shared is taken = inr (inr (omega (arith, is, eqb-true (length holders) 8 taken)))

pub few_holders : (lock : LockView) → IsLocked lock → length lock.holders ≤ 8
few_holders lock agree =
    by_mode lock.ticket_box.mode refl
    (λ exclusive. let one : Agree Exclusive lock.ticket_box lock.holders = subst (λ m. Agree m lock.ticket_box lock.holders) exclusive agree in omega (arith, one.1))
    (λ shared. let some : Agree Shared lock.ticket_box lock.holders = subst (λ m. Agree m lock.ticket_box lock.holders) shared agree in some.1)

-- a conflicting holder is at a place that is wanted
pub record IsInTheWay (warehouses w_id : ℕ) (locks : List LockView) (wants : List Want) (h : HeldClaim) : Type 0 where
  pub stops : Stops locks (flat_map spots_of wants) (place_in_warehouse h.group) h.by
  pub known : IsGroupOf warehouses h.group
  pub home : warehouse_of h.group ≡ w_id

pub in_the_way : (warehouses w_id : ℕ) (locks : List LockView) (wants : List Want) (h : HeldClaim) → AreLocksOf warehouses w_id locks → Blocks (flat_map holdings_of locks) wants h → IsInTheWay warehouses w_id locks wants h
in_the_way warehouses w_id locks wants h are blocks =
    let found = held_somewhere locks h blocks.0 in
    let number = found.0 in
    let lock = found.1 in
    let held = found.2 in
    let at : IsLockAt warehouses w_id number lock = subst (IsLockAt warehouses w_id number) held.is (are.each number lock held.small) in
    let any = blocks.1 in
    let want = any.1 in
    let conflict : ClaimConflicts (flat_map holdings_of locks) h want = any.4 in
    let known : IsGroupOf warehouses h.group = subst (IsGroupOf warehouses) held.group at.known in
    let place : place_in_warehouse h.group ≡ number = ap place_in_warehouse (sym held.group) ∙ at.place in
    let count : shared_on h.group (flat_map holdings_of locks) ≡ shared_count lock.ticket_box.mode lock.holders =
    ap (λ (g : Group). shared_on g (flat_map holdings_of locks)) (sym held.group)
    ∙ subst (λ (l : LockView). shared_on l.ticket_box.group (flat_map holdings_of locks) ≡ shared_count l.ticket_box.mode l.holders) held.is (shared_there warehouses w_id locks number lock are held.small) in
    let apart = subst (λ (m : Mode). (want.mode ≡ Exclusive) ⊎ ((m ≡ Exclusive) ⊎ (8 ≤ shared_on h.group (flat_map holdings_of locks)))) (sym held.mode) conflict.apart in
    let test = taken_where want.mode lock.ticket_box.mode lock.holders (shared_on h.group (flat_map holdings_of locks)) (few_holders lock at.agree) count apart in
    let here : Contains (conflicting want.mode lock) h.by = taken want.mode lock h.by test held.by in
    let holds : Contains (conflicting_at locks want.mode number) h.by = subst (λ hs. Contains hs h.by) (sym (at_place locks want.mode number lock held.small (sym held.is))) here in
    let placed = covered_place warehouses want.extent h.group known conflict.covered in
    let wanted = inside_spots (first_place want.extent) (count_in want.extent) (place_in_warehouse h.group) want.mode placed.from placed.below in
    record {
      stops = record {
        mode = want.mode;
        wants = contains_joined spots_of wants want (spot (place_in_warehouse h.group) want.mode) (any.0, any.2, any.3) wanted;
        holds = subst (λ (n : ℕ). Contains (conflicting_at locks want.mode n) h.by) (sym place) holds;
      };
      known = known;
      home = ap warehouse_of (sym held.group) ∙ at.here;
    }

-- the holding of this holder on the group at this place
abbrev pub held_of : List LockView → ℕ → LockView → Holder → HeldClaim
held_of locks number d by = holding (get_or locks number d).ticket_box.group (get_or locks number d).ticket_box.mode by

nothing_at : (locks : List LockView) (mode : Mode) (number : ℕ) (by : Holder) → length locks ≤ number → Contains (conflicting_at locks mode number) by → ⊥
nothing_at locks mode number by past c =
    contains_none by (subst (λ hs. Contains hs by) (get_or_past (map (conflicting mode) locks) number [] (omega (arith, past, length-map locks (conflicting mode)))) c)

-- a conflicting holder at a place has a claim that conflicts
pub stands_in_the_way : (warehouses w_id : ℕ) (locks : List LockView) (wants : List Want) (number : ℕ) (d : LockView) (by : Holder) → AreLocksOf warehouses w_id locks → All (IsOwn warehouses w_id) wants
    → Stops locks (flat_map spots_of wants) number by → (number < length locks) × Blocks (flat_map holdings_of locks) wants (held_of locks number d by)
stands_in_the_way warehouses w_id locks wants number d by are own stops = by_place (lt_or_le number (length locks))
  where
    lt_or_le : (a b : ℕ) → (a < b) ⊎ (b ≤ a)
    lt_or_le a b = grind arith

    by_place : (number < length locks) ⊎ (length locks ≤ number) → (number < length locks) × Blocks (flat_map holdings_of locks) wants (held_of locks number d by)
    by_place where_is =
        ⊎_elim
        (λ (small : number < length locks).
        let lock = get_or locks number d in
        let at = are.each number d small in
        let holds : Contains (conflicting stops.mode lock) by = subst (λ hs. Contains hs by) (at_place locks stops.mode number lock small (get_or_default locks number d lock small)) stops.holds in
        let held = untaken stops.mode lock by holds in
        let found = joined_contains spots_of wants (spot number stops.mode) stops.wants in
        let want = found.0 in
        let inside = spot_inside (first_place want.extent) (count_in want.extent) want.mode (spot number stops.mode) found.2 in
        let mine : IsOwn warehouses w_id want = All-contains (IsOwn warehouses w_id) wants want own found.1 in
        let covered = place_covered warehouses want.extent lock.ticket_box.group mine.0 at.known (mine.1 ∙ sym at.here) (record { from = omega (arith, inside.from, at.place); below = omega (arith, inside.below, at.place) }) in
        let apart = where_taken stops.mode lock.ticket_box.mode lock.holders (shared_on lock.ticket_box.group (flat_map holdings_of locks)) (shared_there warehouses w_id locks number d are small) held.0 in
        let modes : stops.mode ≡ want.mode = inside.mode in
        let conflict : ClaimConflicts (flat_map holdings_of locks) (held_of locks number d by) want = record {
          covered = covered;
          apart = subst (λ (m : Mode). (m ≡ Exclusive) ⊎ ((lock.ticket_box.mode ≡ Exclusive) ⊎ (8 ≤ shared_on lock.ticket_box.group (flat_map holdings_of locks)))) modes apart;
        } in
        (small, (held_here locks number d by small held.1, contains_any (ClaimConflicts (flat_map holdings_of locks) (held_of locks number d by)) wants want found.1 conflict)))
        (λ (past : length locks ≤ number). absurd (nothing_at locks stops.mode number by past stops.holds))
        where_is

-- ---- what is said

pub records_free : (warehouses w_id : ℕ) (locks : List LockView) (wants : List Want) (age : ℕ) → AreLocksOf warehouses w_id locks → IsRuling age locks (flat_map spots_of wants) Free → IsFree (flat_map holdings_of locks) wants
records_free warehouses w_id locks wants age are none = λ h blocks. none (place_in_warehouse h.group) h.by (in_the_way warehouses w_id locks wants h are blocks).stops

pub records_wait : (warehouses w_id : ℕ) (locks : List LockView) (wants : List Want) (age : ℕ) (d : LockView) → AreLocksOf warehouses w_id locks → All (IsOwn warehouses w_id) wants → IsRuling age locks (flat_map spots_of wants) Waits
    → MustWait (flat_map holdings_of locks) age wants
records_wait warehouses w_id locks wants age d are own waits = record {
  some = (held_of locks waits.some.0 d waits.some.1, (stands_in_the_way warehouses w_id locks wants waits.some.0 d waits.some.1 are own waits.some.2).1);
  younger = λ h blocks. waits.younger (place_in_warehouse h.group) h.by (in_the_way warehouses w_id locks wants h are blocks).stops;
}

kinds : (warehouses : ℕ) (a b : Group) → IsGroupOf warehouses a → IsGroupOf warehouses b → place_in_warehouse a ≤ place_in_warehouse b → kind_of a ≤ kind_of b
kinds warehouses a b known_a known_b before = grind arith

numbers : (warehouses : ℕ) (a b : Group) → IsGroupOf warehouses a → IsGroupOf warehouses b → place_in_warehouse a ≤ place_in_warehouse b → kind_of a ≡ kind_of b → number_of a ≤ number_of b
numbers warehouses a b known_a known_b before same = grind arith

compared : (k l v w m n : ℕ) → k ≤ l → v ≡ w → (k ≡ l → m ≤ n) → ordering_then (nat_cmp k l) (ordering_then (nat_cmp v w) (nat_cmp m n)) ≢ Greater
compared k l v w m n kinds homes numbers = grind arith

not_after : (warehouses : ℕ) (a b : Group) → IsGroupOf warehouses a → IsGroupOf warehouses b → warehouse_of a ≡ warehouse_of b → place_in_warehouse a ≤ place_in_warehouse b → group_cmp a b ≢ Greater
not_after warehouses a b known_a known_b home before =
    compared (kind_of a) (kind_of b) (warehouse_of a) (warehouse_of b) (number_of a) (number_of b) (kinds warehouses a b known_a known_b before) home (numbers warehouses a b known_a known_b before)

pub records_death : (warehouses w_id : ℕ) (locks : List LockView) (wants : List Want) (age number oldest : ℕ) (d : LockView) → AreLocksOf warehouses w_id locks → All (IsOwn warehouses w_id) wants
    → IsRuling age locks (flat_map spots_of wants) (Dies number oldest) → (number < length locks) × MustDie (flat_map holdings_of locks) age wants (get_or locks number d).ticket_box.group oldest
records_death warehouses w_id locks wants age number oldest d are own dies =
    let named = stands_in_the_way warehouses w_id locks wants number d dies.some.0 are own dies.some.1 in
    let at = are.each number d named.0 in
    let group = (get_or locks number d).ticket_box.group in (
      named.0,
      record {
        some = (held_of locks number d dies.some.0, named.1, refl, dies.some.2);
        older = dies.older;
        first = λ h blocks not_younger.
            let way = in_the_way warehouses w_id locks wants h are blocks in
            not_after warehouses group h.group at.known way.known (at.here ∙ sym way.home) (omega (arith, at.place, dies.first (place_in_warehouse h.group) h.by way.stops not_younger));
        oldest_there = λ h blocks same.
            let way = in_the_way warehouses w_id locks wants h are blocks in
            let place : place_in_warehouse h.group ≡ number = ap place_in_warehouse same ∙ at.place in
            dies.oldest_there h.by (subst (λ (n : ℕ). Stops locks (flat_map spots_of wants) n h.by) place way.stops);
      },
    )
