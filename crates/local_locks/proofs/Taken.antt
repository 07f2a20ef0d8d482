-- The turn of one of the waiting actions.
use Rattle.std.proofs.Common.{◌≡◌, ℕ, suc, ◌<◌, ◌≤◌, List, ◌∷◌, ◌++◌, length, get_or, map, take, drop, sym, ap, subst, ◌∙◌, arith}
use Rattle.std.specs.Prelude.{All}
use Rattle.std.specs.List.{flat_map, remove}
use Rattle.std.specs.List.Sorted.{IsPermutation}
use Rattle.std.proofs.lemmas.List.{drop-map, get_or-map, length-map, map-append, take-map}
use Rattle.std.proofs.lemmas.List.Elements.{All-get_or, All-map, All-tail}
use Rattle.std.proofs.lemmas.List.Sorted.{All-permutation, IsPermutation-map, IsPermutation-remove}
use Rattle.wait_die.specs.declared.deciding.Holder.{Holder}
use Rattle.local_locks.specs.declared.rulings.Ruling.{Ruling}
use Rattle.local_locks.specs.declared.rulings.Ruling.TheVariants.{Dies}
use Rattle.local_locks.specs.declared.waiting.Next.{Next}
use Rattle.local_locks.specs.LockTableView.{LockTableView, WaitingAction}
use Rattle.local_locks.specs.Conflicts.{MustDie}
use Rattle.local_locks.specs.Asking.{IsTurnOf, StillWaits, WaitsIfBefore, waiting}
use Rattle.local_locks.specs.Locks.{LockView, WaiterView, waiting_of, holdings_of, locking, AreLocksOf, IsParked}
use Rattle.local_locks.specs.Rulings.{spots_of, IsRuling}
use Rattle.local_locks.specs.Turns.{StaysParked, IsNext}
use Rattle.local_locks.proofs.Asks.{no_lock, home_there}
use Rattle.local_locks.proofs.Covering.{group_wanted_length}
use Rattle.local_locks.proofs.Views.{records_wait, records_death}

-- this action was removed from the waiting actions, since it is its turn
pub record IsTaken (warehouses w_id : ℕ) (locks : List LockView) (waiters rest : List WaiterView) (p : WaiterView) (next : Next) : Type 0 where
  pub locks_of : AreLocksOf warehouses w_id locks
  pub all : All (IsParked warehouses w_id) waiters
  pub is : IsNext locks waiters next
  pub taken : p ≡ get_or waiters next.index p
  pub left : rest ≡ remove waiters next.index

pub parked_taken : (warehouses w_id : ℕ) (locks : List LockView) (waiters rest : List WaiterView) (p : WaiterView) (next : Next) → IsTaken warehouses w_id locks waiters rest p next → IsParked warehouses w_id p
parked_taken warehouses w_id locks waiters rest p next t =
    subst (IsParked warehouses w_id) (sym t.taken) (All-get_or (IsParked warehouses w_id) waiters next.index p t.is.inside t.all)

by_taken : (warehouses w_id : ℕ) (locks : List LockView) (waiters rest : List WaiterView) (p : WaiterView) (next : Next) → IsTaken warehouses w_id locks waiters rest p next → p.by ≡ next.by
by_taken warehouses w_id locks waiters rest p next t = ap (λ (q : WaiterView). q.by) t.taken ∙ t.is.by p

pub said_taken : (warehouses w_id : ℕ) (locks : List LockView) (waiters rest : List WaiterView) (p : WaiterView) (next : Next) (ruling : Ruling) → IsTaken warehouses w_id locks waiters rest p next → next.ruling ≡ ruling → IsRuling next.by.age locks (flat_map spots_of p.wants) ruling
said_taken warehouses w_id locks waiters rest p next ruling t is =
    let P : WaiterView → Type 0 = λ q. IsRuling next.by.age locks (flat_map spots_of q.wants) next.ruling in
    let Q : Ruling → Type 0 = λ r. IsRuling next.by.age locks (flat_map spots_of p.wants) r in
    subst Q is (subst P (sym t.taken) (t.is.said p))

-- the others
moved : (warehouses w_id : ℕ) (locks : List LockView) (waiters rest : List WaiterView) (p : WaiterView) (next : Next) → IsTaken warehouses w_id locks waiters rest p next → IsPermutation waiters (p ∷ rest)
moved warehouses w_id locks waiters rest p next t =
    subst (λ (ps : List WaiterView). IsPermutation waiters (p ∷ ps)) (sym t.left) (IsPermutation-remove waiters next.index p t.is.inside t.taken)

pub rest_parked : (warehouses w_id : ℕ) (locks : List LockView) (waiters rest : List WaiterView) (p : WaiterView) (next : Next) → IsTaken warehouses w_id locks waiters rest p next → All (IsParked warehouses w_id) rest
rest_parked warehouses w_id locks waiters rest p next t =
    All-tail (IsParked warehouses w_id) p rest (All-permutation (IsParked warehouses w_id) waiters (p ∷ rest) (moved warehouses w_id locks waiters rest p next t) t.all)

pub all_still_wait : (warehouses w_id : ℕ) (locks : List LockView) (waiters : List WaiterView) → AreLocksOf warehouses w_id locks → All (IsParked warehouses w_id) waiters → All (StaysParked locks) waiters
    → All (StillWaits (flat_map holdings_of locks)) (map waiting_of waiters)
all_still_wait warehouses w_id locks waiters are all stay =
    All-map (StillWaits (flat_map holdings_of locks)) waiting_of waiters
    (λ k d small. records_wait warehouses w_id locks (get_or waiters k d).wants (get_or waiters k d).by.age no_lock are (all k d small).can.own (stay k d small))

-- without one of them, each is what it was
pub map_removed : {X Y : Type 0} (f : X → Y) (xs : List X) (index : ℕ) → map f (remove xs index) ≡ remove (map f xs) index
map_removed f xs index =
    map-append f (take index xs) (drop (suc index) xs)
    ∙ sym (λ i. take-map f index xs i ++ drop-map f (suc index) xs i)

-- in contracts: the action that was removed, and the others
pub others : (warehouses w_id : ℕ) (locks : List LockView) (waiters rest : List WaiterView) (p : WaiterView) (next : Next) → IsTaken warehouses w_id locks waiters rest p next → IsPermutation (map waiting_of waiters) (waiting next.by p.wants ∷ map waiting_of rest)
others warehouses w_id locks waiters rest p next t =
    subst (λ (w : WaitingAction). IsPermutation (map waiting_of waiters) (w ∷ map waiting_of rest)) (ap (λ (by : Holder). waiting by p.wants) (by_taken warehouses w_id locks waiters rest p next t))
    (IsPermutation-map waiting_of waiters (p ∷ rest) (moved warehouses w_id locks waiters rest p next t))

pub turn_taken : (warehouses w_id : ℕ) (table : LockTableView) (locks new : List LockView) (waiters rest : List WaiterView) (places after : List ℕ) (p : WaiterView) (next : Next) → locking w_id locks waiters places ≡ table → IsTaken warehouses w_id locks waiters rest p next
    → IsTurnOf next.index (waiting next.by p.wants) table (locking w_id new rest after)
turn_taken warehouses w_id table locks new waiters rest places after p next view t =
    let P : LockTableView → Type 0 = λ u. IsTurnOf next.index (waiting next.by p.wants) u (locking w_id new rest after) in
    let named : waiting_of p ≡ waiting next.by p.wants = ap (λ (by : Holder). waiting by p.wants) (by_taken warehouses w_id locks waiters rest p next t) in
    subst P view (record {
      inside = omega (arith, t.is.inside, length-map waiters waiting_of);
      there = λ d. get_or-map waiting_of waiters next.index p d t.is.inside ∙ ap waiting_of (sym t.taken) ∙ named;
      rest = ap (map waiting_of) t.left ∙ map_removed waiting_of waiters next.index;
      waiters = others warehouses w_id locks waiters rest p next t;
      first = All-map (WaitsIfBefore (flat_map holdings_of locks) next.by) waiting_of waiters
          (λ k d small before. records_wait warehouses w_id locks (get_or waiters k d).wants (get_or waiters k d).by.age no_lock t.locks_of (t.all k d small).can.own (t.is.first k d small before));
    })

-- there is room for its claims
pub room_taken : (warehouses w_id : ℕ) (locks : List LockView) (waiters rest : List WaiterView) (p : WaiterView) (next : Next) → IsTaken warehouses w_id locks waiters rest p next → length (flat_map spots_of p.wants) ≤ p.room
room_taken warehouses w_id locks waiters rest p next t =
    let is = parked_taken warehouses w_id locks waiters rest p next t in
    omega (arith, is.room, group_wanted_length warehouses w_id p.wants (home_there warehouses w_id locks t.locks_of) is.can.own)

pub death_taken : (warehouses w_id : ℕ) (table : LockTableView) (locks : List LockView) (waiters rest : List WaiterView) (places : List ℕ) (p : WaiterView) (next : Next) (number oldest : ℕ) (d : LockView) → locking w_id locks waiters places ≡ table → IsTaken warehouses w_id locks waiters rest p next
    → next.ruling ≡ Dies number oldest → (number < length locks) × MustDie table.holdings next.by.age p.wants (get_or locks number d).ticket_box.group oldest
death_taken warehouses w_id table locks waiters rest places p next number oldest d view t is =
    let death = records_death warehouses w_id locks p.wants next.by.age number oldest d t.locks_of (parked_taken warehouses w_id locks waiters rest p next t).can.own (said_taken warehouses w_id locks waiters rest p next (Dies number oldest) t is) in
    (death.0, subst (λ (u : LockTableView). MustDie u.holdings next.by.age p.wants (get_or locks number d).ticket_box.group oldest) view death.1)

pub taken_from : (warehouses w_id : ℕ) (locks shown : List LockView) (waiters listed rest : List WaiterView) (p : WaiterView) (next : Next) → shown ≡ locks → listed ≡ waiters → AreLocksOf warehouses w_id locks → All (IsParked warehouses w_id) waiters
    → IsNext shown listed next → p ≡ get_or waiters next.index p → rest ≡ remove waiters next.index → IsTaken warehouses w_id locks waiters rest p next
taken_from warehouses w_id locks shown waiters listed rest p next showing listing are all is at left =
    let P : List LockView → Type 0 = λ ls. IsNext ls waiters next in
    let Q : List WaiterView → Type 0 = λ ws. IsNext shown ws next in
    record { locks_of = are; all = all; is = subst P showing (subst Q listing is); taken = at; left = left }
