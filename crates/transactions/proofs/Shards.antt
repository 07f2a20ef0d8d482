-- An action asks at a shard, and one that waited has its turn.
use Rattle.std.proofs.Common.{◌≡◌, ℕ, ◌<◌, List, [], ◌∷◌, ◌++◌, length, get_or, map, refl, sym, ap, subst, ◌∙◌, arith}
use Rattle.std.specs.Prelude.{All, slice_index_or}
use Rattle.std.specs.List.{remove}
use Rattle.std.proofs.lemmas.List.{get_or-map, get_or_default, length-map, map-append}
use Rattle.std.proofs.lemmas.List.Elements.{All-get_or, All-push, All-tail, All-weaker}
use Rattle.std.proofs.lemmas.List.Sorted.{All-permutation, IsPermutation-remove}
use Rattle.partitions.specs.Parts.{SharedTables, shared_of}
use Rattle.requests.specs.declared.group.Group.{Group}
use Rattle.groups.specs.declared.wants.Want.{Want}
use Rattle.tickets.specs.Claims.{ClaimView}
use Rattle.wait_die.specs.declared.deciding.Holder.{Holder}
use Rattle.local_locks.specs.Asking.{IsTurnOf, StillWaits, waiting}
use Rattle.local_locks.specs.Conflicts.{MustDie}
use Rattle.local_locks.specs.LockTableView.{WaitingAction}
use Rattle.local_locks.proofs.Taken.{map_removed}
use Rattle.slices.specs.Asked.{GrantsIn, locking_in}
use Rattle.slices.specs.SliceView.{SliceKeeps, SliceView, with_waiters}
use Rattle.transactions.specs.declared.acting.Ran.{Ran}
use Rattle.transactions.specs.declared.acting.Ran.TheVariants.{Died}
use Rattle.transactions.specs.declared.shard.Acted.TheVariants as acted
use Rattle.transactions.specs.declared.shard.Parked.{Parked}
use Rattle.transactions.specs.declared.work.Work.{Work}
use Rattle.transactions.specs.Acting.{IsRan, IsRanUnder, claims_of_ran}
use Rattle.transactions.specs.Shards.{ActsAs, CanDoThere, IsShard, OneTurn, RunsAs, ShardView, parked, shard_view, waiting_of}
use Rattle.transactions.specs.Granted.{AreGrantedFor}
use Rattle.transactions.specs.Works.{CanDo, home_of, wants_of, group_wants_of}
use Rattle.transactions.proofs.Kept as kept
use Rattle.transactions.proofs.Wanted.{granted_for, ran_of}

-- ---- a waiting action is still there

module _ {T : Type 0} where
  -- what can be done in a slice can be done where the scale and the items stay
  still_able : (old new : SliceView) → new.home ≡ old.home → new.tables.scale ≡ old.tables.scale → new.tables.items ≡ old.tables.items → (p : Parked T) → CanDoThere old p → CanDoThere new p
  still_able old new home scale items p able =
      let same : shared_of old.tables ≡ shared_of new.tables = λ i. record { scale = sym scale i; items = sym items i } in
      record { can = subst (λ (s : SharedTables). CanDo s p.work) same able.can; home = able.home ∙ sym home }

  all_able : (old new : SliceView) (all : List (Parked T)) → new.home ≡ old.home → new.tables.scale ≡ old.tables.scale → new.tables.items ≡ old.tables.items → All (CanDoThere old) all → All (CanDoThere new) all
  all_able old new all home scale items able = All-weaker (CanDoThere old) (CanDoThere new) (still_able old new home scale items) all able

  -- one more waits
  pub one_more : (warehouses : ℕ) (old : SliceView) (all : List (Parked T)) (by : Holder) (work : Work) (carried : T) → IsShard warehouses old all → CanDo (shared_of old.tables) work → home_of work ≡ old.home
      → IsShard warehouses (with_waiters (old.waiters ++ waiting by (wants_of work) ∷ []) old) (all ++ parked by work carried ∷ [])
  one_more warehouses old all by work carried is can home =
      let new = with_waiters (old.waiters ++ waiting by (wants_of work) ∷ []) old in
      let able : All (CanDoThere new) all = all_able old new all refl refl refl is.able in
      record {
        warehouses_are = is.warehouses_are;
        waiters = ap (λ ws. ws ++ waiting by (wants_of work) ∷ []) is.waiters ∙ sym (map-append waiting_of all (parked by work carried ∷ []));
        able = All-push (CanDoThere new) all (parked by work carried) able (record { can = can; home = home });
      }

-- ---- an action asks

module _ {T : Type 0} (by : Holder) (work : Work) (old : ShardView T) (left : List (Parked T)) (same : left ≡ old.parked) where
  -- it runs under the claims that it is granted
  pub runs_granted : {J : Type 0} (ran : Ran J) (claims : List ClaimView) (mid new : SliceView) → GrantsIn by (wants_of work) old.slice claims mid → mid.waiters ≡ old.slice.waiters
      → SliceKeeps [] old.slice claims mid → IsRanUnder mid work claims ran new → SliceKeeps claims mid (claims_of_ran ran) new → RunsAs by work old ran (shard_view new left)
  runs_granted ran claims mid new grants wait first under keeps =
      (ran_of by old.slice mid new work claims ran grants wait under keeps, kept.then [] claims (claims_of_ran ran) old.slice mid new first keeps, same)

module _ {T : Type 0} (by : Holder) (work : Work) (carried : T) (old : ShardView T) (left : List (Parked T)) (same : left ≡ old.parked) where
  pub acts_and_dies : (J : Type 0) (group : Group) (holder : ℕ) (new : SliceView) → MustDie old.slice.holdings by.age (wants_of work) group holder → new ≡ old.slice
      → ActsAs {J = J} by work carried old (acted.Ran (Died group holder) carried) (shard_view new left)
  acts_and_dies J group holder new death stays = (refl, (death, stays), kept.unchanged [] [] old.slice new refl stays, same)

  pub acts_at_once : {J : Type 0} (ran : Ran J) (claims : List ClaimView) (mid new : SliceView) → GrantsIn by (wants_of work) old.slice claims mid → mid.waiters ≡ old.slice.waiters
      → SliceKeeps [] (with_waiters mid.waiters old.slice) claims mid → IsRanUnder mid work claims ran new → SliceKeeps claims mid (claims_of_ran ran) new
      → ActsAs by work carried old (acted.Ran ran carried) (shard_view new left)
  acts_at_once ran claims mid new grants wait first under keeps =
      let runs = runs_granted by work old left same ran claims mid new grants wait (subst (λ ws. SliceKeeps [] (with_waiters ws old.slice) claims mid) wait first) under keeps in
      (refl, runs.0, runs.1, runs.2)

-- ---- a turn

module _ {T : Type 0} (warehouses : ℕ) (old mid : SliceView) (all rest : List (Parked T)) (index : ℕ) (by : Holder) (wants : List Want) (p : Parked T)
    (is : IsShard warehouses old all) (turn : IsTurnOf index (waiting by wants) (locking_in old) (locking_in mid)) (taken : p ≡ slice_index_or all index p)
    (left : rest ≡ remove all index) where
  pub inside : index < length all
  inside = omega (arith, turn.inside, ap {B = ℕ} (λ (ws : List WaitingAction). length ws) is.waiters, length-map all waiting_of)

  -- it is the turn of this action
  same : waiting by wants ≡ waiting_of p
  same =
      sym (turn.there (waiting_of p)) ∙ ap (λ (ws : List WaitingAction). get_or ws index (waiting_of p)) is.waiters
      ∙ get_or-map waiting_of all index p (waiting_of p) inside ∙ ap waiting_of (sym taken)

  pub its_wants : wants ≡ wants_of p.work
  its_wants = ap (λ (w : WaitingAction). w.wants) same

  pub able_there : CanDoThere old p
  able_there = subst (CanDoThere old) (sym taken) (All-get_or (CanDoThere old) all index p inside is.able)

  -- and its claims are those for its wants
  pub granted_there : (claims : List ClaimView) → GrantsIn by wants old claims mid → AreGrantedFor (group_wants_of p.work) claims
  granted_there claims grants = granted_for by p.work old mid claims (subst (λ (ws : List Want). GrantsIn by ws old claims mid) its_wants grants)

  -- the others go on waiting
  pub rest_there : (new : SliceView) → new.waiters ≡ mid.waiters → new.home ≡ old.home → new.tables.scale ≡ old.tables.scale → new.tables.items ≡ old.tables.items → IsShard warehouses new rest
  rest_there new wait home scale items = record {
    warehouses_are = is.warehouses_are ∙ ap (λ s. s.warehouses) (sym scale);
    waiters = wait ∙ turn.rest ∙ ap (λ (ws : List WaitingAction). remove ws index) is.waiters ∙ sym (map_removed waiting_of all index) ∙ ap (map waiting_of) (sym left);
    able = all_able old new rest home scale items
        (All-tail (CanDoThere old) p rest
        (subst (λ (ps : List (Parked T)). All (CanDoThere old) (p ∷ ps)) (sym left) (All-permutation (CanDoThere old) all (p ∷ remove all index) (IsPermutation-remove all index p inside taken) is.able)));
  }

  -- its result is its turn
  one_turn : {J : Type 0} (ran : Ran J) (new : SliceView) → (StillWaits old.holdings (waiting by wants) → ⊥) → IsRan by (with_waiters new.waiters old) p.work ran new
      → SliceKeeps [] (with_waiters new.waiters old) (claims_of_ran ran) new → OneTurn (shard_view old all) (record { by = by; ran = ran; carried = p.carried }) (shard_view new rest)
  one_turn ran new over of keeps = record {
    index = index;
    work = p.work;
    inside = inside;
    there = λ d. get_or_default all index d p inside ∙ sym taken ∙ (λ i. parked (sym (ap (λ (w : WaitingAction). w.by) same) i) p.work p.carried);
    here = able_there.home;
    rest = left;
    over = subst (λ (ws : List Want). StillWaits old.holdings (waiting by ws) → ⊥) its_wants over;
    first = turn.first;
    ran = of;
    kept = keeps;
  }

  pub turn_granted : {J : Type 0} (ran : Ran J) (claims : List ClaimView) (new : SliceView) → GrantsIn by wants old claims mid → SliceKeeps [] (with_waiters mid.waiters old) claims mid → IsRanUnder mid p.work claims ran new
      → SliceKeeps claims mid (claims_of_ran ran) new → OneTurn (shard_view old all) (record { by = by; ran = ran; carried = p.carried }) (shard_view new rest) × IsShard warehouses new rest
  turn_granted ran claims new grants first under keeps =
      let before = with_waiters new.waiters old in
      let all_granted : GrantsIn by (wants_of p.work) before claims mid =
      subst (λ (ws : List Want). GrantsIn by ws before claims mid) its_wants
      (record { free = grants.free; claims = grants.claims; holdings = grants.holdings; home = grants.home; tables = grants.tables }) in
      let from : SliceKeeps [] before claims mid = subst (λ (ws : List WaitingAction). SliceKeeps [] (with_waiters ws old) claims mid) (sym keeps.waiters) first in
      let keep = kept.then [] claims (claims_of_ran ran) before mid new from keeps in (
        one_turn ran new (λ wait. grants.free wait.some.0 wait.some.1) (ran_of by before mid new p.work claims ran all_granted (sym keeps.waiters) under keeps) keep,
        rest_there new keeps.waiters keep.home keep.scale keep.items,
      )

  pub turn_died : (J : Type 0) (group : Group) (holder : ℕ) → MustDie old.holdings by.age wants group holder → mid ≡ with_waiters mid.waiters old
      → OneTurn {J = J} (shard_view old all) (record { by = by; ran = Died group holder; carried = p.carried }) (shard_view mid rest) × IsShard warehouses mid rest
  turn_died J group holder death gone =
      let before = with_waiters mid.waiters old in
      let over : StillWaits old.holdings (waiting by wants) → ⊥ = λ wait.
      omega (arith, wait.younger death.some.0 death.some.1, death.some.3, death.older) in (
        one_turn (Died group holder) mid over (subst (λ (ws : List Want). MustDie old.holdings by.age ws group holder) its_wants death, gone)
            (kept.unchanged [] [] before mid refl gone),
        rest_there mid refl (ap (λ (s : SliceView). s.home) gone) (ap (λ (s : SliceView). s.tables.scale) gone) (ap (λ (s : SliceView). s.tables.items) gone),
      )
