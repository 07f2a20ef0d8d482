-- What is asked of the lock table for an action's wants, and what it grants.
use Rattle.std.proofs.Common.{◌≡◌, ℕ, ◌<◌, List, [], ◌∷◌, length, get_or, take, map, refl, sym, ap, subst, ◌∙◌, arith}
use Rattle.std.specs.Prelude.{All, AllPairs}
use Rattle.std.proofs.lemmas.List.{get_or-map, get_or-take, length-map, length-take-le}
use Rattle.std.proofs.lemmas.List.Elements.{All-cons, All-head, All-map, All-nil, All-tail}
use Rattle.partitions.specs.Parts.{shared_of}
use Rattle.schema.specs.Database.{Database}
use Rattle.groups.specs.Footprint.{groups_of}
use Rattle.groups.specs.Groups.{warehouse_of}
use Rattle.groups.specs.Wants.{IsIn}
use Rattle.groups.specs.declared.group_wants.GroupWant.{GroupWant}
use Rattle.groups.specs.declared.wants.Want.{Want}
use Rattle.tickets.specs.Claims.{ClaimView}
use Rattle.tickets.specs.Places.{IsGroupOf}
use Rattle.wait_die.specs.declared.deciding.Holder.{Holder}
use Rattle.local_locks.specs.GroupWants.{AreApart, CanAsk, IsOwn, group_wants}
use Rattle.slices.specs.Asked.{GrantsIn, granted_in}
use Rattle.slices.specs.SliceView.{SliceKeeps, SliceView}
use Rattle.transactions.specs.declared.acting.Ran.{Ran}
use Rattle.transactions.specs.declared.acting.Ran.TheVariants.{Done, Died, NoMemory}
use Rattle.transactions.specs.declared.work.Work.{Work}
use Rattle.transactions.specs.Acting.{claims_of_ran, IsBy, IsRan, IsRanUnder}
use Rattle.transactions.specs.Granted.{AreGrantedFor, AreLeft, AreGroupWantsAt}
use Rattle.transactions.specs.Works.{CanDo, HasDone, home_of, want_of, wants_of, group_wants_of}
use Rattle.transactions.proofs.GroupWanted.{left_undone, works_claim_at_home, works_have_their_groups, works_group_want_once}

-- ---- what is asked

-- each group by itself is the want again
group_wants_again : (ws : List GroupWant) → group_wants (map want_of ws) ≡ ws
group_wants_again [] = refl
group_wants_again (w ∷ ws) = ap (λ rest. w ∷ rest) (group_wants_again ws)

own_wants : (warehouses home : ℕ) (ws : List GroupWant) → All (IsGroupOf warehouses) (groups_of ws) → AreGroupWantsAt home ws → All (IsOwn warehouses home) (map want_of ws)
own_wants warehouses home [] known here = All-nil (IsOwn warehouses home)
own_wants warehouses home (w ∷ ws) known here =
    All-cons (IsOwn warehouses home) (want_of w) (map want_of ws)
    (All-head (IsGroupOf warehouses) w.group (groups_of ws) known, All-head (λ (x : GroupWant). warehouse_of x.group ≡ home) w ws here)
    (own_wants warehouses home ws (All-tail (IsGroupOf warehouses) w.group (groups_of ws) known) (All-tail (λ (x : GroupWant). warehouse_of x.group ≡ home) w ws here))

-- no group is wanted twice
wanted_once : (work : Work) → AllPairs AreApart (wants_of work)
wanted_once work i j d before small = λ both.
    let ws = group_wants_of work in
    let w : GroupWant = record { group = both.0; mode = d.mode } in
    let inside : j < length ws = omega (arith, small, length-map ws want_of) in
    let first : get_or (map want_of ws) i d ≡ want_of (get_or ws i w) = get_or-map want_of ws i w d (omega (arith, before, inside)) in
    let second : get_or (map want_of ws) j d ≡ want_of (get_or ws j w) = get_or-map want_of ws j w d inside in
    let own : (get_or ws i w).group ≡ both.0 = subst (λ (x : Want). IsIn x.extent both.0) first both.1 in
    let other : (get_or ws j w).group ≡ both.0 = subst (λ (x : Want). IsIn x.extent both.0) second both.2 in
    let there : get_or (take j ws) i w ≡ get_or ws i w = get_or-take j ws i w before in
    works_group_want_once work j w inside i w (omega (arith, before, inside, length-take-le j ws (omega (arith, inside)))) (ap (λ (x : GroupWant). x.group) there ∙ own ∙ sym other)

pub can_ask : (warehouses : ℕ) (t : Database) (home : ℕ) (work : Work) → warehouses ≡ t.scale.warehouses → CanDo (shared_of t) work → home_of work ≡ home → CanAsk warehouses home (wants_of work)
can_ask warehouses t home work many can here = record {
  own = own_wants warehouses home (group_wants_of work)
      (subst (λ n. All (IsGroupOf n) (groups_of (group_wants_of work))) (sym many) (works_have_their_groups (shared_of t) work can))
      (subst (λ n. AreGroupWantsAt n (group_wants_of work)) here (works_claim_at_home work));
  once = wanted_once work;
}

-- ---- what is granted

granted_each : (by : Holder) (s : SliceView) (ws : List GroupWant) → AreGrantedFor ws (map (granted_in by s) ws)
granted_each by s [] = tt
granted_each by s (w ∷ ws) = (record { group = refl; mode = refl; fresh = record { left = refl; back = refl } }, granted_each by s ws)

-- the claims for the wants, each in turn
granted_claims : (by : Holder) (work : Work) (old new : SliceView) (granted : List ClaimView) → GrantsIn by (wants_of work) old granted new → granted ≡ map (granted_in by old) (group_wants_of work)
granted_claims by work old new granted grants = grants.claims ∙ ap (map (granted_in by old)) (group_wants_again (group_wants_of work))

pub granted_for : (by : Holder) (work : Work) (old new : SliceView) (granted : List ClaimView) → GrantsIn by (wants_of work) old granted new → AreGrantedFor (group_wants_of work) granted
granted_for by work old new granted grants = subst (AreGrantedFor (group_wants_of work)) (sym (granted_claims by work old new granted grants)) (granted_each by old (group_wants_of work))

-- and they stay its own
left_by : (by : Holder) (olds news : List ClaimView) → AreLeft olds news → All (IsBy by) olds → All (IsBy by) news
left_by by [] [] left all = All-nil (IsBy by)
left_by by [] (new ∷ news) left all = absurd left
left_by by (old ∷ olds) [] left all = absurd left
left_by by (old ∷ olds) (new ∷ news) left all =
    All-cons (IsBy by) new news (ap (λ (c : ClaimView). c.by) left.0 ∙ All-head (IsBy by) old olds all) (left_by by olds news left.1 (All-tail (IsBy by) old olds all))

granted_by : (by : Holder) (work : Work) (old new : SliceView) (granted : List ClaimView) → GrantsIn by (wants_of work) old granted new → All (IsBy by) granted
granted_by by work old new granted grants =
    subst (All (IsBy by)) (sym (granted_claims by work old new granted grants)) (All-map (IsBy by) (granted_in by old) (group_wants_of work) (λ k d small. refl))

-- ---- the result

-- the result of work under claims that were granted for it is the result of the action
pub ran_of : {J : Type 0} (by : Holder) (old mid new : SliceView) (work : Work) (granted : List ClaimView) (ran : Ran J) → GrantsIn by (wants_of work) old granted mid → mid.waiters ≡ old.waiters
    → IsRanUnder mid work granted ran new → SliceKeeps granted mid (claims_of_ran ran) new → IsRan by old work ran new
ran_of by old mid new work granted (Done claims found) grants wait under keeps = record {
  free = grants.free;
  done = subst (λ (t : Database). HasDone (shared_of t) work found claims) grants.tables under.0;
  undone = left_undone (group_wants_of work) granted claims (granted_for by work old mid granted grants) under.1;
  own = left_by by granted claims under.1 (granted_by by work old mid granted grants);
}
ran_of by old mid new work granted (Died group holder) grants wait under keeps = absurd under
ran_of by old mid new work granted NoMemory grants wait under keeps = record {
  home = keeps.home ∙ grants.home;
  tables = under ∙ grants.tables;
  holdings = keeps.holdings old.holdings grants.holdings;
  waiters = keeps.waiters ∙ wait;
}
