-- Wants for a group, and claims on it.
use Rattle.std.proofs.Common.{◌≡◌, ℕ, ◌+◌, ◌≤◌, Bool, true, false, zero, suc, cond, List, [], ◌∷◌, ◌++◌, Some, refl, sym, ◌∙◌, ap, subst, arith, ⊎_elim}
use Rattle.std.specs.Prelude.{Contains, count_by, map}
use Rattle.std.specs.List.{filter, slice_get}
use Rattle.std.proofs.lemmas.List.Sums.{sum_by-append, sum_by-cons}
use Rattle.partitions.specs.Parts.{SharedTables}
use Rattle.requests.specs.declared.group.Group.{Group}
use Rattle.requests.specs.declared.request.Request.{Request}
use Rattle.groups.specs.declared.group_wants.GroupWant.{GroupWant}
use Rattle.groups.specs.Footprint.{footprint, groups_of}
use Rattle.groups.specs.Groups.{is_same}
use Rattle.groups.proofs.SameGroups.{is_same-equal, is_same-itself}
use Rattle.tickets.specs.Claims.{ClaimView, all_claims}
use Rattle.local_locks.specs.Asking.{held_by}
use Rattle.local_locks.specs.Conflicts.{Blocks, ClaimConflicts, MustDie}
use Rattle.local_locks.specs.LockTableView.{HeldClaim}
use Rattle.local_locks.proofs.Members.{contains_cases, contains_here, contains_none, contains_there}
use Rattle.local_locks.proofs.Views.{unmapped}
use Rattle.slices.specs.SliceView.{at_home, held_at}
use Rattle.transactions.specs.declared.progress.Progress.{Progress}
use Rattle.transactions.specs.declared.work.Work.{Work}
use Rattle.transactions.specs.declared.work.Found.{Found}
use Rattle.transactions.specs.Granted.{group_want_of}
use Rattle.transactions.specs.Laws.{ClaimsAreOfTheFootprint, TransactionsClaimEachGroupOnce}
use Rattle.transactions.specs.Progresses.{IsReached, works_of}
use Rattle.transactions.specs.Works.{HasDone, all_group_wants, want_of, group_wants_of}
use Rattle.transactions.proofs.Reached.{counted}
use Rattle.transactions.proofs.GroupWanted.{works_have_a_claim_for_each_group_want}

-- ---- wants for a group, and claims on it

module _ (group : Group) where
  -- so many of these wants are for the group
  abbrev pub group_wants_on : List GroupWant → ℕ
  group_wants_on group_wants = count_by (λ (group_want : GroupWant). is_same group group_want.group) group_wants

  -- so many of these claims are on it
  abbrev pub claims_on : List ClaimView → ℕ
  claims_on claims = count_by (λ (claim : ClaimView). is_same group claim.group) claims

  -- a want and a claim, where they count
  abbrev pub one_group_want_on : GroupWant → ℕ
  one_group_want_on group_want = cond (is_same group group_want.group) 1 0

  abbrev pub one_claim_on : ClaimView → ℕ
  one_claim_on claim = cond (is_same group claim.group) 1 0

  -- as many claims on it as wants for it, where work was done
  pub done_on : (shared : SharedTables) (work : Work) (found : Found) (claims : List ClaimView)
      → HasDone shared work found claims → claims_on claims ≡ group_wants_on (group_wants_of work)
  done_on shared work found claims done =
      sym (counted (is_same group) (λ (claim : ClaimView). claim.group) claims)
      ∙ ap (λ groups. count_by (is_same group) groups) (works_have_a_claim_for_each_group_want shared work found claims done)
      ∙ counted (is_same group) (λ (group_want : GroupWant). group_want.group) (group_wants_of work)

-- a want among others is one of those for its group
pub group_wanted : (group_wants : List GroupWant) (group_want : GroupWant) → Contains group_wants group_want → 1 ≤ group_wants_on group_want.group group_wants
group_wanted [] group_want is = contains_none group_want is
group_wanted (first ∷ group_wants) group_want is =
    let both = sum_by-cons (one_group_want_on group_want.group) first group_wants in
    ⊎_elim
    (λ (same : first ≡ group_want).
    let one : one_group_want_on group_want.group first ≡ 1 =
    ap {B = ℕ} (λ (w : GroupWant). one_group_want_on group_want.group w) same ∙ ap {B = ℕ} (λ b. cond b 1 0) (is_same-itself group_want.group) in
    omega (arith, one, both))
    (λ (rest : Contains group_wants group_want). omega (arith, group_wanted group_wants group_want rest, both))
    (contains_cases first group_wants group_want is)

-- and a claim that a lock table has, one of those on its group
pub claimed : (w_id : ℕ) (claims : List ClaimView) (h : HeldClaim) → Contains (held_at w_id claims) h → 1 ≤ claims_on h.group claims
claimed w_id [] h is = contains_none h is
claimed w_id (first ∷ claims) h is = either (claimed w_id claims h) (at_home w_id first.group) is
  where
    rest : List ClaimView
    rest = filter (λ (claim : ClaimView). at_home w_id claim.group) claims

    later : 1 ≤ claims_on h.group claims → 1 ≤ claims_on h.group (first ∷ claims)
    later one = omega (arith, one, sum_by-cons (one_claim_on h.group) first claims)

    either : (Contains (held_at w_id claims) h → 1 ≤ claims_on h.group claims) → (b : Bool) → Contains (map held_by (cond b (first ∷ rest) rest)) h → 1 ≤ claims_on h.group (first ∷ claims)
    either more true there =
        ⊎_elim
        (λ (same : held_by first ≡ h).
        let one : one_claim_on h.group first ≡ 1 =
        ap {B = ℕ} (λ (x : HeldClaim). cond (is_same h.group x.group) 1 0) same ∙ ap {B = ℕ} (λ b. cond b 1 0) (is_same-itself h.group) in
        omega (arith, one, sum_by-cons (one_claim_on h.group) first claims))
        (λ (there : Contains (map held_by rest) h). later (more there))
        (contains_cases (held_by first) (map held_by rest) h there)
    either more false there = later (more there)

-- ---- groups of wants

-- a group that is wanted for counts
pub group_counts : (group : Group) (group_wants : List GroupWant) → Contains (groups_of group_wants) group → 1 ≤ group_wants_on group group_wants
group_counts group [] is = contains_none group is
group_counts group (first ∷ group_wants) is =
    let both = sum_by-cons (one_group_want_on group) first group_wants in
    ⊎_elim
    (λ (same : first.group ≡ group).
    let one : one_group_want_on group first ≡ 1 = ap {B = ℕ} (λ (g : Group). cond (is_same group g) 1 0) same ∙ ap {B = ℕ} (λ b. cond b 1 0) (is_same-itself group) in
    omega (arith, one, both))
    (λ (rest : Contains (groups_of group_wants) group). omega (arith, group_counts group group_wants rest, both))
    (contains_cases first.group (groups_of group_wants) group is)

-- and one that counts is wanted for
pub counted_there : (group : Group) (group_wants : List GroupWant) → 1 ≤ group_wants_on group group_wants → Contains (groups_of group_wants) group
counted_there group [] some = absurd (omega (arith, some))
counted_there group (first ∷ group_wants) some = by (is_same group first.group) refl (λ later. counted_there group group_wants later)
  where
    by : (b : Bool) → is_same group first.group ≡ b → (1 ≤ group_wants_on group group_wants → Contains (groups_of group_wants) group) → Contains (groups_of (first ∷ group_wants)) group
    by true same rest = subst (λ (g : Group). Contains (groups_of (first ∷ group_wants)) g) (sym (is_same-equal group first.group same)) (contains_here first.group (groups_of group_wants))
    by false other rest =
        let none : one_group_want_on group first ≡ 0 = ap {B = ℕ} (λ b. cond b 1 0) other in
        contains_there first.group (groups_of group_wants) group (rest (omega (arith, some, none, sum_by-cons (one_group_want_on group) first group_wants)))

-- a want's group is one of the groups that are wanted
pub group_want_there : (group_wants : List GroupWant) (group_want : GroupWant) → Contains group_wants group_want → Contains (groups_of group_wants) group_want.group
group_want_there group_wants group_want is = counted_there group_want.group group_wants (group_wanted group_wants group_want is)

-- a claim that is there counts
pub claim_counts : (claims : List ClaimView) (claim : ClaimView) → Contains claims claim → 1 ≤ claims_on claim.group claims
claim_counts [] claim is = contains_none claim is
claim_counts (first ∷ claims) claim is =
    let both = sum_by-cons (one_claim_on claim.group) first claims in
    ⊎_elim
    (λ (same : first ≡ claim).
    let one : one_claim_on claim.group first ≡ 1 = ap {B = ℕ} (λ (c : ClaimView). one_claim_on claim.group c) same ∙ ap {B = ℕ} (λ b. cond b 1 0) (is_same-itself claim.group) in
    omega (arith, one, both))
    (λ (rest : Contains claims claim). omega (arith, claim_counts claims claim rest, both))
    (contains_cases first claims claim is)

-- ---- what several works want for

pub first_group_want : (work : Work) (works : List Work) (group : Group) → Contains (groups_of (group_wants_of work)) group → Contains (groups_of (all_group_wants (work ∷ works))) group
first_group_want work works group is =
    counted_there group (all_group_wants (work ∷ works)) (omega (arith, group_counts group (group_wants_of work) is, sum_by-append (one_group_want_on group) (group_wants_of work) (all_group_wants works)))

pub later_group_want : (work : Work) (works : List Work) (group : Group) → Contains (groups_of (all_group_wants works)) group → Contains (groups_of (all_group_wants (work ∷ works))) group
later_group_want work works group is =
    counted_there group (all_group_wants (work ∷ works)) (omega (arith, group_counts group (all_group_wants works) is, sum_by-append (one_group_want_on group) (group_wants_of work) (all_group_wants works)))

-- what one of them wants for
pub one_of_works : (group : Group) (works : List Work) (number : ℕ) (work : Work) → slice_get works number ≡ Some work → group_wants_on group (group_wants_of work) ≤ group_wants_on group (all_group_wants works)
one_of_works group [] number work is = absurd (cc)
one_of_works group (first ∷ works) zero work is =
    let same : first ≡ work = cc in
    omega (arith, ap {B = ℕ} (λ (w : Work). group_wants_on group (group_wants_of w)) same, sum_by-append (one_group_want_on group) (group_wants_of first) (all_group_wants works))
one_of_works group (first ∷ works) (suc number) work is =
    omega (arith, one_of_works group works number work is, sum_by-append (one_group_want_on group) (group_wants_of first) (all_group_wants works))

-- and what two of them do
pub two_of_works : (group : Group) (works : List Work) (m n : ℕ) (a b : Work) → slice_get works m ≡ Some a → slice_get works n ≡ Some b → (m ≡ n → ⊥)
    → group_wants_on group (group_wants_of a) + group_wants_on group (group_wants_of b) ≤ group_wants_on group (all_group_wants works)
two_of_works group [] m n a b is there other = absurd (cc)
two_of_works group (first ∷ works) zero zero a b is there other = absurd (other refl)
two_of_works group (first ∷ works) zero (suc n) a b is there other =
    let same : first ≡ a = cc in
    omega (
      arith,
      ap {B = ℕ} (λ (w : Work). group_wants_on group (group_wants_of w)) same,
      one_of_works group works n b there,
      sum_by-append (one_group_want_on group) (group_wants_of first) (all_group_wants works),
    )
two_of_works group (first ∷ works) (suc m) zero a b is there other =
    let same : first ≡ b = cc in
    omega (
      arith,
      ap {B = ℕ} (λ (w : Work). group_wants_on group (group_wants_of w)) same,
      one_of_works group works m a is,
      sum_by-append (one_group_want_on group) (group_wants_of first) (all_group_wants works),
    )
two_of_works group (first ∷ works) (suc m) (suc n) a b is there other =
    omega (
      arith,
      two_of_works group works m n a b is there (λ same. other (ap suc same)),
      sum_by-append (one_group_want_on group) (group_wants_of first) (all_group_wants works),
    )

-- ---- a transaction

module _ (shared : SharedTables) (asked : Request) (progress : Progress) (held : List (List ClaimView)) (reached : IsReached shared asked progress held) (group : Group) where
  -- of what the transaction holds, and what its actions want for, one at most is for a group
  pub claimed_once : TransactionsClaimEachGroupOnce → claims_on group (all_claims held) + group_wants_on group (all_group_wants (works_of progress)) ≤ 1
  claimed_once once =
      let claims = all_claims held in
      let group_wants = all_group_wants (works_of progress) in
      omega (
        arith,
        once shared asked progress held reached group,
        counted (is_same group) (λ (group_want : GroupWant). group_want.group) (map group_want_of claims ++ group_wants),
        sum_by-append (one_group_want_on group) (map group_want_of claims) group_wants,
        counted (λ (group_want : GroupWant). is_same group group_want.group) group_want_of claims,
      )

  -- what its actions want for is of its request's footprint
  pub of_footprint : ClaimsAreOfTheFootprint → Contains (groups_of (all_group_wants (works_of progress))) group → Contains (groups_of (footprint asked)) group
  of_footprint within is =
      let claims = map group_want_of (all_claims held) in
      let group_wants = all_group_wants (works_of progress) in
      counted_there group (footprint asked)
      (omega (
        arith,
        group_counts group group_wants is,
        within shared asked progress held reached (λ (group_want : GroupWant). is_same group group_want.group),
        sum_by-append (one_group_want_on group) claims group_wants,
      ))

-- ---- who dies

-- a claim on this group, which is wanted for, of one of this age
pub record DiesOn (holdings : List HeldClaim) (group_wants : List GroupWant) (group : Group) (oldest : ℕ) : Type 0 where
  pub holding : HeldClaim
  pub held : Contains holdings holding
  pub on : holding.group ≡ group
  pub by : holding.by.age ≡ oldest
  pub group_wanted : Contains (groups_of group_wants) group

pub dies_on : (holdings : List HeldClaim) (age : ℕ) (group_wants : List GroupWant) (group : Group) (oldest : ℕ) → MustDie holdings age (map want_of group_wants) group oldest → DiesOn holdings group_wants group oldest
dies_on holdings age group_wants group oldest death =
    let h = death.some.0 in
    let blocks : Blocks holdings (map want_of group_wants) h = death.some.1 in
    let any = blocks.1 in
    let found = unmapped want_of group_wants any.1 (any.0, any.2, any.3) in
    let conflict : ClaimConflicts holdings h (want_of found.0) = subst (ClaimConflicts holdings h) (sym found.2) any.4 in
    record {
      holding = h;
      held = blocks.0;
      on = death.some.2;
      by = death.some.3;
      group_wanted = subst (λ (g : Group). Contains (groups_of group_wants) g) (conflict.covered ∙ death.some.2) (group_want_there group_wants found.0 found.1);
    }
