-- What a lock table grants and takes back keeps what is committed.
use Rattle.std.proofs.Common.{◌≡◌, ◌⊎◌, ℕ, suc, ◌+◌, ◌-◌, ◌*◌, ◌≤◌, true, false, List, [], ◌∷◌, ◌++◌, refl, sym, ◌∙◌, ap, subst, cond, ⊎_elim, arith}
use Rattle.std.specs.Prelude.{Bool, All, AllPairs, IsTrue, map, sum_by, if◌then◌else◌, ◌&&◌}
use Rattle.std.proofs.lemmas.List.Elements.{All-nil, All-cons, All-head, All-tail, All-append}
use Rattle.std.proofs.lemmas.List.Sorted.{sum_by-IsPermutation}
use Rattle.std.proofs.lemmas.List.Sums.{sum_by-cons, sum_by-append}
use Rattle.requests.specs.declared.group.Group.{Group}
use Rattle.groups.specs.Content.{Content}
use Rattle.groups.specs.Groups.{is_same}
use Rattle.groups.specs.declared.group_wants.Mode.{Mode}
use Rattle.groups.specs.declared.group_wants.Mode.TheVariants.{Shared, Exclusive}
use Rattle.groups.specs.declared.group_wants.GroupWant.{GroupWant}
use Rattle.groups.proofs.SameGroups.{is_same-itself}
use Rattle.tickets.specs.Claims.{ClaimView}
use Rattle.tickets.specs.Committed.{LeavesHere, RecordsHere, exclusive_held, exclusive_of, exclusive_out, tickets_held, tickets_of, tickets_out}
use Rattle.tickets.proofs.Apart.{by_bool, by_mode, is_same-equal}
use Rattle.local_locks.specs.LockTableView.{HeldClaim}
use Rattle.local_locks.specs.Conflicts.{is_shared, shared_on}
use Rattle.local_locks.specs.Asking.{claimed, held_by, AreTogether, IsSettled}
use Rattle.local_locks.specs.Laws.{AreCompatible, NoneConflict}
use Rattle.local_locks.specs.Keeping.{tickets_by, tickets_on, IsNewOn, GrantsKeepCommitted, ReturnsKeepCommitted}

-- ---- the tickets of claims, and of their holders

-- the tickets of a group that a want is for
tickets_for : Group → GroupWant → ℕ
tickets_for group group_want = if is_same group_want.group group then tickets_held group_want.mode else 0

on_group_wants : (group : Group) (holdings : List HeldClaim) → sum_by (tickets_for group) (map claimed holdings) ≡ tickets_on group holdings
unfolding tickets_for
on_group_wants group [] = refl
on_group_wants group (h ∷ hs) =
    sum_by-cons (tickets_for group) (claimed h) (map claimed hs) ∙ ap (λ (n : ℕ). tickets_by group h + n) (on_group_wants group hs) ∙ sym (sum_by-cons (tickets_by group) h hs)

-- the holders of these claims have their tickets
pub on_claims : (group : Group) (claims : List ClaimView) → tickets_on group (map held_by claims) ≡ tickets_out group claims
on_claims group [] = refl
on_claims group (c ∷ cs) =
    sum_by-cons (tickets_by group) (held_by c) (map held_by cs) ∙ ap (λ (n : ℕ). tickets_of group c + n) (on_claims group cs) ∙ sym (sum_by-cons (tickets_of group) c cs)

-- all tickets that are out are those and the others
pub tickets_together : (group : Group) (all some others : List HeldClaim) → AreTogether all some others → tickets_on group all ≡ tickets_on group some + tickets_on group others
tickets_together group all some others together =
    let moved = sum_by-IsPermutation (tickets_for group) (map claimed all) (map claimed some ++ map claimed others) together in
    let parts = sum_by-append (tickets_for group) (map claimed some) (map claimed others) in
    omega (arith, moved, parts, on_group_wants group all, on_group_wants group some, on_group_wants group others)

yes_by : (group : Group) (h : HeldClaim) → is_same h.group group ≡ true → tickets_by group h ≡ tickets_held h.mode
yes_by group h is = ap (λ (b : Bool). if b then tickets_held h.mode else 0) is

no_by : (group : Group) (h : HeldClaim) → is_same h.group group ≡ false → tickets_by group h ≡ 0
no_by group h is = ap (λ (b : Bool). if b then tickets_held h.mode else 0) is

yes_exclusive : (group : Group) (c : ClaimView) → is_same c.group group ≡ true → exclusive_of group c ≡ exclusive_held c.mode
yes_exclusive group c is = ap (λ (b : Bool). if b then exclusive_held c.mode else 0) is

no_exclusive : (group : Group) (c : ClaimView) → is_same c.group group ≡ false → exclusive_of group c ≡ 0
no_exclusive group c is = ap (λ (b : Bool). if b then exclusive_held c.mode else 0) is

eight_each : (mode : Mode) → 8 * exclusive_held mode ≤ tickets_held mode
eight_each Shared = omega arith
eight_each Exclusive = omega arith

one_at_least : (mode : Mode) → 1 ≤ tickets_held mode
one_at_least Shared = omega arith
one_at_least Exclusive = omega arith

-- an exclusive claim has eight tickets
eight_out : (group : Group) (claims : List ClaimView) → 8 * exclusive_out group claims ≤ tickets_out group claims
eight_out group [] = omega arith
eight_out group (c ∷ cs) =
    let tickets = sum_by-cons (tickets_of group) c cs in
    let exclusive = sum_by-cons (exclusive_of group) c cs in
    by_bool (is_same c.group group) refl
    (λ is. omega (arith, tickets, exclusive, eight_out group cs, yes_by group (held_by c) is, yes_exclusive group c is, eight_each c.mode))
    (λ is. omega (arith, tickets, exclusive, eight_out group cs, no_by group (held_by c) is, no_exclusive group c is))

-- ---- where none conflict, no group has more than eight tickets out

shared_cons : (group : Group) (h : HeldClaim) (hs : List HeldClaim) → shared_on group (h ∷ hs) ≡ cond {A = ℕ} (is_same h.group group && is_shared h.mode) 1 0 + shared_on group hs
shared_cons group h hs = sum_by-cons (λ (k : HeldClaim). cond {A = ℕ} (is_same k.group group && is_shared k.mode) 1 0) h hs

-- no claim beside this one is on its group
none_beside : (group : Group) (h : HeldClaim) (hs : List HeldClaim) → h.group ≡ group → h.mode ≡ Exclusive → All (AreCompatible h) hs → tickets_on group hs ≡ 0
none_beside group h [] here exclusive all = refl
none_beside group h (k ∷ hs) here exclusive all =
    by_bool (is_same k.group group) refl
    (λ is. let both = All-head (AreCompatible h) k hs all (here ∙ sym (is_same-equal k.group group is)) in let shared = both.0 in absurd (unlike (sym shared ∙ exclusive)))
    (λ is. omega (arith, sum_by-cons (tickets_by group) k hs, no_by group k is, none_beside group h hs here exclusive (All-tail (AreCompatible h) k hs all)))
  where
    unlike : Shared ≡ Exclusive → ⊥
    unlike e = cc

-- all beside this one are shared
shared_beside : (group : Group) (h : HeldClaim) (hs : List HeldClaim) → h.group ≡ group → All (AreCompatible h) hs → tickets_on group hs ≡ shared_on group hs
shared_beside group h [] here all = refl
shared_beside group h (k ∷ hs) here all =
    let tickets = sum_by-cons (tickets_by group) k hs in
    let shared = shared_cons group k hs in
    let rest = shared_beside group h hs here (All-tail (AreCompatible h) k hs all) in
    by_bool (is_same k.group group) refl
    (λ is.
    let both = All-head (AreCompatible h) k hs all (here ∙ sym (is_same-equal k.group group is)) in
    let one : tickets_held k.mode ≡ 1 = ap {B = ℕ} tickets_held both.1 in
    let counts : cond {A = ℕ} (is_same k.group group && is_shared k.mode) 1 0 ≡ 1 = ap {B = ℕ} (λ b. cond (b && is_shared k.mode) 1 0) is ∙ ap {B = ℕ} (λ m. cond (is_shared m) 1 0) both.1 in
    omega (arith, tickets, shared, rest, yes_by group k is, one, counts))
    (λ is.
    let counts : cond {A = ℕ} (is_same k.group group && is_shared k.mode) 1 0 ≡ 0 = ap {B = ℕ} (λ b. cond (b && is_shared k.mode) 1 0) is in
    omega (arith, tickets, shared, rest, no_by group k is, counts))

first_with : (h : HeldClaim) (hs : List HeldClaim) → AllPairs AreCompatible (h ∷ hs) → All (AreCompatible h) hs
first_with h hs pairs = λ k d small. pairs 0 (suc k) d (omega arith) (omega (arith, small))

others_with : (h : HeldClaim) (hs : List HeldClaim) → AllPairs AreCompatible (h ∷ hs) → AllPairs AreCompatible hs
others_with h hs pairs = λ i j d before small. pairs (suc i) (suc j) d (omega (arith, before)) (omega (arith, small))

at_most_eight : (group : Group) (hs : List HeldClaim) → AllPairs AreCompatible hs → shared_on group hs ≤ 8 → tickets_on group hs ≤ 8
at_most_eight group [] pairs most = omega arith
at_most_eight group (h ∷ hs) pairs most =
    let tickets = sum_by-cons (tickets_by group) h hs in
    let shared = shared_cons group h hs in
    by_bool (is_same h.group group) refl
    (λ is.
    let here = is_same-equal h.group group is in
    by_mode h.mode refl
    (λ mode.
    let all : tickets_held h.mode ≡ 8 = ap {B = ℕ} tickets_held mode in
    omega (arith, tickets, yes_by group h is, all, none_beside group h hs here mode (first_with h hs pairs)))
    (λ mode.
    let one : tickets_held h.mode ≡ 1 = ap {B = ℕ} tickets_held mode in
    let counts : cond {A = ℕ} (is_same h.group group && is_shared h.mode) 1 0 ≡ 1 = ap {B = ℕ} (λ b. cond (b && is_shared h.mode) 1 0) is ∙ ap {B = ℕ} (λ m. cond (is_shared m) 1 0) mode in
    omega (arith, tickets, shared, most, yes_by group h is, one, counts, shared_beside group h hs here (first_with h hs pairs))))
    (λ is. omega (arith, tickets, no_by group h is, at_most_eight group hs (others_with h hs pairs) (omega (arith, most, shared))))

pub few_out : (group : Group) (holdings : List HeldClaim) → NoneConflict holdings → tickets_on group holdings ≤ 8
few_out group holdings none = at_most_eight group holdings none.pairs (none.most group)

-- ---- what is granted

module _ (here : Group → Bool) (rows : Group → Content) where
  some_of_eight : (group : Group) (claims : List ClaimView) (c : ClaimView) → c.group ≡ group → 1 ≤ tickets_out group (c ∷ claims)
  some_of_eight group claims c own =
      let same : is_same c.group group ≡ true = ap (λ (g : Group). is_same c.group g) (sym own) ∙ is_same-itself c.group in
      omega (arith, sum_by-cons (tickets_of group) c claims, yes_by group (held_by c) same, one_at_least c.mode)

  -- Each records what is committed: if it is on a group that is here, no exclusive claim was out on it.
  granted_recorded : (tables : Group → Content) (old : List HeldClaim) (all others : List ClaimView)
      → ((group : Group) → IsTrue (here group) → tickets_out group others + (8 - tickets_on group old) ≡ 8)
      → ((group : Group) → tickets_out group all + tickets_on group old ≤ 8)
      → ((group : Group) → IsTrue (here group) → exclusive_out group others ≡ 0 → rows group ≡ tables group)
      → (claims : List ClaimView) → All (IsNewOn rows) claims → ((group : Group) → tickets_out group claims ≤ tickets_out group all)
      → All (RecordsHere here tables) claims
  granted_recorded tables old all others tickets most same [] new some = All-nil (RecordsHere here tables)
  granted_recorded tables old all others tickets most same (c ∷ claims) new some =
      let is = All-head (IsNewOn rows) c claims new in
      All-cons (RecordsHere here tables) c claims
      (λ near.
      let mine = some_of_eight c.group claims c refl in
      let none : exclusive_out c.group others ≡ 0 = omega (arith, eight_out c.group others, tickets c.group near, most c.group, some c.group, mine) in
      sym (same c.group near none) ∙ sym is.recorded)
      (granted_recorded tables old all others tickets most same claims (All-tail (IsNewOn rows) c claims new) (λ group. omega (arith, some group, sum_by-cons (tickets_of group) c claims)))

  granted_left : (claims : List ClaimView) → All (IsNewOn rows) claims → All (LeavesHere here rows) claims
  granted_left claims new = λ k d small near exclusive. sym (new k d small).left

  all_others : {X : Type 0} (P : X → Type 0) (xs ys : List X) → All P (xs ++ ys) → All P ys
  all_others P [] ys all = all
  all_others P (x ∷ xs) ys all = all_others P xs ys (All-tail P x (xs ++ ys) all)

  -- ---- claims that are given back

  -- an exclusive claim that is settled records the content of its group
  settled_stands : (tables : Group → Content) (group : Group) (claims others : List ClaimView) → IsTrue (here group) → All IsSettled claims → All (RecordsHere here tables) (claims ++ others) → All (LeavesHere here rows) (claims ++ others)
      → 1 ≤ exclusive_out group claims → rows group ≡ tables group
  settled_stands tables group [] others near settled recorded left some = absurd (omega (arith, some))
  settled_stands tables group (c ∷ claims) others near settled recorded left some =
      let cons = sum_by-cons (exclusive_of group) c claims in
      let later = λ (none : exclusive_of group c ≡ 0).
      settled_stands tables group claims others near (All-tail IsSettled c claims settled) (All-tail (RecordsHere here tables) c (claims ++ others) recorded) (All-tail (LeavesHere here rows) c (claims ++ others) left) (omega (arith, some, cons, none)) in
      by_bool (is_same c.group group) refl
      (λ is.
      let own = is_same-equal c.group group is in
      by_mode c.mode refl
      (λ mode.
      let there : IsTrue (here c.group) = subst (λ (g : Group). IsTrue (here g)) (sym own) near in
      let stands = All-head (LeavesHere here rows) c (claims ++ others) left there mode in
      let records = All-head (RecordsHere here tables) c (claims ++ others) recorded there in
      subst (λ (g : Group). rows g ≡ tables g) own (stands ∙ sym (All-head IsSettled c claims settled mode) ∙ sym records))
      (λ mode. let bare : exclusive_held c.mode ≡ 0 = ap {B = ℕ} exclusive_held mode in later (yes_exclusive group c is ∙ bare)))
      (λ is. later (no_exclusive group c is))

none_or_some : (n : ℕ) → (n ≡ 0) ⊎ (1 ≤ n)
none_or_some n = grind arith

pub grants_keep : GrantsKeepCommitted
grants_keep here rows granted old new together none all = λ tables others h.
    let mine = λ (group : Group). on_claims group granted in
    let parts = λ (group : Group). tickets_together group new (map held_by granted) old together in
    let most : (group : Group) → tickets_out group granted + tickets_on group old ≤ 8 = λ group. omega (arith, parts group, mine group, few_out group new none) in
    record {
      tickets = λ group near. omega (arith, h.tickets group near, parts group, mine group, few_out group new none, sum_by-append (tickets_of group) granted others);
      recorded = All-append (RecordsHere here tables) granted others (granted_recorded here rows tables old granted others h.tickets most h.others granted all (λ group. omega arith)) h.recorded;
      left = All-append (LeavesHere here rows) granted others (granted_left here rows granted all) h.left;
      others = λ group near free. h.others group near (omega (arith, free, sum_by-append (exclusive_of group) granted others));
    }

pub returns_keep : ReturnsKeepCommitted
returns_keep here rows claims old new together none settled = λ tables others h.
    record {
      tickets = λ group near. omega (arith, h.tickets group near, tickets_together group old (map held_by claims) new together, on_claims group claims, few_out group old none, sum_by-append (tickets_of group) claims others);
      recorded = all_others here rows (RecordsHere here tables) claims others h.recorded;
      left = all_others here rows (LeavesHere here rows) claims others h.left;
      others = λ group near free.
          ⊎_elim
          (λ (bare : exclusive_out group claims ≡ 0). h.others group near (omega (arith, free, bare, sum_by-append (exclusive_of group) claims others)))
          (λ (some : 1 ≤ exclusive_out group claims). settled_stands here rows tables group claims others near settled h.recorded h.left some)
          (none_or_some (exclusive_out group claims));
    }
