-- The content of a group that was claimed alone, after the claim is given back, for tests.
use Rattle.std.proofs.Common.{◌≡◌, ℕ, List, [], ◌∷◌, ◌++◌, length, get_or, set, take, drop, map, refl, sym, ap, subst, ◌∙◌, arith}
use Rattle.std.specs.Prelude.{All}
use Rattle.std.proofs.lemmas.List.{length-map}
use Rattle.std.proofs.lemmas.List.Elements.{All-cons, All-head, All-nil}
use Rattle.std.proofs.lemmas.List.Sorted.{All-permutation}
use Rattle.requests.specs.declared.group.Group.{Group}
use Rattle.groups.specs.Content.{Content}
use Rattle.groups.specs.Groups.{warehouse_of}
use Rattle.groups.specs.declared.group_wants.Mode.{Mode}
use Rattle.groups.specs.declared.wants.Extent.TheVariants.{One}
use Rattle.groups.specs.declared.wants.Want.{Want}
use Rattle.tickets.specs.Claims.{ClaimView, committed_by, fresh, leaving, settled}
use Rattle.tickets.specs.Committed.{all_settled}
use Rattle.tickets.specs.Places.{IsGroupOf}
use Rattle.wait_die.specs.declared.deciding.Holder.{Holder}
use Rattle.local_locks.specs.Asking.{Grants, IsSettled, IsTurnOf, all_kept_after, claim_for, leaving_in, left_after, waiting}
use Rattle.local_locks.specs.LockTableView.{AreStandsOf, LockTableView, Stand, WaitingAction, left_in}
use Rattle.local_locks.specs.GroupWants.{group_wants}
use Rattle.local_locks.proofs.Asks.{refilled}
use Rattle.local_locks.proofs.Stands.{inside, left_kept, left_there}

abbrev pub on_one : Group → Mode → Want
on_one group mode = record { extent = One group; mode = mode }

pub one_granted : (by : Holder) (wants : List Want) (group : Group) (mode : Mode) (old new : LockTableView) (claims : List ClaimView) → wants ≡ on_one group mode ∷ [] → Grants by wants old claims new
    → claims ≡ fresh by group mode (left_in old.stands group) ∷ []
one_granted by wants group mode old new claims is granted = granted.claims ∙ ap (λ (ws : List Want). map (claim_for by old.stands) (group_wants ws)) is

-- what was left in the group is its content after claims are given back
pub left_back : (warehouses w_id : ℕ) (stands : List Stand) (group : Group) (content : Content) (claims : List ClaimView) → AreStandsOf warehouses w_id stands → IsGroupOf warehouses group → warehouse_of group ≡ w_id
    → left_in (all_kept_after claims (map (left_after group content) stands)) group ≡ content
left_back warehouses w_id stands group content claims are known home =
    left_kept claims (map (left_after group content) stands) group (omega (arith, inside warehouses group known, length-map stands (left_after group content), are.all_there))
    ∙ left_there warehouses w_id stands group content are known home

-- where one waits alone, it is the turn of that one
abbrev IsWaiting : WaitingAction → WaitingAction → Type 0
IsWaiting one other = one ≡ other

pub only_turn : (one : WaitingAction) (index : ℕ) (by : Holder) (wants : List Want) (old new : LockTableView) → old.waiters ≡ one ∷ [] → IsTurnOf index (waiting by wants) old new → one ≡ waiting by wants
only_turn one index by wants old new only turn =
    All-head (IsWaiting one) (waiting by wants) new.waiters
    (All-permutation (IsWaiting one) old.waiters (waiting by wants ∷ new.waiters) turn.waiters (subst (All (IsWaiting one)) (sym only) (All-cons (IsWaiting one) one [] refl (All-nil (IsWaiting one)))))

-- it is the turn of that action, which is granted the group
pub turn_granted : (one : Holder) (asked : List Want) (group : Group) (mode : Mode) (index : ℕ) (by : Holder) (old new : LockTableView) (claims : List ClaimView) → old.waiters ≡ waiting one asked ∷ [] → asked ≡ on_one group mode ∷ []
    → ((wants : List Want) × IsTurnOf index (waiting by wants) old new × Grants by wants old claims new) → Grants by (on_one group mode ∷ []) old claims new
turn_granted one asked group mode index by old new claims only is turn =
    let same : waiting one asked ≡ waiting by turn.0 = only_turn (waiting one asked) index by turn.0 old new only turn.1 in
    subst (λ (ws : List Want). Grants by ws old claims new) (sym (ap (λ (w : WaitingAction). w.wants) same) ∙ is) turn.2

-- if no action waited, and one has to wait, it waits alone
pub waits_alone : (start granted left asked idle back : LockTableView) (group : Group) (content : Content) (by : Holder) (wants : List Want) → start.waiters ≡ [] → granted.waiters ≡ start.waiters → left ≡ leaving_in granted group content
    → asked ≡ record left { waiters = left.waiters ++ waiting by wants ∷ [] } → idle ≡ asked → back.waiters ≡ idle.waiters → back.waiters ≡ waiting by wants ∷ []
waits_alone start granted left asked idle back group content by wants none same leave waits still returned =
    let before : left.waiters ≡ [] = ap (λ (t : LockTableView). t.waiters) leave ∙ same ∙ none in
    returned ∙ ap (λ (t : LockTableView). t.waiters) (still ∙ waits) ∙ ap (λ (ws : List WaitingAction). ws ++ waiting by wants ∷ []) before

-- ---- the only claim of a list

pub only_one : (claims : List ClaimView) (x one : ClaimView) → claims ≡ x ∷ [] → one ≡ get_or claims 0 one → one ≡ x
only_one claims x one is there = there ∙ ap (λ (cs : List ClaimView). get_or cs 0 one) is

pub only_set : (claims : List ClaimView) (x y : ClaimView) → claims ≡ x ∷ [] → set claims 0 y ≡ y ∷ []
only_set claims x y is = ap (λ (cs : List ClaimView). set cs 0 y) is

pub only_left : (claims : List ClaimView) (x one left : ClaimView) (content : Content) → claims ≡ x ∷ [] → one ≡ get_or claims 0 one → left ≡ leaving one content → set claims 0 left ≡ leaving x content ∷ []
only_left claims x one left content granted first leave =
    only_set claims x left granted ∙ ap (λ (k : ClaimView). k ∷ []) (leave ∙ ap (λ (k : ClaimView). leaving k content) (only_one claims x one granted first))

-- the claim once something was left under it and taken back
pub only_undone : (claims : List ClaimView) (x one left two back : ClaimView) (content : Content) → claims ≡ x ∷ [] → one ≡ get_or claims 0 one → left ≡ leaving one content → two ≡ get_or (set claims 0 left) 0 two → back ≡ leaving two two.back
    → set (set claims 0 left) 0 back ≡ leaving x x.back ∷ []
only_undone claims x one left two back content granted first leave second undo =
    let now : set claims 0 left ≡ leaving x content ∷ [] = only_left claims x one left content granted first leave in
    let there : two ≡ leaving x content = only_one (set claims 0 left) (leaving x content) two now second in
    only_set (set claims 0 left) (leaving x content) back now ∙ ap (λ (k : ClaimView). k ∷ []) (undo ∙ ap (λ (k : ClaimView). leaving k k.back) there)

-- the claim once what it left is committed
pub only_settled : (count : ℕ) (claims now news : List ClaimView) (x one left : ClaimView) (content : Content) → count ≡ length claims → claims ≡ x ∷ [] → one ≡ get_or claims 0 one → left ≡ leaving one content
    → now ≡ set claims 0 left → news ≡ all_settled now → take count (news ++ drop (length news) (set claims 0 left)) ≡ settled (leaving x content) ∷ []
only_settled count claims now news x one left content counted granted first leave shown settle =
    let here : set claims 0 left ≡ leaving x content ∷ [] = only_left claims x one left content granted first leave in
    let recorded : news ≡ settled (leaving x content) ∷ [] = settle ∙ ap (λ (cs : List ClaimView). all_settled cs) (shown ∙ here) in
    let long : length claims ≡ 1 = ap (λ (cs : List ClaimView). length cs) granted in
    let long_here : length (set claims 0 left) ≡ 1 = ap (λ (cs : List ClaimView). length cs) here in
    let long_recorded : length news ≡ 1 = ap (λ (cs : List ClaimView). length cs) recorded in
    refilled count (set claims 0 left) news (omega (arith, counted, long, long_here)) (omega (arith, long_here, long_recorded)) ∙ recorded

pub settled_is : (claim : ClaimView) → All IsSettled (settled claim ∷ [])
settled_is claim = All-cons IsSettled (settled claim) [] (λ exclusive. ap (λ (m : Mode). committed_by m claim.left claim.recorded) exclusive) (All-nil IsSettled)
