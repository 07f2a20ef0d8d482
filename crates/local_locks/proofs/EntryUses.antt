-- Which groups have an entry, and which are held or waited for, after a request, a grant, a turn and a return.
use Rattle.std.proofs.Common.{◌≡◌, ◌≢◌, Bool, true, false, List, [], ◌∷◌, ◌++◌, ◌||◌, ◌&&◌, not, get_or, map, refl, sym, ap, ◌∙◌}
use Rattle.std.specs.Prelude.{filter}
use Rattle.std.specs.List.{list_any}
use Rattle.std.specs.List.Sorted.{IsPermutation}
use Rattle.std.proofs.lemmas.List.Folds.{list_any-append, list_any_at}
use Rattle.std.proofs.lemmas.List.Sorted.{list_any-IsPermutation}
use Rattle.std.proofs.lemmas.Map.Views.{any-filter_same}
use Rattle.requests.specs.declared.group.Group.{Group}
use Rattle.groups.specs.Groups.{is_same}
use Rattle.groups.specs.declared.group_wants.GroupWant.{GroupWant}
use Rattle.groups.specs.declared.wants.Want.{Want}
use Rattle.groups.proofs.SameGroups.{is_same-equal, is_same-itself, is_same-other}
use Rattle.tickets.specs.Claims.{ClaimView}
use Rattle.wait_die.specs.declared.deciding.Holder.{Holder}
use Rattle.local_locks.specs.LockTableView.{HeldClaim, LockTableView, WaitingAction, groups_of}
use Rattle.local_locks.specs.GroupWants.{group_wants}
use Rattle.local_locks.specs.Asking.{AreTogether, claimed, held_by, held_for, waiting}
use Rattle.local_locks.specs.Entries.{entered, is_awaited, is_entered, is_held, is_new, is_used, is_wanted, still_used}
use Rattle.local_locks.specs.EntryPlaces.{IsEnteredIfUsed}
use Rattle.local_locks.proofs.Tested.{any_mapped, filter_all, filter_weaker}

-- ---- tests together

newly : (entered wanted there : Bool) → (wanted ≡ true → there ≡ true) → (entered || ((wanted && not entered) && there)) ≡ (wanted || entered)
newly true true there in_it = refl
newly true false there in_it = refl
newly false true there in_it = in_it refl
newly false false there in_it = refl

or_false : (b : Bool) → (b || false) ≡ b
or_false true = refl
or_false false = refl

and_weaker : (a b : Bool) → (a ≡ true → b ≡ true) → (a && b) ≡ a
and_weaker true b weaker = weaker refl
and_weaker false b weaker = refl

pub or_assoc : (a b c : Bool) → ((a || b) || c) ≡ (a || (b || c))
or_assoc true b c = refl
or_assoc false b c = refl

pub or_last : (a b c : Bool) → (a || (b || c)) ≡ (c || (a || b))
or_last true b true = refl
or_last true b false = refl
or_last false true true = refl
or_last false true false = refl
or_last false false true = refl
or_last false false false = refl

pub or_middle : (a b c : Bool) → (a || (b || c)) ≡ ((b || a) || c)
or_middle true true c = refl
or_middle true false c = refl
or_middle false true c = refl
or_middle false false c = refl

pub or_right : (a b : Bool) → b ≡ true → (a || b) ≡ true
or_right true b is = refl
or_right false b is = is

-- ---- entries

-- those that are kept by a test have an entry exactly if they pass it
pub kept_entered : (test : Group → Bool) (entries : List Group) (group : Group) → (test group ≡ true → is_entered entries group ≡ true) → is_entered (filter test entries) group ≡ test group
kept_entered test entries group weaker =
    any-filter_same (is_same group) test (test group) (λ other same. ap test (sym (is_same-equal group other same))) entries ∙ and_weaker (test group) (is_entered entries group) weaker

-- once groups are entered
pub newly_entered : (table : LockTableView) (wants : List Want) (group : Group) → IsEnteredIfUsed table group → (is_wanted wants group ≡ true → is_entered (groups_of table.stands) group ≡ true)
    → is_entered (entered wants table) group ≡ (is_wanted wants group || is_used table.holdings table.waiters group)
newly_entered table wants group used inside =
    let new = is_new wants table.entries in
    list_any-append (is_same group) table.entries (filter new (groups_of table.stands))
    ∙ ap (λ b. is_entered table.entries group || b) (any-filter_same (is_same group) new (new group) (λ other same. ap new (sym (is_same-equal group other same))) (groups_of table.stands))
    ∙ newly (is_entered table.entries group) (is_wanted wants group) (is_entered (groups_of table.stands) group) inside
    ∙ ap (λ b. is_wanted wants group || b) used

-- ---- held and waited for

pub held_granted : (by : Holder) (wants : List Want) (old new : List HeldClaim) (group : Group) → IsPermutation new (map (held_for by) (group_wants wants) ++ old) → is_held new group ≡ (is_wanted wants group || is_held old group)
held_granted by wants old new group moved =
    let test : HeldClaim → Bool = λ h. is_same h.group group in
    list_any-IsPermutation test new (map (held_for by) (group_wants wants) ++ old) moved ∙ list_any-append test (map (held_for by) (group_wants wants)) old
    ∙ ap (λ b. b || is_held old group) (any_mapped test (held_for by) (group_wants wants))

pub awaited_more : (by : Holder) (wants : List Want) (waiters : List WaitingAction) (group : Group) → is_awaited (waiters ++ waiting by wants ∷ []) group ≡ (is_awaited waiters group || is_wanted wants group)
awaited_more by wants waiters group =
    list_any-append (λ (w : WaitingAction). is_wanted w.wants group) waiters (waiting by wants ∷ []) ∙ ap (λ b. is_awaited waiters group || b) (or_false (is_wanted wants group))

pub awaited_taken : (by : Holder) (wants : List Want) (old new : List WaitingAction) (group : Group) → IsPermutation old (waiting by wants ∷ new) → is_awaited old group ≡ (is_wanted wants group || is_awaited new group)
awaited_taken by wants old new group moved = list_any-IsPermutation (λ (w : WaitingAction). is_wanted w.wants group) old (waiting by wants ∷ new) moved

-- of what was held, a part came back
pub held_together : (all some others : List HeldClaim) (group : Group) → AreTogether all some others → is_held all group ≡ (is_held some group || is_held others group)
held_together all some others group together =
    let test : GroupWant → Bool = λ w. is_same w.group group in
    let claims : (hs : List HeldClaim) → is_held hs group ≡ list_any test (map claimed hs) = λ hs. sym (any_mapped test claimed hs) in
    claims all ∙ list_any-IsPermutation test (map claimed all) (map claimed some ++ map claimed others) together
    ∙ list_any-append test (map claimed some) (map claimed others) ∙ sym (λ i. claims some i || claims others i)

-- what is still held was held
pub held_before : (all some others : List HeldClaim) (group : Group) → AreTogether all some others → is_held others group ≡ true → is_held all group ≡ true
held_before all some others group together held = held_together all some others group together ∙ or_right (is_held some group) (is_held others group) held

-- once a claim is back, the other groups are held as they were
pub held_elsewhere : (claim : ClaimView) (old new : List HeldClaim) (group : Group) → group ≢ claim.group → AreTogether old (held_by claim ∷ []) new → is_held old group ≡ is_held new group
held_elsewhere claim old new group apart together =
    held_together old (held_by claim ∷ []) new group together ∙ ap (λ b. (b || false) || is_held new group) (is_same-other claim.group group apart)

pub weaker : (a b c : Bool) → (b ≡ true → c ≡ true) → (a || b) ≡ true → (a || c) ≡ true
weaker true b c more is = refl
weaker false b c more is = more is

pub weaker_left : (a b c : Bool) → (a ≡ true → b ≡ true) → (a || c) ≡ true → (b || c) ≡ true
weaker_left true b c more is = ap (λ d. d || c) (more refl)
weaker_left false true c more is = refl
weaker_left false false c more is = is

-- what is still used once a claim is back was used
pub used_before : (claim : ClaimView) (old new : List HeldClaim) (waiters : List WaitingAction) (group : Group) → AreTogether old (held_by claim ∷ []) new → is_used new waiters group ≡ true → is_used old waiters group ≡ true
used_before claim old new waiters group together used =
    weaker_left (is_held new group) (is_held old group) (is_awaited waiters group) (held_before old (held_by claim ∷ []) new group together) used

-- each entry is used
pub all_used : (holdings : List HeldClaim) (waiters : List WaitingAction) (entries : List Group) → ((group : Group) → is_entered entries group ≡ is_used holdings waiters group) → still_used holdings waiters entries ≡ entries
all_used holdings waiters entries used =
    filter_all (is_used holdings waiters) entries
    (λ k d small. let group = get_or entries k d in sym (used group) ∙ list_any_at (is_same group) entries k d small (is_same-itself group))

-- one more claim is back
pub still_fewer : (claim : ClaimView) (left next : List HeldClaim) (were are : List WaitingAction) (entries before after : List Group) → before ≡ still_used left were entries → AreTogether left (held_by claim ∷ []) next → are ≡ were → after ≡ still_used next are before
    → after ≡ still_used next are entries
still_fewer claim left next were are entries before after so_far together same gone =
    gone ∙ ap (still_used next are) (so_far ∙ ap (λ ws. still_used left ws entries) (sym same))
    ∙ filter_weaker (is_used left are) (is_used next are) (λ group used. used_before claim left next are group together used) entries
