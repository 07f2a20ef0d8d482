-- Which wants are some of others, and which are apart.
use Rattle.std.proofs.Common.{◌≡◌, ◌≢◌, ◌<◌, ◌∙◌, ℕ, List, [], ◌∷◌, ◌++◌, length, ap, arith}
use Rattle.std.specs.Prelude.{All, count_by, cond, slice_index_or, take}
use Rattle.std.proofs.lemmas.List.Elements.{All-nil, All-cons}
use Rattle.std.proofs.lemmas.List.Sums.{sum_by-append}
use Rattle.requests.specs.declared.group.Group.{Group}
use Rattle.groups.specs.declared.group_wants.GroupWant.{GroupWant}
use Rattle.groups.specs.declared.group_wants.Mode.{Mode}
use Rattle.groups.specs.Footprint.{exclusively, shared}
use Rattle.groups.specs.Groups.{warehouse_of}
use Rattle.tickets.specs.Claims.{ClaimView}
use Rattle.transactions.specs.Granted.{AreSomeOf, AreGroupWantsAt, IsExclusiveOn, IsSharedOn, group_want_of}

-- the first ones are
pub first_are_some : (first rest : List GroupWant) → AreSomeOf first (first ++ rest)
first_are_some first rest test = omega (arith, sum_by-append (λ (w : GroupWant). cond {A = ℕ} (test w) 1 0) first rest)

-- all of them are
pub all_are_some : (some group_wants : List GroupWant) → some ≡ group_wants → AreSomeOf some group_wants
all_are_some some group_wants same test = omega (arith, ap {B = ℕ} (λ (ws : List GroupWant). count_by test ws) same)

-- what a claim was granted for
group_want_is : (own : Group) (mode : Mode) (claim : ClaimView) → claim.group ≡ own → claim.mode ≡ mode → group_want_of claim ≡ record { group = own; mode = mode }
group_want_is own mode claim group is =
    ap {B = GroupWant} (λ g. record { group = g; mode = claim.mode }) group ∙ ap {B = GroupWant} (λ m. record { group = own; mode = m }) is

pub exclusive_group_want : (own : Group) (claim : ClaimView) → IsExclusiveOn own claim → group_want_of claim ≡ exclusively own
exclusive_group_want own claim is = group_want_is own _ claim is.group is.mode

pub shared_group_want : (own : Group) (claim : ClaimView) → IsSharedOn own claim → group_want_of claim ≡ shared own
shared_group_want own claim is = group_want_is own _ claim is.group is.mode

-- ---- each for a group of its own, and of one warehouse

-- no group is wanted for twice: before each want none is for its group
abbrev pub AreApart : List GroupWant → Type 0
AreApart group_wants =
    (k : ℕ) (d : GroupWant) → k < length group_wants → All (λ (before : GroupWant). before.group ≢ (slice_index_or group_wants k d).group) (take k group_wants)

pub one_group_want : (home : ℕ) (group_want : GroupWant) → warehouse_of group_want.group ≡ home → AreGroupWantsAt home (group_want ∷ [])
one_group_want home group_want here = All-cons (λ (w : GroupWant). warehouse_of w.group ≡ home) group_want [] here (All-nil (λ (w : GroupWant). warehouse_of w.group ≡ home))
