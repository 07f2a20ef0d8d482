-- Strict locking of groups: the claims that are out, and the committed contents of the groups of one slice.
use Rattle.std.specs.Prelude.{◌≡◌, ℕ, ◌+◌, List, [], ◌∷◌, ◌++◌, Bool, IsTrue, if◌then◌else◌, All, sum_by, map}
use Rattle.requests.specs.declared.group.Group.{Group}
use Rattle.groups.specs.Content.{Content}
use Rattle.groups.specs.Groups.{is_same}
use Rattle.groups.specs.declared.group_wants.Mode.{Mode}
use Rattle.groups.specs.declared.group_wants.Mode.TheVariants.{Shared, Exclusive}
use Rattle.tickets.specs.Claims.{ClaimView, committed_by, settled}

-- ---- the tickets

-- A group has eight tickets. A shared claim holds one of them, and an exclusive claim all eight.
abbrev pub tickets_held : Mode → ℕ
tickets_held Shared = 1
tickets_held Exclusive = 8

-- the tickets of a group that a claim holds: none, if it claims another group
abbrev pub tickets_of : Group → ClaimView → ℕ
tickets_of group claim = if is_same claim.group group then tickets_held claim.mode else 0

-- the number of the group's tickets that these claims hold
abbrev pub tickets_out : Group → List ClaimView → ℕ
tickets_out group claims = sum_by (tickets_of group) claims

-- the number of exclusive claims that a claim of this mode is
abbrev pub exclusive_held : Mode → ℕ
exclusive_held Shared = 0
exclusive_held Exclusive = 1

-- one, if the claim is an exclusive one on the group, else none
abbrev pub exclusive_of : Group → ClaimView → ℕ
exclusive_of group claim = if is_same claim.group group then exclusive_held claim.mode else 0

-- the number of exclusive claims on the group among these
abbrev pub exclusive_out : Group → List ClaimView → ℕ
exclusive_out group claims = sum_by (exclusive_of group) claims

-- ---- claims and contents

-- the claim records the content that these tables have in its group
abbrev pub RecordsContent : (Group → Content) → ClaimView → Type 0
RecordsContent tables claim = tables claim.group ≡ claim.recorded

-- each claim records the tables' content of its group
abbrev pub Records : (Group → Content) → List ClaimView → Type 0
Records tables claims = All (RecordsContent tables) claims

-- if the claim is exclusive, its group's rows are what it left
abbrev pub LeavesContent : (Group → Content) → ClaimView → Type 0
LeavesContent rows claim = claim.mode ≡ Exclusive → rows claim.group ≡ claim.left

-- `RecordsContent`, if the claim's group is here
abbrev pub RecordsHere : (Group → Bool) → (Group → Content) → ClaimView → Type 0
RecordsHere here tables claim = IsTrue (here claim.group) → RecordsContent tables claim

-- `LeavesContent`, if the claim's group is here
abbrev pub LeavesHere : (Group → Bool) → (Group → Content) → ClaimView → Type 0
LeavesHere here rows claim = IsTrue (here claim.group) → LeavesContent rows claim

-- ---- the one invariant

-- a slice's groups: the content of each now, and the number of its tickets that are not out
pub record GroupsOfSlice : Type 0 where
  pub rows : Group → Content
  pub free : Group → ℕ

-- These tables are the committed ones in the groups that are here, those of one slice, while these claims are out.
-- Each of a group's eight tickets is out or at home. Each claim records what the tables have in its group. The rows
-- of an exclusive claim's group are what the claim left. In a group with no exclusive claim the rows are what is
-- committed. Claims on groups elsewhere may be among the claims, and are ignored here.
pub record AreCommitted (here : Group → Bool) (tables : Group → Content) (slice : GroupsOfSlice) (claims : List ClaimView) : Type 0 where
  pub tickets : (group : Group) → IsTrue (here group) → tickets_out group claims + slice.free group ≡ 8
  pub recorded : All (RecordsHere here tables) claims
  pub left : All (LeavesHere here slice.rows) claims
  pub others : (group : Group) → IsTrue (here group) → exclusive_out group claims ≡ 0 → slice.rows group ≡ tables group

-- Replacing the claims `before` by `after`, the slice keeps what is committed: for all tables and all other claims
-- that are out, tables that were the committed ones still are.
abbrev pub KeepsCommitted : (Group → Bool) → List ClaimView → GroupsOfSlice → List ClaimView → GroupsOfSlice → Type 0
KeepsCommitted here before old after new =
    (tables : Group → Content) (others : List ClaimView) → AreCommitted here tables old (before ++ others) → AreCommitted here tables new (after ++ others)

-- these claims are out, with others
abbrev pub AreOut : (Group → Bool) → List ClaimView → GroupsOfSlice → Type 0
AreOut here claims slice = (tables : Group → Content) × (others : List ClaimView) × AreCommitted here tables slice (claims ++ others)

-- ---- a commit

-- the committed content of a group with this content, after a claim is settled
abbrev pub content_after : Group → Content → ClaimView → Content
content_after group content claim = if is_same claim.group group then committed_by claim.mode claim.left content else content

-- the committed content of the group after these claims are settled, one after another
abbrev pub contents_after : Group → Content → List ClaimView → Content
contents_after group content [] = content
contents_after group content (claim ∷ claims) = contents_after group (content_after group content claim) claims

-- the tables after a claim is settled: the group of an exclusive claim has what it left, and all else is unchanged
abbrev pub after_claim : (Group → Content) → ClaimView → Group → Content
after_claim tables claim group = content_after group (tables group) claim

-- the tables after these claims are settled
abbrev pub after_claims : (Group → Content) → List ClaimView → Group → Content
after_claims tables claims group = contents_after group (tables group) claims

-- the claims after what they left is committed
abbrev pub all_settled : List ClaimView → List ClaimView
all_settled claims = map settled claims
