-- Laws of what is committed in a slice, for each step of the slice.
use Rattle.std.specs.Prelude.{◌≡◌, ◌≢◌, ◌↔◌, ◌+◌, List, [], ◌∷◌, ◌++◌, Bool, false, IsTrue, All, map}
use Rattle.std.specs.List.Sorted.{IsPermutation}
use Rattle.requests.specs.declared.group.Group.{Group}
use Rattle.groups.specs.Content.{Content}
use Rattle.groups.specs.declared.group_wants.Mode.TheVariants.{Exclusive}
use Rattle.tickets.specs.Claims.{ClaimView, leaving}
use Rattle.tickets.specs.LogSeats.{CommittedGroup, after_all, IsRecordedIn, SeatsRecord}
use Rattle.tickets.specs.Committed.{tickets_held, Records, RecordsHere, GroupsOfSlice, AreCommitted, KeepsCommitted, AreOut, after_claims, all_settled}

-- ---- the steps of a slice

-- A claim is granted: its tickets go out, and what it records and leaves is the content of its group.
pub record IsGrant (claim : ClaimView) (old new : GroupsOfSlice) : Type 0 where
  pub tickets : new.free claim.group + tickets_held claim.mode ≡ old.free claim.group
  pub recorded : claim.recorded ≡ old.rows claim.group
  pub left : claim.left ≡ old.rows claim.group
  pub rows : (group : Group) → new.rows group ≡ old.rows group
  pub others : (group : Group) → group ≢ claim.group → new.free group ≡ old.free group

-- An exclusive claim leaves something else in its group, and nothing else changes.
pub record IsWrite (was now : ClaimView) (old new : GroupsOfSlice) : Type 0 where
  pub exclusive : was.mode ≡ Exclusive
  pub claim : now ≡ leaving was now.left
  pub rows : new.rows was.group ≡ now.left
  pub others : (group : Group) → group ≢ was.group → new.rows group ≡ old.rows group
  pub free : (group : Group) → new.free group ≡ old.free group

-- A claim is given back. If it is exclusive, its recorded content is what it left. Its tickets come home.
pub record IsGivenBack (claim : ClaimView) (old new : GroupsOfSlice) : Type 0 where
  pub settled : claim.mode ≡ Exclusive → claim.recorded ≡ claim.left
  pub tickets : new.free claim.group ≡ old.free claim.group + tickets_held claim.mode
  pub rows : (group : Group) → new.rows group ≡ old.rows group
  pub others : (group : Group) → group ≢ claim.group → new.free group ≡ old.free group

-- the claim is on a group of another slice
abbrev pub IsElsewhere : (Group → Bool) → ClaimView → Type 0
IsElsewhere here claim = here claim.group ≡ false

-- ---- what each step does

-- The order of the claims is irrelevant.
abbrev pub OrderDoesNotMatter : Type 0
OrderDoesNotMatter =
    (here : Group → Bool) (tables : Group → Content) (slice : GroupsOfSlice) (claims others : List ClaimView)
    → IsPermutation claims others → AreCommitted here tables slice claims → AreCommitted here tables slice others

-- A claim on a group of another slice may be among the claims or not: it makes no difference.
abbrev pub ClaimElsewhereSaysNothing : Type 0
ClaimElsewhereSaysNothing =
    (here : Group → Bool) (tables : Group → Content) (slice : GroupsOfSlice) (claim : ClaimView) (claims : List ClaimView)
    → IsElsewhere here claim → AreCommitted here tables slice claims ↔ AreCommitted here tables slice (claim ∷ claims)

-- If only claims on groups of other slices change, this slice keeps what is committed.
abbrev pub StepElsewhereKeepsCommitted : Type 0
StepElsewhereKeepsCommitted =
    (here : Group → Bool) (before after : List ClaimView) (slice : GroupsOfSlice)
    → All (IsElsewhere here) before → All (IsElsewhere here) after → KeepsCommitted here before slice after slice

-- What is committed depends only on the tables, rows and tickets of the groups that are here.
abbrev pub OnlyWhatIsHereCounts : Type 0
OnlyWhatIsHereCounts =
    (here : Group → Bool) (tables next : Group → Content) (old new : GroupsOfSlice) (claims : List ClaimView)
    → ((group : Group) → IsTrue (here group) → next group ≡ tables group)
    → ((group : Group) → IsTrue (here group) → new.rows group ≡ old.rows group)
    → ((group : Group) → IsTrue (here group) → new.free group ≡ old.free group)
    → AreCommitted here tables old claims → AreCommitted here next new claims

-- A grant, shared or exclusive, keeps what is committed.
abbrev pub GrantKeepsCommitted : Type 0
GrantKeepsCommitted =
    (here : Group → Bool) (claim : ClaimView) (old new : GroupsOfSlice) → IsGrant claim old new → KeepsCommitted here [] old (claim ∷ []) new

-- A write under an exclusive claim keeps what is committed.
abbrev pub WriteKeepsCommitted : Type 0
WriteKeepsCommitted =
    (here : Group → Bool) (was now : ClaimView) (old new : GroupsOfSlice) → IsWrite was now old new → KeepsCommitted here (was ∷ []) old (now ∷ []) new

-- Undoing all that was done under an exclusive claim keeps what is committed.
abbrev pub UndoKeepsCommitted : Type 0
UndoKeepsCommitted =
    (here : Group → Bool) (claim : ClaimView) (old new : GroupsOfSlice)
    → IsWrite claim (leaving claim claim.back) old new → KeepsCommitted here (claim ∷ []) old (leaving claim claim.back ∷ []) new

-- Giving back a claim whose recorded content is what it left keeps what is committed.
abbrev pub GiveBackKeepsCommitted : Type 0
GiveBackKeepsCommitted =
    (here : Group → Bool) (claim : ClaimView) (old new : GroupsOfSlice) → IsGivenBack claim old new → KeepsCommitted here (claim ∷ []) old [] new

-- A commit of some claims makes the next tables, in which each group has what its exclusive claim left. The slice is
-- unchanged; the settled claims record what they left, and the other claims are unchanged.
abbrev pub CommitMakesTheNextTables : Type 0
CommitMakesTheNextTables =
    (here : Group → Bool) (tables : Group → Content) (slice : GroupsOfSlice) (own others : List ClaimView)
    → AreCommitted here tables slice (own ++ others) → AreCommitted here (after_claims tables own) slice (all_settled own ++ others)

-- ---- what follows from the claims that are out

-- Claims on groups that are here record what is committed.
abbrev pub ClaimsRecordWhatIsCommitted : Type 0
ClaimsRecordWhatIsCommitted =
    (here : Group → Bool) (tables : Group → Content) (slice : GroupsOfSlice) (own others : List ClaimView)
    → AreCommitted here tables slice (own ++ others) → All (RecordsHere here tables) own

-- While an exclusive claim on a group is out, no ticket of the group is at home and no other claim on it is out.
abbrev pub ExclusiveClaimIsAlone : Type 0
ExclusiveClaimIsAlone =
    (here : Group → Bool) (tables : Group → Content) (slice : GroupsOfSlice) (claim : ClaimView) (others : List ClaimView)
    → AreCommitted here tables slice (claim ∷ others) → IsTrue (here claim.group) → claim.mode ≡ Exclusive
    → (slice.free claim.group ≡ 0) × All (λ (other : ClaimView). other.group ≢ claim.group) others

-- all tickets are at home, and the rows are those of the tables
pub record IsAtRest (here : Group → Bool) (tables : Group → Content) (slice : GroupsOfSlice) : Type 0 where
  pub free : (group : Group) → IsTrue (here group) → slice.free group ≡ 8
  pub rows : (group : Group) → IsTrue (here group) → slice.rows group ≡ tables group

-- With no claim out, the rows are what is committed.
abbrev pub RestIsCommitted : Type 0
RestIsCommitted =
    (here : Group → Bool) (tables : Group → Content) (slice : GroupsOfSlice)
    → IsAtRest here tables slice ↔ AreCommitted here tables slice []

-- ---- several steps

-- doing nothing keeps what is committed
abbrev pub StayingKeepsCommitted : Type 0
StayingKeepsCommitted = (here : Group → Bool) (claims : List ClaimView) (slice : GroupsOfSlice) → KeepsCommitted here claims slice claims slice

-- two steps that each keep what is committed keep it one after the other
abbrev pub TwoStepsKeepCommitted : Type 0
TwoStepsKeepCommitted =
    (here : Group → Bool) (first between last : List ClaimView) (old slice new : GroupsOfSlice)
    → KeepsCommitted here first old between slice → KeepsCommitted here between slice last new → KeepsCommitted here first old last new

-- a step also keeps what is committed while more claims are out
abbrev pub StepsKeepBesideOthers : Type 0
StepsKeepBesideOthers =
    (here : Group → Bool) (before after more : List ClaimView) (old new : GroupsOfSlice)
    → KeepsCommitted here before old after new → KeepsCommitted here (before ++ more) old (after ++ more) new

-- a step keeps what is committed for any order of its claims
abbrev pub StepsKeepInAnyOrder : Type 0
StepsKeepInAnyOrder =
    (here : Group → Bool) (before first after last : List ClaimView) (old new : GroupsOfSlice)
    → IsPermutation first before → IsPermutation after last
    → KeepsCommitted here before old after new → KeepsCommitted here first old last new

-- claims that are out before a step are out after it, as the step left them
abbrev pub StepsKeepClaimsOut : Type 0
StepsKeepClaimsOut =
    (here : Group → Bool) (before after : List ClaimView) (old new : GroupsOfSlice)
    → KeepsCommitted here before old after new → AreOut here before old → AreOut here after new

-- ---- the log's seats

-- Claims that are recorded in the seats record the tables' contents, if the seats do.
abbrev pub SeatsRecordClaims : Type 0
SeatsRecordClaims =
    (tables : Group → Content) (seats : List CommittedGroup) (claims : List ClaimView)
    → SeatsRecord tables seats → All (IsRecordedIn seats) claims → Records tables claims

-- If the seats record these tables, the settled seats record the next tables.
abbrev pub SettledSeatsRecordTheNextTables : Type 0
SettledSeatsRecordTheNextTables =
    (tables : Group → Content) (seats : List CommittedGroup) (claims : List ClaimView)
    → SeatsRecord tables seats → SeatsRecord (after_claims tables claims) (map (after_all claims) seats)
