-- The result of an action, from its claims to their return.
use Rattle.std.specs.Prelude.{◌≡◌, ℕ, Bool, true, false, List, [], All, Contains}
use Rattle.partitions.specs.Parts.{SharedTables, shared_of}
use Rattle.groups.specs.declared.group_wants.Mode.TheVariants.{Exclusive}
use Rattle.groups.specs.Footprint.{groups_of}
use Rattle.tickets.specs.Claims.{ClaimView}
use Rattle.wait_die.specs.declared.deciding.Holder.{Holder}
use Rattle.local_locks.specs.Conflicts.{IsFree, MustDie}
use Rattle.local_locks.specs.LockTableView.{HeldClaim}
use Rattle.slices.specs.SliceView.{AreOfOneHome, SliceView, IsAsBefore}
use Rattle.transactions.specs.declared.work.Found.{Found}
use Rattle.transactions.specs.declared.work.Work.{Work}
use Rattle.transactions.specs.declared.acting.Ran.{Ran}
use Rattle.transactions.specs.declared.acting.Ran.TheVariants.{Done, Died, NoMemory}
use Rattle.transactions.specs.Granted.{AreLeft}
use Rattle.transactions.specs.Works.{wants_of, group_wants_of, HasDone}

-- What was done under the claim can be undone, and then its group has the content that the claim records. Always so for a shared
-- claim, since nothing was done under it.
abbrev pub CanBeUndone : ClaimView → Type 0
CanBeUndone claim = claim.mode ≡ Exclusive → claim.recorded ≡ claim.back

-- what the claim left is committed; always so for a shared claim
abbrev pub CanBeSettled : ClaimView → Type 0
CanBeSettled claim = claim.mode ≡ Exclusive → claim.recorded ≡ claim.left

-- ---- the claims of one action

-- the claims are on groups of one warehouse, and all that was done under them can be undone
abbrev pub CanAllBeUndone : List ClaimView → Type 0
CanAllBeUndone claims = All CanBeUndone claims × AreOfOneHome claims

-- the claims are on groups of one warehouse, and what they left is committed
abbrev pub CanAllBeSettled : List ClaimView → Type 0
CanAllBeSettled claims = All CanBeSettled claims × AreOfOneHome claims

-- the claim was granted to an action of a transaction of this age
abbrev pub IsAged : ℕ → ClaimView → Type 0
IsAged age claim = claim.by.age ≡ age

-- all that was done under the claims can be undone, and they were granted to a transaction of this age
abbrev pub AreUndoneBy : ℕ → List ClaimView → Type 0
AreUndoneBy age claims = CanAllBeUndone claims × All (IsAged age) claims

-- what the claims left is committed, and they were granted to a transaction of this age
abbrev pub AreSettledBy : ℕ → List ClaimView → Type 0
AreSettledBy age claims = CanAllBeSettled claims × All (IsAged age) claims

-- the claims were granted to a transaction of this age, which gives them back: if they are settled, what they left is committed;
-- else all that was done under them can be undone
abbrev pub AreGivenBy : Bool → ℕ → List ClaimView → Type 0
AreGivenBy true age claims = AreSettledBy age claims
AreGivenBy false age claims = AreUndoneBy age claims

-- ---- the result of an action

-- the claims that the action holds afterwards
abbrev pub claims_of_ran : {J : Type 0} → Ran J → List ClaimView
claims_of_ran (Done claims found) = claims
claims_of_ran (Died group holder) = []
claims_of_ran NoMemory = []

-- the claim was granted to this holder
abbrev pub IsBy : Holder → ClaimView → Type 0
IsBy by claim = claim.by ≡ by

-- No holder conflicted, and the work was done under claims of its own, all of which can be undone.
pub record IsDoneBy (by : Holder) (holdings : List HeldClaim) (shared : SharedTables) (work : Work) (claims : List ClaimView) (found : Found) : Type 0 where
  pub free : IsFree holdings (wants_of work)
  pub done : HasDone shared work found claims
  pub undone : All CanBeUndone claims
  pub own : All (IsBy by) claims

-- The result of an action's work in this slice: it was done; or the action died of a conflicting holder that is not younger; or
-- an allocation failed. In the last two cases the slice is unchanged; after a failed allocation its holders may be in another
-- order.
abbrev pub IsRan : {J : Type 0} → Holder → SliceView → Work → Ran J → SliceView → Type 0
IsRan by old work (Done claims found) new = IsDoneBy by old.holdings (shared_of old.tables) work claims found
IsRan by old work (Died group holder) new = MustDie old.holdings by.age (wants_of work) group holder × (new ≡ old)
IsRan by old work NoMemory new = IsAsBefore old new

-- The result of work under claims that were granted for it: it was done under these claims, whatever they left; or an allocation
-- failed, and the rows are unchanged.
abbrev pub IsRanUnder : {J : Type 0} → SliceView → Work → List ClaimView → Ran J → SliceView → Type 0
IsRanUnder old work granted (Done claims found) new = HasDone (shared_of old.tables) work found claims × AreLeft granted claims
IsRanUnder old work granted (Died group holder) new = ⊥
IsRanUnder old work granted NoMemory new = new.tables ≡ old.tables

-- A result of this work of a transaction of this age: it was done under claims of the transaction, all of which can be undone; or
-- nothing was done, and the action died on a group that it wants, or an allocation failed.
abbrev pub IsRanBy : {J : Type 0} → SharedTables → ℕ → Work → Ran J → Type 0
IsRanBy shared age work (Done claims found) = HasDone shared work found claims × AreUndoneBy age claims
IsRanBy shared age work (Died group holder) = Contains (groups_of (group_wants_of work)) group
IsRanBy shared age work NoMemory = Unit {0}
