-- The slice's answer to an action that asks for groups, and the slice after it.
use Rattle.std.specs.Prelude.{◌≡◌, List, [], ◌∷◌, ◌++◌, map}
use Rattle.std.specs.List.Sorted.{IsPermutation}
use Rattle.groups.specs.Content.{content}
use Rattle.groups.specs.declared.group_wants.GroupWant.{GroupWant}
use Rattle.groups.specs.declared.wants.Want.{Want}
use Rattle.tickets.specs.Claims.{ClaimView, fresh}
use Rattle.wait_die.specs.declared.deciding.Holder.{Holder}
use Rattle.local_locks.specs.declared.table.Asked.{Asked}
use Rattle.local_locks.specs.declared.table.Asked.TheVariants as asked
use Rattle.local_locks.specs.declared.table.Turn.{Turn}
use Rattle.local_locks.specs.declared.table.Turn.TheVariants as turn
use Rattle.local_locks.specs.LockTableView.{LockTableView}
use Rattle.local_locks.specs.Conflicts.{IsFree, MustWait, MustDie}
use Rattle.local_locks.specs.Asking.{IsTurnOf, held_by, waiting}
use Rattle.local_locks.specs.GroupWants.{group_wants}
use Rattle.slices.specs.SliceView.{SliceView}

-- the claims and the waiters of the slice, without the contents of its groups and without entries
abbrev pub locking_in : SliceView → LockTableView
locking_in s = record { w_id = s.home; stands = []; holdings = s.holdings; waiters = s.waiters; entries = [] }

-- the claim granted to this action for a want: nothing was done under it, and it records the current contents of its
-- group
abbrev pub granted_in : Holder → SliceView → GroupWant → ClaimView
granted_in by s group_want = fresh by group_want.group group_want.mode (content s.tables group_want.group)

-- An action without conflict has a claim on each wanted group, want by want, and these are out besides those that were.
-- The rows are unchanged.
pub record GrantsIn (by : Holder) (wants : List Want) (old : SliceView) (granted : List ClaimView) (new : SliceView) : Type 0 where
  pub free : IsFree old.holdings wants
  pub claims : granted ≡ map (granted_in by old) (group_wants wants)
  pub holdings : IsPermutation new.holdings (map held_by granted ++ old.holdings)
  pub home : new.home ≡ old.home
  pub tables : new.tables ≡ old.tables

module _ {J : Type 0} where
  -- the answer to an action that asks, and the slice after it
  abbrev pub AnswersIn : Holder → List Want → SliceView → Asked J → SliceView → Type 0
  AnswersIn by wants old (asked.Granted claims) new = GrantsIn by wants old claims.items new × (new.waiters ≡ old.waiters)
  AnswersIn by wants old asked.Waits new = MustWait old.holdings by.age wants × (new ≡ record old { waiters = old.waiters ++ waiting by wants ∷ [] })
  AnswersIn by wants old (asked.Dies group holder) new = MustDie old.holdings by.age wants group holder × (new ≡ old)

  -- the claims granted with the answer
  abbrev pub claims_asked : Asked J → List ClaimView
  claims_asked (asked.Granted claims) = claims.items
  claims_asked asked.Waits = []
  claims_asked (asked.Dies group holder) = []

  -- the waiter whose turn it is, its answer, and the slice after it
  abbrev pub TakesTurnIn : SliceView → Turn J → SliceView → Type 0
  TakesTurnIn old (turn.Granted index by claims) new =
      (wants : List Want) × IsTurnOf index (waiting by wants) (locking_in old) (locking_in new) × GrantsIn by wants old claims.items new
  TakesTurnIn old (turn.Dies index by group holder) new =
      (wants : List Want) × IsTurnOf index (waiting by wants) (locking_in old) (locking_in new) × MustDie old.holdings by.age wants group holder
      × (new ≡ record old { waiters = new.waiters })

  -- the claims granted with the turn
  abbrev pub claims_of_turn : Turn J → List ClaimView
  claims_of_turn (turn.Granted index by claims) = claims.items
  claims_of_turn (turn.Dies index by group holder) = []
