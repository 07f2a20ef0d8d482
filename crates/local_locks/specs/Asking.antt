-- The answers of a lock table, and the table after each answer.
use Rattle.std.specs.Prelude.{◌≡◌, ◌⊎◌, ℕ, ◌<◌, List, [], ◌∷◌, ◌++◌, All, length, map, slice_index_or, if◌then◌else◌}
use Rattle.std.specs.List.{remove}
use Rattle.std.specs.List.Sorted.{IsPermutation}
use Rattle.requests.specs.declared.group.Group.{Group}
use Rattle.groups.specs.Content.{Content}
use Rattle.groups.specs.Groups.{is_same, warehouse_of}
use Rattle.groups.specs.declared.group_wants.Mode.TheVariants.{Exclusive}
use Rattle.groups.specs.declared.group_wants.GroupWant.{GroupWant}
use Rattle.groups.specs.declared.wants.Want.{Want}
use Rattle.tickets.specs.Claims.{ClaimView, fresh}
use Rattle.wait_die.specs.declared.deciding.Holder.{Holder}
use Rattle.local_locks.specs.declared.table.Asked.{Asked}
use Rattle.local_locks.specs.declared.table.Asked.TheVariants as asked
use Rattle.local_locks.specs.declared.table.Turn.{Turn}
use Rattle.local_locks.specs.declared.table.Turn.TheVariants as turn
use Rattle.local_locks.specs.LockTableView.{HeldClaim, WaitingAction, Stand, LockTableView, left_in}
use Rattle.local_locks.specs.Conflicts.{IsFree, MustWait, MustDie}
use Rattle.local_locks.specs.GroupWants.{group_wants}
use Rattle.local_locks.specs.Entries.{entered, still_used}

-- ---- grants

-- the claim granted to this action for a want: nothing was done under it yet, and it records the content of its group
abbrev pub claim_for : Holder → List Stand → GroupWant → ClaimView
claim_for by stands group_want = fresh by group_want.group group_want.mode (left_in stands group_want.group)

-- the holding of this action for a want
abbrev pub held_for : Holder → GroupWant → HeldClaim
held_for by group_want = record { by = by; group = group_want.group; mode = group_want.mode }

-- All wanted groups are free, and the action gets and holds a claim on each. The groups' contents are unchanged.
pub record Grants (by : Holder) (wants : List Want) (old : LockTableView) (granted : List ClaimView) (new : LockTableView) : Type 0 where
  pub free : IsFree old.holdings wants
  pub claims : granted ≡ map (claim_for by old.stands) (group_wants wants)
  pub holdings : IsPermutation new.holdings (map (held_for by) (group_wants wants) ++ old.holdings)
  pub stands : new.stands ≡ old.stands
  pub w_id : new.w_id ≡ old.w_id

-- ---- claims that are given back

-- the holding of a claim, by the holder that it records
abbrev pub held_by : ClaimView → HeldClaim
held_by claim = record { by = claim.by; group = claim.group; mode = claim.mode }

-- each of these claims is one of the table's holdings
abbrev pub AreHeld : List HeldClaim → List ClaimView → Type 0
AreHeld holdings claims = (others : List HeldClaim) × IsPermutation holdings (map held_by claims ++ others)

-- the group and mode of a holding, without its holder
abbrev pub claimed : HeldClaim → GroupWant
claimed holding = record { group = holding.group; mode = holding.mode }

-- The claims of `all` are those of `some` and `others` together: of each group the same number of shared and of
-- exclusive claims, whoever holds them.
abbrev pub AreTogether : List HeldClaim → List HeldClaim → List HeldClaim → Type 0
AreTogether all some others = IsPermutation (map claimed all) (map claimed some ++ map claimed others)

-- the claim is on a group of this warehouse
abbrev pub IsOfHome : ℕ → ClaimView → Type 0
IsOfHome w_id claim = warehouse_of claim.group ≡ w_id

-- what an exclusive claim left is committed
abbrev pub IsSettled : ClaimView → Type 0
IsSettled claim = claim.mode ≡ Exclusive → claim.recorded ≡ claim.left

-- the content of a group after a claim is given back: nothing is left to undo in the claim's group
abbrev pub kept_after : ClaimView → Stand → Stand
kept_after claim stand = record { group = stand.group; left = stand.left; back = if is_same stand.group claim.group then stand.left else stand.back }

-- the contents of the groups after these claims are given back, one after another
abbrev pub all_kept_after : List ClaimView → List Stand → List Stand
all_kept_after [] stands = stands
all_kept_after (claim ∷ claims) stands = all_kept_after claims (map (kept_after claim) stands)

-- ---- work under a claim

-- a group's content now and after an undo, if this is left in `group`
abbrev pub left_after : Group → Content → Stand → Stand
left_after group content stand = record { group = stand.group; left = if is_same stand.group group then content else stand.left; back = stand.back }

-- the table after this is left in one of its groups
abbrev pub leaving_in : LockTableView → Group → Content → LockTableView
leaving_in table group content = record table { stands = map (left_after group content) table.stands }

-- ---- whose turn it is

-- an action that waits for these wants
abbrev pub waiting : Holder → List Want → WaitingAction
waiting by wants = record { by = by; wants = wants }

-- the one is older, or of the same age and of the lesser place
abbrev pub IsBefore : Holder → Holder → Type 0
IsBefore a b = (a.age < b.age) ⊎ ((a.age ≡ b.age) × (a.place < b.place))

-- the action still has to wait for others
abbrev pub StillWaits : List HeldClaim → WaitingAction → Type 0
StillWaits holdings waiting = MustWait holdings waiting.by.age waiting.wants

-- if this action's turn comes before that holder's, it still has to wait
abbrev pub WaitsIfBefore : List HeldClaim → Holder → WaitingAction → Type 0
WaitsIfBefore holdings by waiting = IsBefore waiting.by by → StillWaits holdings waiting

-- It is the turn of the waiting action at this index, and all before it still have to wait. All others go on waiting,
-- in their order.
pub record IsTurnOf (index : ℕ) (waiting : WaitingAction) (old new : LockTableView) : Type 0 where
  pub inside : index < length old.waiters
  pub there : (d : WaitingAction) → slice_index_or old.waiters index d ≡ waiting
  pub rest : new.waiters ≡ remove old.waiters index
  pub waiters : IsPermutation old.waiters (waiting ∷ new.waiters)
  pub first : All (WaitsIfBefore old.holdings waiting.by) old.waiters

-- ---- answers

module _ {J : Type 0} where
  -- the answer to an action that asks, and the table after it
  abbrev pub Answers : Holder → List Want → LockTableView → Asked J → LockTableView → Type 0
  Answers by wants old (asked.Granted claims) new =
      Grants by wants old claims.items new × (new.waiters ≡ old.waiters) × (new.entries ≡ entered wants old)
  Answers by wants old asked.Waits new =
      MustWait old.holdings by.age wants
      × (new ≡ record old { waiters = old.waiters ++ waiting by wants ∷ []; entries = entered wants old })
  Answers by wants old (asked.Dies group holder) new = MustDie old.holdings by.age wants group holder × (new ≡ old)

  -- the answer to an action that asks and doesn't wait, and the table after it
  abbrev pub AnswersAtOnce : Holder → List Want → LockTableView → Asked J → LockTableView → Type 0
  AnswersAtOnce by wants old (asked.Granted claims) new =
      Grants by wants old claims.items new × (new.waiters ≡ old.waiters) × (new.entries ≡ entered wants old)
  AnswersAtOnce by wants old asked.Waits new = MustWait old.holdings by.age wants × (new ≡ old)
  AnswersAtOnce by wants old (asked.Dies group holder) new = MustDie old.holdings by.age wants group holder × (new ≡ old)

  -- Whose turn it is, the answer to that action, and the table after it. An action that is granted keeps its entries; if
  -- it dies, the entries that nothing else needs go.
  abbrev pub TakesTurn : LockTableView → Turn J → LockTableView → Type 0
  TakesTurn old (turn.Granted index by claims) new =
      (wants : List Want) × IsTurnOf index (waiting by wants) old new × Grants by wants old claims.items new
      × (new.entries ≡ old.entries)
  TakesTurn old (turn.Dies index by group holder) new =
      (wants : List Want) × IsTurnOf index (waiting by wants) old new × MustDie old.holdings by.age wants group holder
      × (new ≡ record old { waiters = new.waiters; entries = still_used old.holdings new.waiters old.entries })
