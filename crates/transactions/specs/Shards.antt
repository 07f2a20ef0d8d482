-- The results of the actions that ask and wait at the slice of a warehouse.
use Rattle.std.specs.Prelude.{◌≡◌, ℕ, ◌<◌, List, [], ◌∷◌, ◌++◌, All, length, map, slice_index_or}
use Rattle.std.specs.List.{remove}
use Rattle.partitions.specs.Parts.{shared_of}
use Rattle.wait_die.specs.declared.deciding.Holder.{Holder}
use Rattle.local_locks.specs.Asking.{StillWaits, WaitsIfBefore, waiting}
use Rattle.local_locks.specs.Conflicts.{MustWait}
use Rattle.local_locks.specs.LockTableView.{WaitingAction}
use Rattle.slices.specs.SliceView.{SliceKeeps, SliceView, with_waiters}
use Rattle.transactions.specs.declared.acting.Ran.{Ran}
use Rattle.transactions.specs.declared.shard.Acted.{Acted}
use Rattle.transactions.specs.declared.shard.Acted.TheVariants as acted
use Rattle.transactions.specs.declared.shard.Parked.{Parked}
use Rattle.transactions.specs.declared.shard.Turned.{Turned}
use Rattle.transactions.specs.declared.work.Work.{Work}
use Rattle.transactions.specs.Acting.{IsRan, claims_of_ran}
use Rattle.transactions.specs.Works.{CanDo, home_of, wants_of}

module _ {T : Type 0} where
  -- an action that waits with this work and carries this
  abbrev pub parked : Holder → Work → T → Parked T
  parked by work carried = record { by = by; work = work; carried = carried }

  -- the waiting action as the lock table has it
  abbrev pub waiting_of : Parked T → WaitingAction
  waiting_of p = waiting p.by (wants_of p.work)

  -- the action can do its work in the slice
  pub record CanDoThere (s : SliceView) (p : Parked T) : Type 0 where
    pub can : CanDo (shared_of s.tables) p.work
    pub home : home_of p.work ≡ s.home

  -- Exactly these actions wait in the slice's lock table, in this order; and each of them can do its work there.
  pub record IsShard (warehouses : ℕ) (s : SliceView) (all : List (Parked T)) : Type 0 where
    pub warehouses_are : warehouses ≡ s.tables.scale.warehouses
    pub waiters : s.waiters ≡ map waiting_of all
    pub able : All (CanDoThere s) all

-- a slice, and the actions that wait in its lock table
pub record ShardView (T : Type 0) : Type 0 where
  pub slice : SliceView
  pub parked : List (Parked T)

module _ {T : Type 0} where
  abbrev pub shard_view : SliceView → List (Parked T) → ShardView T
  shard_view slice all = record { slice = slice; parked = all }

module _ {J T : Type 0} where
  -- The result of an action that need not wait, and the shard after it: it did its work, or died of a conflicting holder that is
  -- not younger, or an allocation failed.
  abbrev pub RunsAs : Holder → Work → ShardView T → Ran J → ShardView T → Type 0
  RunsAs by work old ran new = IsRan by old.slice work ran new.slice × SliceKeeps [] old.slice (claims_of_ran ran) new.slice × (new.parked ≡ old.parked)

  -- The result of an action that asks and carries this, and the shard after it: it did its work, or died, or an allocation
  -- failed, and it has what it carried back; or all conflicting holders are younger, and it waits, behind all others.
  abbrev pub ActsAs : Holder → Work → T → ShardView T → Acted J T → ShardView T → Type 0
  ActsAs by work carried old (acted.Ran ran recorded) new =
      (recorded ≡ carried) × IsRan by old.slice work ran new.slice × SliceKeeps [] old.slice (claims_of_ran ran) new.slice
      × (new.parked ≡ old.parked)
  ActsAs by work carried old acted.Waits new =
      MustWait old.slice.holdings by.age (wants_of work)
      × (new ≡ shard_view (with_waiters (old.slice.waiters ++ waiting by (wants_of work) ∷ []) old.slice) (old.parked ++ parked by work carried ∷ []))

  -- One of the waiting actions has its turn. Its work is at this warehouse; it need not wait any more, and all waiting actions
  -- whose turn comes before have to. It did its work, or died, or an allocation failed; it has what it carried; and all others go
  -- on waiting, in their order.
  pub record OneTurn (old : ShardView T) (turned : Turned J T) (new : ShardView T) : Type 0 where
    pub index : ℕ
    pub work : Work
    pub inside : index < length old.parked
    pub there : (d : Parked T) → slice_index_or old.parked index d ≡ parked turned.by work turned.carried
    pub here : home_of work ≡ old.slice.home
    pub rest : new.parked ≡ remove old.parked index
    pub over : StillWaits old.slice.holdings (waiting turned.by (wants_of work)) → ⊥
    pub first : All (WaitsIfBefore old.slice.holdings turned.by) old.slice.waiters
    pub ran : IsRan turned.by (with_waiters new.slice.waiters old.slice) work turned.ran new.slice
    pub kept : SliceKeeps [] (with_waiters new.slice.waiters old.slice) (claims_of_ran turned.ran) new.slice
