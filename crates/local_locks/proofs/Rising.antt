-- Ages rise along each chain of waits.
use Rattle.std.proofs.Common.{ℕ, ◌<◌, List, [], ◌∷◌, arith}
use Rattle.std.specs.Prelude.{All}
use Rattle.std.proofs.lemmas.List.Elements.{All-contains}
use Rattle.local_locks.specs.LockTableView.{LockTableView}
use Rattle.local_locks.specs.Asking.{StillWaits}
use Rattle.local_locks.specs.Laws.{AllHaveToWait, WaitsFor, WaitsSomewhere, Path, NobodyWaitsForItself}

waits_rises : (table : LockTableView) → AllHaveToWait table → (t u : ℕ) → WaitsFor table t u → t < u
waits_rises table all t u w =
    let waits = All-contains (StillWaits table.holdings) table.waiters w.waiting all w.waits in
    omega (arith, waits.younger w.holding w.blocks, w.age, w.holder)

somewhere_rises : (tables : List LockTableView) → All AllHaveToWait tables → (t u : ℕ) → WaitsSomewhere tables t u → t < u
somewhere_rises tables all t u any = waits_rises any.1 (All-contains AllHaveToWait tables any.1 all (any.0, any.2, any.3)) t u any.4

path_rises : (tables : List LockTableView) → All AllHaveToWait tables → (t : ℕ) (ages : List ℕ) (u : ℕ) → Path (WaitsSomewhere tables) t ages u → t < u
path_rises tables all t [] u path = somewhere_rises tables all t u path
path_rises tables all t (next ∷ ages) u path = omega (arith, somewhere_rises tables all t next path.0, path_rises tables all next ages u path.1)

pub nobody_waits_for_itself : NobodyWaitsForItself
nobody_waits_for_itself tables all t ages path = let rises : t < t = path_rises tables all t ages t path in omega (arith, rises)
