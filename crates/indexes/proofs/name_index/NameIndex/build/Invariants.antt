use Rattle.std.proofs.Common.{◌≡◌, ℕ, ◌<◌, [], length, get_or}
use Rattle.indexes.proofs.Fits.{IsRunAt}
use Rattle.indexes.proofs.name_index.NameIndex.build.Given as goal

abbrev pub invariant-loop-slot : goal.invariant-loop-slot
invariant-loop-slot g l =
    (length l.runs.items ≡ l.slot)
    × ((k : ℕ) → k < length l.runs.items → IsRunAt (g.T.Rows.slot l.rows) (g.T.Rows.tables l.rows) k (get_or l.runs.items k []))
