use Rattle.std.proofs.Common.{◌+◌, ℕ, List, length}
use Rattle.std.proofs.Common.{◌≡◌, ◌-◌, ◌<◌, ◌^◌}
use Rattle.files.specs.Place.{HasRead, HasLeft, input, record_number}
use Rattle.dataset.specs.Columns.{sizes}
use Rattle.dataset.proofs.RowsFault.{GoesOnAt}
use Rattle.dataset.specs.Loading.{HasLoaded}
use Rattle.dataset.proofs.reader.read_rows.Given as goal

abbrev pub invariant-loop : goal.invariant-loop
invariant-loop g l =
    ((text : List ℕ) (read : List (List (List ℕ))) → HasRead g.R.Input.remaining text read l.fn.records → HasLoaded l.fn.loader read
    → (rows : List (List (List ℕ))) × HasLoaded l.loader rows × HasRead g.R.Input.remaining text rows l.records)
    × ((read rows : List (List (List ℕ))) → length read + length rows < 2 ^ 64 - 1 → HasLoaded l.fn.loader read → record_number l.fn.records ≡ length read → HasLeft g.R.Input.remaining rows l.fn.records
    → GoesOnAt g.R.Input.remaining (sizes l.fn.loader.format l.fn.loader.scale) read rows l.loader l.records l.counter)
    × (g.R.Input.lasts (input l.fn.records) → g.R.Input.lasts (input l.records))
