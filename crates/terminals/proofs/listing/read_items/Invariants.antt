use Rattle.std.proofs.Common.{◌≡◌, ◌<◌, ◌^◌, ◌-◌, ℕ, List, [], length}
use Rattle.files.specs.Place.{HasLeft, HasRead, input, record_number}
use Rattle.terminals.specs.Numbered.{AreNumbered}
use Rattle.terminals.proofs.FirstFaults.{GoesOnAt}
use Rattle.terminals.proofs.listing.read_items.Given as goal

abbrev pub invariant-loop : goal.invariant-loop
invariant-loop g l =
    ((text : List ℕ) → HasRead g.R.Input.remaining text [] l.fn.records
    → (listed : List (List (List ℕ))) × AreNumbered g.T.Listed.is_record 0 l.items.items listed × HasRead g.R.Input.remaining text listed l.records)
    × ((rows : List (List (List ℕ))) → length rows < 2 ^ 64 - 1 → record_number l.fn.records ≡ 0 → HasLeft g.R.Input.remaining rows l.fn.records
    → GoesOnAt g.R.Input.remaining g.T.Listed.after rows (length l.items.items) l.records l.counter)
    × (g.R.Input.lasts (input l.fn.records) → g.R.Input.lasts (input l.records))
