use Rattle.std.proofs.Common.{ℕ, sym, subst}
use Rattle.local_locks.specs.LockTableView.{AreBoxesOf}
use Rattle.local_locks.proofs.Named.{boxes_of_one}
use Rattle.local_locks.proofs.tests.contents.opened.Goals as goal

pub open-requires : goal.open-requires
open-requires g c =
    subst (λ (w : ℕ). AreBoxesOf w 1 c.in_ok-boxes.boxes.items) (sym c.requires.known) (boxes_of_one c.in_ok-boxes.seats c.in_ok-boxes.boxes.items c.in_ok-boxes.ensures.places c.in_ok-boxes.ensures.boxes)
