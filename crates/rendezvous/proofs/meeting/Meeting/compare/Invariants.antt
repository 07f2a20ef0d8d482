use Rattle.std.proofs.Common.{◌≡◌, ◌++◌, List, map, length}
use Rattle.rendezvous.specs.Seats.{IsAt}
use Rattle.rendezvous.specs.Rule.{awaited}
use Rattle.rendezvous.specs.Meetings.{ReceiptView, stage_of, HasPlaces}
use Rattle.rendezvous.proofs.meeting.Meeting.compare.Given as goal

-- the seat has the places of the receipts that were taken, which have all reported
abbrev pub invariant-loop-receipt : goal.invariant-loop-receipt
invariant-loop-receipt g l = (taken : List (ReceiptView g.row.R.Denot)) × (l.fn.receipts.items ≡ l.receipts.items ++ taken) × HasPlaces l.fn.round (length l.fn.receipts.items) (length l.receipts.items) (map stage_of taken) l.seat.me × (awaited (map stage_of taken) ≡ 0) × IsAt l.fn.self l.seat

abbrev pub decreases-loop-receipt : goal.decreases-loop-receipt
decreases-loop-receipt g l = length l.receipts.items
