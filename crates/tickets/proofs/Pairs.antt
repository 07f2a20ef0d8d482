-- Pairs of spent seats, taken from a list and put back.
use Rattle.std.proofs.Common.{◌≡◌, List, [], ◌∷◌, ◌++◌, subst}
use Rattle.atomic_table.specs.Seated.{TableId}
use Rattle.agreement.specs.SeatView.{SeatView}
use Rattle.tickets.specs.declared.work.CommittedContent.{CommittedContent}
use Rattle.tickets.specs.declared.work.Work.{Work}
use Rattle.tickets.specs.Boxes.{AreSpent, IsSpentPair}

module _ (committed done : TableId) where
  pub spent_push : (pairs : List (SeatView CommittedContent × SeatView Work)) (pair : SeatView CommittedContent × SeatView Work) → AreSpent committed done pairs → IsSpentPair committed done pair → AreSpent committed done (pairs ++ pair ∷ [])
  spent_push [] pair all one = (one, tt)
  spent_push (x ∷ xs) pair all one = (all.0, spent_push xs pair all.1 one)

  split_last : (pairs : List (SeatView CommittedContent × SeatView Work)) (pair : SeatView CommittedContent × SeatView Work) → AreSpent committed done (pairs ++ pair ∷ []) → AreSpent committed done pairs × IsSpentPair committed done pair
  split_last [] pair all = (tt, all.0)
  split_last (x ∷ xs) pair all = let r = split_last xs pair all.1 in ((all.0, r.0), r.1)

  pub spent_pop : (was pairs : List (SeatView CommittedContent × SeatView Work)) (pair : SeatView CommittedContent × SeatView Work) → AreSpent committed done was → was ≡ pairs ++ pair ∷ [] → AreSpent committed done pairs × IsSpentPair committed done pair
  spent_pop was pairs pair all is = split_last pairs pair (subst (AreSpent committed done) is all)
