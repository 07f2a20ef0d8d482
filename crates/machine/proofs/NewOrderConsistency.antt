-- A New-Order keeps the tables consistent.
use Rattle.machine.specs.NewOrder.{line_rows}
use Rattle.machine.specs.NewOrderLaws.{NewOrderKeepsConsistency}
use Rattle.schema.specs.Consistency.{Consistent}
use Rattle.machine.proofs.NewOrderCases.{new_order-cases, district_ordered-is, items_found-length, supplies-length, line_rows-length, line_rows-undelivered}
use Rattle.machine.proofs.OrderAdded.{placed_consistent}

pub new_order_keeps_consistency : NewOrderKeepsConsistency
new_order_keeps_consistency t n h =
    new_order-cases t n (λ o. Consistent o.tables) (λ fault. h)
    (λ w d new_d c items stocks w_is d_is c_is items_are d_made stocks_are.
    placed_consistent t n d new_d (line_rows n.home n.lines items stocks) d_is (district_ordered-is d new_d d_made)
    (line_rows-length n.home n.lines items stocks (items_found-length t n.lines items items_are) (supplies-length t n stocks stocks_are))
    (line_rows-undelivered n.home n.lines items stocks) h)
