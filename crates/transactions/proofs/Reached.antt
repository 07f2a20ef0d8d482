-- However far a transaction of any kind has come.
use Rattle.std.proofs.Common.{◌≡◌, ℕ, Bool, List, [], ◌∷◌, ◌++◌, cond, map, refl, arith}
use Rattle.std.specs.Prelude.{count_by}
use Rattle.std.proofs.lemmas.List.Sums.{sum_by-cons}
use Rattle.requests.specs.declared.request.Request.TheVariants as request
use Rattle.groups.specs.declared.group_wants.GroupWant.{GroupWant}
use Rattle.groups.specs.Footprint.{footprint}
use Rattle.groups.specs.Groups.{is_same}
use Rattle.groups.specs.Laws.{FootprintsNameEachGroupOnce}
use Rattle.tickets.specs.Claims.{all_claims}
use Rattle.transactions.specs.Granted.{group_want_of}
use Rattle.transactions.specs.Progresses.{works_of}
use Rattle.transactions.specs.Works.{all_group_wants}
use Rattle.transactions.specs.declared.progress.Progress.TheVariants.{NewOrder, Payment, OrderStatus, Delivery, StockLevel}
use Rattle.transactions.specs.Laws.{AcceptedRequestsHaveTheirGroups, ActionsCanDoTheirWork, ClaimsAreOfTheFootprint, PhasesHaveActions, ReachedRequestsAreAccepted, TransactionsClaimEachGroupOnce, TransactionsHaveFewActions}
use Rattle.transactions.proofs.AcceptedGroups.{level_groups_there, order_groups_there}
use Rattle.transactions.proofs.NewOrderWorks as new_order
use Rattle.transactions.proofs.PaymentWorks as payment
use Rattle.transactions.proofs.OrderStatusWorks as order_status
use Rattle.transactions.proofs.DeliveryWorks as delivery
use Rattle.transactions.proofs.StockLevelWorks as stock_level

pub accepted_requests_have_their_groups : AcceptedRequestsHaveTheirGroups
accepted_requests_have_their_groups scale (request.NewOrder n) accepted = order_groups_there scale n accepted
accepted_requests_have_their_groups scale (request.Payment p) accepted = payment.groups_there scale p accepted
accepted_requests_have_their_groups scale (request.OrderStatus o) accepted = order_status.groups_there scale o accepted
accepted_requests_have_their_groups scale (request.Delivery d) accepted = delivery.groups_there scale d accepted
accepted_requests_have_their_groups scale (request.StockLevel s) accepted = level_groups_there scale s accepted

pub accepted : ReachedRequestsAreAccepted
accepted shared asked (NewOrder progress) held reached = new_order.accepted shared asked progress held reached
accepted shared asked (Payment progress) held reached = payment.accepted shared asked progress held reached
accepted shared asked (OrderStatus progress) held reached = order_status.accepted shared asked progress held reached
accepted shared asked (Delivery progress) held reached = delivery.accepted shared asked progress held reached
accepted shared asked (StockLevel progress) held reached = stock_level.accepted shared asked progress held reached

pub some_actions : PhasesHaveActions
some_actions (NewOrder progress) = new_order.some_actions progress
some_actions (Payment progress) = payment.some_actions progress
some_actions (OrderStatus progress) = order_status.some_actions progress
some_actions (Delivery progress) = delivery.some_actions progress
some_actions (StockLevel progress) = stock_level.some_actions progress

pub can_all : ActionsCanDoTheirWork
can_all shared asked (NewOrder progress) held reached = new_order.can_all shared asked progress held reached
can_all shared asked (Payment progress) held reached = payment.can_all shared asked progress held reached
can_all shared asked (OrderStatus progress) held reached = order_status.can_all shared asked progress held reached
can_all shared asked (Delivery progress) held reached = delivery.can_all shared asked progress held reached
can_all shared asked (StockLevel progress) held reached = stock_level.can_all shared asked progress held reached

pub within : ClaimsAreOfTheFootprint
within shared asked (NewOrder progress) held reached = new_order.within shared asked progress held reached
within shared asked (Payment progress) held reached = payment.within shared asked progress held reached
within shared asked (OrderStatus progress) held reached = order_status.within shared asked progress held reached
within shared asked (Delivery progress) held reached = delivery.within shared asked progress held reached
within shared asked (StockLevel progress) held reached = stock_level.within shared asked progress held reached

-- those whose image passes are as many as the images that pass
pub counted : {X Y : Type 0} (test : Y → Bool) (image : X → Y) (xs : List X) → count_by test (map image xs) ≡ count_by (λ (x : X). test (image x)) xs
counted test image [] = refl
counted {X} {Y} test image (x ∷ xs) =
    omega (
      arith,
      sum_by-cons (λ (y : Y). cond {A = ℕ} (test y) 1 0) (image x) (map image xs),
      sum_by-cons (λ (z : X). cond {A = ℕ} (test (image z)) 1 0) x xs,
      counted test image xs,
    )

-- as in a footprint no group comes twice, none does among some of it
pub each_once : FootprintsNameEachGroupOnce → TransactionsClaimEachGroupOnce
each_once named shared asked progress held reached group =
    let claimed = map group_want_of (all_claims held) ++ all_group_wants (works_of progress) in
    omega (
      arith,
      counted (is_same group) (λ (group_want : GroupWant). group_want.group) claimed,
      counted (is_same group) (λ (group_want : GroupWant). group_want.group) (footprint asked),
      within shared asked progress held reached (λ (group_want : GroupWant). is_same group group_want.group),
      named asked group,
    )

pub few_actions : TransactionsHaveFewActions
few_actions shared asked (NewOrder progress) held reached = omega (arith, new_order.few_actions shared asked progress held reached)
few_actions shared asked (Payment progress) held reached = omega (arith, payment.few_actions shared asked progress held reached)
few_actions shared asked (OrderStatus progress) held reached = omega (arith, order_status.few_actions shared asked progress held reached)
few_actions shared asked (Delivery progress) held reached = omega (arith, delivery.few_actions shared asked progress held reached)
few_actions shared asked (StockLevel progress) held reached = omega (arith, stock_level.few_actions shared asked progress held reached)
