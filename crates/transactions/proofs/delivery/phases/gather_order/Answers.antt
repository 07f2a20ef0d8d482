use Rattle.std.proofs.Common.{Option, [], ◌∷◌, ap, subst, sym, ◌∙◌}
use Rattle.requests.specs.declared.delivery.DeliveryReply.{DeliveryReply}
use Rattle.requests.specs.declared.reply.Reply.TheVariants as reply
use Rattle.requests.specs.declared.reply.Shown.TheVariants as kind
use Rattle.transactions.specs.declared.delivery.OrderDelivered.{OrderDelivered}
use Rattle.transactions.specs.declared.delivery.phases.Progress.TheVariants as at
use Rattle.transactions.specs.declared.delivery.work.Found.TheVariants.{Order}
use Rattle.transactions.specs.declared.progress.Gathered.TheVariants.{Finish}
use Rattle.transactions.specs.declared.progress.Progress.TheVariants as any_progress
use Rattle.transactions.specs.declared.work.Found.TheVariants as any_found
use Rattle.transactions.specs.Progresses.{FollowsFrom}
use Rattle.transactions.proofs.DeliverySteps.{order_done, order_follows, skipped_follow}
use Rattle.transactions.proofs.delivery.phases.gather_order.Goals as goal

pub order_found-requires : goal.order_found-requires
order_found-requires c =
    let first = order_done c.requires.0 c.args.delivery c.args.found.items c.requires.1 c.requires.2 in
    (first.order, first.found_is)

pub returns-in-Some : goal.returns-in-Some
returns-in-Some c =
    order_follows c.args.delivery c.args.found.items c.in-Some.order
    (c.order_found.ensures ∙ ap (λ (order : Option OrderDelivered). any_found.Delivery (Order order) ∷ []) c.in-Some.is)

pub returns-in-None : goal.returns-in-None
returns-in-None c =
    subst (λ (r : DeliveryReply). FollowsFrom (any_progress.Delivery (at.DeliverOrder c.args.delivery)) c.args.found.items (Finish (reply.Done (kind.Delivery r)))) (sym c.delivery_reply.ensures)
    (skipped_follow c.args.delivery c.args.found.items
    (c.order_found.ensures ∙ ap (λ (order : Option OrderDelivered). any_found.Delivery (Order order) ∷ []) c.in-None.is))
