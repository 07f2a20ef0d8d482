use Rattle.std.proofs.Common.{subst, sym}
use Rattle.requests.specs.declared.order_status.OrderStatusReply.{OrderStatusReply}
use Rattle.requests.specs.declared.reply.Reply.TheVariants as reply
use Rattle.requests.specs.declared.reply.Shown.TheVariants as kind
use Rattle.transactions.specs.declared.order_status.Progress.TheVariants.{ReadOrder}
use Rattle.transactions.specs.declared.progress.Progress.TheVariants as any_progress
use Rattle.transactions.specs.declared.progress.Gathered.TheVariants.{Finish}
use Rattle.transactions.specs.Progresses.{FollowsFrom}
use Rattle.transactions.proofs.OrderStatusSteps.{order_done, order_follows}
use Rattle.transactions.proofs.order_status.gather_order.Goals as goal

pub order_found-order-requires : goal.order_found-order-requires
order_found-order-requires c =
    let read = order_done c.requires.0 c.args.shown c.args.found.items c.requires.1 c.requires.2 in
    (read.order, read.found_is)

pub returns : goal.returns
returns c =
    subst (λ (r : OrderStatusReply). FollowsFrom (any_progress.OrderStatus (ReadOrder c.args.shown)) c.args.found.items (Finish (reply.Done (kind.OrderStatus r)))) (sym c.reply_of-said.ensures)
    (order_follows c.args.shown c.args.found.items c.order_found-order.result c.order_found-order.ensures)
