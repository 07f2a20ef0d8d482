use Rattle.std.proofs.Common.{sym, ap, subst, ◌∙◌}
use Rattle.schema.specs.Database.{Database}
use Rattle.schema.specs.OrderRows.{oldest_new_order}
use Rattle.partitions.specs.Parts.{Part}
use Rattle.tickets.specs.Claims.{leaving}
use Rattle.slices.specs.SliceView.{SliceView}
use Rattle.slices.specs.Undo.{with_order_delivered}
use Rattle.machine.specs.NewOrder.{order_key}
use Rattle.transactions.specs.Delivery.{IsOldestOrder}
use Rattle.transactions.proofs.DeliveryDone as done
use Rattle.transactions.proofs.delivery.orders.deliver_order.Goals as goal

pub returns-in_default-clause-delivered : goal.returns-in_default-clause-delivered
returns-in_default-clause-delivered g c =
    let d = c.args.delivery.now in
    let seen = ap (λ (p : Part). p.tables) c.partition.ensures.rows ∙ ap (λ (s : SliceView). s.tables) c.look.ensures.same.0 in
    done.none_is_delivered c.args.delivery.now.home c.args.slice.now.tables d.carrier_id d.moment c.args.orders.now c.look.new.claim c.requires.claim c.requires.fresh c.look.ensures.left c.look.ensures.same.1
    (sym (c.oldest_new_order.ensures ∙ ap (λ (t : Database). oldest_new_order t c.args.delivery.now.home) seen) ∙ c.in_default.is)

pub returns-clause-delivered : goal.returns-clause-delivered
returns-clause-delivered g c =
    let d = c.args.delivery.now in
    let order = c.order_of-order.result in
    let seen = ap (λ (p : Part). p.tables) c.partition-2.ensures.rows ∙ ap (λ (s : SliceView). s.tables) c.look.ensures.same.0 in
    let number = c.order_of-order.ensures.number in
    done.order_is_delivered c.args.delivery.now.home c.args.slice.now.tables d.carrier_id d.moment c.args.orders.now c.deliver_order.new.claim c.requires.claim c.requires.fresh c.look.ensures.left order
    (subst (λ (t : Database). IsOldestOrder t c.args.delivery.now.home order) seen c.order_of-order.ensures.order)
    (c.in_ok-deliver_order.ensures.claim
    ∙ (λ i. leaving (c.look.ensures.same.1 i) (with_order_delivered (order_key c.args.delivery.now.home (sym number i)) (c.new-carrier.ensures i) d.moment (c.look.ensures.same.1 i).left)))
