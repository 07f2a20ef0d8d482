use Rattle.std.proofs.Common.{◌≡◌, Option, ap, ◌∙◌}
use Rattle.std.proofs.lemmas.Result.{IfOk-weaker}
use Rattle.schema.specs.Database.{Database}
use Rattle.partitions.specs.Parts.{Part}
use Rattle.requests.specs.declared.order_status.StatusOrder.{StatusOrder}
use Rattle.slices.specs.SliceView.{SliceView}
use Rattle.machine.specs.OrderStatus.{latest_shown}
use Rattle.transactions.specs.OrderStatus.{IsOrderShown}
use Rattle.transactions.proofs.OrderStatusShown as shown
use Rattle.transactions.proofs.order_status.show_order.Goals as goal

pub returns-clause-shown : goal.returns-clause-shown
returns-clause-shown g c =
    let key = c.args.key in
    let seen = ap (λ (p : Part). p.tables) c.partition.ensures.rows ∙ ap (λ (s : SliceView). s.tables) c.look.ensures.same.0 in
    IfOk-weaker c.latest_shown.result (λ order. order ≡ latest_shown c.partition.result.now.tables key) (λ order. IsOrderShown key order c.look.new.claim)
    (λ (order : Option StatusOrder) (is : order ≡ latest_shown c.partition.result.now.tables key).
    shown.order_is_shown c.args.slice.now.tables key order c.args.orders.now c.look.new.claim c.requires.claim c.look.ensures.left c.look_untouched.ensures.left c.look.ensures.same.1
    (is ∙ ap (λ (s : Database). latest_shown s key) seen))
    c.latest_shown.ensures
