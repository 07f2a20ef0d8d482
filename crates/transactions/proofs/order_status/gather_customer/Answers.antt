use Rattle.std.proofs.Common.{[], ◌∷◌, ap, ◌∙◌}
use Rattle.transactions.specs.declared.order_status.Found.TheVariants.{Customer}
use Rattle.transactions.specs.declared.work.Found.TheVariants as any_found
use Rattle.transactions.proofs.OrderStatusSteps.{customer_done, customer_follows, customer_missing}
use Rattle.transactions.proofs.order_status.gather_customer.Goals as goal

pub customer_found-requires : goal.customer_found-requires
customer_found-requires c =
    let read = customer_done c.requires.0 c.args.asked c.args.found.items c.requires.1 c.requires.2 in
    (read.customer, read.found_is)

pub returns-in-Missing : goal.returns-in-Missing
returns-in-Missing c =
    customer_missing c.args.asked c.args.found.items (c.customer_found.ensures ∙ ap (λ customer. any_found.OrderStatus (Customer customer) ∷ []) c.in-Missing.is)

pub returns-in-Shown : goal.returns-in-Shown
returns-in-Shown c =
    customer_follows c.args.asked c.args.found.items c.in-Shown.key c.in-Shown.customer
    (c.customer_found.ensures ∙ ap (λ customer. any_found.OrderStatus (Customer customer) ∷ []) c.in-Shown.is)
