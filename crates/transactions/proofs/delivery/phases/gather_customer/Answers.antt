use Rattle.std.proofs.Common.{◌∙◌, [], ◌∷◌, ap, subst, sym}
use Rattle.requests.specs.declared.delivery.DeliveryReply.{DeliveryReply}
use Rattle.requests.specs.declared.reply.Reply.TheVariants as reply
use Rattle.requests.specs.declared.reply.Shown.TheVariants as kind
use Rattle.transactions.specs.declared.delivery.CustomerCredited.{CustomerCredited}
use Rattle.transactions.specs.declared.delivery.phases.Progress.TheVariants as at
use Rattle.transactions.specs.declared.delivery.work.Found.TheVariants.{Customer}
use Rattle.transactions.specs.declared.progress.Gathered.TheVariants.{Finish}
use Rattle.transactions.specs.declared.progress.Progress.TheVariants as any_progress
use Rattle.transactions.specs.declared.work.Found.TheVariants as any_found
use Rattle.transactions.specs.Progresses.{FollowsFrom}
use Rattle.transactions.proofs.DeliverySteps.{credited_follow, customer_done, out_follows}
use Rattle.transactions.proofs.delivery.phases.gather_customer.Goals as goal

pub customer_found-requires : goal.customer_found-requires
customer_found-requires c =
    let second = customer_done c.requires.0 c.args.delivery c.args.order c.args.found.items c.requires.1 c.requires.2 in
    (second.credited, second.found_is)

pub returns-in-Credited : goal.returns-in-Credited
returns-in-Credited c =
    let is = c.customer_found.ensures ∙ ap (λ (r : CustomerCredited). any_found.Delivery (Customer r) ∷ []) c.in-Credited.is in
    subst (λ (r : DeliveryReply). FollowsFrom (any_progress.Delivery (at.CreditCustomer c.args.delivery c.args.order)) c.args.found.items (Finish (reply.Done (kind.Delivery r)))) (sym c.delivery_reply-shown.ensures)
    (credited_follow c.args.delivery c.args.order c.args.found.items is)

pub returns-in-OutOfRange : goal.returns-in-OutOfRange
returns-in-OutOfRange c =
    let is = c.customer_found.ensures ∙ ap (λ (r : CustomerCredited). any_found.Delivery (Customer r) ∷ []) c.in-OutOfRange.is in
    out_follows c.args.delivery c.args.order c.args.found.items is
