use Rattle.std.proofs.Common.{subst, sym}
use Rattle.transactions.specs.declared.delivery.phases.Progress.{Progress}
use Rattle.transactions.specs.declared.progress.Progress.TheVariants as any_progress
use Rattle.transactions.specs.Progresses.{FollowsFrom, HasFound}
use Rattle.transactions.proofs.delivery.phases.Progress.gather.Goals as goal

pub gather_order-requires : goal.gather_order-requires
gather_order-requires c = subst (λ (p : Progress). HasFound (any_progress.Delivery p) c.args.found.items) c.in-DeliverOrder.is c.requires

pub returns-in-DeliverOrder : goal.returns-in-DeliverOrder
returns-in-DeliverOrder c = subst (λ (p : Progress). FollowsFrom (any_progress.Delivery p) c.args.found.items c.gather_order.result) (sym c.in-DeliverOrder.is) c.gather_order.ensures

pub gather_customer-requires : goal.gather_customer-requires
gather_customer-requires c = subst (λ (p : Progress). HasFound (any_progress.Delivery p) c.args.found.items) c.in-CreditCustomer.is c.requires

pub returns-in-CreditCustomer : goal.returns-in-CreditCustomer
returns-in-CreditCustomer c = subst (λ (p : Progress). FollowsFrom (any_progress.Delivery p) c.args.found.items c.gather_customer.result) (sym c.in-CreditCustomer.is) c.gather_customer.ensures
