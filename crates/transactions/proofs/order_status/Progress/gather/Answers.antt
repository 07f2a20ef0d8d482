use Rattle.std.proofs.Common.{subst, sym}
use Rattle.transactions.specs.declared.order_status.Progress.{Progress}
use Rattle.transactions.specs.declared.progress.Progress.TheVariants as any_progress
use Rattle.transactions.specs.Progresses.{FollowsFrom, HasFound}
use Rattle.transactions.proofs.order_status.Progress.gather.Goals as goal

pub gather_customer-requires : goal.gather_customer-requires
gather_customer-requires c = subst (λ (p : Progress). HasFound (any_progress.OrderStatus p) c.args.found.items) c.in-ReadCustomer.is c.requires

pub returns-in-ReadCustomer : goal.returns-in-ReadCustomer
returns-in-ReadCustomer c = subst (λ (p : Progress). FollowsFrom (any_progress.OrderStatus p) c.args.found.items c.gather_customer.result) (sym c.in-ReadCustomer.is) c.gather_customer.ensures

pub gather_order-requires : goal.gather_order-requires
gather_order-requires c = subst (λ (p : Progress). HasFound (any_progress.OrderStatus p) c.args.found.items) c.in-ReadOrder.is c.requires

pub returns-in-ReadOrder : goal.returns-in-ReadOrder
returns-in-ReadOrder c = subst (λ (p : Progress). FollowsFrom (any_progress.OrderStatus p) c.args.found.items c.gather_order.result) (sym c.in-ReadOrder.is) c.gather_order.ensures
