use Rattle.std.proofs.Common.{IfOk, subst, sym}
use Rattle.transactions.specs.declared.progress.Gathered.{Gathered}
use Rattle.transactions.specs.declared.progress.Progress.{Progress}
use Rattle.transactions.specs.Progresses.{FollowsFrom, HasFound}
use Rattle.transactions.proofs.progress.Progress.gather.Goals as goal

pub gather-requires : goal.gather-requires
gather-requires c = subst (λ (p : Progress). HasFound p c.args.found.items) c.in-NewOrder.is c.requires

pub returns-in-NewOrder : goal.returns-in-NewOrder
returns-in-NewOrder c = subst (λ (p : Progress). IfOk c.gather.result (λ (g : Gathered). FollowsFrom p c.args.found.items g)) (sym c.in-NewOrder.is) c.gather.ensures

pub gather-requires-in-Payment : goal.gather-requires-in-Payment
gather-requires-in-Payment c = subst (λ (p : Progress). HasFound p c.args.found.items) c.in-Payment.is c.requires
