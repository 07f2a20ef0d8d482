use Rattle.std.proofs.Common.{subst, sym}
use Rattle.transactions.specs.declared.new_order.phases.Progress.{Progress}
use Rattle.transactions.specs.declared.progress.Progress.TheVariants as any_progress
use Rattle.transactions.specs.Progresses.{FollowsFrom, HasFound}
use Rattle.transactions.proofs.new_order.phases.Progress.gather.Goals as goal

pub gather_rows-requires : goal.gather_rows-requires
gather_rows-requires c = subst (λ (p : Progress). HasFound (any_progress.NewOrder p) c.args.found.items) c.in-ReadRows.is c.requires

pub gather_stock-requires : goal.gather_stock-requires
gather_stock-requires c = subst (λ (p : Progress). HasFound (any_progress.NewOrder p) c.args.found.items) c.in-TakeLines.is c.requires

pub returns-in-AddRows : goal.returns-in-AddRows
returns-in-AddRows c = subst (λ (p : Progress). FollowsFrom (any_progress.NewOrder p) c.args.found.items c.gather_added.result) (sym c.in-AddRows.is) c.gather_added.ensures
