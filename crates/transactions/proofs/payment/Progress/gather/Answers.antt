use Rattle.std.proofs.Common.{subst, sym}
use Rattle.transactions.specs.declared.payment.Progress.{Progress}
use Rattle.transactions.specs.declared.progress.Progress.TheVariants as any_progress
use Rattle.transactions.specs.Progresses.{FollowsFrom, HasFound}
use Rattle.transactions.proofs.payment.Progress.gather.Goals as goal

pub gather_rows-requires : goal.gather_rows-requires
gather_rows-requires c = subst (λ (p : Progress). HasFound (any_progress.Payment p) c.args.found.items) c.in-PayRows.is c.requires

pub returns-in-PayRows : goal.returns-in-PayRows
returns-in-PayRows c = subst (λ (p : Progress). FollowsFrom (any_progress.Payment p) c.args.found.items c.gather_rows.result) (sym c.in-PayRows.is) c.gather_rows.ensures
