use Rattle.std.proofs.Common.{subst, sym}
use Rattle.transactions.specs.declared.stock_level.Progress.{Progress}
use Rattle.transactions.specs.declared.progress.Progress.TheVariants as any_progress
use Rattle.transactions.specs.Progresses.{FollowsFrom, HasFound}
use Rattle.transactions.proofs.stock_level.Progress.gather.Goals as goal

pub gather_next-requires : goal.gather_next-requires
gather_next-requires c = subst (λ (p : Progress). HasFound (any_progress.StockLevel p) c.args.found.items) c.in-ReadNext.is c.requires

pub returns-in-ReadNext : goal.returns-in-ReadNext
returns-in-ReadNext c = subst (λ (p : Progress). FollowsFrom (any_progress.StockLevel p) c.args.found.items c.gather_next.result) (sym c.in-ReadNext.is) c.gather_next.ensures

pub gather_items-requires : goal.gather_items-requires
gather_items-requires c = subst (λ (p : Progress). HasFound (any_progress.StockLevel p) c.args.found.items) c.in-ReadItems.is c.requires

pub returns-in-ReadItems : goal.returns-in-ReadItems
returns-in-ReadItems c = subst (λ (p : Progress). FollowsFrom (any_progress.StockLevel p) c.args.found.items c.gather_items.result) (sym c.in-ReadItems.is) c.gather_items.ensures

pub gather_low-requires : goal.gather_low-requires
gather_low-requires c = subst (λ (p : Progress). HasFound (any_progress.StockLevel p) c.args.found.items) c.in-CountLow.is c.requires

pub returns-in-CountLow : goal.returns-in-CountLow
returns-in-CountLow c = subst (λ (p : Progress). FollowsFrom (any_progress.StockLevel p) c.args.found.items c.gather_low.result) (sym c.in-CountLow.is) c.gather_low.ensures
