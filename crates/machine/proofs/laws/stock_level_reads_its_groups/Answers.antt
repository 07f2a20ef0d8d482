use Rattle.machine.proofs.StockLevelGroups as groups
use Rattle.machine.proofs.laws.stock_level_reads_its_groups.Goals as goal

pub returns : goal.returns
returns c = groups.stock_level_reads_its_groups
