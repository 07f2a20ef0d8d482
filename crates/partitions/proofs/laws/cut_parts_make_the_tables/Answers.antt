use Rattle.partitions.proofs.PartLaws.{parts_are, parts_are_parts, tables_again}
use Rattle.partitions.proofs.laws.cut_parts_make_the_tables.Goals as goal

pub returns : goal.returns
returns c = λ t within. (parts_are t, tables_again t within, parts_are_parts t within)
