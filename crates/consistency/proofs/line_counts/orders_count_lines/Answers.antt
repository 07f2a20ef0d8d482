use Rattle.std.proofs.Common.{rules, tests, ◌==◌, length}
use Rattle.std.proofs.lemmas.Iterator.Consumers.{YieldsList-from_rest}
use Rattle.std.proofs.lemmas.Iterator.Search.{all_from_yields_List}
use Rattle.schema.specs.Consistency.{lines_of}
use Rattle.consistency.proofs.LineCountsRules.{counts_rule}
use Rattle.consistency.proofs.line_counts.orders_count_lines.Goals as goal

pub returns : goal.returns
returns c =
    let t = c.args.tables.now in
    counts_rule t c.all.result
    (all_from_yields_List (λ e. e.1.ol_cnt == length (lines_of t e.0)) _ _ c.all.result c.all.ensures.ran (YieldsList-from_rest _ c.orders.ensures.rows) (λ x b q k. search (rules, tests)))
