use Rattle.std.proofs.Common.{◌≡◌, length, sym, ◌∙◌}
use Rattle.std.proofs.lemmas.Iterator.Consumers.{count_from_yields_List, YieldsList-from_rest}
use Rattle.schema.specs.Consistency.{district_lines}
use Rattle.consistency.proofs.OrderNumbersRules.{same_number}
use Rattle.consistency.proofs.line_counts.district_counts_lines.Goals as goal

pub returns : goal.returns
returns c =
    let lines = district_lines c.args.tables.now c.args.home in
    let counted : c.count.result ≡ length lines = count_from_yields_List c.lines_of_district.result c.count.result c.count.ensures.ran (YieldsList-from_rest lines c.lines_of_district.ensures.rows) in
    let same = same_number c.sum_line_counts.result c.count.result in
    (λ h. sym c.sum_line_counts.ensures ∙ same.0 h ∙ counted, λ h. same.1 (c.sum_line_counts.ensures ∙ h ∙ sym counted))
