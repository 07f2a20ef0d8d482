use Rattle.std.proofs.Common.{codes}
use Rattle.std.proofs.lemmas.Str.Pattern.{contains_text}
use Rattle.rows.proofs.Words.{has_word_exact, same_test}
use Rattle.rows.proofs.stock_rules.is_original.Goals as goal

pub returns : goal.returns
returns c =
    let found = contains_text c.contains.result (codes "ORIGINAL") c.as_str.result.now c.contains.ensures.cases in
    same_test c.contains.result _ (rw c.as_str.ensures.bytes at found) (has_word_exact c.args.text.now (codes "ORIGINAL"))
