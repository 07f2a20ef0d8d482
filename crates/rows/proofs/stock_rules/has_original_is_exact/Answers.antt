use Rattle.std.proofs.Common.{codes}
use Rattle.rows.proofs.Words.{has_word_exact}
use Rattle.rows.proofs.stock_rules.has_original_is_exact.Goals as goal

pub returns : goal.returns
returns c = λ text. has_word_exact text (codes "ORIGINAL")
