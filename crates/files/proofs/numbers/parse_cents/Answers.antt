use Rattle.std.proofs.Common.{ap, sym, ◌∙◌}
use Rattle.files.specs.KindsRead.{money_read}
use Rattle.files.proofs.KindsRead.{if_money, money_complete}
use Rattle.files.proofs.numbers.parse_cents.Goals as goal

pub returns-clause-value : goal.returns-clause-value
returns-clause-value c = if_money c.args.field.now c.read_cents.result (c.read_cents.ensures.exact ∙ ap money_read c.as_bytes.ensures.value)

pub returns-clause-reads : goal.returns-clause-reads
returns-clause-reads c = λ z spelt money. c.read_cents.ensures.exact ∙ ap money_read (c.as_bytes.ensures.value ∙ sym spelt) ∙ money_complete z money
