use Rattle.std.proofs.Common.{sym, arith}
use Rattle.std.proofs.lemmas.Grind.{elements}
use Rattle.std.proofs.lemmas.List.Folds.{list_any_none}
use Rattle.csv.specs.Writing.{needs_byte}
use Rattle.files.specs.Written.{format}
use Rattle.files.proofs.record_writer.needs_quotes.Goals as goal

pub returns : goal.returns
returns c = sym (list_any_none (needs_byte format) c.args.bytes.now (grind (arith, elements)))
