use Rattle.files.proofs.Parts.{part_is}
use Rattle.files.proofs.span.part.Goals as goal

pub returns : goal.returns
returns c = part_is c.args.bytes.now c.args.span.from c.args.span.to c.min-to.result c.min-from.result c.min-to.ensures c.min-from.ensures
