use Rattle.files.proofs.ColumnsRead.{and_then, whole}
use Rattle.terminals.proofs.request.take_district.Goals as goal

pub returns-clause-columns : goal.returns-clause-columns
returns-clause-columns c =
    (and_then (whole 0 4294967295 c.args.fields.now c.whole.new.self c.whole.ensures.field)
    (whole 0 4294967295 c.whole.new.self c.whole-2.new.self c.whole-2.ensures.field)).is
