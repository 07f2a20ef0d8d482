use Rattle.std.proofs.Common.{Ok, Err, sym, ◌∙◌}
use Rattle.files.specs.KindsRead.{moment_read}
use Rattle.files.proofs.KindsRead.{optional_of}
use Rattle.files.proofs.moment.read_optional_moment.Goals as goal

pub returns-in-Ok : goal.returns-in-Ok
returns-in-Ok c =
    optional_of moment_read c.args.field.now (Ok c.in-Ok.moment) (sym c.is_empty.ensures ∙ c.if-is_empty.false) (sym c.in-Ok.is ∙ c.read_moment.ensures.exact)

pub returns-in-Err : goal.returns-in-Err
returns-in-Err c =
    optional_of moment_read c.args.field.now (Err c.in-Err.kind) (sym c.is_empty.ensures ∙ c.if-is_empty.false) (sym c.in-Err.is ∙ c.read_moment.ensures.exact)
