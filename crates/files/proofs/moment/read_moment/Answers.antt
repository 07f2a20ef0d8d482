use Rattle.std.proofs.Common.{sym}
use Rattle.files.proofs.KindsRead.{moment_complete, no_moment}
use Rattle.files.proofs.moment.read_moment.Goals as goal

pub returns-in-Some-clause-exact : goal.returns-in-Some-clause-exact
returns-in-Some-clause-exact c = sym (moment_complete c.args.field.now c.in-Some.moment c.in-Some.ensures.spelt c.in-Some.ensures.high)

pub returns-in-Err-clause-exact : goal.returns-in-Err-clause-exact
returns-in-Err-clause-exact c =
    let no_text = (rw c.in-Err.is at c.from_utf8.ensures.cases).0 in
    sym (no_moment c.args.field.now no_text)
