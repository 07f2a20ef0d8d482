use Rattle.std.proofs.Common.{refl}
use Rattle.files.proofs.KindsRead.{no_number}
use Rattle.files.proofs.numbers.read_cents.Goals as goal

pub returns-in-Err-clause-exact : goal.returns-in-Err-clause-exact
returns-in-Err-clause-exact c =
    let no_text = (rw c.in-Err.is at c.from_utf8.ensures.cases).0 in
    rw (no_number c.args.field.now no_text) refl

pub returns-in-Err-clause-not_of_kind : goal.returns-in-Err-clause-not_of_kind
returns-in-Err-clause-not_of_kind c =
    let no_text = (rw c.in-Err.is at c.from_utf8.ensures.cases).0 in
    (λ e. no_number c.args.field.now no_text, λ e. refl)
