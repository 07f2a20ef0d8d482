use Rattle.std.proofs.Common.{◌≡◌, true, refl}
use Rattle.files.specs.Number.{is_number}
use Rattle.files.proofs.KindsRead.{too_much}
use Rattle.files.proofs.numbers.cents_of.Goals as goal

pub returns-in-Err-clause-exact : goal.returns-in-Err-clause-exact
returns-in-Err-clause-exact c =
    let spelt : is_number c.args.field.now ≡ true = cc in
    rw (spelt, too_much c.args.field.now c.parse.result c.in-Err.field-0 c.parse.ensures.value.0 spelt c.in-Err.is) refl
