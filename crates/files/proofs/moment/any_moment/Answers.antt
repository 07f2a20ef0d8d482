use Rattle.std.proofs.Common.{true, false, rules, IsTrue, ◌∙◌}
use Rattle.files.proofs.KindsRead.{moment_unread, moment_of, spelt_test, spelt_not}
use Rattle.files.proofs.moment.any_moment.Goals as goal

pub returns-in_default-clause-exact : goal.returns-in_default-clause-exact
returns-in_default-clause-exact c = moment_unread c.args.field.now c.parse.result c.in_default.field-0 c.parse.ensures.value c.in_default.is

pub returns-then-not-is_spelt-clause-exact : goal.returns-then-not-is_spelt-clause-exact
returns-then-not-is_spelt-clause-exact c =
    let other = spelt_not c.args.field.now c.in-Ok.moment (λ h. let spelt = c.is_spelt.ensures.1 h in absurd cc) in
    moment_of c.args.field.now c.parse.result c.in-Ok.moment false c.utf8.field c.parse.ensures.value c.in-Ok.is other

pub returns-clause-exact : goal.returns-clause-exact
returns-clause-exact c =
    let is_true : IsTrue c.is_spelt.result = search rules in
    let spelt = c.is_spelt.ensures.0 is_true in
    c.seconds_of.ensures.exact ∙ moment_of c.args.field.now c.parse.result c.in-Ok.moment true c.utf8.field c.parse.ensures.value c.in-Ok.is (spelt_test c.args.field.now c.in-Ok.moment spelt.0 spelt.1)
