use Rattle.std.proofs.Common.{rules, tests, ◌↔◌, IsTrue, true, false, refl, sym, subst}
use Rattle.schema.specs.declared.scale.Scale.{Scale}
use Rattle.schema.specs.Scale.{has_district}
use Rattle.schema.specs.Consistency.{NextOrderFollows}
use Rattle.consistency.specs.OrderNumbers.{OfRow}
use Rattle.consistency.proofs.OrderNumbersRules.{districts_rule}
use Rattle.consistency.proofs.order_numbers.next_orders_follow.Goals as goal

pub returns : goal.returns
returns c =
    let t = c.args.tables.now in
    districts_rule t c.scale.ensures.within (NextOrderFollows t) c.all_districts.result
    (λ is home inside.
    let post = c.all_districts.ensures.passed is home (subst (λ (s : Scale). IsTrue (has_district s home)) (sym c.scale.ensures.value) inside) in
    let reports : IsTrue true ↔ OfRow t home (NextOrderFollows t home) = search (rules, tests) in
    reports.0 refl)
    (λ is.
    let bad = c.all_districts.ensures.failed is in
    let home = bad.0 in
    let post = bad.2 in
    let reports : IsTrue false ↔ OfRow t home (NextOrderFollows t home) = search (rules, tests) in
    (home, subst (λ (s : Scale). IsTrue (has_district s home)) c.scale.ensures.value bad.1, λ h. absurd (let clash : IsTrue false = reports.1 h in cc)))
