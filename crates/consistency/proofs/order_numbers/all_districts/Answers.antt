use Rattle.std.proofs.Common.{rules, tests, IsTrue, true, ℕ}
use Rattle.rows.specs.Ranged.{is_between}
use Rattle.schema.specs.Scale.{district_key}
use Rattle.std.proofs.lemmas.Iterator.{cases_from_all}
use Rattle.consistency.proofs.OrderNumbersRules.{YieldsList-from_inclusive, passed_each, left_half, right_half}
use Rattle.consistency.proofs.order_numbers.all_districts.Goals as goal

pub returns-clause-passed : goal.returns-clause-passed
returns-clause-passed g c =
    let scale = c.args.scale in
    let passes = λ (w : ℕ). (d : ℕ) → IsTrue (is_between 1 10 d) → goal.F-post g c.args.test (district_key w d) true in
    let each = passed_each passes scale.warehouses c.all.result
    (cases_from_all _ _ c.all.result passes (λ (w : ℕ). Unit {0}) c.all.ensures.ran
    (YieldsList-from_inclusive c.new.result scale.warehouses c.new.ensures.start c.new.ensures.end c.new.ensures.exhausted)
    (λ x q k. search (rules, tests)) (λ x q k. tt)) in
    λ is home inside. each is home.w_id (left_half _ _ inside) home.d_id (right_half _ _ inside)
