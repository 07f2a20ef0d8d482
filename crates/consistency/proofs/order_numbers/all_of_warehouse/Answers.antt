use Rattle.std.proofs.Common.{rules, tests, true, ℕ}
use Rattle.schema.specs.Scale.{district_key}
use Rattle.std.proofs.lemmas.Iterator.{cases_from_all}
use Rattle.consistency.proofs.OrderNumbersRules.{YieldsList-from_inclusive, passed_each}
use Rattle.consistency.proofs.order_numbers.all_of_warehouse.Goals as goal

pub returns-clause-passed : goal.returns-clause-passed
returns-clause-passed g c =
    passed_each (λ d. goal.F-post g c.args.test.now (district_key c.args.w_id d) true) 10 c.all.result
    (cases_from_all _ _ c.all.result (λ d. goal.F-post g c.args.test.now (district_key c.args.w_id d) true) (λ (w : ℕ). Unit {0})
    c.all.ensures.ran (YieldsList-from_inclusive c.new.result 10 c.new.ensures.start c.new.ensures.end c.new.ensures.exhausted)
    (λ x q k. search (rules, tests)) (λ x q k. tt))
