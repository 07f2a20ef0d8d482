use Rattle.std.proofs.Common.{◌≡◌, ◌+◌, length, arith}
use Rattle.std.proofs.lemmas.Iterator.Consumers.{count_from_yields_List, YieldsList-from_rest}
use Rattle.schema.specs.Consistency.{orders_of, new_orders_of}
use Rattle.consistency.proofs.OrderNumbersRules.{same_number}
use Rattle.consistency.proofs.order_numbers.is_fresh.Goals as goal

pub returns : goal.returns
returns c =
    let t = c.args.tables.now in
    let orders : c.count.result ≡ length (orders_of t c.args.home) = count_from_yields_List c.orders_of.result c.count.result c.count.ensures.ran (YieldsList-from_rest _ c.orders_of.ensures.rows) in
    let new_orders : c.count-2.result ≡ length (new_orders_of t c.args.home) = count_from_yields_List c.new_orders_of.result c.count-2.result c.count-2.ensures.ran (YieldsList-from_rest _ c.new_orders_of.ensures.rows) in
    let both = same_number c.count.result (c.count-2.result + 2100) in
    (λ h. let e : c.count.result ≡ c.count-2.result + 2100 = both.0 h in omega arith, λ h. both.1 (omega (arith, h)))
