use Rattle.std.proofs.Common.{◌≡◌, max, List, [], ◌∷◌, sym, ap, ◌∙◌, arith}
use Rattle.std.proofs.lemmas.Map.Iter.{rest_more, rest_all}
use Rattle.std.specs.FinMap.{entries}
use Rattle.rows.specs.declared.keys.OrderKey.{OrderKey}
use Rattle.rows.specs.declared.records.Order.{Order}
use Rattle.schema.specs.Entries.{entry}
use Rattle.indexes.proofs.Latest.{most}
use Rattle.indexes.proofs.Raised.{one_counted}
use Rattle.indexes.proofs.latest_orders.greatest_number.Goals as goal

pub loop-key-init : goal.loop-key-init
loop-key-init g c =
    let t = g.T.Rows.tables c.args.rows.now in
    let all : c.into_iter-key-iterator.result ≡ entries t.orders = c.into_iter-key-iterator.ensures.into_iter_gives ∙ c.orders-key-items.ensures.rows in
    let none : max 0 (most c.args.customer (entries t.orders)) ≡ most c.args.customer (entries t.orders) = omega arith in
    (tt, tt, ap (λ (es : List (OrderKey × Order)). max 0 (most c.args.customer es)) all ∙ none)

pub loop-key-preserved : goal.loop-key-preserved
loop-key-preserved g c =
    let k = c.in-Some.key in
    let order = c.in-Some.order.now in
    let left : c.loop-key.key-iterator ≡ (k, order) ∷ c.next.new.self = rest_more entry _ _ _ (c.in-Some.key, c.in-Some.order) c.in-Some.is c.next.ensures.steps in (
      tt,
      tt,
      ap (λ n. max n (most c.args.customer c.next.new.self)) c.grown-number.ensures
          ∙ one_counted c.args.customer k order c.next.new.self c.loop-key.number
          ∙ ap (λ (es : List (OrderKey × Order)). max c.loop-key.number (most c.args.customer es)) (sym left)
          ∙ c.loop-key.invariant.2,
    )

pub returns : goal.returns
returns g c =
    let none : c.loop-key.key-iterator ≡ [] = rest_all entry _ _ _ c.in-None.is c.next.ensures.steps in
    let last : c.loop-key.number ≡ max c.loop-key.number 0 = omega arith in
    last ∙ ap (λ (es : List (OrderKey × Order)). max c.loop-key.number (most c.args.customer es)) (sym none) ∙ c.loop-key.invariant.2
