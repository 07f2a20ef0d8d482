use Rattle.std.proofs.Common.{◌≡◌, ℕ, ◌*◌, ◌<◌, ◌++◌, List, [], ◌∷◌, length, take, drop, replicate, sym, ap, subst, ◌∙◌, arith}
use Rattle.std.proofs.lemmas.Map.Iter.{rest_more, rest_all}
use Rattle.std.specs.FinMap.{entries}
use Rattle.rows.specs.declared.keys.OrderKey.{OrderKey}
use Rattle.rows.specs.declared.records.Order.{Order}
use Rattle.schema.specs.Entries.{entry}
use Rattle.schema.specs.Database.{customer_of_order}
use Rattle.indexes.proofs.Latest.{AreRaised, raised_more, raised_none, raised_all, written}
use Rattle.indexes.proofs.latest_orders.LatestOrders.build.Goals as goal

pub loop-key-init : goal.loop-key-init
loop-key-init g c =
    let r = c.args.rows.now in
    let slot = g.T.Rows.slot r in
    let districts = g.T.Rows.districts r in
    let t = g.T.Rows.tables r in
    let all : c.into_iter-key-iterator.result ≡ entries t.orders =
    c.into_iter-key-iterator.ensures.into_iter_gives ∙ c.orders-key-items.ensures.rows in
    let long : c.district_count.result * c.scale-customers.result.customers ≡ districts * t.scale.customers =
    λ i. c.district_count.ensures i * (c.scale-customers.ensures.value i).customers in
    let nothing : replicate (districts * t.scale.customers) 0 ≡ c.in_ok-numbers.numbers.items = sym (c.in_ok-numbers.ensures ∙ ap (λ n. replicate n 0) long) in (
      tt,
      tt,
      subst (λ (es : List (OrderKey × Order)). AreRaised slot t.scale.customers c.in_ok-numbers.numbers.items es (entries t.orders)) (sym all)
          (subst (λ (numbers : List ℕ). AreRaised slot t.scale.customers numbers (entries t.orders) (entries t.orders)) nothing (raised_none slot districts t c.scale-customers.ensures.rows (entries t.orders))),
    )

pub raise-requires : goal.raise-requires
raise-requires g c = λ place at.
    subst (λ (numbers : List ℕ). place < length numbers) (sym c.deref_mut.ensures.value) ((c.loop-key.invariant.2 (customer_of_order c.in-Some.key c.in-Some.order.now) place at).0)

pub loop-key-preserved : goal.loop-key-preserved
loop-key-preserved g c =
    let r = c.args.rows.now in
    let slot = g.T.Rows.slot r in
    let t = g.T.Rows.tables r in
    let customers = t.scale.customers in
    let all = entries t.orders in
    let k = c.in-Some.key in
    let order = c.in-Some.order.now in
    let rest = c.next.new.self in
    let old = c.loop-key.numbers.items in
    let new = c.raise.new.numbers in
    let left : c.loop-key.key-iterator ≡ (k, order) ∷ rest = rest_more entry _ _ _ (c.in-Some.key, c.in-Some.order) c.in-Some.is c.next.ensures.steps in
    let same_length : length new ≡ c.loop-key.numbers.len = omega (arith, c.raise.auto.numbers, c.deref_mut.ensures.len) in
    let back : take c.loop-key.numbers.len (new ++ drop (length new) old) ≡ new = written new old c.loop-key.numbers.len same_length in
    let held : AreRaised slot customers c.deref_mut.result.now ((k, order) ∷ rest) all =
    subst (λ (numbers : List ℕ). AreRaised slot customers numbers ((k, order) ∷ rest) all) (sym c.deref_mut.ensures.value)
    (subst (λ (es : List (OrderKey × Order)). AreRaised slot customers old es all) left c.loop-key.invariant.2) in (
      tt,
      tt,
      subst (λ (numbers : List ℕ). AreRaised slot customers numbers rest all) (sym back)
          (subst (λ (numbers : List ℕ). AreRaised slot customers numbers rest all) (sym c.raise.ensures) (raised_more slot customers c.scale-customers.ensures.rows.apart c.deref_mut.result.now k order rest all held)),
    )

pub returns : goal.returns
returns g c =
    let r = c.args.rows.now in
    let slot = g.T.Rows.slot r in
    let t = g.T.Rows.tables r in
    let none : c.loop-key.key-iterator ≡ [] = rest_all entry _ _ _ c.in-None.is c.next.ensures.steps in
    raised_all slot t c.loop-key.numbers.items
    (subst (λ (es : List (OrderKey × Order)). AreRaised slot t.scale.customers c.loop-key.numbers.items es (entries t.orders)) none c.loop-key.invariant.2)
