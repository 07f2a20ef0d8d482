use Rattle.std.proofs.Common.{◌≡◌, ◌+◌, ◌*◌, ◌≤◌, ◌^◌, ◌++◌, ◌&&◌, List, [], ◌∷◌, Some, None, length, take, drop, replicate, sym, ap, subst, ◌∙◌, arith}
use Rattle.std.proofs.Math.Bool.{and-true}
use Rattle.std.proofs.lemmas.Int.{ints}
use Rattle.std.proofs.lemmas.List.{length_push}
use Rattle.std.proofs.lemmas.Map.Iter.{rest_more, rest_all}
use Rattle.std.specs.FinMap as map
use Rattle.std.specs.List.{list_all}
use Rattle.std.specs.List.Sorted.{IsStrictlySortedBy}
use Rattle.std.specs.Map.{keys_of}
use Rattle.std.specs.Option.{option_copied}
use Rattle.std.specs.Prelude.{ℤ, pos, ◌-ℤ◌}
use Rattle.rows.specs.declared.keys.CustomerKey.{CustomerKey}
use Rattle.rows.specs.declared.keys.OrderLineKey.{OrderLineKey}
use Rattle.rows.specs.declared.records.OrderLine.{OrderLine}
use Rattle.rows.specs.Keys.{line_cmp, order_cmp, order_of_line}
use Rattle.schema.specs.declared.scale.Scale.{Scale}
use Rattle.schema.specs.Entries.{entry}
use Rattle.schema.specs.Sums.{sum_entries}
use Rattle.schema.specs.Consistency.{delivered}
use Rattle.schema.specs.RowsLeft.{SameFrom}
use Rattle.schema.proofs.AllBeside.{AreBeside, DoAscend, beside-all, beside-rest}
use Rattle.schema.proofs.EachRows.{keys_ascend}
use Rattle.consistency.specs.Balances.{AreTotals, AreWithin, HasRoom, receiver}
use Rattle.consistency.specs.Carriers.{comes_with}
use Rattle.consistency.proofs.BalancesTotals.{totals-same, within-more, room-from_totals, written}
use Rattle.consistency.proofs.BalancesDeliveries.{line_share, delivered_is, line_credited, line_passed}
use Rattle.consistency.proofs.BalancesRows.{totals_none, within_none}
use Rattle.consistency.proofs.CarriersRules.{comes, comes_more, deliveries_rule}
use Rattle.consistency.proofs.OrdersOfLines.{orders_of, orders-ascend}
use Rattle.consistency.proofs.deliveries.read_deliveries.Goals as goal
use Rattle.consistency.proofs.deliveries.read_deliveries.Goals.{After-comes_with-come_with_orders}

-- the line that is read is the first that is left
first : (c : After-comes_with-come_with_orders) → c.loop-key.key-iterator ≡ (c.in-Some.key, c.in-Some.line.now) ∷ c.next.new.self
first c = rest_more entry _ _ _ (c.in-Some.key, c.in-Some.line) c.in-Some.is c.next.ensures.steps

beside : (c : After-comes_with-come_with_orders) → AreBeside (map.entries c.args.tables.now.orders) c.loop-key.orders (order_of_line c.in-Some.key ∷ orders_of c.next.new.self)
beside c = subst (λ lines. AreBeside (map.entries c.args.tables.now.orders) c.loop-key.orders (orders_of lines)) (first c) c.loop-key.invariant.beside

-- and its order is that of the table
found : (c : After-comes_with-come_with_orders) → option_copied c.of-order.result ≡ map.get c.args.tables.now.orders (order_of_line c.in-Some.key)
found c =
    c.of-order.ensures.found ∙ ap (λ key. map.find order_cmp key c.loop-key.orders) c.order.ensures ∙ (beside c).finds.0
    ∙ sym (map.get-entries c.args.tables.now.orders (order_of_line c.in-Some.key))

-- and those behind it are left
rest_beside : (c : After-comes_with-come_with_orders) → AreBeside (map.entries c.args.tables.now.orders) c.of-order.new.self (orders_of c.next.new.self)
rest_beside c =
    beside-rest _ c.loop-key.orders c.of-order.new.self (order_of_line c.in-Some.key) (orders_of c.next.new.self) (beside c)
    (subst (λ key. SameFrom key c.loop-key.orders c.of-order.new.self) c.order.ensures c.of-order.ensures.left)

come : (c : After-comes_with-come_with_orders) → list_all (comes c.args.tables.now) (map.entries c.args.tables.now.lines)
    ≡ ((c.loop-key.come_with_orders && c.comes_with-come_with_orders.result) && list_all (comes c.args.tables.now) c.next.new.self)
come c =
    let t = c.args.tables.now in
    let before = c.loop-key.come_with_orders in
    c.loop-key.invariant.come ∙ ap (λ es. before && list_all (comes t) es) (first c)
    ∙ comes_more t c.in-Some.key c.in-Some.line.now c.next.new.self before c.comes_with-come_with_orders.result (c.comes_with-come_with_orders.ensures ∙ ap (comes_with c.in-Some.line.now) (found c))

pub new-orders-requires : goal.new-orders-requires
new-orders-requires c =
    subst (λ rows. IsStrictlySortedBy order_cmp (keys_of rows)) (sym c.orders.ensures.rows) (keys_ascend order_cmp c.args.tables.now.orders)

pub loop-key-init : goal.loop-key-init
loop-key-init c =
    let t = c.args.tables.now in
    let rows = c.rows-rows.result.now in
    let all = λ (key : CustomerKey). sum_entries (line_share t key) (map.entries t.lines) in
    let start = λ (key : CustomerKey). all key -ℤ sum_entries (line_share t key) c.into_iter-key-iterator.result in
    let long : c.len.result ≡ length rows.customers.items = omega arith in
    let nothing : replicate (length rows.customers.items) (pos 0) ≡ c.in_ok-totals.totals.items = sym (c.in_ok-totals.ensures ∙ ap (λ n. replicate n (pos 0)) long) in
    let lines : c.into_iter-key-iterator.result ≡ map.entries t.lines = c.into_iter-key-iterator.ensures.into_iter_gives ∙ c.lines-key-items.ensures.rows in
    let all_orders = map.entries t.orders in
    let none = λ (key : CustomerKey). let same : sum_entries (line_share t key) c.into_iter-key-iterator.result ≡ all key = ap (sum_entries (line_share t key)) lines in
    let e : start key ≡ pos 0 = omega (arith, ints) in e in
    record {
      can_next = tt;
      finite = tt;
      totals = subst (λ (scale : Scale). AreTotals scale start c.in_ok-totals.totals.items) (sym c.scale-scale.ensures.value)
          (subst (λ (totals : List ℤ). AreTotals t.scale start totals) nothing (totals_none t.scale rows c.rows-rows.ensures.fits start none));
      within = subst (λ (totals : List ℤ). AreWithin 0 totals) nothing (within_none 0 (length rows.customers.items));
      count = omega (arith, ap length lines);
      come = ap (list_all (comes t)) (sym lines);
      beside = subst (λ orders. AreBeside all_orders orders (orders_of c.into_iter-key-iterator.result)) (sym (c.new-orders.ensures ∙ c.orders.ensures.rows))
          (beside-all all_orders (orders_of c.into_iter-key-iterator.result) (subst (λ l. DoAscend (orders_of l)) (sym lines) (orders-ascend (map.entries t.lines) (keys_ascend line_cmp t.lines))));
    }

pub credit-requires-clause-room : goal.credit-requires-clause-room
credit-requires-clause-room c =
    subst (λ (totals : List ℤ). HasRoom c.scale-scale.result totals) (sym c.deref_mut.ensures.value)
    (room-from_totals c.scale-scale.result _ c.loop-key.totals.items c.loop-key.invariant.totals)

pub credit-requires-clause-within : goal.credit-requires-clause-within
credit-requires-clause-within c =
    let count = length c.loop-key.yielded in
    let few : count ≤ 2 ^ 63 = omega (arith, c.lines-key-items.ensures.fits, ap length c.lines-key-items.ensures.rows, c.loop-key.invariant.count) in
    subst (λ (totals : List ℤ). AreWithin (3 * 2 ^ 125) totals) (sym c.deref_mut.ensures.value)
    (within-more (2 ^ 50 * count) (3 * 2 ^ 125) c.loop-key.totals.items (omega arith) c.loop-key.invariant.within)

pub loop-key-preserved-in-Some-receiver : goal.loop-key-preserved-in-Some-receiver
loop-key-preserved-in-Some-receiver c =
    let t = c.args.tables.now in
    let scale = c.scale-scale.result in
    let k = c.in-Some.key in
    let line = c.in-Some.line.now in
    let rest = c.next.new.self in
    let old = c.loop-key.totals.items in
    let new = c.credit.new.totals in
    let count = length c.loop-key.yielded in
    let here = (goal.at.loop-key-preserved-in-Some-receiver c).After-comes_with-come_with_orders in
    let left : c.loop-key.key-iterator ≡ (k, line) ∷ rest = first here in
    let longer = length_push c.loop-key.yielded (c.in-Some.key, c.in-Some.line) in
    let same_length : length new ≡ c.loop-key.totals.len = omega (arith, c.credit.auto.totals, c.deref_mut.ensures.len) in
    let back : take c.loop-key.totals.len (new ++ drop (length new) old) ≡ new = written new old c.loop-key.totals.len same_length in
    let all = λ (key : CustomerKey). sum_entries (line_share t key) (map.entries t.lines) in
    let before = λ (key : CustomerKey). all key -ℤ sum_entries (line_share t key) ((k, line) ∷ rest) in
    let after = λ (key : CustomerKey). all key -ℤ sum_entries (line_share t key) rest in
    let held : AreTotals scale before c.deref_mut.result.now =
    subst (λ (totals : List ℤ). AreTotals scale before totals) (sym c.deref_mut.ensures.value)
    (subst (λ (es : List (OrderLineKey × OrderLine)). AreTotals scale (λ key. all key -ℤ sum_entries (line_share t key) es) old) left c.loop-key.invariant.totals) in
    let bounded : AreWithin (2 ^ 50 * count) c.deref_mut.result.now = subst (λ (totals : List ℤ). AreWithin (2 ^ 50 * count) totals) (sym c.deref_mut.ensures.value) c.loop-key.invariant.within in
    let to : receiver k line (map.get t.orders (order_of_line k)) ≡ Some c.in-Some-receiver.customer = ap (receiver k line) (sym (found here)) ∙ sym c.receiver.ensures ∙ c.in-Some-receiver.is in
    record {
      can_next = tt;
      finite = tt;
      totals = subst (λ (totals : List ℤ). AreTotals scale after totals) (sym back)
          (totals-same scale _ after new (λ key. line_credited t key k line rest (all key) c.in-Some-receiver.customer _ to (omega (arith, ints))) (c.credit.ensures.added before held));
      within = subst (λ (totals : List ℤ). AreWithin (2 ^ 50 * length (c.loop-key.yielded ++ (c.in-Some.key, c.in-Some.line) ∷ [])) totals) (sym back)
          (within-more (2 ^ 50 * count + 2 ^ 50) _ new (omega arith) (c.credit.ensures.within (2 ^ 50 * count) bounded));
      count = omega (arith, ap length left, c.loop-key.invariant.count);
      come = come here;
      beside = rest_beside here;
    }

pub loop-key-preserved : goal.loop-key-preserved
loop-key-preserved c =
    let t = c.args.tables.now in
    let scale = c.scale-scale.result in
    let k = c.in-Some.key in
    let line = c.in-Some.line.now in
    let rest = c.next.new.self in
    let old = c.loop-key.totals.items in
    let count = length c.loop-key.yielded in
    let here = (goal.at.loop-key-preserved c).After-comes_with-come_with_orders in
    let left : c.loop-key.key-iterator ≡ (k, line) ∷ rest = first here in
    let longer = length_push c.loop-key.yielded (c.in-Some.key, c.in-Some.line) in
    let all = λ (key : CustomerKey). sum_entries (line_share t key) (map.entries t.lines) in
    let held : AreTotals scale (λ key. all key -ℤ sum_entries (line_share t key) ((k, line) ∷ rest)) old =
    subst (λ (es : List (OrderLineKey × OrderLine)). AreTotals scale (λ key. all key -ℤ sum_entries (line_share t key) es) old) left c.loop-key.invariant.totals in
    let to : receiver k line (map.get t.orders (order_of_line k)) ≡ None = ap (receiver k line) (sym (found here)) ∙ sym c.receiver.ensures ∙ c.in_default.is in
    record {
      can_next = tt;
      finite = tt;
      totals = totals-same scale _ _ old (λ key. line_passed t key k line rest (all key) to) held;
      within = within-more (2 ^ 50 * count) _ old (omega arith) c.loop-key.invariant.within;
      count = omega (arith, ap length left, c.loop-key.invariant.count);
      come = come here;
      beside = rest_beside here;
    }

pub returns-clause-totals : goal.returns-clause-totals
returns-clause-totals c =
    let t = c.args.tables.now in
    let items = c.loop-key.totals.items in
    let none : c.loop-key.key-iterator ≡ [] = rest_all entry _ _ _ c.in-None.is c.next.ensures.steps in
    let all = λ (key : CustomerKey). sum_entries (line_share t key) (map.entries t.lines) in
    let held : AreTotals c.scale-scale.result (λ key. all key -ℤ pos 0) items =
    subst (λ (es : List (OrderLineKey × OrderLine)). AreTotals c.scale-scale.result (λ key. all key -ℤ sum_entries (line_share t key) es) items) none c.loop-key.invariant.totals in
    let are : AreTotals c.scale-scale.result (delivered t) items =
    totals-same c.scale-scale.result _ (delivered t) items
    (λ key. let whole : (all key -ℤ pos 0) ≡ all key = omega (arith, ints) in whole ∙ delivered_is t key)
    held in
    subst (λ (scale : Scale). AreTotals scale (delivered t) items) c.scale-scale.ensures.value are

pub returns-clause-within : goal.returns-clause-within
returns-clause-within c =
    let count = length c.loop-key.yielded in
    let few : count ≤ 2 ^ 63 = omega (arith, c.lines-key-items.ensures.fits, ap length c.lines-key-items.ensures.rows, c.loop-key.invariant.count) in
    within-more (2 ^ 50 * count) (2 ^ 124) c.loop-key.totals.items (omega arith) c.loop-key.invariant.within

pub returns-clause-come : goal.returns-clause-come
returns-clause-come c =
    let t = c.args.tables.now in
    let come = c.loop-key.come_with_orders in
    let none : c.loop-key.key-iterator ≡ [] = rest_all entry _ _ _ c.in-None.is c.next.ensures.steps in
    deliveries_rule t come (sym (c.loop-key.invariant.come ∙ ap (λ es. come && list_all (comes t) es) none ∙ and-true come))
