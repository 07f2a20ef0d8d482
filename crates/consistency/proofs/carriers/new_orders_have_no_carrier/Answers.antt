use Rattle.std.proofs.Common.{◌≡◌, true, false, ◌&&◌, [], ◌∷◌, is_none, is_some, sym, ap, subst, ◌∙◌, rules, tests}
use Rattle.std.specs.Bool.{beq}
use Rattle.std.specs.FinMap as map
use Rattle.std.specs.List.{list_all}
use Rattle.std.specs.List.Sorted.{IsStrictlySortedBy}
use Rattle.std.specs.Map.{keys_of}
use Rattle.std.specs.Option.{option_copied}
use Rattle.std.proofs.lemmas.Map.Iter.{rest_more, rest_all}
use Rattle.rows.specs.Keys.{order_cmp}
use Rattle.schema.specs.Entries.{entry}
use Rattle.schema.proofs.AllBeside.{AreBeside, beside-all, beside-rest, sorted-ascend}
use Rattle.schema.proofs.EachRows.{keys_ascend}
use Rattle.consistency.proofs.CarriersRules.{has_no_carrier, carriers_rule}
use Rattle.consistency.proofs.carriers.new_orders_have_no_carrier.Goals as goal
use Rattle.consistency.proofs.carriers.new_orders_have_no_carrier.Goals.{After-of-new_order}

pub new-new_orders-requires : goal.new-new_orders-requires
new-new_orders-requires c =
    subst (λ rows. IsStrictlySortedBy order_cmp (keys_of rows)) (sym c.new_orders.ensures.rows) (keys_ascend order_cmp c.args.tables.now.new_orders)

pub loop-key-init : goal.loop-key-init
loop-key-init c =
    let t = c.args.tables.now in
    let all = map.entries t.new_orders in
    let orders : c.into_iter-key-iterator.result ≡ map.entries t.orders = c.into_iter-key-iterator.ensures.into_iter_gives ∙ c.orders-key-items.ensures.rows in
    record {
      can_next = tt;
      finite = tt;
      each = ap (list_all (has_no_carrier t)) (sym orders);
      beside = subst (λ rows. AreBeside all rows (keys_of c.into_iter-key-iterator.result)) (sym (c.new-new_orders.ensures ∙ c.new_orders.ensures.rows))
          (beside-all all (keys_of c.into_iter-key-iterator.result)
          (sorted-ascend _ (subst (λ es. IsStrictlySortedBy order_cmp (keys_of es)) (sym orders) (keys_ascend order_cmp t.orders))));
    }

-- ---- an order beside the new orders

module _ (c : After-of-new_order) where
  first : c.loop-key.key-iterator ≡ (c.in-Some.key, c.in-Some.order.now) ∷ c.next.new.self
  first = rest_more entry _ _ _ (c.in-Some.key, c.in-Some.order) c.in-Some.is c.next.ensures.steps

  beside : AreBeside (map.entries c.args.tables.now.new_orders) c.loop-key.new_orders (c.in-Some.key ∷ keys_of c.next.new.self)
  beside = subst (λ es. AreBeside (map.entries c.args.tables.now.new_orders) c.loop-key.new_orders (keys_of es)) first c.loop-key.invariant.beside

  found : is_some (option_copied c.of-new_order.result) ≡ map.contains_key c.args.tables.now.new_orders c.in-Some.key
  found = ap is_some (c.of-new_order.ensures.found ∙ beside.finds.0 ∙ sym (map.get-entries c.args.tables.now.new_orders c.in-Some.key))

  -- what this order and those behind it come to
  left : list_all (has_no_carrier c.args.tables.now) (map.entries c.args.tables.now.orders)
      ≡ (beq (is_none c.in-Some.order.now.carrier_id) (is_some (option_copied c.of-new_order.result)) && list_all (has_no_carrier c.args.tables.now) c.next.new.self)
  left =
      c.loop-key.invariant.each ∙ ap (list_all (has_no_carrier c.args.tables.now)) first
      ∙ ap (λ b. beq (is_none c.in-Some.order.now.carrier_id) b && list_all (has_no_carrier c.args.tables.now) c.next.new.self) (sym found)

  rest_beside : AreBeside (map.entries c.args.tables.now.new_orders) c.of-new_order.new.self (keys_of c.next.new.self)
  rest_beside = beside-rest _ c.loop-key.new_orders c.of-new_order.new.self c.in-Some.key (keys_of c.next.new.self) beside c.of-new_order.ensures.left

pub returns-then-is_none-is_some : goal.returns-then-is_none-is_some
returns-then-is_none-is_some c =
    let t = c.args.tables.now in
    let here = (goal.at.returns-then-is_none-is_some c).After-of-new_order in
    let differ : beq (is_none c.in-Some.order.now.carrier_id) (is_some (option_copied c.of-new_order.result)) ≡ false = search (rules, tests) in
    carriers_rule t false (sym (left here ∙ ap (λ b. b && list_all (has_no_carrier t) c.next.new.self) differ))

pub loop-key-preserved : goal.loop-key-preserved
loop-key-preserved c =
    let t = c.args.tables.now in
    let here = (goal.at.loop-key-preserved c).After-of-new_order in
    let agree : beq (is_none c.in-Some.order.now.carrier_id) (is_some (option_copied c.of-new_order.result)) ≡ true = search (rules, tests) in
    record {
      can_next = tt;
      finite = tt;
      each = left here ∙ ap (λ b. b && list_all (has_no_carrier t) c.next.new.self) agree;
      beside = rest_beside here;
    }

pub returns : goal.returns
returns c =
    let t = c.args.tables.now in
    let none : c.loop-key.key-iterator ≡ [] = rest_all entry _ _ _ c.in-None.is c.next.ensures.steps in
    carriers_rule t true (sym (c.loop-key.invariant.each ∙ ap (list_all (has_no_carrier t)) none))
