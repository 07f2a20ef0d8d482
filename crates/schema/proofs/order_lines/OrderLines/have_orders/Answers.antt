use Rattle.std.proofs.Common.{◌≡◌, Bool, true, false, ◌&&◌, ◌||◌, not, ◌∷◌, length, nat_eq, is_none, is_some, ap, sym, subst, ◌∙◌, rules, tests}
use Rattle.std.specs.BTreeMap.{get}
use Rattle.std.specs.List.{list_all}
use Rattle.std.specs.List.Sorted.{IsStrictlySortedBy}
use Rattle.std.specs.Map.{keys_of}
use Rattle.std.specs.Map.Iter.{deref_pair}
use Rattle.std.specs.Option.{option_copied}
use Rattle.std.proofs.lemmas.Map.Iter.{rest_more}
use Rattle.rows.specs.declared.keys.OrderKey.{OrderKey}
use Rattle.rows.specs.Keys.{order_cmp, line_cmp, order_of_line}
use Rattle.schema.specs.PackedLines.{all_lines}
use Rattle.schema.proofs.AllBeside.{AreBeside, beside-all, beside-rest, sorted-ascend}
use Rattle.schema.proofs.KeyOrders.{orders_total}
use Rattle.schema.proofs.OrderedParts.{every_entry}
use Rattle.schema.proofs.PackedLines.{lines_sorted, of_orders}
use Rattle.schema.proofs.RowReads.{find-lookup}
use Rattle.schema.proofs.order_lines.OrderLines.have_orders.Goals as goal
use Rattle.schema.proofs.order_lines.OrderLines.have_orders.Goals.{After-of_map, After-self, After-is_none}

-- all orders are left at first
all_left : (c : After-of_map) → c.of_map.result ≡ c.args.orders.now.entries
all_left c = c.of_map.ensures ∙ c.range.ensures.between tt ∙ every_entry order_cmp c.args.orders.now.entries

pub new-beside-requires : goal.new-beside-requires
new-beside-requires c =
    subst (λ rows. IsStrictlySortedBy order_cmp (keys_of rows)) (sym (all_left (goal.at.new-beside-requires c).After-of_map)) c.range.ensures.ordered

pub loop-order-init : goal.loop-order-init
loop-order-init c =
    let all = c.self.inside.orders.entries in
    let lines : c.into_iter-order-iterator.result ≡ all = c.into_iter-order-iterator.ensures.into_iter_gives ∙ c.iter-order-items.ensures.rest in
    let orders = c.args.orders.now in
    let beside = beside-all orders.entries (keys_of all) (sorted-ascend (keys_of all) c.self.invariant.ordered) in
    record {
      can_next = tt;
      finite = tt;
      each = ap (list_all (λ e. is_some (get order_cmp orders (order_of_line e.0)))) (sym c.self.view_is ∙ ap all_lines (sym lines));
      beside = subst (λ l. AreBeside orders.entries l (keys_of c.into_iter-order-iterator.result)) (sym (c.new-beside.ensures ∙ all_left (goal.at.loop-order-init c).After-of_map))
          (subst (λ l. AreBeside orders.entries orders.entries (keys_of l)) (sym lines) beside);
    }

-- ---- an order and its lines

module _ (c : After-is_none) where
  abbrev has_order : OrderKey → Bool
  has_order key = is_some (get order_cmp c.args.orders.now key)

  first : c.loop-order.order-iterator ≡ (c.in-Some.order.now, c.in-Some.lines.now) ∷ c.next.new.self
  first = rest_more deref_pair _ _ _ (c.in-Some.order, c.in-Some.lines) c.in-Some.is c.next.ensures.steps

  beside : AreBeside c.args.orders.now.entries c.loop-order.beside (c.in-Some.order.now ∷ keys_of c.next.new.self)
  beside = subst (λ l. AreBeside c.args.orders.now.entries c.loop-order.beside (keys_of l)) first c.loop-order.invariant.beside

  -- whether the order was found
  found : is_none (option_copied c.of-found.result) ≡ not (has_order c.in-Some.order.now)
  found =
      let same = c.of-found.ensures.found ∙ beside.finds.0 ∙ find-lookup orders_total c.in-Some.order.now c.args.orders.now.entries in
      ap is_none same

  -- an order that passes has no lines, or is there
  passes : (nat_eq (length c.in-Some.lines.now) 0 || has_order c.in-Some.order.now) ≡ true
      → list_all (λ e. has_order (order_of_line e.0)) c.args.self.now ≡ list_all (λ e. has_order (order_of_line e.0)) (all_lines c.next.new.self)
  passes here =
      c.loop-order.invariant.each ∙ ap (λ l. list_all (λ e. has_order (order_of_line e.0)) (all_lines l)) first
      ∙ of_orders has_order ((c.in-Some.order.now, c.in-Some.lines.now) ∷ c.next.new.self)
      ∙ ap (λ b. b && list_all (λ o. nat_eq (length o.1) 0 || has_order o.0) c.next.new.self) here
      ∙ sym (of_orders has_order c.next.new.self)

  fails : (nat_eq (length c.in-Some.lines.now) 0 || has_order c.in-Some.order.now) ≡ false → list_all (λ e. has_order (order_of_line e.0)) c.args.self.now ≡ false
  fails here =
      c.loop-order.invariant.each ∙ ap (λ l. list_all (λ e. has_order (order_of_line e.0)) (all_lines l)) first
      ∙ of_orders has_order ((c.in-Some.order.now, c.in-Some.lines.now) ∷ c.next.new.self)
      ∙ ap (λ b. b && list_all (λ o. nat_eq (length o.1) 0 || has_order o.0) c.next.new.self) here

  rest_beside : AreBeside c.args.orders.now.entries c.of-found.new.self (keys_of c.next.new.self)
  rest_beside = beside-rest c.args.orders.now.entries c.loop-order.beside c.of-found.new.self c.in-Some.order.now (keys_of c.next.new.self) beside c.of-found.ensures.left

pub loop-order-preserved : goal.loop-order-preserved
loop-order-preserved c =
    let here = (goal.at.loop-order-preserved c).After-is_none in
    record {
      can_next = tt;
      finite = tt;
      each = passes here (let f = found here in search (rules, tests));
      beside = rest_beside here;
    }

pub returns-then-not-is_empty-clause-each : goal.returns-then-not-is_empty-clause-each
returns-then-not-is_empty-clause-each c =
    let here = (goal.at.returns-then-not-is_empty-clause-each c).After-is_none in
    sym (fails here (let f = found here in search (rules, tests)))

sorted : (c : After-self) → IsStrictlySortedBy line_cmp (keys_of c.args.self.now)
sorted c =
    subst (λ l. IsStrictlySortedBy line_cmp (keys_of l)) c.self.view_is (lines_sorted c.self.inside.orders.entries c.self.invariant.ordered c.self.invariant.numbered)

pub returns-then-not-is_empty-clause-ordered : goal.returns-then-not-is_empty-clause-ordered
returns-then-not-is_empty-clause-ordered c = sorted (goal.at.returns-then-not-is_empty-clause-ordered c).After-self

pub returns-clause-ordered : goal.returns-clause-ordered
returns-clause-ordered c = sorted (goal.at.returns-clause-ordered c).After-self
