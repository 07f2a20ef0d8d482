use Rattle.std.proofs.Common.{◌≡◌, ◌≤◌, true, length, is_some, sym, ap, ◌∙◌, arith}
use Rattle.std.specs.Option.{option_map}
use Rattle.std.specs.FinMap as table
use Rattle.schema.specs.Scale.{has_warehouse, customer_key}
use Rattle.schema.specs.OrderRows.{with_order}
use Rattle.rows.specs.Ranged.{is_between}
use Rattle.rows.specs.declared.limits.TheConstants.{MOST_LINES}
use Rattle.machine.specs.declared.new_order_lines.LinesPlaced.{LinesPlaced}
use Rattle.machine.specs.Outcome.{Outcome, rolled_back}
use Rattle.machine.specs.NewOrder.{new_order, new_order_reply, order_key, order_row, items_found}
use Rattle.requests.specs.declared.reply.Fault.TheVariants.{Range}
use Rattle.requests.specs.declared.reply.Reply.TheVariants.{Done}
use Rattle.requests.specs.declared.reply.Shown.TheVariants.{NewOrder as OrderShown}
use Rattle.machine.proofs.OrderPlaced.{IsPlaced, is_placed, no_stock, second}
use Rattle.machine.proofs.new_order.place_order.Goals as goal
use Rattle.machine.proofs.new_order.place_order.Goals.{In-Some-2, In_default-2}

-- what was found, where each line has been placed
ready : (c : In-Some-2) → IsPlaced c.args.tables.now c.args.order.now c.in-Some.warehouse.now c.in-Some-district.district.now c.in-Some-customer.customer.now c.in-Some-district_ordered.new_district
    c.in-Some-2.placed.rows.items c.in-Some-2.placed.shown.items c.in-Some-2.placed.stocks.items
ready c =
    let t = c.args.tables.now in
    is_placed t c.args.order.now c.in-Some.warehouse.now c.in-Some-district.district.now c.in-Some-customer.customer.now
    (sym c.in-Some.ensures) (sym c.in-Some-district.ensures) (ap (table.get t.customers) (sym c.customer_of.ensures) ∙ sym c.in-Some-customer.ensures)
    c.scale.ensures.within c.in-Some-district_ordered.new_district (sym c.in-Some-district_ordered.ensures)
    c.in-Some-2.placed.rows.items c.in-Some-2.placed.shown.items c.in-Some-2.placed.stocks.items
    (sym (c.if-not-has_items.ensures ∙ ap (λ lines. is_some (items_found t lines)) c.as_slice.ensures))
    (sym (ap (option_map (λ (p : LinesPlaced). (p.rows.items, p.shown.items, p.stocks.items))) c.in-Some-2.is) ∙ c.in_ok-placed.ensures)

few_rows : (c : In-Some-2) → length c.in-Some-2.placed.rows.items ≤ MOST_LINES
few_rows c = omega (arith, (ready c).counted, c.requires.within.most_lines)

out_of_range : (c : In_default-2) → new_order c.args.tables.now c.args.order.now ≡ rolled_back c.args.tables.now Range
out_of_range c =
    let t = c.args.tables.now in
    no_stock t c.args.order.now c.in-Some.warehouse.now c.in-Some-district.district.now c.in-Some-customer.customer.now
    (sym c.in-Some.ensures) (sym c.in-Some-district.ensures) (ap (table.get t.customers) (sym c.customer_of.ensures) ∙ sym c.in-Some-customer.ensures)
    c.in-Some-district_ordered.new_district
    (sym (c.if-not-has_items.ensures ∙ ap (λ lines. is_some (items_found t lines)) c.as_slice.ensures))
    (sym c.in-Some-district_ordered.ensures)
    (sym (ap (option_map (λ (p : LinesPlaced). (p.rows.items, p.shown.items, p.stocks.items))) c.in_default-2.is) ∙ c.in_ok-placed.ensures)

pub place_lines-requires-clause-district : goal.place_lines-requires-clause-district
place_lines-requires-clause-district c =
    let home = c.args.order.now.home in
    let t = c.args.tables.now in
    let there : is_some (table.get t.districts home) ≡ true = ap is_some (sym c.in-Some-district.ensures) in
    second (has_warehouse t.scale home.w_id) (is_between 1 10 home.d_id) (sym (c.scale.ensures.within.districts home) ∙ there)

pub returns-in_default-2-clause-reply : goal.returns-in_default-2-clause-reply
returns-in_default-2-clause-reply c =
    sym (ap (λ (o : Outcome). o.reply) (out_of_range (goal.at.returns-in_default-2-clause-reply c).In_default-2))

pub returns-in_default-2-clause-tables : goal.returns-in_default-2-clause-tables
returns-in_default-2-clause-tables c = sym (ap (λ (o : Outcome). o.tables) (out_of_range (goal.at.returns-in_default-2-clause-tables c).In_default-2))

pub new_order_reply-shown-requires : goal.new_order_reply-shown-requires
new_order_reply-shown-requires c =
    let few = few_rows (goal.at.new_order_reply-shown-requires c).In-Some-2 in
    omega (arith, few, ap length c.as_slice-2.ensures.value)

pub post-requires-clause-customer_is_there : goal.post-requires-clause-customer_is_there
post-requires-clause-customer_is_there c =
    let t = c.args.tables.now in
    let key = customer_key c.args.order.now.home c.args.order.now.c_id in
    sym (c.scale.ensures.within.customers key)
    ∙ ap is_some (ap (table.get t.customers) (sym c.customer_of.ensures) ∙ sym c.in-Some-customer.ensures)

pub post-requires-clause-few : goal.post-requires-clause-few
post-requires-clause-few c = few_rows (goal.at.post-requires-clause-few c).In-Some-2

pub post-requires-clause-lines : goal.post-requires-clause-lines
post-requires-clause-lines c = (ready (goal.at.post-requires-clause-lines c).In-Some-2).within

pub post-requires-clause-stocks_are_there : goal.post-requires-clause-stocks_are_there
post-requires-clause-stocks_are_there c = (ready (goal.at.post-requires-clause-stocks_are_there c).In-Some-2).there

pub post-requires-clause-as_many : goal.post-requires-clause-as_many
post-requires-clause-as_many c = (ready (goal.at.post-requires-clause-as_many c).In-Some-2).stocks_counted

pub returns-clause-reply : goal.returns-clause-reply
returns-clause-reply c =
    let placed = ready (goal.at.returns-clause-reply c).In-Some-2 in
    ap (λ r. Done (OrderShown r))
    (c.new_order_reply-shown.ensures
    ∙ ap (λ rows. new_order_reply c.args.order.now c.in-Some.warehouse.now c.in-Some-district.district.now c.in-Some-customer.customer.now rows c.in-Some-2.placed.shown.items) c.as_slice-2.ensures.value)
    ∙ sym (ap (λ (o : Outcome). o.reply) placed.outcome)

pub returns-clause-tables : goal.returns-clause-tables
returns-clause-tables c =
    let t = c.args.tables.now in
    let n = c.args.order.now in
    let placed = ready (goal.at.returns-clause-tables c).In-Some-2 in
    c.in_ok-post.ensures.ok
    ∙ (λ i. with_order
    (record t { districts = table.insert t.districts n.home c.in-Some-district_ordered.new_district; stocks = placed.put i })
    (order_key n.home (c.get-o_id.ensures.value i)) (order_row n) c.in-Some-2.placed.rows.items)
    ∙ sym (ap (λ (o : Outcome). o.tables) placed.outcome)
