use Rattle.std.proofs.Common.{ap, ◌∙◌}
use Rattle.std.specs.List.{list_all}
use Rattle.schema.specs.Scale.{has_item, has_warehouse, has_customer}
use Rattle.schema.specs.Database.{customer_of_order, is_order_id, is_line_number, are_payers_known}
use Rattle.schema.proofs.ScaleRules.{fails, payers_rule, order_rule, line_rule, new_order_rule, line_order_rule, item_keys, warehouse_keys, district_keys_are, stock_keys_are, customer_keys_are, history_keys}
use Rattle.schema.proofs.table_rows.TableRows.reference_fault.Goals as goal

pub returns-then-not-name_payers_customers : goal.returns-then-not-name_payers_customers
returns-then-not-name_payers_customers c =
    let r = c.name_payers_customers in
    fails r.result c.if-not-name_payers_customers.true (payers_rule c.args.scale c.args.self.now r.result c.requires (c.name_payers_customers.ensures ∙ ap (list_all (are_payers_known c.args.scale)) c.deref.ensures.value))

pub returns-then-not-are_orders_numbered : goal.returns-then-not-are_orders_numbered
returns-then-not-are_orders_numbered c =
    let r = c.are_orders_numbered in
    fails r.result c.if-not-are_orders_numbered.true
    (order_rule c.args.scale c.args.self.now (λ key _. is_order_id key.o_id) r.result r.ensures.ordered r.ensures.each)

pub returns-then-not-have_orders_customers : goal.returns-then-not-have_orders_customers
returns-then-not-have_orders_customers c =
    let r = c.have_orders_customers in
    fails r.result c.if-not-have_orders_customers.true
    (order_rule c.args.scale c.args.self.now (λ key row. has_customer c.args.scale (customer_of_order key row)) r.result r.ensures.ordered r.ensures.each)

pub returns-then-not-have_new_orders_orders : goal.returns-then-not-have_new_orders_orders
returns-then-not-have_new_orders_orders c =
    let r = c.have_new_orders_orders in
    fails r.result c.if-not-have_new_orders_orders.true (new_order_rule c.args.scale c.args.self.now r.result r.ensures.ordered r.ensures.each)

pub returns-then-not-have_orders : goal.returns-then-not-have_orders
returns-then-not-have_orders c =
    let r = c.have_orders in
    fails r.result c.if-not-have_orders.true (line_order_rule c.args.scale c.args.self.now r.result r.ensures.ordered r.ensures.each)

pub returns-then-not-are_numbered : goal.returns-then-not-are_numbered
returns-then-not-are_numbered c =
    let r = c.line_rules-are_numbered in
    fails r.result.are_numbered c.if-not-are_numbered.true
    (line_rule c.args.scale c.args.self.now (λ key _. is_line_number key.number) r.result.are_numbered r.ensures.ordered r.ensures.numbered)

pub returns-then-not-have_items : goal.returns-then-not-have_items
returns-then-not-have_items c =
    let r = c.line_rules-are_numbered in
    fails r.result.have_items c.if-not-have_items.true
    (line_rule c.args.scale c.args.self.now (λ _ row. has_item c.args.scale row.i_id) r.result.have_items r.ensures.ordered r.ensures.items)

pub returns-then-not-have_suppliers : goal.returns-then-not-have_suppliers
returns-then-not-have_suppliers c =
    let r = c.line_rules-are_numbered in
    fails r.result.have_suppliers c.if-not-have_suppliers.true
    (line_rule c.args.scale c.args.self.now (λ _ row. has_warehouse c.args.scale row.supply_w_id) r.result.have_suppliers r.ensures.ordered r.ensures.suppliers)

pub returns : goal.returns
returns c =
    let scale = c.args.scale in
    let rows = c.args.self.now in
    let lines = c.line_rules-are_numbered in
    record {
      counts = c.requires;
      within = record {
        items = item_keys scale rows c.requires;
        warehouses = warehouse_keys scale rows c.requires;
        districts = district_keys_are scale rows c.requires;
        stocks = stock_keys_are scale rows c.requires;
        customers = customer_keys_are scale rows c.requires;
        histories = history_keys scale rows c.requires;
        payers_known = (payers_rule scale rows c.name_payers_customers.result c.requires (c.name_payers_customers.ensures ∙ ap (list_all (are_payers_known c.args.scale)) c.deref.ensures.value)).0 c.if-not-name_payers_customers.false;
        orders_numbered = (order_rule scale rows (λ key _. is_order_id key.o_id) c.are_orders_numbered.result c.are_orders_numbered.ensures.ordered c.are_orders_numbered.ensures.each).0 c.if-not-are_orders_numbered.false;
        orders_have_customers = (order_rule scale rows (λ key row. has_customer scale (customer_of_order key row)) c.have_orders_customers.result c.have_orders_customers.ensures.ordered c.have_orders_customers.ensures.each).0 c.if-not-have_orders_customers.false;
        new_orders_have_orders = (new_order_rule scale rows c.have_new_orders_orders.result c.have_new_orders_orders.ensures.ordered c.have_new_orders_orders.ensures.each).0 c.if-not-have_new_orders_orders.false;
        lines_have_orders = (line_order_rule scale rows c.have_orders.result c.have_orders.ensures.ordered c.have_orders.ensures.each).0 c.if-not-have_orders.false;
        lines_numbered = (line_rule scale rows (λ key _. is_line_number key.number) lines.result.are_numbered lines.ensures.ordered lines.ensures.numbered).0 c.if-not-are_numbered.false;
        lines_have_items = (line_rule scale rows (λ _ row. has_item scale row.i_id) lines.result.have_items lines.ensures.ordered lines.ensures.items).0 c.if-not-have_items.false;
        lines_have_suppliers = (line_rule scale rows (λ _ row. has_warehouse scale row.supply_w_id) lines.result.have_suppliers lines.ensures.ordered lines.ensures.suppliers).0 c.if-not-have_suppliers.false;
      };
    }
