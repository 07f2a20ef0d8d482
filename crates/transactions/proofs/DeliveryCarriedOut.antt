-- The actions of a Delivery are the Delivery: it reads and changes the two groups of its district. So from tables that the claims
-- record the district's turn delivers the order that was found, and leaves in both groups what the claims left.
use Rattle.std.proofs.Common.{◌≡◌, ◌≢◌, ℕ, [], ◌∷◌, Option, Some, None, refl, sym, ap, ◌∙◌}
use Rattle.std.specs.Option.{option_map, option_and_then}
use Rattle.std.proofs.lemmas.List.Elements.{recursion_from_All}
use Rattle.std.specs.FinMap as table
use Rattle.rows.specs.declared.keys.DistrictKey.{DistrictKey}
use Rattle.rows.specs.declared.records.Customer.{Customer}
use Rattle.schema.specs.Scale.{customer_key}
use Rattle.schema.specs.Database.{Database, customer_of_order}
use Rattle.schema.specs.OrderRows.{with_delivery}
use Rattle.schema.proofs.KeyOrders.{customers_total, customers_exact}
use Rattle.indexes.specs.Namesakes.{Customers}
use Rattle.requests.specs.declared.group.Group.{Group}
use Rattle.requests.specs.declared.group.Group.TheVariants as g
use Rattle.requests.specs.declared.reply.Reply.TheVariants as reply
use Rattle.requests.specs.declared.reply.Shown.TheVariants as kind
use Rattle.groups.specs.Groups.{group_of_customer}
use Rattle.groups.specs.Content.{content, rows_of}
use Rattle.groups.specs.Content.Content.{OfCustomers}
use Rattle.groups.specs.Laws.{with_customer}
use Rattle.groups.proofs.Parts.{get-rows_of-own}
use Rattle.groups.proofs.RowsPut.{each_put_changes_one_group}
use Rattle.tickets.specs.Claims.{ClaimView}
use Rattle.tickets.specs.Committed.{RecordsContent}
use Rattle.machine.specs.Outcome.{Outcome}
use Rattle.machine.specs.NewOrder.{order_key}
use Rattle.machine.specs.Delivery.{Turn, customer_delivered, delivered_oldest, delivery, delivery_reply, handed_over, receiver, recorded, turn_of}
use Rattle.transactions.specs.declared.delivery.OrderDelivered.{OrderDelivered}
use Rattle.transactions.specs.Delivery.{IsCustomerCredited, IsOldestOrder, order_delivered, row_credited}
use Rattle.transactions.specs.DeliveryLaws.{DeliveriesAreCarriedOut, RolledBackDeliveriesAreCarriedOut, SkippedDeliveriesAreCarriedOut}
use Rattle.transactions.proofs.DeliveryChanges.{order_changes}
use Rattle.transactions.proofs.NewOrderSettled.{settles}

-- ---- the district's turn

module _ (t : Database) (home : DistrictKey) (carrier moment : ℕ) where
  abbrev orders_of : Group
  orders_of = g.Orders home.w_id home.d_id

  abbrev customers_of : Group
  customers_of = g.Customers home.w_id home.d_id

  -- it delivered what was found, left what the claims left, and nothing else changed
  record IsTurn (order : OrderDelivered) (orders customers : ClaimView) (turn : Turn) : Type 0 where
    number : turn.o_id ≡ Some order.o_id
    orders_left : content turn.tables orders_of ≡ orders.left
    customers_left : content turn.tables customers_of ≡ customers.left
    elsewhere : (group : Group) → (group ≢ orders_of) × (group ≢ customers_of) → content turn.tables group ≡ content t group

  -- the customer's row is the one that the group has
  same_customer : (rows : Customers) → content t customers_of ≡ OfCustomers rows → (c_id : ℕ) → table.get t.customers (customer_key home c_id) ≡ table.get rows (customer_key home c_id)
  same_customer rows has c_id =
      let those : Customers = rows_of group_of_customer customers_of t.customers in
      let is : OfCustomers those ≡ OfCustomers rows = has in
      let same : those ≡ rows = cc in
      sym (get-rows_of-own customers_total customers_exact group_of_customer t.customers (customer_key home c_id))
      ∙ ap (λ (r : Customers). table.get r (customer_key home c_id)) same

  -- the customer of the oldest new order
  received : (order : OrderDelivered) (oldest : IsOldestOrder t home order) (rows : Customers) → content t customers_of ≡ OfCustomers rows
      → receiver t (order_key home order.o_id) oldest.row ≡ row_credited rows home order
  received order oldest rows has =
      let key = order_key home order.o_id in
      let find = λ (c_id amount : ℕ). option_and_then (λ (c : Customer). customer_delivered c amount) (table.get t.customers (customer_key home c_id)) in
      (λ i. find (sym oldest.customer i) (sym oldest.amount i))
      ∙ ap (option_and_then (λ (c : Customer). customer_delivered c order.amount)) (same_customer rows has order.c_id)

  -- its turn, by its oldest new order and that one's customer
  turn_by : (order : OrderDelivered) (oldest : IsOldestOrder t home order) (new : Option Customer) → receiver t (order_key home order.o_id) oldest.row ≡ new
      → delivered_oldest t home carrier moment
      ≡ option_map (λ left. let turn : Turn = record { tables = left; o_id = Some order.o_id } in turn) (option_map (handed_over t (order_key home order.o_id) oldest.row carrier moment) new)
  turn_by order oldest new is =
      let key = order_key home order.o_id in
      let whole = λ (left : Database). let turn : Turn = record { tables = left; o_id = Some order.o_id } in turn in
      ap (turn_of t home carrier moment) oldest.oldest
      ∙ ap (λ r. option_map whole (option_and_then (λ row. option_map (handed_over t key row carrier moment) (receiver t key row)) r)) oldest.there
      ∙ ap (λ r. option_map whole (option_map (handed_over t key oldest.row carrier moment) r)) is

  -- an order whose customer was credited
  credited_turn : (order : OrderDelivered) (orders customers : ClaimView) → IsOldestOrder t home order
      → orders.left ≡ content (order_delivered t home carrier moment (Some order)) orders_of
      → content t customers_of ≡ customers.recorded → IsCustomerCredited home order customers
      → (turn : Turn) × (delivered_oldest t home carrier moment ≡ Some turn) × IsTurn order orders customers turn
  credited_turn order orders customers oldest left records credited =
      let key = order_key home order.o_id in
      let who = customer_of_order key oldest.row in
      let mid = with_delivery t key carrier moment in
      let has : content t customers_of ≡ OfCustomers credited.rows = records ∙ credited.recorded in
      let put = (each_put_changes_one_group mid).customers who credited.new_row in
      let change = order_changes key carrier moment t in
      let same_key : who ≡ customer_key home order.c_id = ap (customer_key home) (sym oldest.customer) in (
        record { tables = handed_over t key oldest.row carrier moment credited.new_row; o_id = Some order.o_id },
        turn_by order oldest (Some credited.new_row) (received order oldest credited.rows has ∙ credited.made),
        record {
          number = refl;
          orders_left = put.elsewhere orders_of (λ same. absurd cc) ∙ sym left;
          customers_left = put.here ∙ ap (with_customer who credited.new_row) (change.elsewhere customers_of (λ same. absurd cc) ∙ has)
              ∙ ap (λ k. OfCustomers (table.insert credited.rows k credited.new_row)) same_key ∙ sym credited.left;
          elsewhere = λ group apart. put.elsewhere group apart.1 ∙ change.elsewhere group apart.0;
        },
      )

-- ---- the laws

pub deliveries_are_carried_out : DeliveriesAreCarriedOut
deliveries_are_carried_out opening d order orders customers done credited t scale items records =
    let each = recursion_from_All (RecordsContent (content t)) (orders ∷ customers ∷ []) records in
    let turn = credited_turn t d.home d.carrier_id d.moment order orders customers (done.shown t each.0)
    (done.left t each.0 ∙ ap (content (order_delivered t d.home d.carrier_id d.moment (Some order))) done.claim.group)
    (ap (content t) (sym credited.claim.group) ∙ each.1.0) credited.rows in
    let new = turn.0.tables in
    let made : delivery t d ≡ recorded t d (Some turn.0) = ap (recorded t d) turn.1 in (
      ap (λ (o : Outcome). o.reply) made ∙ ap (λ number. reply.Done (kind.Delivery (delivery_reply d number))) turn.2.number,
      λ group.
          ap (λ (o : Outcome). content o.tables group) made
          ∙ sym (settles (orders ∷ customers ∷ []) group (content t group) (content new group) (
            (λ is same. sym turn.2.orders_left ∙ ap (content new) (sym (same ∙ done.claim.group))),
            (
              (λ is same. sym turn.2.customers_left ∙ ap (content new) (sym (same ∙ credited.claim.group))),
              tt,
            ),
          )
          (λ none. sym (turn.2.elsewhere group (
            (λ same. none.0 done.claim.mode (same ∙ sym done.claim.group)),
            (λ same. none.1.0 credited.claim.mode (same ∙ sym credited.claim.group)),
          )))),
    )

pub skipped_deliveries_are_carried_out : SkippedDeliveriesAreCarriedOut
skipped_deliveries_are_carried_out opening d orders done t scale items records =
    let each = recursion_from_All (RecordsContent (content t)) (orders ∷ []) records in
    let made : delivery t d ≡ recorded t d (Some (record { tables = t; o_id = None })) =
    ap (λ r. recorded t d (turn_of t d.home d.carrier_id d.moment r)) (done.shown t each.0) in (
      ap (λ (o : Outcome). o.reply) made,
      λ group.
          ap (λ (o : Outcome). content o.tables group) made
          ∙ sym (settles (orders ∷ []) group (content t group) (content t group) ((λ is same. done.left t each.0 ∙ ap (content t) (sym same)), tt) (λ none. refl)),
    )

pub rolled_back_deliveries_are_carried_out : RolledBackDeliveriesAreCarriedOut
rolled_back_deliveries_are_carried_out opening d order orders customers done out t scale items records =
    let each = recursion_from_All (RecordsContent (content t)) (orders ∷ customers ∷ []) records in
    let oldest = done.shown t each.0 in
    let has : content t (g.Customers d.home.w_id d.home.d_id) ≡ OfCustomers out.rows.rows = ap (content t) (sym out.claim.group) ∙ each.1.0 ∙ out.rows.recorded in
    let made : delivery t d ≡ recorded t d None =
    ap (recorded t d) (turn_by t d.home d.carrier_id d.moment order oldest None (received t d.home d.carrier_id d.moment order oldest out.rows.rows has ∙ out.rows.out)) in
    (ap (λ (o : Outcome). o.reply) made, λ group. ap (λ (o : Outcome). content o.tables group) made)
