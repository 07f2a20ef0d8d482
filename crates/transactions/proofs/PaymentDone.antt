-- Each action does what its definition states, from the content of the tables when it began.
use Rattle.std.proofs.Common.{◌≡◌, ◌⊎◌, Option, Some, None, refl, sym, ap, ◌∙◌}
use Rattle.std.specs.Prelude.{pos}
use Rattle.std.specs.FinMap as map
use Rattle.rows.specs.declared.keys.CustomerKey.{CustomerKey}
use Rattle.rows.specs.declared.records.Warehouse.{Warehouse}
use Rattle.rows.specs.declared.records.District.{District}
use Rattle.rows.specs.declared.records.Customer.{Customer}
use Rattle.rows.specs.declared.records.History.{History}
use Rattle.schema.specs.Database.{Database}
use Rattle.indexes.specs.Namesakes.{Customers}
use Rattle.requests.specs.declared.group.Group.{Group}
use Rattle.requests.specs.declared.group.Group.TheVariants as g
use Rattle.requests.specs.declared.payment.Payment.{Payment}
use Rattle.requests.specs.declared.payment.PaymentReply.{PaymentReply}
use Rattle.groups.specs.Groups.{group_of_customer}
use Rattle.groups.specs.Content.{Content, content, rows_of}
use Rattle.groups.specs.Content.Content.{OfWarehouse, OfDistrict, OfCustomers}
use Rattle.groups.specs.Laws.{with_warehouse, with_district, with_customer}
use Rattle.tickets.specs.Claims.{ClaimView, leaving}
use Rattle.slices.specs.Undo.{with_payment_more}
use Rattle.machine.specs.Chosen.{chosen}
use Rattle.machine.specs.Payment.{warehouse_paid, district_paid, payment_reply}
use Rattle.transactions.specs.declared.payment.HomePaid.TheVariants as h
use Rattle.transactions.specs.declared.payment.CustomerPaid.TheVariants as c
use Rattle.transactions.specs.Granted.{IsExclusiveOn, IsFresh}
use Rattle.transactions.specs.Payment.{IsHomePaid, IsCustomerPaid, IsPaymentAdded, payer_paid}
use Rattle.transactions.proofs.Recorded.{customer_recorded}

-- ---- a claim that began as a fresh one on what the tables have in its group

module _ (t : Database) (own : Group) (was : ClaimView) (on : IsExclusiveOn own was) (new : IsFresh was) (left : was.left ≡ content t was.group) where
  pub left_here : was.left ≡ content t own
  left_here = left ∙ ap (content t) on.group

  pub recorded_here : was.recorded ≡ content t own
  recorded_here = sym new.left ∙ left_here

-- and is one on its group still, whatever it left
module _ (own : Group) (was now : ClaimView) (on : IsExclusiveOn own was) (has : Content) (is : now ≡ leaving was has) where
  pub on_still : IsExclusiveOn own now
  on_still = record { group = ap (λ (k : ClaimView). k.group) is ∙ on.group; mode = ap (λ (k : ClaimView). k.mode) is ∙ on.mode }

-- a fresh claim is left as it was
untouched : (was now : ClaimView) → IsFresh was → now ≡ was → now.left ≡ now.recorded
untouched was now new same = ap (λ (k : ClaimView). k.left) same ∙ new.left ∙ sym (ap (λ (k : ClaimView). k.recorded) same)

module _ (p : Payment) (t : Database) where
  -- ---- the home warehouse and district

  module _
      (warehouse district : ClaimView)
      (on_warehouse : IsExclusiveOn (g.Warehouse p.home.w_id) warehouse)
      (on_district : IsExclusiveOn (g.District p.home.w_id p.home.d_id) district)
      (fresh_warehouse : IsFresh warehouse) (fresh_district : IsFresh district)
      (warehouse_left : warehouse.left ≡ content t warehouse.group) (district_left : district.left ≡ content t district.group)
      (new_warehouse new_district : ClaimView)
    where
      warehouse_has : warehouse.recorded ≡ OfWarehouse (map.get t.warehouses p.home.w_id)
      warehouse_has = recorded_here t _ warehouse on_warehouse fresh_warehouse warehouse_left

      district_has : district.recorded ≡ OfDistrict (map.get t.districts p.home)
      district_has = recorded_here t _ district on_district fresh_district district_left

      module _ (warehouse_same : new_warehouse ≡ warehouse) (district_same : new_district ≡ district) where
        on_w : IsExclusiveOn (g.Warehouse p.home.w_id) new_warehouse
        on_w = on_still _ warehouse new_warehouse on_warehouse warehouse.left warehouse_same

        on_d : IsExclusiveOn (g.District p.home.w_id p.home.d_id) new_district
        on_d = on_still _ district new_district on_district district.left district_same

        recorded_w : (row : Option Warehouse) → map.get t.warehouses p.home.w_id ≡ row → new_warehouse.recorded ≡ OfWarehouse row
        recorded_w row is = ap (λ (k : ClaimView). k.recorded) warehouse_same ∙ warehouse_has ∙ ap OfWarehouse is

        recorded_d : (row : Option District) → map.get t.districts p.home ≡ row → new_district.recorded ≡ OfDistrict row
        recorded_d row is = ap (λ (k : ClaimView). k.recorded) district_same ∙ district_has ∙ ap OfDistrict is

        left_w : new_warehouse.left ≡ new_warehouse.recorded
        left_w = untouched warehouse new_warehouse fresh_warehouse warehouse_same

        left_d : new_district.left ≡ new_district.recorded
        left_d = untouched district new_district fresh_district district_same

        pub home_out : (w : Warehouse) (d : District) → map.get t.warehouses p.home.w_id ≡ Some w → map.get t.districts p.home ≡ Some d
            → (warehouse_paid w (pos p.amount) ≡ None) ⊎ (district_paid d (pos p.amount) ≡ None) → IsHomePaid p h.OutOfRange new_warehouse new_district
        home_out w d w_is d_is out = record {
          warehouse_claim = on_w;
          district_claim = on_d;
          rows = record { warehouse_row = w; district_row = d; warehouse_recorded = recorded_w (Some w) w_is; district_recorded = recorded_d (Some d) d_is; out = out; warehouse_left = left_w; district_left = left_d };
        }

      pub home_paid : (w new_w : Warehouse) (d new_d : District) → map.get t.warehouses p.home.w_id ≡ Some w → map.get t.districts p.home ≡ Some d
          → warehouse_paid w (pos p.amount) ≡ Some new_w → district_paid d (pos p.amount) ≡ Some new_d
          → new_warehouse ≡ leaving warehouse (with_warehouse new_w warehouse.left) → new_district ≡ leaving district (with_district new_d district.left)
          → IsHomePaid p (h.Paid w.name d.name) new_warehouse new_district
      home_paid w new_w d new_d w_is d_is w_made d_made w_new d_new = record {
        warehouse_claim = on_still _ warehouse new_warehouse on_warehouse _ w_new;
        district_claim = on_still _ district new_district on_district _ d_new;
        rows = record {
          warehouse_row = w;
          district_row = d;
          warehouse_recorded = ap (λ (k : ClaimView). k.recorded) w_new ∙ warehouse_has ∙ ap OfWarehouse w_is;
          district_recorded = ap (λ (k : ClaimView). k.recorded) d_new ∙ district_has ∙ ap OfDistrict d_is;
          warehouse_named = refl;
          district_named = refl;
          new_warehouse = new_w;
          new_district = new_d;
          warehouse_made = w_made;
          district_made = d_made;
          warehouse_left = ap (λ (k : ClaimView). k.left) w_new ∙ ap (with_warehouse new_w) (left_here t _ warehouse on_warehouse fresh_warehouse warehouse_left);
          district_left = ap (λ (k : ClaimView). k.left) d_new ∙ ap (with_district new_d) (left_here t _ district on_district fresh_district district_left);
        };
      }

  -- ---- the customer

  module _
      (customers : ClaimView)
      (on : IsExclusiveOn (g.Customers p.customer_home.w_id p.customer_home.d_id) customers)
      (new : IsFresh customers)
      (left : customers.left ≡ content t customers.group)
      (now : ClaimView)
    where
      abbrev rows : Customers
      rows = rows_of group_of_customer (g.Customers p.customer_home.w_id p.customer_home.d_id) t.customers

      customers_have : customers.recorded ≡ OfCustomers rows
      customers_have = recorded_here t _ customers on new left

      payer_in : chosen t.customers p.customer_home p.customer ≡ chosen rows p.customer_home p.customer
      payer_in = customer_recorded t p customers (sym left ∙ new.left) on rows customers_have

      pub no_customer : now ≡ customers → chosen t.customers p.customer_home p.customer ≡ None → IsCustomerPaid p c.Missing now
      no_customer same none = record {
        claim = on_still _ customers now on customers.left same;
        rows = record { rows = rows; recorded = ap (λ (k : ClaimView). k.recorded) same ∙ customers_have; missing = sym payer_in ∙ none; left = untouched customers now new same };
      }

      pub customer_out : (key : CustomerKey) (row : Customer) → now ≡ customers → chosen t.customers p.customer_home p.customer ≡ Some (key, row) → payer_paid p key row ≡ None → IsCustomerPaid p c.OutOfRange now
      customer_out key row same is out = record {
        claim = on_still _ customers now on customers.left same;
        rows = record { rows = rows; key = key; row = row; recorded = ap (λ (k : ClaimView). k.recorded) same ∙ customers_have; there = sym payer_in ∙ is; out = out; left = untouched customers now new same };
      }

      pub customer_is_paid : (key : CustomerKey) (row new_row : Customer) (reply : PaymentReply) → chosen t.customers p.customer_home p.customer ≡ Some (key, row) → payer_paid p key row ≡ Some new_row
          → now ≡ leaving customers (with_customer key new_row customers.left) → reply ≡ payment_reply key new_row
          → IsCustomerPaid p (c.Paid reply) now
      customer_is_paid key row new_row reply is made after shown = record {
        claim = on_still _ customers now on _ after;
        rows = record {
          rows = rows;
          key = key;
          row = row;
          recorded = ap (λ (k : ClaimView). k.recorded) after ∙ customers_have;
          there = sym payer_in ∙ is;
          new_row = new_row;
          made = made;
          left = ap (λ (k : ClaimView). k.left) after ∙ ap (with_customer key new_row) (left_here t _ customers on new left);
          shown = shown;
        };
      }

  -- ---- the list of payments

  pub payment_added : (row : History) (history now : ClaimView) → IsExclusiveOn (g.History p.home.w_id p.home.d_id) history → IsFresh history
      → history.left ≡ content t history.group → now ≡ leaving history (with_payment_more row history.left) → IsPaymentAdded p row now
  payment_added row history now on new left after = record {
    claim = on_still _ history now on _ after;
    rows = map.get t.histories p.home;
    recorded = ap (λ (k : ClaimView). k.recorded) after ∙ recorded_here t _ history on new left;
    left = ap (λ (k : ClaimView). k.left) after ∙ ap (with_payment_more row) (left_here t _ history on new left);
  }
