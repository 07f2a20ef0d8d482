-- The content of tables that a claim records.
use Rattle.std.proofs.Common.{◌≡◌, List, Option, filter, sym, ap, ◌∙◌}
use Rattle.std.specs.Option.{option_map}
use Rattle.std.specs.FinMap as map
use Rattle.rows.specs.declared.keys.DistrictKey.{DistrictKey}
use Rattle.rows.specs.declared.records.Warehouse.{Warehouse}
use Rattle.rows.specs.declared.records.District.{District}
use Rattle.rows.specs.declared.records.History.{History}
use Rattle.schema.specs.Scale.{customer_key}
use Rattle.schema.specs.Database.{Database}
use Rattle.schema.proofs.KeyOrders.{customers_total, customers_exact}
use Rattle.indexes.specs.Namesakes.{Customers, Keyed, has_last, is_customer_of, is_namesake, middle, namesakes}
use Rattle.indexes.proofs.Counts.{filter-part}
use Rattle.requests.specs.declared.group.Group.{Group}
use Rattle.requests.specs.declared.group.Group.TheVariants as g
use Rattle.requests.specs.declared.request.Choice.{Choice}
use Rattle.requests.specs.declared.request.Choice.TheVariants.{Number, LastName}
use Rattle.requests.specs.declared.payment.Payment.{Payment}
use Rattle.groups.specs.Groups.{group_of_customer, is_same}
use Rattle.groups.specs.Content.{Content, content, rows_of}
use Rattle.groups.specs.Content.Content.{OfWarehouse, OfDistrict, OfCustomers, OfHistory}
use Rattle.groups.proofs.Parts.{entries-where, get-rows_of-own}
use Rattle.tickets.specs.Claims.{ClaimView}
use Rattle.machine.specs.Chosen.{chosen}
use Rattle.transactions.specs.Granted.{IsExclusiveOn}

-- ---- the customers of a district

abbrev district_rows : Customers → DistrictKey → Customers
district_rows customers home = rows_of group_of_customer (g.Customers home.w_id home.d_id) customers

namesakes_among : (customers : Customers) (home : DistrictKey) (last : List _) → namesakes (district_rows customers home) home last ≡ namesakes customers home last
namesakes_among customers home last =
    ap (filter (is_namesake home last)) (entries-where customers_total customers_exact customers (λ key. is_same (group_of_customer key) (g.Customers home.w_id home.d_id)))
    ∙ filter-part (λ (c : Keyed). is_customer_of home c.0) (λ c. has_last last c.1) (map.entries customers)

chosen_among : (customers : Customers) (home : DistrictKey) (choice : Choice) → chosen (district_rows customers home) home choice ≡ chosen customers home choice
chosen_among customers home (Number n) =
    ap (option_map (λ row. (customer_key home n, row))) (get-rows_of-own customers_total customers_exact group_of_customer customers (customer_key home n))
chosen_among customers home (LastName last) = ap middle (namesakes_among customers home last)

-- ---- the content that a claim records

-- the tables have the content that the claim on the group records
recorded_of : (t : Database) (own : Group) (claim : ClaimView) (has : Content) → content t claim.group ≡ claim.recorded → claim.group ≡ own → claim.recorded ≡ has → content t own ≡ has
recorded_of t own claim has records on is = ap (content t) (sym on) ∙ records ∙ is

-- a customer that is chosen in a district is chosen among the district's customers alone
pub chosen_recorded : (t : Database) (home : DistrictKey) (choice : Choice) (claim : ClaimView) → content t claim.group ≡ claim.recorded → claim.group ≡ g.Customers home.w_id home.d_id
    → (rows : Customers) → claim.recorded ≡ OfCustomers rows → chosen t.customers home choice ≡ chosen rows home choice
chosen_recorded t home choice claim records on rows is =
    let has : OfCustomers (district_rows t.customers home) ≡ OfCustomers rows = recorded_of t _ claim _ records on is in
    let same : district_rows t.customers home ≡ rows = cc in
    sym (chosen_among t.customers home choice) ∙ ap (λ r. chosen r home choice) same

module _ (t : Database) (p : Payment) (claim : ClaimView) (records : content t claim.group ≡ claim.recorded) where
  pub warehouse_recorded : (row : Option Warehouse) → IsExclusiveOn (g.Warehouse p.home.w_id) claim → claim.recorded ≡ OfWarehouse row → map.get t.warehouses p.home.w_id ≡ row
  warehouse_recorded row on is = let has : OfWarehouse (map.get t.warehouses p.home.w_id) ≡ OfWarehouse row = recorded_of t _ claim _ records on.group is in cc

  pub district_recorded : (row : Option District) → IsExclusiveOn (g.District p.home.w_id p.home.d_id) claim → claim.recorded ≡ OfDistrict row → map.get t.districts p.home ≡ row
  district_recorded row on is = let has : OfDistrict (map.get t.districts p.home) ≡ OfDistrict row = recorded_of t _ claim _ records on.group is in cc

  pub history_recorded : (rows : Option (List History)) → IsExclusiveOn (g.History p.home.w_id p.home.d_id) claim → claim.recorded ≡ OfHistory rows → map.get t.histories p.home ≡ rows
  history_recorded rows on is = let has : OfHistory (map.get t.histories p.home) ≡ OfHistory rows = recorded_of t _ claim _ records on.group is in cc

  module _ (on : IsExclusiveOn (g.Customers p.customer_home.w_id p.customer_home.d_id) claim) where
    pub customers_recorded : (rows : Customers) → claim.recorded ≡ OfCustomers rows → content t (g.Customers p.customer_home.w_id p.customer_home.d_id) ≡ OfCustomers rows
    customers_recorded rows is = recorded_of t _ claim _ records on.group is

    pub customer_recorded : (rows : Customers) → claim.recorded ≡ OfCustomers rows → chosen t.customers p.customer_home p.customer ≡ chosen rows p.customer_home p.customer
    customer_recorded = chosen_recorded t p.customer_home p.customer claim records on.group
