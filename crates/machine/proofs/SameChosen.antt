-- Where two tables have the same customers in a district, the same one is chosen.
use Rattle.std.proofs.Common.{◌≡◌, List, filter, refl, sym, ap, ◌∙◌}
use Rattle.std.specs.FinMap as map
use Rattle.rows.specs.declared.keys.DistrictKey.{DistrictKey}
use Rattle.schema.specs.Scale.{customer_key}
use Rattle.schema.specs.Database.{Database}
use Rattle.requests.specs.declared.request.Choice.{Choice}
use Rattle.requests.specs.declared.request.Choice.TheVariants.{Number, LastName}
use Rattle.requests.specs.declared.group.Group.TheVariants as g
use Rattle.groups.specs.Groups.{group_of_customer, is_same}
use Rattle.groups.specs.Content.{Content, content, rows_of}
use Rattle.groups.specs.Content.Content.{OfCustomers}
use Rattle.groups.specs.Laws.{customer_in}
use Rattle.schema.proofs.KeyOrders.{customers_total, customers_exact}
use Rattle.groups.proofs.Parts.{entries-where}
use Rattle.groups.proofs.RowsInGroups.{each_row_stands_in_one_group, same_row}
use Rattle.indexes.specs.Namesakes.{Customers, Keyed, has_last, is_customer_of, is_namesake, middle, namesakes}
use Rattle.indexes.proofs.Counts.{filter-part}
use Rattle.machine.specs.Chosen.{chosen}

-- a district's namesakes are those of its group
of_group : (customers : Customers) (home : DistrictKey) (last : List _) → namesakes (rows_of group_of_customer (g.Customers home.w_id home.d_id) customers) home last ≡ namesakes customers home last
of_group customers home last =
    ap (filter (is_namesake home last)) (entries-where customers_total customers_exact customers (λ key. is_same (group_of_customer key) (g.Customers home.w_id home.d_id)))
    ∙ filter-part (λ (c : Keyed). is_customer_of home c.0) (λ c. has_last last c.1) (map.entries customers)

-- the customers that a content has
abbrev customers_of : Content → Customers → Customers
customers_of (OfCustomers rows) other = rows
customers_of _ other = other

module _ (s t : Database) (home : DistrictKey) (alike : content s (g.Customers home.w_id home.d_id) ≡ content t (g.Customers home.w_id home.d_id)) where
  same_rows : rows_of group_of_customer (g.Customers home.w_id home.d_id) s.customers ≡ rows_of group_of_customer (g.Customers home.w_id home.d_id) t.customers
  same_rows = ap (λ c. customers_of c s.customers) alike

  pub same_chosen : (choice : Choice) → chosen s.customers home choice ≡ chosen t.customers home choice
  same_chosen (Number n) =
      let row = same_row s t s.customers t.customers group_of_customer customer_in (each_row_stands_in_one_group s).customers (each_row_stands_in_one_group t).customers (customer_key home n) alike in
      rw row refl
  same_chosen (LastName last) =
      ap middle (sym (of_group s.customers home last) ∙ ap (λ rows. namesakes rows home last) same_rows ∙ of_group t.customers home last)
