-- What a read of a warehouse's rows gives, against its part of the tables.
use Rattle.std.proofs.Common.{◌≡◌, ℕ, ◌+◌, ◌-◌, ◌*◌, true, false, cond, nat_lt, List, [], ◌∷◌, take, drop, Option, Some, None, Bor, IfSome, refl, sym, ap, ◌∙◌, arith}
use Rattle.std.specs.List.{slice_get, slice_range, PartBy}
use Rattle.std.specs.Option.{option_and_then}
use Rattle.std.specs.Cmp.{nat_cmp_total}
use Rattle.std.specs.Ordering.{nat_cmp}
use Rattle.std.specs.FinMap as map
use Rattle.std.specs.FinMap.{nat_cmp-IsAntisymmetric}
use Rattle.rows.specs.declared.keys.DistrictKey.{DistrictKey}
use Rattle.rows.specs.declared.records.Warehouse.{Warehouse}
use Rattle.rows.specs.declared.records.Customer.{Customer}
use Rattle.schema.specs.Scale.{customer_key}
use Rattle.schema.proofs.Places.{get-dense}
use Rattle.schema.proofs.KeyOrders.{customers_total, customers_exact}
use Rattle.schema.proofs.DistrictRows.{slice_get-drop, slice_get-take}
use Rattle.partitions.specs.declared.home_rows.HomeRows.{HomeRows}
use Rattle.partitions.specs.Parts.{SharedTables}
use Rattle.partitions.specs.Partitions.{customer_keys_of, part}
use Rattle.partitions.specs.Slots.{home_slot}
use Rattle.partitions.proofs.HomePlaces.{warehouse_first, customer_place}
use Rattle.partitions.proofs.HomeSlots.{customer_at}

-- the row of the warehouse
pub warehouse_read : (home : ℕ) (row : Warehouse) (q : ℕ) → q ≡ home → map.get (map.from_entries {R = nat_cmp} ((home, row) ∷ [])) q ≡ Some row
warehouse_read home row q same =
    get-dense nat_cmp_total nat_cmp-IsAntisymmetric (home ∷ []) (row ∷ []) q
    ∙ ap (option_and_then (slice_get (row ∷ []))) (warehouse_first home q same)

module _ (shared : SharedTables) (home : ℕ) (rows : HomeRows) (key : DistrictKey) (slot : ℕ) (is : home_slot home key ≡ Some slot) where
  -- the district's customers are those that the table has there
  customers_read : (customers : ℕ) → customers ≡ shared.scale.customers
      → (cut : List Customer) → cut ≡ take ((slot + 1) * customers - slot * customers) (drop (slot * customers) rows.customers.items) → (c : ℕ)
      → slice_get cut c ≡ map.get (part shared home rows).tables.customers (customer_key key (c + 1))
  customers_read customers many cut cut_is c =
      let items = rows.customers.items in
      let count = shared.scale.customers in
      let width : (slot + 1) * customers - slot * customers ≡ customers = grind arith in
      ap (λ l. slice_get l c) (cut_is ∙ ap (λ n. take n (drop (slot * customers) items)) width ∙ ap (λ n. take n (drop (slot * n) items)) many)
      ∙ slice_get-take (drop (slot * count) items) count c
      ∙ ap (λ r. cond (nat_lt c count) r None) (slice_get-drop items (slot * count) c)
      ∙ sym (get-dense customers_total customers_exact (customer_keys_of shared.scale home) items (customer_key key (c + 1))
      ∙ ap (option_and_then (slice_get items)) (customer_place shared.scale home (customer_key key (c + 1)) ∙ customer_at home count key slot c is)
      ∙ elim (nat_lt c count) as (λ b. option_and_then (slice_get items) (cond b (Some (slot * count + c)) None) ≡ cond b (slice_get items (slot * count + c)) None) [ true ↦ refl | false ↦ refl ])

  -- so what `get` gives of the table is them
  pub customers_part : (customers : ℕ) → customers ≡ shared.scale.customers → (items : List Customer) → items ≡ rows.customers.items → (r : Option (Bor (List Customer)))
      → PartBy (λ (x : Bor (List Customer)). x.now) items (slot * customers) ((slot + 1) * customers) r
      → IfSome r (λ cut. (c : ℕ) → slice_get cut.now c ≡ map.get (part shared home rows).tables.customers (customer_key key (c + 1)))
  customers_part customers many items same None h = tt
  customers_part customers many items same (Some cut) h =
      λ c. customers_read customers many cut.now (h.0.2 ∙ ap (λ l. slice_range l (slot * customers) ((slot + 1) * customers)) same) c
