-- The changes of a slice that its calls make: what it has now, and what a claim keeps.
use Rattle.std.specs.Prelude.{◌≡◌, ℕ, List, [], ◌∷◌}
use Rattle.rows.specs.declared.keys.DistrictKey.{DistrictKey}
use Rattle.rows.specs.declared.keys.StockKey.{StockKey}
use Rattle.rows.specs.declared.keys.CustomerKey.{CustomerKey}
use Rattle.rows.specs.declared.keys.OrderKey.{OrderKey}
use Rattle.rows.specs.declared.records.Warehouse.{Warehouse}
use Rattle.rows.specs.declared.records.District.{District}
use Rattle.rows.specs.declared.records.Stock.{Stock}
use Rattle.rows.specs.declared.records.Customer.{Customer}
use Rattle.rows.specs.declared.records.History.{History}
use Rattle.rows.specs.declared.records.Order.{Order}
use Rattle.rows.specs.declared.records.OrderLine.{OrderLine}
use Rattle.schema.specs.OrderRows.{with_order, with_delivery}
use Rattle.partitions.specs.RowChanges.{with_warehouse_row, with_district_row, with_stock_row, with_customer_row, with_history_row}
use Rattle.groups.specs.Content.{Content}
use Rattle.tickets.specs.Claims.{ClaimView, leaving}
use Rattle.slices.specs.SliceView.{SliceView, SliceKeeps, with_waiters}

-- ---- what is kept

-- One claim is replaced by another. The slice keeps the committed contents, the other claims and the waiters.
abbrev pub SliceKeepsUnder : ClaimView → SliceView → ClaimView → SliceView → Type 0
SliceKeepsUnder before old after new = SliceKeeps (before ∷ []) old (after ∷ []) new

-- These claims are granted. The slice keeps the committed contents and the other claims; its waiters may change.
abbrev pub SliceKeepsGranting : List ClaimView → SliceView → SliceView → Type 0
SliceKeepsGranting granted old new = SliceKeeps [] (with_waiters new.waiters old) granted new

-- The claim leaves in its group what it left before, changed in this way.
abbrev pub ClaimLeaves : (Content → Content) → ClaimView → ClaimView → Type 0
ClaimLeaves change old new = new ≡ leaving old (change old.left)

-- ---- what changes

-- The slice has this row of WAREHOUSE now, and nothing else changed.
abbrev pub SlicePutsWarehouse : ℕ → Warehouse → SliceView → SliceView → Type 0
SlicePutsWarehouse w_id row old new = new ≡ record old { tables = with_warehouse_row old.tables w_id row }

-- The slice has this row of DISTRICT now, and nothing else changed.
abbrev pub SlicePutsDistrict : DistrictKey → District → SliceView → SliceView → Type 0
SlicePutsDistrict key row old new = new ≡ record old { tables = with_district_row old.tables key row }

-- The slice has this row of STOCK now, and nothing else changed.
abbrev pub SlicePutsStock : StockKey → Stock → SliceView → SliceView → Type 0
SlicePutsStock key row old new = new ≡ record old { tables = with_stock_row old.tables key row }

-- The slice has this row of CUSTOMER now, and nothing else changed.
abbrev pub SlicePutsCustomer : CustomerKey → Customer → SliceView → SliceView → Type 0
SlicePutsCustomer key row old new = new ≡ record old { tables = with_customer_row old.tables key row }

-- The district's list has this payment at its end now, and nothing else changed.
abbrev pub SliceAddsPayment : DistrictKey → History → SliceView → SliceView → Type 0
SliceAddsPayment key row old new = new ≡ record old { tables = with_history_row old.tables key row }

-- The slice has this new order now, with its row of NEW-ORDER and its lines, and nothing else changed.
abbrev pub SliceAddsOrder : OrderKey → Order → List OrderLine → SliceView → SliceView → Type 0
SliceAddsOrder key order lines old new = new ≡ record old { tables = with_order old.tables key order lines }

-- The order is delivered now, and nothing else changed.
abbrev pub SliceDeliversOrder : OrderKey → ℕ → ℕ → SliceView → SliceView → Type 0
SliceDeliversOrder key carrier moment old new = new ≡ record old { tables = with_delivery old.tables key carrier moment }
