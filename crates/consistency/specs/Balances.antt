-- Totals of all customers, in the order of the customers' keys.
use Rattle.std.specs.Prelude.{◌≡◌, ℕ, ◌+◌, ◌<◌, ℤ, ◌+ℤ◌, Bool, ◌&&◌, ◌==◌, List, length, slice_get, Option, Some, None, is_some, if◌then◌else◌}
use Rattle.std.specs.List.{filter}
use Rattle.std.specs.Option.{option_map}
use Rattle.rows.specs.declared.keys.CustomerKey.{CustomerKey}
use Rattle.rows.specs.declared.keys.OrderLineKey.{OrderLineKey}
use Rattle.rows.specs.declared.records.History.{History}
use Rattle.rows.specs.declared.records.Order.{Order}
use Rattle.rows.specs.declared.records.OrderLine.{OrderLine}
use Rattle.rows.specs.Keys.{order_of_line}
use Rattle.schema.specs.declared.scale.Scale.{Scale}
use Rattle.schema.specs.Scale.{customer_slot}
use Rattle.schema.specs.Database.{customer_of_order}
use Rattle.schema.specs.Consistency.{amounts_of, is_payer}
use Rattle.consistency.specs.Totals.{IsWithin}

-- the total of each customer is at the customer's slot
abbrev pub AreTotals : Scale → (CustomerKey → ℤ) → List ℤ → Type 0
AreTotals scale total totals = (key : CustomerKey) (slot : ℕ) → customer_slot scale key ≡ Some slot → slice_get totals slot ≡ Some (total key)

-- there is an element for the total of each customer
abbrev pub HasRoom : Scale → List ℤ → Type 0
HasRoom scale totals = (key : CustomerKey) (slot : ℕ) → customer_slot scale key ≡ Some slot → slot < length totals

-- every total is from -limit to limit
abbrev pub AreWithin : ℕ → List ℤ → Type 0
AreWithin limit totals = (slot : ℕ) (total : ℤ) → slice_get totals slot ≡ Some total → IsWithin limit total

-- totals from -limit to limit are at most `more` beyond it afterwards, for any limit
abbrev pub GrowsAtMost : ℕ → List ℤ → List ℤ → Type 0
GrowsAtMost more old new = (limit : ℕ) → AreWithin limit old → AreWithin (limit + more) new

-- whether the two keys are the same customer's
abbrev pub is_customer : CustomerKey → CustomerKey → Bool
is_customer key other = (other.w_id == key.w_id) && ((other.d_id == key.d_id) && (other.c_id == key.c_id))

-- each customer's total, with the amount added to that of this customer
abbrev pub with_amount : CustomerKey → ℤ → (CustomerKey → ℤ) → CustomerKey → ℤ
with_amount customer amount total key = if is_customer key customer then total key +ℤ amount else total key

-- each customer's total, with the customer's payments among these added
abbrev pub with_payments : List History → (CustomerKey → ℤ) → CustomerKey → ℤ
with_payments payments total key = total key +ℤ amounts_of (filter (is_payer key) payments)

-- the customer to whom the line of the order was delivered, or None if it was not delivered
abbrev pub receiver : OrderLineKey → OrderLine → Option Order → Option CustomerKey
receiver key line order =
    if is_some line.delivery_d then option_map (λ row. customer_of_order (order_of_line key) row) order else None
