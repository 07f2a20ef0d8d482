-- The rows that the requests of a terminal name, and that the check accepts them.
use Rattle.std.specs.Prelude.{◌≡◌, ℕ, ◌+◌, ◌<◌, false, List, [], ◌∷◌, IsTrue, All, min}
use Rattle.std.specs.Prelude.{◌⊎◌}
use Rattle.rows.specs.LastName.{last_name_of}
use Rattle.rows.specs.Ranged.{is_between}
use Rattle.schema.specs.declared.scale.Scale.{Scale}
use Rattle.schema.specs.Scale.{has_item}
use Rattle.requests.specs.Check.{IsAccepted}
use Rattle.requests.specs.TerminalRequest.{requests_of}
use Rattle.requests.specs.declared.terminal_request.TerminalRequest.{TerminalRequest}
use Rattle.requests.specs.declared.terminal_request.TerminalRequest.TheVariants.{NewOrder, Payment, OrderStatus, Delivery, StockLevel}
use Rattle.requests.specs.declared.request.Choice.{Choice}
use Rattle.requests.specs.declared.request.Choice.TheVariants.{Number, LastName}
use Rattle.requests.specs.declared.new_order.OrderedLine.{OrderedLine}
use Rattle.workload.specs.declared.terminal.Terminal.{Terminal}

-- the check accepts each request that a terminal's request is carried out as
abbrev pub AreAccepted : Scale → TerminalRequest → Type 0
AreAccepted scale asked = All (IsAccepted scale) (requests_of asked)

-- a customer that every district has: by number, or by a last name of the populated customers
abbrev pub IsCustomer : Scale → Choice → Type 0
IsCustomer scale (Number c_id) = IsTrue (is_between 1 scale.customers c_id)
IsCustomer scale (LastName name) = (number : ℕ) × (number < min scale.customers 1000) × (name ≡ last_name_of number)

-- all lines but the last name items that exist; the last one too, or else the number after the last item
unfoldable pub NameItems : Scale → List OrderedLine → Type 0
NameItems scale [] = ⊥
NameItems scale (line ∷ []) = IsTrue (has_item scale line.i_id) ⊎ (line.i_id ≡ scale.items + 1)
NameItems scale (line ∷ next ∷ lines) = IsTrue (has_item scale line.i_id) × NameItems scale (next ∷ lines)

-- if no other warehouses take part, the warehouse is the home one
abbrev pub IsNear : Terminal → ℕ → Type 0
IsNear terminal w_id = terminal.remote ≡ false → w_id ≡ terminal.home.w_id

-- A request is made in the terminal's warehouse. Its customers exist, and its items exist, except that the last line
-- may name a missing item. Other warehouses occur only if they take part.
abbrev pub IsWithin : Terminal → TerminalRequest → Type 0
IsWithin terminal (NewOrder order) =
    (order.home.w_id ≡ terminal.home.w_id) × IsTrue (is_between 1 terminal.scale.customers order.c_id)
    × NameItems terminal.scale order.lines × All (λ line. IsNear terminal line.supply_w_id) order.lines
IsWithin terminal (Payment payment) =
    (payment.home.w_id ≡ terminal.home.w_id) × IsCustomer terminal.scale payment.customer × IsNear terminal payment.customer_home.w_id
IsWithin terminal (OrderStatus asked) = (asked.home.w_id ≡ terminal.home.w_id) × IsCustomer terminal.scale asked.customer
IsWithin terminal (Delivery delivery) = delivery.w_id ≡ terminal.home.w_id
IsWithin terminal (StockLevel asked) = asked.home ≡ terminal.home
