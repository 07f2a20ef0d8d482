-- The customer chosen in a district (clauses 2.5.1.2, 2.5.2.2, 2.6.1.2 and 2.6.2.2).
use Rattle.std.specs.Prelude.{Option}
use Rattle.std.specs.Option.{option_map}
use Rattle.std.specs.FinMap as map
use Rattle.rows.specs.declared.keys.DistrictKey.{DistrictKey}
use Rattle.rows.specs.declared.keys.CustomerKey.{CustomerKey}
use Rattle.schema.specs.Scale.{customer_key}
use Rattle.indexes.specs.Namesakes.{Customers, Keyed, middle, namesakes}
use Rattle.requests.specs.declared.request.Choice.{Choice}
use Rattle.requests.specs.declared.request.Choice.TheVariants.{Number, LastName}

-- the customer with that key, and its row, if there is one
abbrev pub keyed_at : Customers → CustomerKey → Option Keyed
keyed_at customers key = option_map (λ row. (key, row)) (map.get customers key)

-- The chosen customer. By C_ID: the customer with that number. By C_LAST: the middle one of the customers with that
-- last name. None if there is no such customer.
abbrev pub chosen : Customers → DistrictKey → Choice → Option Keyed
chosen customers home (Number customer) = keyed_at customers (customer_key home customer)
chosen customers home (LastName last) = middle (namesakes customers home last)
