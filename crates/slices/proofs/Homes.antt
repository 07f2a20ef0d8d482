-- The groups of a warehouse, in tests and in contracts.
use Rattle.std.proofs.Common.{ℕ, ◌<◌, arith}
use Rattle.requests.specs.declared.group.Group.{Group}
use Rattle.tickets.specs.Places.{IsGroupOf, place_in_warehouse}

-- a warehouse has 105 places
pub place_known : (warehouses : ℕ) (group : Group) → IsGroupOf warehouses group → place_in_warehouse group < 105
place_known warehouses group is = grind arith
