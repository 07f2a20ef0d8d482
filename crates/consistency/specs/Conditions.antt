-- The twelve conditions by their numbers, and the answers for them.
use Rattle.std.specs.Prelude.{◌↔◌, Bool, List, [], ◌∷◌, IsTrue}
use Rattle.schema.specs.Database.{Database}
use Rattle.schema.specs.Consistency.{WarehousesSumDistricts, NextOrdersFollow, NewOrdersHaveNoGap, DistrictsCountLines, NewOrdersHaveNoCarrier, OrdersCountLines, LinesComeWithOrders, WarehousesSumPayments, DistrictsSumPayments, BalancesAreOwed, OrdersAreFresh, BalancesArePaid}

-- condition n is at index n - 1 (clauses 3.3.2.1 to 3.3.2.12)
abbrev pub conditions : List (Database → Type 0)
conditions =
    WarehousesSumDistricts ∷ NextOrdersFollow ∷ NewOrdersHaveNoGap ∷ DistrictsCountLines
    ∷ NewOrdersHaveNoCarrier ∷ OrdersCountLines ∷ LinesComeWithOrders ∷ WarehousesSumPayments
    ∷ DistrictsSumPayments ∷ BalancesAreOwed ∷ OrdersAreFresh ∷ BalancesArePaid ∷ []

-- there is one answer for each condition, and it is true exactly if the condition holds
abbrev pub Report : List (Database → Type 0) → Database → List Bool → Type 0
Report [] t [] = Unit
Report (condition ∷ others) t (answer ∷ answers) = (IsTrue answer ↔ condition t) × Report others t answers
Report _ t _ = ⊥

-- there is an answer for each of the twelve conditions, true exactly if the condition holds
abbrev pub AreExact : Database → List Bool → Type 0
AreExact t answers = Report conditions t answers
