-- The groups that New-Order claims.
use Rattle.std.specs.Prelude.{not, List, [], ◌∷◌, ◌++◌, map}
use Rattle.std.specs.List.{filter}
use Rattle.requests.specs.declared.group.Group.{Group}
use Rattle.requests.specs.declared.group.Group.TheVariants.{Warehouse, District, Customers, Orders}
use Rattle.requests.specs.declared.new_order.NewOrder.{NewOrder}
use Rattle.requests.specs.declared.new_order.OrderedLine.{OrderedLine}
use Rattle.groups.specs.Groups.{group_of_stock, is_same}
use Rattle.groups.specs.declared.group_wants.GroupWant.{GroupWant}
use Rattle.groups.specs.Modes.{exclusively, shared}

-- the group of the row of STOCK that supplies a line
abbrev pub group_of_supply : OrderedLine → Group
group_of_supply line = group_of_stock (record { w_id = line.supply_w_id; i_id = line.i_id })

-- each group once, at its first place
abbrev pub firsts : List Group → List Group
firsts [] = []
firsts (group ∷ groups) = group ∷ filter (λ other. not (is_same group other)) (firsts groups)

-- the groups of stock that supply these lines, in the order of the first line of each
abbrev pub supplies_of : List OrderedLine → List Group
supplies_of lines = firsts (map group_of_supply lines)

-- New-Order reads the home warehouse's row and the customer's, and changes the home district's, the stock that supplies its
-- lines, and the orders of the district (clause 2.4.2.2).
abbrev pub new_order_footprint : NewOrder → List GroupWant
new_order_footprint n =
    shared (Warehouse n.home.w_id)
    ∷ exclusively (District n.home.w_id n.home.d_id)
    ∷ shared (Customers n.home.w_id n.home.d_id)
    ∷ (map exclusively (supplies_of n.lines) ++ exclusively (Orders n.home.w_id n.home.d_id) ∷ [])
