-- The groups that an accepted New-Order or Stock-Level claims are there.
use Rattle.std.proofs.Common.{◌≡◌, ◌≤◌, ◌<◌, ◌+◌, ◌%◌, ℕ, zero, suc, true, List, [], ◌∷◌, ◌++◌, map, arith}
use Rattle.std.specs.Prelude.{All, not}
use Rattle.std.specs.List.{filter, list_all, range_with_len}
use Rattle.std.proofs.lemmas.Bool.{and_parts, not-false}
use Rattle.std.proofs.lemmas.List.Elements.{All-nil, All-cons, All-head, All-tail, All-filter}
use Rattle.rows.specs.declared.limits.TheConstants.{STOCK_GROUPS}
use Rattle.schema.specs.declared.scale.Scale.{Scale}
use Rattle.schema.specs.Scale.{has_warehouse}
use Rattle.requests.specs.declared.group.Group.{Group}
use Rattle.requests.specs.declared.group.Group.TheVariants.{Warehouse, District, Customers, Orders, Stock}
use Rattle.requests.specs.declared.request.Request.TheVariants as request
use Rattle.requests.specs.declared.new_order.NewOrder.{NewOrder}
use Rattle.requests.specs.declared.new_order.OrderedLine.{OrderedLine}
use Rattle.requests.specs.declared.stock_level.StockLevel.{StockLevel}
use Rattle.requests.specs.declared.refusal.Refusal.TheVariants.{BadWarehouse, BadDistrict, BadLines, BadQuantity, BadSupply, BadAmount, BadThreshold, BadCarrier}
use Rattle.requests.specs.Check.{applies, IsAccepted}
use Rattle.groups.specs.declared.group_wants.GroupWant.{GroupWant}
use Rattle.groups.specs.Footprint.{exclusively, shared, groups_of, new_order_footprint, stock_level_footprint}
use Rattle.groups.specs.Groups.{is_same}
use Rattle.groups.specs.NewOrder.{group_of_supply, firsts, supplies_of}
use Rattle.tickets.specs.Places.{IsGroupOf}
use Rattle.transactions.proofs.InScale.{between, not_first}

-- ---- of lists of wants

-- wants for numbers from one to another
all_from : (P : Group → Type 0) (make : ℕ → GroupWant) (low high : ℕ) → ((number : ℕ) → low ≤ number → number < high → P (make number).group)
    → (from count : ℕ) → low ≤ from → from + count ≤ high → All P (groups_of (map make (range_with_len from count)))
all_from P make low high each from zero above below = All-nil P
all_from P make low high each from (suc count) above below =
    All-cons P (make from).group (groups_of (map make (range_with_len (from + 1) count)))
    (each from above (omega arith)) (all_from P make low high each (from + 1) count (omega arith) (omega arith))

all_after : (P : Group → Type 0) (first second : List GroupWant) → All P (groups_of first) → All P (groups_of second) → All P (groups_of (first ++ second))
all_after P [] second of_first of_second = of_second
all_after P (group_want ∷ first) second of_first of_second =
    All-cons P group_want.group (groups_of (first ++ second)) (All-head P group_want.group (groups_of first) of_first)
    (all_after P first second (All-tail P group_want.group (groups_of first) of_first) of_second)

all_exclusively : (P : Group → Type 0) (groups : List Group) → All P groups → All P (groups_of (map exclusively groups))
all_exclusively P [] all = All-nil P
all_exclusively P (group ∷ groups) all =
    All-cons P group (groups_of (map exclusively groups)) (All-head P group groups all) (all_exclusively P groups (All-tail P group groups all))

all_firsts : (P : Group → Type 0) (groups : List Group) → All P groups → All P (firsts groups)
all_firsts P [] all = All-nil P
all_firsts P (group ∷ groups) all =
    All-cons P group (filter (λ other. not (is_same group other)) (firsts groups)) (All-head P group groups all)
    (All-filter (λ other. not (is_same group other)) P (firsts groups) (all_firsts P groups (All-tail P group groups all)))

-- ---- New-Order

pub all_supplies : (scale : Scale) (lines : List OrderedLine) → list_all (λ (line : OrderedLine). has_warehouse scale line.supply_w_id) lines ≡ true
    → All (IsGroupOf scale.warehouses) (map group_of_supply lines)
all_supplies scale [] is = All-nil (IsGroupOf scale.warehouses)
all_supplies scale (line ∷ lines) is =
    let parts = and_parts (has_warehouse scale line.supply_w_id) (list_all (λ (l : OrderedLine). has_warehouse scale l.supply_w_id) lines) is in
    let below : line.i_id % STOCK_GROUPS < STOCK_GROUPS = omega arith in
    All-cons (IsGroupOf scale.warehouses) (group_of_supply line) (map group_of_supply lines)
    (between 1 scale.warehouses line.supply_w_id parts.0, below) (all_supplies scale lines parts.1)

pub order_groups_there : (scale : Scale) (n : NewOrder) → IsAccepted scale (request.NewOrder n) → All (IsGroupOf scale.warehouses) (groups_of (new_order_footprint n))
order_groups_there scale n accepted =
    let P = IsGroupOf scale.warehouses in
    let test = applies scale (request.NewOrder n) in
    let first = not_first test BadWarehouse (BadDistrict ∷ BadLines ∷ BadQuantity ∷ BadSupply ∷ BadAmount ∷ BadThreshold ∷ BadCarrier ∷ []) accepted in
    let second = not_first test BadDistrict (BadLines ∷ BadQuantity ∷ BadSupply ∷ BadAmount ∷ BadThreshold ∷ BadCarrier ∷ []) first.1 in
    let third = not_first test BadLines (BadQuantity ∷ BadSupply ∷ BadAmount ∷ BadThreshold ∷ BadCarrier ∷ []) second.1 in
    let fourth = not_first test BadQuantity (BadSupply ∷ BadAmount ∷ BadThreshold ∷ BadCarrier ∷ []) third.1 in
    let fifth = not_first test BadSupply (BadAmount ∷ BadThreshold ∷ BadCarrier ∷ []) fourth.1 in
    let warehouse = between 1 scale.warehouses n.home.w_id (not-false _ first.0) in
    let district = between 1 10 n.home.d_id (not-false _ second.0) in
    let supplies = all_exclusively P (supplies_of n.lines) (all_firsts P (map group_of_supply n.lines) (all_supplies scale n.lines (not-false _ fifth.0))) in
    let orders : All P (groups_of (exclusively (Orders n.home.w_id n.home.d_id) ∷ [])) =
    All-cons P (Orders n.home.w_id n.home.d_id) [] (warehouse, district) (All-nil P) in
    let rest = all_after P (map exclusively (supplies_of n.lines)) (exclusively (Orders n.home.w_id n.home.d_id) ∷ []) supplies orders in
    let others = groups_of (map exclusively (supplies_of n.lines) ++ exclusively (Orders n.home.w_id n.home.d_id) ∷ []) in
    let own_district = District n.home.w_id n.home.d_id in
    let own_customers = Customers n.home.w_id n.home.d_id in
    All-cons P (Warehouse n.home.w_id) (own_district ∷ own_customers ∷ others) warehouse
    (All-cons P own_district (own_customers ∷ others) (warehouse, district) (All-cons P own_customers others (warehouse, district) rest))

-- ---- Stock-Level

pub level_groups_there : (scale : Scale) (s : StockLevel) → IsAccepted scale (request.StockLevel s) → All (IsGroupOf scale.warehouses) (groups_of (stock_level_footprint s))
level_groups_there scale s accepted =
    let P = IsGroupOf scale.warehouses in
    let test = applies scale (request.StockLevel s) in
    let first = not_first test BadWarehouse (BadDistrict ∷ BadLines ∷ BadQuantity ∷ BadSupply ∷ BadAmount ∷ BadThreshold ∷ BadCarrier ∷ []) accepted in
    let second = not_first test BadDistrict (BadLines ∷ BadQuantity ∷ BadSupply ∷ BadAmount ∷ BadThreshold ∷ BadCarrier ∷ []) first.1 in
    let warehouse = between 1 scale.warehouses s.home.w_id (not-false _ first.0) in
    let district = between 1 10 s.home.d_id (not-false _ second.0) in
    let own_orders = Orders s.home.w_id s.home.d_id in
    let stock = groups_of (map (λ residue. shared (Stock s.home.w_id residue)) (range_with_len 0 STOCK_GROUPS)) in
    All-cons P (District s.home.w_id s.home.d_id) (own_orders ∷ stock) (warehouse, district)
    (All-cons P own_orders stock (warehouse, district)
    (all_from P (λ residue. shared (Stock s.home.w_id residue)) 0 STOCK_GROUPS (λ number low high. (warehouse, high)) 0 STOCK_GROUPS (omega arith) (omega arith)))
