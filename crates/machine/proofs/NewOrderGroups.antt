-- A New-Order reads and changes what its own groups have, and nothing else.
use Rattle.std.proofs.Common.{◌≡◌, ◌≢◌, not, true, cond, List, [], ◌∷◌, ◌++◌, map, filter, Option, Some, None, refl, sym, ap, subst, ◌∙◌}
use Rattle.std.specs.List.{All, AllByRecursion}
use Rattle.std.specs.Option.{option_map, option_and_then}
use Rattle.std.proofs.lemmas.List.Elements.{All-weaker, recursion_from_All}
use Rattle.std.specs.FinMap as table
use Rattle.rows.specs.declared.records.Item.{Item}
use Rattle.rows.specs.declared.records.Warehouse.{Warehouse}
use Rattle.rows.specs.declared.records.District.{District}
use Rattle.rows.specs.declared.records.Stock.{Stock}
use Rattle.rows.specs.declared.records.Customer.{Customer}
use Rattle.schema.specs.Scale.{customer_key}
use Rattle.schema.specs.Database.{Database}
use Rattle.requests.specs.declared.group.Group.{Group}
use Rattle.requests.specs.declared.group.Group.TheVariants as g
use Rattle.requests.specs.declared.new_order.NewOrder.{NewOrder}
use Rattle.requests.specs.declared.new_order.OrderedLine.{OrderedLine}
use Rattle.groups.specs.declared.group_wants.GroupWant.{GroupWant}
use Rattle.groups.specs.Groups.{group_of_warehouse, group_of_district, group_of_customer, group_of_stock, is_same}
use Rattle.groups.specs.Content.{content}
use Rattle.groups.specs.Modes.{exclusively}
use Rattle.groups.specs.Footprint.{groups_of}
use Rattle.groups.specs.NewOrder.{firsts, group_of_supply, new_order_footprint, supplies_of}
use Rattle.groups.specs.Laws.{warehouse_in, district_in, customer_in, stock_in}
use Rattle.groups.proofs.SameGroups.{groups_total, groups_exact, is_same-itself, is_same-other}
use Rattle.groups.proofs.RowsInGroups.{each_row_stands_in_one_group, same_row}
use Rattle.machine.specs.Outcome.{Outcome}
use Rattle.machine.specs.NewOrder.{all_there, district_ordered, items_found, line_rows, new_order, ordered, placed_of, placed_within, found_rows, stock_key_of, stock_taken, supplies, supply, taken_from}
use Rattle.machine.specs.NewOrderLaws.{NewOrderReadsItsGroups, NewOrderKeepsOtherGroups}
use Rattle.machine.proofs.RowsChanged.{same_or_other}
use Rattle.machine.proofs.NewOrderCases.{new_order-cases}
use Rattle.machine.proofs.NewOrderContents.{placed_alike, placed_keeps}

-- ---- the groups that a New-Order claims

module _ (P : Group → Type 0) where
  -- what holds of a group and of all that are not the same holds of all
  of_others : (group : Group) (others : List Group) → P group → AllByRecursion P (filter (λ other. not (is_same group other)) others) → AllByRecursion P others
  of_others group [] here each = tt
  of_others group (other ∷ others) here each =
      let rest = filter (λ other. not (is_same group other)) others in
      same_or_other groups_total groups_exact other group
      (λ same tied.
      let own : is_same group other ≡ true = ap (is_same group) same ∙ is_same-itself group in
      (subst P (sym same) here, of_others group others here (subst (λ b. AllByRecursion P (cond (not b) (other ∷ rest) rest)) own each)))
      (λ apart fails.
      let both : AllByRecursion P (other ∷ rest) = subst (λ b. AllByRecursion P (cond (not b) (other ∷ rest) rest)) (is_same-other group other apart) each in
      (both.0, of_others group others here both.1))

  -- a property of each group where it first occurs is a property of each group
  of_firsts : (groups : List Group) → AllByRecursion P (firsts groups) → AllByRecursion P groups
  of_firsts [] each = tt
  of_firsts (group ∷ groups) each = (each.0, of_firsts groups (of_others group (firsts groups) each.0 each.1))

  of_group_wants : (groups : List Group) (group_wants : List GroupWant) → AllByRecursion P (groups_of (map exclusively groups ++ group_wants)) → AllByRecursion P groups × AllByRecursion P (groups_of group_wants)
  of_group_wants [] group_wants each = (tt, each)
  of_group_wants (group ∷ groups) group_wants each = let rest = of_group_wants groups group_wants each.1 in ((each.0, rest.0), rest.1)

  record OfClaims (n : NewOrder) : Type 0 where
    warehouse : P (group_of_warehouse n.home.w_id)
    district : P (group_of_district n.home)
    customers : P (g.Customers n.home.w_id n.home.d_id)
    supplies : AllByRecursion P (map group_of_supply n.lines)
    orders : P (g.Orders n.home.w_id n.home.d_id)

  of_claims : (n : NewOrder) → All P (groups_of (new_order_footprint n)) → OfClaims n
  of_claims n all =
      let each = recursion_from_All P (groups_of (new_order_footprint n)) all in
      let others = of_group_wants (supplies_of n.lines) (exclusively (g.Orders n.home.w_id n.home.d_id) ∷ []) each.1.1.1 in
      record {
        warehouse = each.0;
        district = each.1.0;
        customers = each.1.1.0;
        supplies = of_firsts (map group_of_supply n.lines) others.0;
        orders = others.1.0;
      }

-- ---- two tables that have the same in these groups

module _ (s t : Database) (n : NewOrder) where
  abbrev IsAlike : Group → Type 0
  IsAlike group = content s group ≡ content t group

  -- the replies are the same, and each group in which the tables had the same
  EndAlike : Outcome → Outcome → Type 0
  EndAlike a b = (a.reply ≡ b.reply) × ((group : Group) → content s group ≡ content t group → content a.tables group ≡ content b.tables group)

  same_supply : (line : OrderedLine) → IsAlike (group_of_supply line) → supply s n line ≡ supply t n line
  same_supply line alike =
      ap (option_and_then (λ row. option_map (λ new_row. row) (stock_taken n.home.w_id row (taken_from (stock_key_of line) n.lines))))
      (same_row s t s.stocks t.stocks group_of_stock stock_in (each_row_stands_in_one_group s).stocks (each_row_stands_in_one_group t).stocks (stock_key_of line) alike)

  each_supply : (lines : List OrderedLine) → AllByRecursion IsAlike (map group_of_supply lines) → map (supply s n) lines ≡ map (supply t n) lines
  each_supply [] alike = refl
  each_supply (line ∷ lines) alike =
      let first = same_supply line alike.0 in
      let rest = each_supply lines alike.1 in
      λ i. first i ∷ rest i

  module _ (items : s.items ≡ t.items) (alike : OfClaims IsAlike n) where
    same_supplies : supplies s n ≡ supplies t n
    same_supplies = ap (λ found. all_there found) (each_supply n.lines alike.supplies)

    same_items : items_found s n.lines ≡ items_found t n.lines
    same_items = ap (λ rows. all_there (map (λ (line : OrderedLine). table.get rows line.i_id) n.lines)) items

    alike_within : (w : Warehouse) (d : District) (c : Customer) (found : List Item) (new_d : Option District) (stocks : Option (List Stock))
        → EndAlike (placed_within s n (found_rows w d c found) new_d stocks) (placed_within t n (found_rows w d c found) new_d stocks)
    unfolding EndAlike
    alike_within w d c found (Some new_d) (Some stocks) = (refl, placed_alike n d.next_o_id new_d (line_rows n.home n.lines found stocks) s t)
    alike_within w d c found None stocks = (refl, λ group same. same)
    alike_within w d c found (Some new_d) None = (refl, λ group same. same)

    alike_placed : (w : Warehouse) (d : District) (c : Customer) (found : Option (List Item)) → EndAlike (placed_of s n w d c found) (placed_of t n w d c found)
    unfolding EndAlike
    alike_placed w d c (Some found) = rw same_supplies (alike_within w d c found (district_ordered d) (supplies t n))
    alike_placed w d c None = (refl, λ group same. same)

    alike_ordered : (w : Option Warehouse) (d : Option District) (c : Option Customer) → EndAlike (ordered s n w d c) (ordered t n w d c)
    unfolding EndAlike
    alike_ordered (Some w) (Some d) (Some c) = rw same_items (alike_placed w d c (items_found t n.lines))
    alike_ordered None d c = (refl, λ group same. same)
    alike_ordered (Some w) None c = (refl, λ group same. same)
    alike_ordered (Some w) (Some d) None = (refl, λ group same. same)

    alike_new_orders : EndAlike (new_order s n) (new_order t n)
    alike_new_orders =
        let s_stand = each_row_stands_in_one_group s in
        let t_stand = each_row_stands_in_one_group t in
        let same_w = same_row s t s.warehouses t.warehouses group_of_warehouse warehouse_in s_stand.warehouses t_stand.warehouses n.home.w_id alike.warehouse in
        let same_d = same_row s t s.districts t.districts group_of_district district_in s_stand.districts t_stand.districts n.home alike.district in
        let same_c = same_row s t s.customers t.customers group_of_customer customer_in s_stand.customers t_stand.customers (customer_key n.home n.c_id) alike.customers in
        rw (same_w, same_d, same_c) (alike_ordered (table.get t.warehouses n.home.w_id) (table.get t.districts n.home) (table.get t.customers (customer_key n.home n.c_id)))

pub new_order_reads_its_groups : NewOrderReadsItsGroups
unfolding EndAlike
new_order_reads_its_groups s t n items alike =
    let ends = alike_new_orders s t n items (of_claims (λ group. content s group ≡ content t group) n alike) in (
      ends.0,
      All-weaker (λ group. content s group ≡ content t group) (λ group. content (new_order s n).tables group ≡ content (new_order t n).tables group) ends.1
          (groups_of (new_order_footprint n)) alike,
    )

pub new_order_keeps_other_groups : NewOrderKeepsOtherGroups
new_order_keeps_other_groups t n group none =
    let none_of = of_claims (λ own. group ≢ own) n none in
    new_order-cases t n (λ o. content o.tables group ≡ content t group) (λ fault. refl)
    (λ w d new_d c items stocks w_is d_is c_is items_are d_made stocks_are.
    placed_keeps n d.next_o_id new_d (line_rows n.home n.lines items stocks) t group none_of.district none_of.orders none_of.supplies)
