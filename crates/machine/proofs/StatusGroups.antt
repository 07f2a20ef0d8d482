-- Order-Status reads what its own groups have, and changes nothing.
use Rattle.std.proofs.Common.{◌≡◌, ℕ, ◌==◌, Bool, true, false, cond, ◌&&◌, List, [], ◌∷◌, filter, map, Option, Some, None, refl, sym, ap, ◌∙◌}
use Rattle.std.specs.Option.{option_map, option_and_then}
use Rattle.std.proofs.lemmas.List.Elements.{recursion_from_All}
use Rattle.std.specs.FinMap as table
use Rattle.rows.specs.Keys.{line_cmp}
use Rattle.rows.specs.declared.keys.DistrictKey.{DistrictKey}
use Rattle.rows.specs.declared.keys.OrderKey.{OrderKey}
use Rattle.rows.specs.declared.keys.OrderLineKey.{OrderLineKey}
use Rattle.rows.specs.declared.records.Order.{Order}
use Rattle.rows.specs.declared.records.OrderLine.{OrderLine}
use Rattle.schema.specs.Scale.{customer_key}
use Rattle.schema.specs.Database.{Database, is_of_order}
use Rattle.schema.specs.Consistency.{numbers}
use Rattle.schema.proofs.KeyOrders.{orders_total, orders_exact, lines_total, lines_exact}
use Rattle.requests.specs.declared.reply.Reply.TheVariants.{Done}
use Rattle.requests.specs.declared.reply.Shown.TheVariants.{OrderStatus as StatusShown}
use Rattle.requests.specs.declared.group.Group.{Group}
use Rattle.requests.specs.declared.group.Group.TheVariants as g
use Rattle.groups.specs.Groups.{group_of_order, group_of_line, is_same}
use Rattle.groups.specs.Content.{Content, content, rows_of}
use Rattle.groups.specs.Content.Content.{OfOrders}
use Rattle.groups.specs.OrderStatus.{order_status_footprint}
use Rattle.groups.specs.Footprint.{groups_of}
use Rattle.groups.specs.Laws.{order_in}
use Rattle.groups.proofs.Parts.{entries-where}
use Rattle.groups.proofs.RowsInGroups.{each_row_stands_in_one_group, same_row}
use Rattle.indexes.specs.Namesakes.{Keyed}
use Rattle.indexes.specs.LatestOrder.{Orders, is_order_by, largest, latest, order_numbers}
use Rattle.machine.specs.Chosen.{chosen}
use Rattle.machine.specs.OrderStatus.{key_of_order, latest_shown, lines_shown, order_shown, status_line, status_order, status_reply, status_recorded}
use Rattle.machine.specs.OrderStatusLaws.{StatusKeepsTables, StatusReadsItsGroups}
use Rattle.machine.proofs.ChosenRows.{chosen_there}
use Rattle.machine.proofs.SameChosen.{same_chosen}

-- ---- no table changes

recorded_keeps : (t : Database) (c : Option Keyed) → (status_recorded t c).tables ≡ t
recorded_keeps t (Some c) = refl
recorded_keeps t None = refl

pub status_keeps_tables : StatusKeepsTables
status_keeps_tables t o = recorded_keeps t (chosen t.customers o.home o.customer)

-- ---- what a filter leaves of a part that has all that passes

filter-within : {X : Type 0} (p q : X → Bool) → ((x : X) → q x ≡ true → p x ≡ true) → (xs : List X) → filter q (filter p xs) ≡ filter q xs
filter-within p q inside [] = refl
filter-within p q inside (x ∷ xs) =
    elim (p x) as (λ b. p x ≡ b → filter q (cond b (x ∷ filter p xs) (filter p xs)) ≡ cond (q x) (x ∷ filter q xs) (filter q xs)) [
      | true ↦ λ e. ap (λ l. cond (q x) (x ∷ l) l) (filter-within p q inside xs)
      | false ↦ λ e.
          filter-within p q inside xs
          ∙ elim (q x) as (λ b. q x ≡ b → filter q xs ≡ cond b (x ∷ filter q xs) (filter q xs)) [
            | true ↦ λ passes. let too = inside x passes in absurd cc
            | false ↦ λ fails. refl
          ] refl
    ] refl

both : (a b c : Bool) → (a && (b && c)) ≡ true → (a && b) ≡ true
both true true c h = refl
both true false c h = absurd cc
both false b c h = absurd cc

-- ---- the rows that a district's orders have

abbrev Lines : Type 0
Lines = table.FinMap line_cmp OrderLine

abbrev orders_of_content : Content → Orders → Orders
orders_of_content (OfOrders orders new_orders lines) other = orders
orders_of_content _ other = other

abbrev lines_of_content : Content → Lines → Lines
lines_of_content (OfOrders orders new_orders lines) other = lines
lines_of_content _ other = other

module _ (home : DistrictKey) where
  abbrev own : Group
  own = g.Orders home.w_id home.d_id

  numbers_of_group : (orders : Orders) (c_id : ℕ) → order_numbers (rows_of group_of_order own orders) (customer_key home c_id) ≡ order_numbers orders (customer_key home c_id)
  numbers_of_group orders c_id =
      let test = λ (key : OrderKey). is_same (group_of_order key) own in
      ap (λ es. numbers (filter (is_order_by (customer_key home c_id)) es)) (entries-where orders_total orders_exact orders test)
      ∙ ap numbers (filter-within (λ (e : OrderKey × Order). test e.0) (is_order_by (customer_key home c_id))
      (λ e passes. both (e.0.w_id == home.w_id) (e.0.d_id == home.d_id) (e.1.c_id == c_id) passes) (table.entries orders))

  lines_of_group : (lines : Lines) (o_id : ℕ)
      → filter (λ (e : OrderLineKey × OrderLine). is_of_order (key_of_order (customer_key home 0) o_id) e.0) (table.entries (rows_of group_of_line own lines))
      ≡ filter (λ e. is_of_order (key_of_order (customer_key home 0) o_id) e.0) (table.entries lines)
  lines_of_group lines o_id =
      let test = λ (key : OrderLineKey). is_same (group_of_line key) own in
      let of = λ (e : OrderLineKey × OrderLine). is_of_order (key_of_order (customer_key home 0) o_id) e.0 in
      ap (filter of) (entries-where lines_total lines_exact lines test)
      ∙ filter-within (λ (e : OrderLineKey × OrderLine). test e.0) of (λ e passes. both (e.0.w_id == home.w_id) (e.0.d_id == home.d_id) (e.0.o_id == o_id) passes) (table.entries lines)

  module _ (s t : Database) (alike : content s own ≡ content t own) where
    same_latest : (c_id : ℕ) → latest s.orders (customer_key home c_id) ≡ latest t.orders (customer_key home c_id)
    same_latest c_id =
        ap largest (sym (numbers_of_group s.orders c_id)
        ∙ ap (λ rows. order_numbers (orders_of_content rows s.orders) (customer_key home c_id)) alike
        ∙ numbers_of_group t.orders c_id)

    same_lines : (c_id o_id : ℕ) → lines_shown s (key_of_order (customer_key home c_id) o_id) ≡ lines_shown t (key_of_order (customer_key home c_id) o_id)
    same_lines c_id o_id =
        ap (map (λ (e : OrderLineKey × OrderLine). status_line e.1))
        (sym (lines_of_group s.lines o_id)
        ∙ ap (λ rows. filter (λ (e : OrderLineKey × OrderLine). is_of_order (key_of_order (customer_key home 0) o_id) e.0) (table.entries (lines_of_content rows s.lines))) alike
        ∙ lines_of_group t.lines o_id)

    pub same_shown : (c_id : ℕ) → latest_shown s (customer_key home c_id) ≡ latest_shown t (customer_key home c_id)
    same_shown c_id =
        ap (option_and_then (order_shown s (customer_key home c_id))) (same_latest c_id)
        ∙ each (latest t.orders (customer_key home c_id))
      where
        each : (o_id : Option ℕ) → option_and_then (order_shown s (customer_key home c_id)) o_id ≡ option_and_then (order_shown t (customer_key home c_id)) o_id
        each None = refl
        each (Some o_id) =
            let key = key_of_order (customer_key home c_id) o_id in
            ap (λ lines. option_map (λ row. status_order o_id row lines) (table.get s.orders key)) (same_lines c_id o_id)
            ∙ ap (option_map (λ row. status_order o_id row (lines_shown t key)))
            (same_row s t s.orders t.orders group_of_order order_in (each_row_stands_in_one_group s).orders (each_row_stands_in_one_group t).orders key alike)

    same_recorded : (c : Option Keyed) → ((found : Keyed) → c ≡ Some found → found.0 ≡ customer_key home found.0.c_id) → (status_recorded s c).reply ≡ (status_recorded t c).reply
    same_recorded None of_home = refl
    same_recorded (Some c) of_home =
        let is = of_home c refl in
        let shown : latest_shown s c.0 ≡ latest_shown t c.0 = ap (latest_shown s) is ∙ same_shown c.0.c_id ∙ ap (latest_shown t) (sym is) in
        ap (λ order. Done (StatusShown (status_reply c.0 c.1 order))) shown

pub status_reads_its_groups : StatusReadsItsGroups
status_reads_its_groups s t o alike =
    let each = recursion_from_All (λ group. content s group ≡ content t group) (groups_of (order_status_footprint o)) alike in
    ap (λ c. (status_recorded s c).reply) (same_chosen s t o.home each.0 o.customer)
    ∙ same_recorded o.home s t each.1.0 (chosen t.customers o.home o.customer) (λ found is. (chosen_there t.customers o.home o.customer found is).1)
