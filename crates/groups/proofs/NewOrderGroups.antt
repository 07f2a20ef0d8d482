-- The groups of an order, and what a line more adds to the wants.
use Rattle.std.proofs.Common.{◌≡◌, ℕ, ◌+◌, ◌<◌, ◌≤◌, Bool, true, false, cond, ◌||◌, List, [], ◌∷◌, ◌++◌, map, length, get_or, take, count_by, refl, sym, ap, ◌∙◌, arith}
use Rattle.std.specs.List.{list_any}
use Rattle.std.proofs.lemmas.List.{map_more, map-append}
use Rattle.requests.specs.declared.group.Group.{Group}
use Rattle.requests.specs.declared.group.Group.TheVariants.{Warehouse, District, Customers, Orders, History, Stock}
use Rattle.requests.specs.declared.new_order.NewOrder.{NewOrder}
use Rattle.requests.specs.declared.new_order.OrderedLine.{OrderedLine}
use Rattle.groups.specs.declared.group_wants.GroupWant.{GroupWant}
use Rattle.groups.specs.Modes.{exclusively, shared}
use Rattle.groups.specs.Groups.{is_same}
use Rattle.groups.specs.Footprint.{groups_of}
use Rattle.groups.specs.NewOrder.{group_of_supply, supplies_of, firsts, new_order_footprint}
use Rattle.groups.proofs.Counts.{one, one-le, count-cons, count-append}
use Rattle.groups.proofs.Firsts.{firsts_more, firsts_once, none_of_firsts}

-- ---- the wants as lines are gone through

-- whether one of the wants is for the group
abbrev pub is_wanted_group : Group → List GroupWant → Bool
is_wanted_group group group_wants = list_any (λ group_want. is_same group_want.group group) group_wants

group_wanted-map : (group : Group) (groups : List Group) → is_wanted_group group (map exclusively groups) ≡ list_any (λ own. is_same own group) groups
group_wanted-map group [] = refl
group_wanted-map group (own ∷ groups) = ap (λ b. is_same own group || b) (group_wanted-map group groups)

module _ (w_id d_id : ℕ) where
  -- the wants once these lines are gone through
  abbrev pub group_wants_after : List OrderedLine → List GroupWant
  group_wants_after lines =
      shared (Warehouse w_id) ∷ exclusively (District w_id d_id) ∷ shared (Customers w_id d_id) ∷ map exclusively (supplies_of lines)

  module _ (lines : List OrderedLine) (i : ℕ) (default : OrderedLine) (within : i < length lines) where
    abbrev group : Group
    group = group_of_supply (get_or lines i default)

    abbrev before : List Group
    before = supplies_of (take i lines)

    supplies_more : supplies_of (take (i + 1) lines) ≡ cond (list_any (λ own. is_same own group) before) before (before ++ group ∷ [])
    supplies_more = ap firsts (map_more group_of_supply lines i default within) ∙ firsts_more (map group_of_supply (take i lines)) group

    after : (b : Bool) → is_wanted_group group (group_wants_after (take i lines)) ≡ b → supplies_of (take (i + 1) lines) ≡ cond b before (before ++ group ∷ [])
    after b e = supplies_more ∙ ap (λ there. cond there before (before ++ group ∷ [])) (sym (group_wanted-map group before) ∙ e)

    -- a line whose group is wanted for adds no want
    pub no_group_want_more : is_wanted_group group (group_wants_after (take i lines)) ≡ true → group_wants_after (take (i + 1) lines) ≡ group_wants_after (take i lines)
    no_group_want_more e =
        ap (λ supplies. shared (Warehouse w_id) ∷ exclusively (District w_id d_id) ∷ shared (Customers w_id d_id) ∷ map exclusively supplies) (after true e)

    -- and another adds one
    pub one_group_want_more : is_wanted_group group (group_wants_after (take i lines)) ≡ false
        → group_wants_after (take (i + 1) lines) ≡ group_wants_after (take i lines) ++ exclusively group ∷ []
    one_group_want_more e =
        ap (λ supplies. shared (Warehouse w_id) ∷ exclusively (District w_id d_id) ∷ shared (Customers w_id d_id) ∷ supplies)
        (ap (map exclusively) (after false e) ∙ map-append exclusively before (group ∷ []))

-- ---- how often a group stands there

counted : (p : Group → Bool) (groups : List Group) → count_by p (groups_of (map exclusively groups)) ≡ count_by p groups
counted p [] = refl
counted p (group ∷ groups) =
    omega (arith, count-cons p group (groups_of (map exclusively groups)), count-cons p group groups, counted p groups)

-- a group of no stock supplies no line
none_supplies : (p : Group → Bool) → ((line : OrderedLine) → p (group_of_supply line) ≡ false) → (lines : List OrderedLine) → count_by p (map group_of_supply lines) ≡ 0
none_supplies p none [] = refl
none_supplies p none (line ∷ lines) =
    omega (arith, count-cons p (group_of_supply line) (map group_of_supply lines), ap one (none line), none_supplies p none lines)

module _ (order : NewOrder) where
  abbrev w_id : ℕ
  w_id = order.home.w_id

  abbrev d_id : ℕ
  d_id = order.home.d_id

  parts : (p : Group → Bool) → count_by p (groups_of (new_order_footprint order))
      ≡ one (p (Warehouse w_id)) + (one (p (District w_id d_id)) + (one (p (Customers w_id d_id)) + (count_by p (supplies_of order.lines) + one (p (Orders w_id d_id)))))
  parts p =
      let supplies : List GroupWant = map exclusively (supplies_of order.lines) in
      let last : List GroupWant = exclusively (Orders w_id d_id) ∷ [] in
      let rest : List Group = groups_of (supplies ++ last) in
      let warehouse = count-cons p (Warehouse w_id) (District w_id d_id ∷ Customers w_id d_id ∷ rest) in
      let district = count-cons p (District w_id d_id) (Customers w_id d_id ∷ rest) in
      let customers = count-cons p (Customers w_id d_id) rest in
      let orders = count-cons p (Orders w_id d_id) [] in
      omega (arith, warehouse, district, customers, count-append p supplies last, counted p (supplies_of order.lines), orders)

  no_stock : (p : Group → Bool) → ((line : OrderedLine) → p (group_of_supply line) ≡ false) → count_by p (supplies_of order.lines) ≡ 0
  no_stock p none = none_of_firsts p (map group_of_supply order.lines) (none_supplies p none order.lines)

  -- at most one of the groups has the kind of the group, but for stock
  each_once : (group : Group) → count_by (is_same group) (groups_of (new_order_footprint order)) ≤ 1
  each_once (Warehouse w) =
      omega (arith, parts (is_same (Warehouse w)), one-le (is_same (Warehouse w) (Warehouse w_id)), no_stock (is_same (Warehouse w)) (λ line. refl))
  each_once (District w d) =
      omega (arith, parts (is_same (District w d)), one-le (is_same (District w d) (District w_id d_id)), no_stock (is_same (District w d)) (λ line. refl))
  each_once (Customers w d) =
      omega (arith, parts (is_same (Customers w d)), one-le (is_same (Customers w d) (Customers w_id d_id)), no_stock (is_same (Customers w d)) (λ line. refl))
  each_once (Orders w d) =
      omega (arith, parts (is_same (Orders w d)), one-le (is_same (Orders w d) (Orders w_id d_id)), no_stock (is_same (Orders w d)) (λ line. refl))
  each_once (History w d) = omega (arith, parts (is_same (History w d)), no_stock (is_same (History w d)) (λ line. refl))
  each_once (Stock w r) = omega (arith, parts (is_same (Stock w r)), firsts_once (Stock w r) (map group_of_supply order.lines))

pub new_order_names_each_group_once : (order : NewOrder) (group : Group) → count_by (is_same group) (groups_of (new_order_footprint order)) ≤ 1
new_order_names_each_group_once order group = each_once order group
