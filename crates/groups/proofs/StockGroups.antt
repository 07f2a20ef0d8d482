-- The groups of a warehouse's stock, one after another, as Stock-Level claims them.
use Rattle.std.proofs.Common.{◌≡◌, ℕ, zero, suc, ◌+◌, ◌<◌, ◌≤◌, Bool, true, false, ◌&&◌, ◌==◌, List, ◌∷◌, [], ◌++◌, map, count_by, refl, ap, subst, ◌∙◌, arith}
use Rattle.std.specs.List.{range_with_len, AllByRecursion}
use Rattle.std.proofs.lemmas.Bool.Decides.{nat_tests}
use Rattle.std.proofs.lemmas.List.FromFn.{map-range_with_len_more}
use Rattle.rows.specs.declared.limits.TheConstants.{STOCK_GROUPS}
use Rattle.requests.specs.declared.group.Group.{Group}
use Rattle.requests.specs.declared.group.Group.TheVariants.{Warehouse, District, Customers, Orders, History, Stock}
use Rattle.requests.specs.declared.stock_level.StockLevel.{StockLevel}
use Rattle.groups.specs.declared.group_wants.GroupWant.{GroupWant}
use Rattle.groups.specs.Modes.{shared}
use Rattle.groups.specs.Groups.{is_same}
use Rattle.groups.specs.Footprint.{groups_of, stock_level_footprint}
use Rattle.groups.proofs.Counts.{one, one-le, one-neither, count-cons, none_passes, once_at_most}

module _ (w_id : ℕ) where
  abbrev stock_group_want : ℕ → GroupWant
  stock_group_want residue = shared (Stock w_id residue)

  -- the wants for so many groups of stock, from that residue on
  abbrev pub group_wants_from : ℕ → ℕ → List GroupWant
  group_wants_from from count = map stock_group_want (range_with_len from count)

  -- one want more, from residue 0 on
  pub one_more_group_want : (count : ℕ) → group_wants_from 0 (count + 1) ≡ group_wants_from 0 count ++ shared (Stock w_id count) ∷ []
  one_more_group_want count = map-range_with_len_more stock_group_want 0 count count (omega arith)

  -- what holds of each of these groups holds of one
  pub at_residue : (P : Group → Type 0) (from count : ℕ) → AllByRecursion P (groups_of (group_wants_from from count)) → (residue : ℕ) → from ≤ residue → residue < from + count
      → P (Stock w_id residue)
  at_residue P from zero each residue low high = absurd (omega arith)
  at_residue P from (suc count) each residue low high =
      elim (residue == from) as (λ b. (residue == from) ≡ b → P (Stock w_id residue)) [
        | true ↦ λ e. let same : from ≡ residue = grind (arith, nat_tests) in subst (λ r. P (Stock w_id r)) same each.0
        | false ↦ λ e.
            let above : from + 1 ≤ residue = grind (arith, nat_tests) in
            at_residue P (from + 1) count each.1 residue above (omega arith)
      ] refl

  none_of_stock : (p : Group → Bool) → ((residue : ℕ) → p (Stock w_id residue) ≡ false) → count_by p (groups_of (group_wants_from 0 STOCK_GROUPS)) ≡ 0
  none_of_stock p none = none_passes stock_group_want p none 0 STOCK_GROUPS

  once : (other residue : ℕ) → count_by (is_same (Stock other residue)) (groups_of (group_wants_from 0 STOCK_GROUPS)) ≤ 1
  once other residue =
      once_at_most stock_group_want (is_same (Stock other residue)) residue
      (λ r apart. ap (λ b. one ((other == w_id) && b)) apart ∙ one-neither (other == w_id)) 0 STOCK_GROUPS

module _ (asked : StockLevel) where
  abbrev own_district : Group
  own_district = District asked.home.w_id asked.home.d_id

  abbrev own_orders : Group
  own_orders = Orders asked.home.w_id asked.home.d_id

  abbrev stock : List Group
  stock = groups_of (group_wants_from asked.home.w_id 0 STOCK_GROUPS)

  parts : (p : Group → Bool) → count_by p (own_district ∷ own_orders ∷ stock) ≡ one (p own_district) + (one (p own_orders) + count_by p stock)
  parts p = count-cons p own_district (own_orders ∷ stock) ∙ ap (λ n. one (p own_district) + n) (count-cons p own_orders stock)

  -- at most one of the groups has the kind of the group
  each_once : (group : Group) → count_by (is_same group) (own_district ∷ own_orders ∷ stock) ≤ 1
  each_once (Warehouse w_id) = omega (arith, parts (is_same (Warehouse w_id)), none_of_stock asked.home.w_id (is_same (Warehouse w_id)) (λ r. refl))
  each_once (District w_id d_id) =
      omega (arith, parts (is_same (District w_id d_id)), one-le (is_same (District w_id d_id) own_district), none_of_stock asked.home.w_id (is_same (District w_id d_id)) (λ r. refl))
  each_once (Customers w_id d_id) = omega (arith, parts (is_same (Customers w_id d_id)), none_of_stock asked.home.w_id (is_same (Customers w_id d_id)) (λ r. refl))
  each_once (Orders w_id d_id) =
      omega (arith, parts (is_same (Orders w_id d_id)), one-le (is_same (Orders w_id d_id) own_orders), none_of_stock asked.home.w_id (is_same (Orders w_id d_id)) (λ r. refl))
  each_once (History w_id d_id) = omega (arith, parts (is_same (History w_id d_id)), none_of_stock asked.home.w_id (is_same (History w_id d_id)) (λ r. refl))
  each_once (Stock w_id residue) = omega (arith, parts (is_same (Stock w_id residue)), once asked.home.w_id w_id residue)

pub stock_level_names_each_group_once : (asked : StockLevel) (group : Group) → count_by (is_same group) (groups_of (stock_level_footprint asked)) ≤ 1
stock_level_names_each_group_once asked group = each_once asked group
