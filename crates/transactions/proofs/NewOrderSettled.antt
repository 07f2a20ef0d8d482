-- What the claims of an order leave in every group is what the machine leaves there.
use Rattle.std.proofs.Common.{◌≡◌, ◌≢◌, ℕ, true, cond, List, [], ◌∷◌, ◌++◌, map, Some, refl, sym, ap, subst, ◌∙◌}
use Rattle.std.specs.List.{AllByRecursion, list_all}
use Rattle.partitions.specs.Parts.{SharedTables, shared_of}
use Rattle.rows.specs.declared.records.District.{District}
use Rattle.rows.specs.declared.records.OrderLine.{OrderLine}
use Rattle.schema.specs.Database.{Database}
use Rattle.schema.specs.OrderRows.{with_order}
use Rattle.schema.proofs.KeyOrders.{districts_total, districts_exact}
use Rattle.requests.specs.declared.group.Group.{Group}
use Rattle.requests.specs.declared.group.Group.TheVariants as g
use Rattle.requests.specs.declared.new_order.NewOrder.{NewOrder}
use Rattle.groups.specs.Groups.{is_same}
use Rattle.groups.specs.Content.{Content, content}
use Rattle.groups.specs.Content.Content.{OfDistrict}
use Rattle.groups.specs.NewOrder.{group_of_supply, supplies_of}
use Rattle.groups.specs.declared.group_wants.Mode.TheVariants.{Shared as SharedMode, Exclusive}
use Rattle.groups.proofs.Parts.{get-insert_here}
use Rattle.groups.proofs.SameGroups.{is_same-itself}
use Rattle.tickets.specs.Claims.{ClaimView, committed_by}
use Rattle.tickets.specs.Committed.{RecordsContent, content_after, contents_after}
use Rattle.tickets.proofs.Apart.{by_bool, by_mode, is_same-equal}
use Rattle.machine.specs.NewOrder.{order_key, order_row, placed, stocks_taken}
use Rattle.machine.proofs.NewOrderContents.{placed_keeps}
use Rattle.transactions.specs.declared.new_order.StockTaken.{StockTaken}
use Rattle.transactions.specs.declared.new_order.StockTaken.TheVariants.{NoItem, OutOfRange, Taken}
use Rattle.transactions.specs.Granted.{IsExclusiveOn}
use Rattle.transactions.specs.NewOrder.{AreStocksTaken, is_taken}
use Rattle.transactions.proofs.EachOne.{each_both, each_of_both, each_of_first, each_of_second, each_weaker, mapped_each}
use Rattle.transactions.proofs.NewOrderSupplies.{IsStock, of_firsts}

-- ---- claims one after another

-- A group in which each exclusive claim left this, and had it before where there is none, has it once all are settled.
pub settles : (claims : List ClaimView) (group : Group) (has left : Content)
    → AllByRecursion (λ claim. claim.mode ≡ Exclusive → group ≡ claim.group → claim.left ≡ left) claims
    → (AllByRecursion (λ claim. claim.mode ≡ Exclusive → group ≢ claim.group) claims → has ≡ left)
    → contents_after group has claims ≡ left
settles [] group has left each none = none tt
settles (claim ∷ claims) group has left each none =
    by_bool (is_same claim.group group) refl
    (λ same. by_mode claim.mode refl
    (λ exclusive.
    let here : content_after group has claim ≡ claim.left = λ i. cond (same i) (committed_by (exclusive i) claim.left has) has in
    ap (λ c. contents_after group c claims) (here ∙ each.0 exclusive (sym (is_same-equal claim.group group same)))
    ∙ settles claims group left left each.1 (λ later. refl))
    (λ shared.
    let here : content_after group has claim ≡ has = λ i. cond (same i) (committed_by (shared i) claim.left has) has in
    ap (λ c. contents_after group c claims) here ∙ settles claims group has left each.1 (λ later. none ((λ exclusive. absurd cc), later))))
    (λ other.
    let here : content_after group has claim ≡ has = ap (λ b. cond b (committed_by claim.mode claim.left has) has) other in
    let apart : group ≢ claim.group = λ equal. let same : is_same claim.group group ≡ true = ap (λ own. is_same own group) (sym equal) ∙ is_same-itself group in absurd cc in
    ap (λ c. contents_after group c claims) here ∙ settles claims group has left each.1 (λ later. none ((λ exclusive. apart), later)))

-- ---- the claims of an order

module _ (t : Database) (n : NewOrder) (o_id : ℕ) (new : District) (rows : List OrderLine) where
  abbrev pub after : Database
  after = placed t n o_id new rows

  -- an exclusive claim left what its group has in the end
  abbrev pub LeavesPlaced : ClaimView → Type 0
  LeavesPlaced claim = claim.mode ≡ Exclusive → claim.left ≡ content after claim.group

  -- the stock that is taken is a group's as it is in the end
  stock_after : (group : Group) → IsStock group → content (record t { stocks = stocks_taken n.home.w_id t.stocks n.lines }) group ≡ content after group
  unfolding IsStock
  stock_after group is = subst (λ own. content (record t { stocks = stocks_taken n.home.w_id t.stocks n.lines }) own ≡ content after own) (sym is.2) refl

  pub stocks_leave : (shared : SharedTables) → shared_of t ≡ shared → (groups : List Group) (found : List StockTaken) (stocks : List ClaimView)
      → AreStocksTaken shared n groups found stocks → AllByRecursion (RecordsContent (content t)) stocks → list_all is_taken found ≡ true → AllByRecursion IsStock groups
      → AllByRecursion LeavesPlaced stocks
  stocks_leave shared same [] [] [] taken records all is = tt
  stocks_leave shared same [] (one ∷ found) stocks taken records all is = absurd taken
  stocks_leave shared same [] [] (stock ∷ stocks) taken records all is = absurd taken
  stocks_leave shared same (group ∷ groups) [] stocks taken records all is = absurd taken
  stocks_leave shared same (group ∷ groups) (one ∷ found) [] taken records all is = absurd taken
  stocks_leave shared same (group ∷ groups) (NoItem ∷ found) (stock ∷ stocks) taken records all is = absurd cc
  stocks_leave shared same (group ∷ groups) (OutOfRange ∷ found) (stock ∷ stocks) taken records all is = absurd cc
  stocks_leave shared same (group ∷ groups) (Taken sold ∷ found) (stock ∷ stocks) taken records all is = (
    (λ exclusive. taken.0.left t same records.0 ∙ stock_after stock.group (subst IsStock (sym taken.0.claim.group) is.0)),
    stocks_leave shared same groups found stocks taken.2 records.1 all is.1,
  )

  module _
      (warehouse district customers : ClaimView) (stocks : List ClaimView) (orders : ClaimView)
      (reads_warehouse : warehouse.mode ≡ SharedMode) (reads_customers : customers.mode ≡ SharedMode)
      (on_district : IsExclusiveOn (g.District n.home.w_id n.home.d_id) district) (district_left : district.left ≡ OfDistrict (Some new))
      (stocks_left : AllByRecursion LeavesPlaced stocks) (exclusive : AllByRecursion (λ (stock : ClaimView). stock.mode ≡ Exclusive) stocks)
      (on_supplies : map (λ (stock : ClaimView). stock.group) stocks ≡ supplies_of n.lines)
      (on_orders : IsExclusiveOn (g.Orders n.home.w_id n.home.d_id) orders)
      (orders_left : orders.left ≡ content (with_order t (order_key n.home o_id) (order_row n) rows) orders.group)
    where
      abbrev pub claims : List ClaimView
      claims = warehouse ∷ district ∷ customers ∷ (stocks ++ orders ∷ [])

      all_leave : AllByRecursion LeavesPlaced claims
      all_leave =
          let district_has : content after district.group ≡ OfDistrict (Some new) =
          ap (content after) on_district.group ∙ ap OfDistrict (get-insert_here districts_total districts_exact t.districts n.home new) in
          let orders_have : content (with_order t (order_key n.home o_id) (order_row n) rows) orders.group ≡ content after orders.group =
          ap (content (with_order t (order_key n.home o_id) (order_row n) rows)) on_orders.group ∙ sym (ap (content after) on_orders.group) in
          let last : LeavesPlaced orders = λ is. orders_left ∙ orders_have in
          let first : LeavesPlaced warehouse = λ is. absurd cc in
          let second : LeavesPlaced district = λ is. district_left ∙ sym district_has in
          let third : LeavesPlaced customers = λ is. absurd cc in
          (first, (second, (third, each_of_both LeavesPlaced stocks (orders ∷ []) stocks_left (last, tt))))

      -- a group on which none of them is exclusive has what it had
      kept : (group : Group) → AllByRecursion (λ claim. claim.mode ≡ Exclusive → group ≢ claim.group) claims → content t group ≡ content after group
      kept group none =
          let Apart : ClaimView → Type 0 = λ claim. claim.mode ≡ Exclusive → group ≢ claim.group in
          let of_stocks = each_of_first Apart stocks (orders ∷ []) none.1.1.1 in
          let of_orders = each_of_second Apart stocks (orders ∷ []) none.1.1.1 in
          let apart : AllByRecursion (λ (stock : ClaimView). group ≢ stock.group) stocks =
          each_weaker (λ (stock : ClaimView). (stock.mode ≡ Exclusive) × Apart stock) (λ (stock : ClaimView). group ≢ stock.group) (λ stock both. both.1 both.0) stocks
          (each_both (λ (stock : ClaimView). stock.mode ≡ Exclusive) Apart stocks exclusive of_stocks) in
          let no_supply = of_firsts (λ own. group ≢ own) (map group_of_supply n.lines)
          (subst (AllByRecursion (λ own. group ≢ own)) on_supplies (mapped_each (λ own. group ≢ own) (λ (stock : ClaimView). stock.group) stocks apart)) in
          sym (placed_keeps n o_id new rows t group
          (λ same. none.1.0 on_district.mode (same ∙ sym on_district.group))
          (λ same. of_orders.0 on_orders.mode (same ∙ sym on_orders.group)) no_supply)

      pub settled : (group : Group) → content after group ≡ contents_after group (content t group) claims
      settled group =
          sym (settles claims group (content t group) (content after group)
          (each_weaker LeavesPlaced (λ claim. claim.mode ≡ Exclusive → group ≡ claim.group → claim.left ≡ content after group)
          (λ claim leaves is same. leaves is ∙ ap (content after) (sym same)) claims all_leave) (kept group))
