-- What a New-Order's actions need and claim, and where.
use Rattle.std.proofs.Common.{◌≡◌, ◌≢◌, ◌≤◌, ◌+◌, zero, suc, Bool, true, false, cond, not, List, [], ◌∷◌, ◌++◌, filter, length, length-append, map, IsTrue, refl, sym, ap, subst, ◌∙◌, arith}
use Rattle.std.specs.Prelude.{All}
use Rattle.std.specs.List.{AllByRecursion, list_any}
use Rattle.std.proofs.lemmas.Bool.{and_parts}
use Rattle.std.proofs.lemmas.List.{length-map}
use Rattle.std.proofs.lemmas.List.Elements.{All-nil, All-cons, All-from_recursion, recursion_from_All}
use Rattle.rows.specs.Ranged.{is_between}
use Rattle.partitions.specs.Parts.{SharedTables}
use Rattle.schema.specs.declared.scale.Scale.{Scale}
use Rattle.schema.specs.Scale.{has_district, has_warehouse}
use Rattle.requests.specs.declared.group.Group.{Group}
use Rattle.requests.specs.declared.group.Group.TheVariants.{Warehouse, District, Customers, Orders}
use Rattle.requests.specs.declared.request.Request.{Request}
use Rattle.requests.specs.declared.request.Request.TheVariants as request
use Rattle.requests.specs.declared.new_order.NewOrder.{NewOrder}
use Rattle.requests.specs.declared.new_order.OrderedLine.{OrderedLine}
use Rattle.requests.specs.Check.{IsAccepted}
use Rattle.groups.specs.declared.group_wants.GroupWant.{GroupWant}
use Rattle.groups.specs.Footprint.{exclusively, footprint, groups_of, shared as sharing}
use Rattle.groups.specs.Groups.{is_same, warehouse_of}
use Rattle.groups.specs.NewOrder.{firsts, group_of_supply, supplies_of}
use Rattle.tickets.specs.Claims.{ClaimView, all_claims}
use Rattle.tickets.specs.Places.{IsGroupOf}
use Rattle.transactions.specs.declared.new_order.OrderPlaced.{OrderPlaced}
use Rattle.transactions.specs.declared.new_order.OrderRows.{OrderRows}
use Rattle.transactions.specs.declared.new_order.StockTaken.{StockTaken}
use Rattle.transactions.specs.declared.new_order.work.Work.{Work}
use Rattle.transactions.specs.declared.new_order.work.Work.TheVariants.{TakeNumber, ShowOrderer, TakeStock, AddOrder}
use Rattle.transactions.specs.declared.new_order.work.Found.{Found}
use Rattle.transactions.specs.declared.new_order.phases.Progress.{Progress}
use Rattle.transactions.specs.declared.new_order.phases.Progress.TheVariants.{ReadRows, TakeLines, AddRows}
use Rattle.transactions.specs.Granted.{AreSomeOf, AreGroupWantsAt, group_want_of}
use Rattle.transactions.specs.NewOrder.{AreStocksTaken, CanDo, HasDone, IsOrderKnown, IsReached, home_of, is_supply_of, taking, group_wants_of, works_of}
use Rattle.transactions.specs.Works.{CanDo as AnyCanDo, all_group_wants}
use Rattle.transactions.proofs.AcceptedGroups.{all_supplies}
use Rattle.transactions.proofs.EachOne.{each_tested, each_weaker, mapped_each}
use Rattle.transactions.proofs.Footprints.{AreApart, all_are_some, exclusive_group_want, first_are_some, one_group_want, shared_group_want}
use Rattle.transactions.proofs.InScale.{between}
use Rattle.transactions.proofs.NewOrderCarriedOut.{is_placed, stocks_on}
use Rattle.transactions.proofs.NewOrderKnown.{in_scale, placed_orders_are_known}
use Rattle.transactions.proofs.NewOrderSteps.{claims_of_all}
use Rattle.transactions.proofs.NewOrderSupplies.{each_among, firsts_of, of_one}
use Rattle.transactions.specs.declared.laws.TheConstants.{MOST_ACTIONS}

-- ---- the group that supplies some of the lines

supply_there : (scale : Scale) (n : NewOrder) (group : Group) → IsAccepted scale (request.NewOrder n) → is_supply_of n group ≡ true → IsGroupOf scale.warehouses group
supply_there scale n group accepted among =
    let P = IsGroupOf scale.warehouses in
    of_one P group (supplies_of n.lines) among
    (firsts_of P (map group_of_supply n.lines) (recursion_from_All P (map group_of_supply n.lines) (all_supplies scale n.lines (in_scale scale n accepted).suppliers)))

IsAtWarehouse : Scale → Group → Type 0
IsAtWarehouse scale group = has_warehouse scale (warehouse_of group) ≡ true

supply_at : (scale : Scale) (n : NewOrder) (group : Group) → IsAccepted scale (request.NewOrder n) → is_supply_of n group ≡ true → has_warehouse scale (warehouse_of group) ≡ true
unfolding IsAtWarehouse
supply_at scale n group accepted among =
    of_one (IsAtWarehouse scale) group (supplies_of n.lines) among
    (firsts_of (IsAtWarehouse scale) (map group_of_supply n.lines)
    (mapped_each (IsAtWarehouse scale) group_of_supply n.lines
    (each_tested (λ (line : OrderedLine). has_warehouse scale line.supply_w_id) n.lines (in_scale scale n accepted).suppliers)))

-- the district of an order that is added
record IsDistrictOf (scale : Scale) (order : OrderRows) : Type 0 where
  warehouse : has_warehouse scale order.key.w_id ≡ true
  district : is_between 1 10 order.key.d_id ≡ true

district_of : (scale : Scale) (order : OrderRows) → IsOrderKnown scale order → IsDistrictOf scale order
district_of scale order known =
    let home = and_parts (has_district scale (record { w_id = order.key.w_id; d_id = order.key.d_id })) (is_between 1 scale.customers order.row.c_id) known.customer in
    let parts = and_parts (has_warehouse scale order.key.w_id) (is_between 1 10 order.key.d_id) home.0 in
    record { warehouse = parts.0; district = parts.1 }

-- ---- each action

pub works_have_their_groups : (shared : SharedTables) (work : Work) → CanDo shared work → All (IsGroupOf shared.scale.warehouses) (groups_of (group_wants_of work))
works_have_their_groups shared (TakeNumber n) accepted =
    let is = in_scale shared.scale n accepted in
    let warehouse = between 1 shared.scale.warehouses n.home.w_id is.warehouse in
    let district = between 1 10 n.home.d_id is.district in
    All-from_recursion (IsGroupOf shared.scale.warehouses) (groups_of (group_wants_of (TakeNumber n))) (warehouse, ((warehouse, district), tt))
works_have_their_groups shared (ShowOrderer n) accepted =
    let is = in_scale shared.scale n accepted in
    let warehouse = between 1 shared.scale.warehouses n.home.w_id is.warehouse in
    let district = between 1 10 n.home.d_id is.district in
    All-from_recursion (IsGroupOf shared.scale.warehouses) (groups_of (group_wants_of (ShowOrderer n))) ((warehouse, district), tt)
works_have_their_groups shared (TakeStock n group) can =
    All-from_recursion (IsGroupOf shared.scale.warehouses) (group ∷ []) (supply_there shared.scale n group can.0 can.1, tt)
works_have_their_groups shared (AddOrder order) known =
    let is = district_of shared.scale order known in
    let warehouse = between 1 shared.scale.warehouses order.key.w_id is.warehouse in
    let district = between 1 10 order.key.d_id is.district in
    All-from_recursion (IsGroupOf shared.scale.warehouses) (groups_of (group_wants_of (AddOrder order))) ((warehouse, district), tt)

pub works_are_at_warehouses : (shared : SharedTables) (work : Work) → CanDo shared work → IsTrue (has_warehouse shared.scale (home_of work))
works_are_at_warehouses shared (TakeNumber n) accepted = (in_scale shared.scale n accepted).warehouse
works_are_at_warehouses shared (ShowOrderer n) accepted = (in_scale shared.scale n accepted).warehouse
works_are_at_warehouses shared (TakeStock n group) can = supply_at shared.scale n group can.0 can.1
works_are_at_warehouses shared (AddOrder order) known = (district_of shared.scale order known).warehouse

pub works_have_group_wants : (work : Work) → 1 ≤ length (group_wants_of work)
works_have_group_wants (TakeNumber n) = omega arith
works_have_group_wants (ShowOrderer n) = omega arith
works_have_group_wants (TakeStock n group) = omega arith
works_have_group_wants (AddOrder order) = omega arith

pub works_claim_at_home : (work : Work) → AreGroupWantsAt (home_of work) (group_wants_of work)
works_claim_at_home (TakeNumber n) =
    All-cons (λ (w : GroupWant). warehouse_of w.group ≡ n.home.w_id) (sharing (Warehouse n.home.w_id)) (exclusively (District n.home.w_id n.home.d_id) ∷ []) refl
    (one_group_want n.home.w_id (exclusively (District n.home.w_id n.home.d_id)) refl)
works_claim_at_home (ShowOrderer n) = one_group_want n.home.w_id (sharing (Customers n.home.w_id n.home.d_id)) refl
works_claim_at_home (TakeStock n group) = one_group_want (warehouse_of group) (exclusively group) refl
works_claim_at_home (AddOrder order) = one_group_want order.key.w_id (exclusively (Orders order.key.w_id order.key.d_id)) refl

-- no group is wanted for twice
one_apart : (group_want : GroupWant) → AreApart (group_want ∷ [])
one_apart group_want zero d less = All-nil _
one_apart group_want (suc k) d less = absurd (omega arith)

pub works_group_want_once : (work : Work) → AreApart (group_wants_of work)
works_group_want_once (TakeNumber n) zero d less = All-nil _
works_group_want_once (TakeNumber n) (suc zero) d less =
    All-cons (λ (before : GroupWant). before.group ≢ District n.home.w_id n.home.d_id) (sharing (Warehouse n.home.w_id)) [] (λ same. absurd cc) (All-nil _)
works_group_want_once (TakeNumber n) (suc (suc k)) d less = absurd (omega arith)
works_group_want_once (ShowOrderer n) k d less = one_apart (sharing (Customers n.home.w_id n.home.d_id)) k d less
works_group_want_once (TakeStock n group) k d less = one_apart (exclusively group) k d less
works_group_want_once (AddOrder order) k d less = one_apart (exclusively (Orders order.key.w_id order.key.d_id)) k d less

-- the claims are on the groups that it wanted for
pub done_on : (shared : SharedTables) (work : Work) (found : Found) (claims : List ClaimView) → HasDone shared work found claims
    → map (λ (claim : ClaimView). claim.group) claims ≡ groups_of (group_wants_of work)
done_on shared (TakeNumber n) found claims done =
    ap (map (λ (claim : ClaimView). claim.group)) done.4 ∙ (λ i. done.5.warehouse_claim.group i ∷ done.5.district_claim.group i ∷ [])
done_on shared (ShowOrderer n) found claims done = ap (map (λ (claim : ClaimView). claim.group)) done.3 ∙ (λ i. done.4.claim.group i ∷ [])
done_on shared (TakeStock n group) found claims done = ap (map (λ (claim : ClaimView). claim.group)) done.3 ∙ (λ i. done.4.claim.group i ∷ [])
done_on shared (AddOrder order) found claims done = ap (map (λ (claim : ClaimView). claim.group)) done.2 ∙ (λ i. done.3.claim.group i ∷ [])

-- ---- each phase

pub accepted : (shared : SharedTables) (asked : Request) (progress : Progress) (held : List (List ClaimView)) → IsReached shared asked progress held → IsAccepted shared.scale asked
accepted shared asked (ReadRows n) held reached = reached.accepted
accepted shared asked (TakeLines given) held reached = reached.accepted
accepted shared asked (AddRows given) held reached = reached.reached.accepted

pub some_actions : (progress : Progress) → 1 ≤ length (works_of progress)
some_actions (ReadRows n) = omega arith
some_actions (TakeLines given) = omega arith
some_actions (AddRows given) = omega arith

-- no more groups supply an order than it has lines
few_filtered : {X : Type 0} (test : X → Bool) (xs : List X) → length (filter test xs) ≤ length xs
few_filtered test [] = omega arith
few_filtered test (x ∷ xs) =
    elim (test x) as (λ b. length (cond b (x ∷ filter test xs) (filter test xs)) ≤ suc (length xs)) [
      | true ↦ omega (arith, few_filtered test xs)
      | false ↦ omega (arith, few_filtered test xs)
    ]

few_firsts : (groups : List Group) → length (firsts groups) ≤ length groups
few_firsts [] = omega arith
few_firsts (group ∷ groups) = omega (arith, few_firsts groups, few_filtered (λ other. not (is_same group other)) (firsts groups))

few_supplies : (lines : List OrderedLine) → length (supplies_of lines) ≤ length lines
few_supplies lines = omega (arith, few_firsts (map group_of_supply lines), length-map lines group_of_supply)

-- actions are few
pub few_actions : (shared : SharedTables) (asked : Request) (progress : Progress) (held : List (List ClaimView)) → IsReached shared asked progress held → length held + length (works_of progress) ≤ MOST_ACTIONS
few_actions shared asked (ReadRows n) held known = omega (arith, ap (λ (hs : List (List ClaimView)). length hs) known.none)
few_actions shared asked (TakeLines given) held known =
    let order_accepted : IsAccepted shared.scale (request.NewOrder given.order) = subst (IsAccepted shared.scale) known.is known.accepted in
    omega (
      arith,
      ap (λ (hs : List (List ClaimView)). length hs) known.claims,
      length-map given.others (taking given.order),
      ap (λ (groups : List Group). length groups) known.supplies,
      few_supplies given.order.lines,
      (in_scale shared.scale given.order order_accepted).most_lines,
    )
few_actions shared asked (AddRows given) held known =
    let begun = known.begun in
    let before = known.reached in
    let order_accepted : IsAccepted shared.scale (request.NewOrder begun.order) = subst (IsAccepted shared.scale) before.is before.accepted in
    omega (
      arith,
      ap (λ (hs : List (List ClaimView)). length hs) known.claims,
      length-append known.before (map (λ (stock : ClaimView). stock ∷ []) known.stocks),
      ap (λ (hs : List (List ClaimView)). length hs) before.claims,
      length-map known.stocks (λ (stock : ClaimView). stock ∷ []),
      length-map known.stocks (λ (stock : ClaimView). stock.group),
      ap (λ (groups : List Group). length groups) (stocks_on shared begun.order (supplies_of begun.order.lines) known.found known.stocks known.taken),
      few_supplies begun.order.lines,
      (in_scale shared.scale begun.order order_accepted).most_lines,
    )

pub can_all : (shared : SharedTables) (asked : Request) (progress : Progress) (held : List (List ClaimView)) → IsReached shared asked progress held → All (AnyCanDo shared) (works_of progress)
can_all shared asked (ReadRows n) held known =
    let accepted : IsAccepted shared.scale (request.NewOrder n) = subst (IsAccepted shared.scale) known.is known.accepted in
    All-from_recursion (AnyCanDo shared) (works_of (ReadRows n)) (accepted, (accepted, tt))
can_all shared asked (TakeLines given) held known =
    let accepted : IsAccepted shared.scale (request.NewOrder given.order) = subst (IsAccepted shared.scale) known.is known.accepted in
    let supplies = supplies_of given.order.lines in
    let each = each_weaker (λ group. list_any (λ own. is_same group own) supplies ≡ true) (λ group. AnyCanDo shared (taking given.order group)) (λ group among. (accepted, among)) supplies (each_among supplies) in
    All-from_recursion (AnyCanDo shared) (works_of (TakeLines given))
    (mapped_each (AnyCanDo shared) (taking given.order) (given.first ∷ given.others)
    (subst (AllByRecursion (λ group. AnyCanDo shared (taking given.order group))) (sym known.supplies) each))
can_all shared asked (AddRows given) held known =
    let begun = known.begun in
    let before = known.reached in
    let accepted : IsAccepted shared.scale (request.NewOrder begun.order) = subst (IsAccepted shared.scale) before.is before.accepted in
    All-from_recursion (AnyCanDo shared) (works_of (AddRows given))
    (placed_orders_are_known shared begun.order begun.home begun.orderer known.found given known.stocks accepted before.number before.known known.taken known.next, tt)

-- ---- what is claimed

stock_group_wants : (n : NewOrder) (groups : List Group) → all_group_wants (map (taking n) groups) ≡ map exclusively groups
stock_group_wants n [] = refl
stock_group_wants n (group ∷ groups) = ap (λ rest. exclusively group ∷ rest) (stock_group_wants n groups)

stock_claims : (shared : SharedTables) (n : NewOrder) (groups : List Group) (found : List StockTaken) (stocks : List ClaimView) → AreStocksTaken shared n groups found stocks → map group_want_of stocks ≡ map exclusively groups
stock_claims shared n [] [] [] taken = refl
stock_claims shared n [] (one ∷ found) stocks taken = absurd taken
stock_claims shared n [] [] (stock ∷ stocks) taken = absurd taken
stock_claims shared n (group ∷ groups) [] stocks taken = absurd taken
stock_claims shared n (group ∷ groups) (one ∷ found) [] taken = absurd taken
stock_claims shared n (group ∷ groups) (one ∷ found) (stock ∷ stocks) taken =
    let first = exclusive_group_want group stock taken.0.claim in
    let rest = stock_claims shared n groups found stocks taken.2 in
    λ i. first i ∷ rest i

pub within : (shared : SharedTables) (asked : Request) (progress : Progress) (held : List (List ClaimView)) → IsReached shared asked progress held
    → AreSomeOf (map group_want_of (all_claims held) ++ all_group_wants (works_of progress)) (footprint asked)
within shared asked (ReadRows n) held known =
    let home = n.home in
    let rest = map exclusively (supplies_of n.lines) ++ exclusively (Orders home.w_id home.d_id) ∷ [] in
    subst (λ held. AreSomeOf (map group_want_of (all_claims held) ++ all_group_wants (works_of (ReadRows n))) (footprint asked)) (sym known.none)
    (subst (λ r. AreSomeOf (all_group_wants (works_of (ReadRows n))) (footprint r)) (sym known.is)
    (first_are_some (sharing (Warehouse home.w_id) ∷ exclusively (District home.w_id home.d_id) ∷ sharing (Customers home.w_id home.d_id) ∷ []) rest))
within shared asked (TakeLines given) held known =
    let n = given.order in
    let home = n.home in
    let first = sharing (Warehouse home.w_id) ∷ exclusively (District home.w_id home.d_id) ∷ sharing (Customers home.w_id home.d_id) ∷ [] in
    let claimed : map group_want_of (all_claims held) ≡ first =
    ap (λ hs. map group_want_of (all_claims hs)) known.claims
    ∙ (λ i. shared_group_want _ known.warehouse known.home.warehouse_claim i ∷ exclusive_group_want _ known.district known.home.district_claim i ∷ shared_group_want _ known.customers known.orderer.claim i ∷ []) in
    let group_wanted : all_group_wants (works_of (TakeLines given)) ≡ map exclusively (supplies_of n.lines) =
    stock_group_wants n (given.first ∷ given.others) ∙ ap (map exclusively) known.supplies in
    subst (λ r. AreSomeOf (map group_want_of (all_claims held) ++ all_group_wants (works_of (TakeLines given))) (footprint r)) (sym known.is)
    (subst (λ some. AreSomeOf some (footprint (request.NewOrder n))) (λ i. sym claimed i ++ sym group_wanted i)
    (first_are_some (first ++ map exclusively (supplies_of n.lines)) (exclusively (Orders home.w_id home.d_id) ∷ [])))
within shared asked (AddRows given) held known =
    let begun = known.begun in
    let before = known.reached in
    let n = begun.order in
    let home = n.home in
    let all : all_claims held ≡ before.warehouse ∷ before.district ∷ before.customers ∷ known.stocks =
    ap all_claims known.claims ∙ claims_of_all known.before known.stocks ∙ ap (λ hs. all_claims hs ++ known.stocks) before.claims in
    let stocks = stock_claims shared n (supplies_of n.lines) known.found known.stocks known.taken in
    let claimed : map group_want_of (all_claims held) ≡ sharing (Warehouse home.w_id) ∷ exclusively (District home.w_id home.d_id) ∷ sharing (Customers home.w_id home.d_id) ∷ map exclusively (supplies_of n.lines) =
    ap (map group_want_of) all
    ∙ (λ i. shared_group_want _ before.warehouse before.home.warehouse_claim i ∷ exclusive_group_want _ before.district before.home.district_claim i ∷ shared_group_want _ before.customers before.orderer.claim i ∷ stocks i) in
    let placed = is_placed n begun.home begun.orderer known.found given known.next in
    let last : all_group_wants (works_of (AddRows given)) ≡ exclusively (Orders home.w_id home.d_id) ∷ [] =
    ap (λ (p : OrderPlaced). exclusively (Orders p.rows.key.w_id p.rows.key.d_id) ∷ []) (sym placed.is) in
    subst (λ r. AreSomeOf (map group_want_of (all_claims held) ++ all_group_wants (works_of (AddRows given))) (footprint r)) (sym before.is)
    (all_are_some (map group_want_of (all_claims held) ++ all_group_wants (works_of (AddRows given))) (footprint (request.NewOrder n)) (λ i. claimed i ++ last i))
