-- What the actions of an Order-Status need and claim, and where.
use Rattle.std.proofs.Common.{◌≡◌, ◌≤◌, ◌+◌, zero, suc, true, List, [], ◌∷◌, ◌++◌, length, map, IsTrue, refl, sym, ap, subst, ◌∙◌, arith}
use Rattle.std.specs.Prelude.{All}
use Rattle.std.proofs.lemmas.Bool.{and_parts, and_from, not-false}
use Rattle.std.proofs.lemmas.List.Elements.{All-nil, All-cons, All-from_recursion}
use Rattle.rows.specs.declared.keys.DistrictKey.{DistrictKey}
use Rattle.rows.specs.Keys.{district_of_customer}
use Rattle.rows.specs.Ranged.{is_between}
use Rattle.partitions.specs.Parts.{SharedTables}
use Rattle.schema.specs.declared.scale.Scale.{Scale}
use Rattle.schema.specs.Scale.{has_warehouse, has_district}
use Rattle.requests.specs.declared.group.Group.TheVariants.{Customers, Orders}
use Rattle.requests.specs.declared.request.Request.{Request}
use Rattle.requests.specs.declared.request.Request.TheVariants as request
use Rattle.requests.specs.declared.order_status.OrderStatus.{OrderStatus}
use Rattle.requests.specs.declared.refusal.Refusal.TheVariants.{BadWarehouse, BadDistrict, BadLines, BadQuantity, BadSupply, BadAmount, BadThreshold, BadCarrier}
use Rattle.requests.specs.Check.{applies, IsAccepted}
use Rattle.groups.specs.declared.group_wants.GroupWant.{GroupWant}
use Rattle.groups.specs.Footprint.{shared as sharing, footprint, groups_of, order_status_footprint}
use Rattle.tickets.specs.Claims.{ClaimView, all_claims}
use Rattle.tickets.specs.Places.{IsGroupOf}
use Rattle.transactions.specs.declared.order_status.Work.{Work}
use Rattle.transactions.specs.declared.order_status.Work.TheVariants.{ShowCustomer, ShowOrder}
use Rattle.transactions.specs.declared.order_status.Found.{Found}
use Rattle.transactions.specs.declared.order_status.StatusShown.{StatusShown}
use Rattle.transactions.specs.declared.order_status.Progress.{Progress}
use Rattle.transactions.specs.declared.order_status.Progress.TheVariants.{ReadCustomer, ReadOrder}
use Rattle.transactions.specs.declared.work.Work.TheVariants as any_work
use Rattle.transactions.specs.Granted.{AreSomeOf, AreGroupWantsAt, group_want_of}
use Rattle.transactions.specs.OrderStatus.{CanDo, HasDone, IsReached, IsStatusShown, home_of, group_wants_of, works_of}
use Rattle.transactions.specs.OrderStatusLaws.{AcceptedStatusesHaveTheirDistrict}
use Rattle.transactions.specs.Works.{CanDo as AnyCanDo, all_group_wants}
use Rattle.transactions.proofs.InScale.{between, not_first}
use Rattle.transactions.proofs.Footprints.{AreApart, all_are_some, first_are_some, one_group_want, shared_group_want}
use Rattle.transactions.proofs.OrderStatusCarriedOut.{shown_customers_are_at_home}

-- ---- the rows that an accepted Order-Status refers to are there

status_in_scale : (scale : Scale) (o : OrderStatus) → IsAccepted scale (request.OrderStatus o) → (has_warehouse scale o.home.w_id ≡ true) × (is_between 1 10 o.home.d_id ≡ true)
status_in_scale scale o accepted =
    let others = BadLines ∷ BadQuantity ∷ BadSupply ∷ BadAmount ∷ BadThreshold ∷ BadCarrier ∷ [] in
    let first = not_first (applies scale (request.OrderStatus o)) BadWarehouse (BadDistrict ∷ others) accepted in
    let second = not_first (applies scale (request.OrderStatus o)) BadDistrict others first.1 in
    (not-false _ first.0, not-false _ second.0)

pub groups_there : (scale : Scale) (o : OrderStatus) → IsAccepted scale (request.OrderStatus o) → All (IsGroupOf scale.warehouses) (groups_of (order_status_footprint o))
groups_there scale o accepted =
    let is = status_in_scale scale o accepted in
    let warehouse = between 1 scale.warehouses o.home.w_id is.0 in
    let district = between 1 10 o.home.d_id is.1 in
    All-from_recursion (IsGroupOf scale.warehouses) (groups_of (order_status_footprint o))
    ((warehouse, district), ((warehouse, district), tt))

pub accepted_statuses_have_their_district : AcceptedStatusesHaveTheirDistrict
accepted_statuses_have_their_district scale o accepted =
    let is = status_in_scale scale o accepted in
    and_from (has_warehouse scale o.home.w_id) (is_between 1 10 o.home.d_id) is.0 is.1

-- ---- each action

pub works_have_their_groups : (shared : SharedTables) (work : Work) → CanDo shared work → All (IsGroupOf shared.scale.warehouses) (groups_of (group_wants_of work))
works_have_their_groups shared (ShowCustomer o) accepted =
    let is = status_in_scale shared.scale o accepted in
    let warehouse = between 1 shared.scale.warehouses o.home.w_id is.0 in
    let district = between 1 10 o.home.d_id is.1 in
    All-from_recursion (IsGroupOf shared.scale.warehouses) (groups_of (group_wants_of (ShowCustomer o))) ((warehouse, district), tt)
works_have_their_groups shared (ShowOrder key) has =
    let is = and_parts (has_warehouse shared.scale key.w_id) (is_between 1 10 key.d_id) has in
    let warehouse = between 1 shared.scale.warehouses key.w_id is.0 in
    let district = between 1 10 key.d_id is.1 in
    All-from_recursion (IsGroupOf shared.scale.warehouses) (groups_of (group_wants_of (ShowOrder key))) ((warehouse, district), tt)

pub works_are_at_warehouses : (shared : SharedTables) (work : Work) → CanDo shared work → IsTrue (has_warehouse shared.scale (home_of work))
works_are_at_warehouses shared (ShowCustomer o) accepted = (status_in_scale shared.scale o accepted).0
works_are_at_warehouses shared (ShowOrder key) has = (and_parts (has_warehouse shared.scale key.w_id) (is_between 1 10 key.d_id) has).0

pub works_have_group_wants : (work : Work) → 1 ≤ length (group_wants_of work)
works_have_group_wants (ShowCustomer o) = omega arith
works_have_group_wants (ShowOrder key) = omega arith

pub works_claim_at_home : (work : Work) → AreGroupWantsAt (home_of work) (group_wants_of work)
works_claim_at_home (ShowCustomer o) = one_group_want o.home.w_id (sharing (Customers o.home.w_id o.home.d_id)) refl
works_claim_at_home (ShowOrder key) = one_group_want key.w_id (sharing (Orders key.w_id key.d_id)) refl

-- no group is wanted for twice
pub works_group_want_once : (work : Work) → AreApart (group_wants_of work)
works_group_want_once (ShowCustomer o) zero d less = All-nil _
works_group_want_once (ShowCustomer o) (suc k) d less = absurd (omega arith)
works_group_want_once (ShowOrder key) zero d less = All-nil _
works_group_want_once (ShowOrder key) (suc k) d less = absurd (omega arith)

-- the claims are on the groups that it wanted for
pub done_on : (shared : SharedTables) (work : Work) (found : Found) (claims : List ClaimView) → HasDone shared work found claims
    → map (λ (claim : ClaimView). claim.group) claims ≡ groups_of (group_wants_of work)
done_on shared (ShowCustomer o) found claims done = ap (map (λ (claim : ClaimView). claim.group)) done.3 ∙ (λ i. done.4.claim.group i ∷ [])
done_on shared (ShowOrder key) found claims done = ap (map (λ (claim : ClaimView). claim.group)) done.3 ∙ (λ i. done.4.claim.group i ∷ [])

-- ---- each phase

pub accepted : (shared : SharedTables) (asked : Request) (progress : Progress) (held : List (List ClaimView)) → IsReached shared asked progress held → IsAccepted shared.scale asked
accepted shared asked (ReadCustomer o) held reached = reached.accepted
accepted shared asked (ReadOrder given) held reached = reached.accepted

pub some_actions : (progress : Progress) → 1 ≤ length (works_of progress)
some_actions (ReadCustomer o) = omega arith
some_actions (ReadOrder given) = omega arith

-- the customer's district is the one that was asked of
at_home : (shared : SharedTables) (asked : Request) (given : StatusShown) (held : List (List ClaimView)) (known : IsStatusShown shared asked given held) → district_of_customer given.key ≡ known.order_status.home
at_home shared asked given held known = shown_customers_are_at_home known.order_status given.key given.customer known.customers known.shown

-- they are few
pub few_actions : (shared : SharedTables) (asked : Request) (progress : Progress) (held : List (List ClaimView)) → IsReached shared asked progress held → length held + length (works_of progress) ≤ 2
few_actions shared asked (ReadCustomer o) held known = omega (arith, ap (λ (hs : List (List ClaimView)). length hs) known.none)
few_actions shared asked (ReadOrder given) held known = omega (arith, ap (λ (hs : List (List ClaimView)). length hs) known.claims)

pub can_all : (shared : SharedTables) (asked : Request) (progress : Progress) (held : List (List ClaimView)) → IsReached shared asked progress held → All (AnyCanDo shared) (works_of progress)
can_all shared asked (ReadCustomer o) held known =
    All-cons (AnyCanDo shared) (any_work.OrderStatus (ShowCustomer o)) [] (subst (IsAccepted shared.scale) known.is known.accepted) (All-nil (AnyCanDo shared))
can_all shared asked (ReadOrder given) held known =
    All-cons (AnyCanDo shared) (any_work.OrderStatus (ShowOrder given.key)) []
    (subst (λ (home : DistrictKey). IsTrue (has_district shared.scale home)) (sym (at_home shared asked given held known))
    (accepted_statuses_have_their_district shared.scale known.order_status (subst (IsAccepted shared.scale) known.is known.accepted)))
    (All-nil (AnyCanDo shared))

pub within : (shared : SharedTables) (asked : Request) (progress : Progress) (held : List (List ClaimView)) → IsReached shared asked progress held
    → AreSomeOf (map group_want_of (all_claims held) ++ all_group_wants (works_of progress)) (footprint asked)
within shared asked (ReadCustomer o) held known =
    let home = o.home in
    subst (λ held. AreSomeOf (map group_want_of (all_claims held) ++ all_group_wants (works_of (ReadCustomer o))) (footprint asked)) (sym known.none)
    (subst (λ r. AreSomeOf (all_group_wants (works_of (ReadCustomer o))) (footprint r)) (sym known.is)
    (first_are_some (sharing (Customers home.w_id home.d_id) ∷ []) (sharing (Orders home.w_id home.d_id) ∷ [])))
within shared asked (ReadOrder given) held known =
    let home = known.order_status.home in
    let here = at_home shared asked given held known in
    let order = sharing (Orders given.key.w_id given.key.d_id) in
    subst (λ held. AreSomeOf (map group_want_of (all_claims held) ++ all_group_wants (works_of (ReadOrder given))) (footprint asked)) (sym known.claims)
    (subst (λ r. AreSomeOf (group_want_of known.customers ∷ order ∷ []) (footprint r)) (sym known.is)
    (all_are_some (group_want_of known.customers ∷ order ∷ []) (footprint (request.OrderStatus known.order_status))
    (ap (λ (w : GroupWant). w ∷ order ∷ []) (shared_group_want _ known.customers known.shown.claim)
    ∙ ap (λ (k : DistrictKey). sharing (Customers home.w_id home.d_id) ∷ sharing (Orders k.w_id k.d_id) ∷ []) here)))
