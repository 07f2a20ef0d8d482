-- What a payment's actions need and claim, and where; and which customer is paid.
use Rattle.std.proofs.Common.{◌≡◌, ◌≢◌, ◌≤◌, ◌+◌, zero, suc, true, List, [], ◌∷◌, ◌++◌, length, map, IsTrue, refl, sym, ap, subst, ◌∙◌, arith}
use Rattle.std.specs.Prelude.{All}
use Rattle.std.proofs.lemmas.Bool.{and_parts, and_from, not-false}
use Rattle.std.proofs.lemmas.List.Elements.{All-nil, All-cons, All-from_recursion}
use Rattle.rows.specs.declared.keys.CustomerKey.{CustomerKey}
use Rattle.rows.specs.Ranged.{is_between}
use Rattle.partitions.specs.Parts.{SharedTables}
use Rattle.schema.specs.declared.scale.Scale.{Scale}
use Rattle.schema.specs.Scale.{has_warehouse, has_customer}
use Rattle.requests.specs.declared.group.Group.TheVariants.{Warehouse, District, Customers, History as HistoryGroup}
use Rattle.requests.specs.declared.request.Request.{Request}
use Rattle.requests.specs.declared.request.Request.TheVariants as request
use Rattle.requests.specs.declared.payment.Payment.{Payment}
use Rattle.requests.specs.declared.refusal.Refusal.TheVariants.{BadWarehouse, BadDistrict, BadLines, BadQuantity, BadSupply, BadAmount, BadThreshold, BadCarrier}
use Rattle.requests.specs.Check.{applies, IsAccepted}
use Rattle.groups.specs.declared.group_wants.GroupWant.{GroupWant}
use Rattle.groups.specs.Footprint.{exclusively, footprint, groups_of, payment_footprint}
use Rattle.groups.specs.Groups.{warehouse_of}
use Rattle.tickets.specs.Claims.{ClaimView, all_claims}
use Rattle.tickets.specs.Places.{IsGroupOf}
use Rattle.transactions.specs.declared.payment.Work.{Work}
use Rattle.transactions.specs.declared.payment.Work.TheVariants.{PayHome, PayCustomer, AddPayment}
use Rattle.transactions.specs.declared.payment.Found.{Found}
use Rattle.transactions.specs.declared.payment.HomePaid.TheVariants as h
use Rattle.transactions.specs.declared.payment.CustomerPaid.TheVariants as c
use Rattle.transactions.specs.declared.payment.Paid.{Paid}
use Rattle.transactions.specs.declared.payment.Progress.{Progress}
use Rattle.transactions.specs.declared.payment.Progress.TheVariants.{PayRows, AddRow}
use Rattle.transactions.specs.declared.work.Work.TheVariants as any_work
use Rattle.transactions.specs.Granted.{AreSomeOf, AreGroupWantsAt, group_want_of}
use Rattle.transactions.specs.Payment.{CanDo, HasDone, IsReached, home_of, paid_with, group_wants_of, works_of}
use Rattle.transactions.specs.PaymentLaws.{AcceptedPaymentsHaveTheirDistrict, GatheredPayersAreKnown}
use Rattle.transactions.specs.Works.{CanDo as AnyCanDo, all_group_wants}
use Rattle.transactions.proofs.InScale.{between, not_first}
use Rattle.transactions.proofs.Footprints.{AreApart, all_are_some, exclusive_group_want, first_are_some, one_group_want}

-- ---- the rows that an accepted payment refers to are there

record IsInScale (scale : Scale) (p : Payment) : Type 0 where
  warehouse : has_warehouse scale p.home.w_id ≡ true
  payers_warehouse : has_warehouse scale p.customer_home.w_id ≡ true
  district : is_between 1 10 p.home.d_id ≡ true
  payers_district : is_between 1 10 p.customer_home.d_id ≡ true

in_scale : (scale : Scale) (p : Payment) → IsAccepted scale (request.Payment p) → IsInScale scale p
in_scale scale p accepted =
    let others = BadLines ∷ BadQuantity ∷ BadSupply ∷ BadAmount ∷ BadThreshold ∷ BadCarrier ∷ [] in
    let first = not_first (applies scale (request.Payment p)) BadWarehouse (BadDistrict ∷ others) accepted in
    let second = not_first (applies scale (request.Payment p)) BadDistrict others first.1 in
    let warehouses = and_parts (has_warehouse scale p.home.w_id) (has_warehouse scale p.customer_home.w_id) (not-false _ first.0) in
    let districts = and_parts (is_between 1 10 p.home.d_id) (is_between 1 10 p.customer_home.d_id) (not-false _ second.0) in
    record { warehouse = warehouses.0; payers_warehouse = warehouses.1; district = districts.0; payers_district = districts.1 }

pub groups_there : (scale : Scale) (p : Payment) → IsAccepted scale (request.Payment p) → All (IsGroupOf scale.warehouses) (groups_of (payment_footprint p))
groups_there scale p accepted =
    let is = in_scale scale p accepted in
    let warehouse = between 1 scale.warehouses p.home.w_id is.warehouse in
    let district = between 1 10 p.home.d_id is.district in
    let payers_warehouse = between 1 scale.warehouses p.customer_home.w_id is.payers_warehouse in
    let payers_district = between 1 10 p.customer_home.d_id is.payers_district in
    All-from_recursion (IsGroupOf scale.warehouses) (groups_of (payment_footprint p))
    (warehouse, ((warehouse, district), ((payers_warehouse, payers_district), ((warehouse, district), tt))))

pub accepted_payments_have_their_district : AcceptedPaymentsHaveTheirDistrict
accepted_payments_have_their_district scale p accepted =
    let is = in_scale scale p accepted in
    and_from (has_warehouse scale p.home.w_id) (is_between 1 10 p.home.d_id) is.warehouse is.district

-- ---- each action

pub works_have_their_groups : (shared : SharedTables) (work : Work) → CanDo shared work → All (IsGroupOf shared.scale.warehouses) (groups_of (group_wants_of work))
works_have_their_groups shared (PayHome p) accepted =
    let is = in_scale shared.scale p accepted in
    let warehouse = between 1 shared.scale.warehouses p.home.w_id is.warehouse in
    let district = between 1 10 p.home.d_id is.district in
    All-from_recursion (IsGroupOf shared.scale.warehouses) (groups_of (group_wants_of (PayHome p))) (warehouse, ((warehouse, district), tt))
works_have_their_groups shared (PayCustomer p) accepted =
    let is = in_scale shared.scale p accepted in
    let warehouse = between 1 shared.scale.warehouses p.customer_home.w_id is.payers_warehouse in
    let district = between 1 10 p.customer_home.d_id is.payers_district in
    All-from_recursion (IsGroupOf shared.scale.warehouses) (groups_of (group_wants_of (PayCustomer p))) ((warehouse, district), tt)
works_have_their_groups shared (AddPayment p row) can =
    let is = in_scale shared.scale p can.0 in
    let warehouse = between 1 shared.scale.warehouses p.home.w_id is.warehouse in
    let district = between 1 10 p.home.d_id is.district in
    All-from_recursion (IsGroupOf shared.scale.warehouses) (groups_of (group_wants_of (AddPayment p row))) ((warehouse, district), tt)

pub works_are_at_warehouses : (shared : SharedTables) (work : Work) → CanDo shared work → IsTrue (has_warehouse shared.scale (home_of work))
works_are_at_warehouses shared (PayHome p) accepted = (in_scale shared.scale p accepted).warehouse
works_are_at_warehouses shared (PayCustomer p) accepted = (in_scale shared.scale p accepted).payers_warehouse
works_are_at_warehouses shared (AddPayment p row) can = (in_scale shared.scale p can.0).warehouse

pub works_have_group_wants : (work : Work) → 1 ≤ length (group_wants_of work)
works_have_group_wants (PayHome p) = omega arith
works_have_group_wants (PayCustomer p) = omega arith
works_have_group_wants (AddPayment p row) = omega arith

pub works_claim_at_home : (work : Work) → AreGroupWantsAt (home_of work) (group_wants_of work)
works_claim_at_home (PayHome p) =
    All-cons (λ (w : GroupWant). warehouse_of w.group ≡ p.home.w_id) (exclusively (Warehouse p.home.w_id)) (exclusively (District p.home.w_id p.home.d_id) ∷ []) refl (one_group_want p.home.w_id (exclusively (District p.home.w_id p.home.d_id)) refl)
works_claim_at_home (PayCustomer p) = one_group_want p.customer_home.w_id (exclusively (Customers p.customer_home.w_id p.customer_home.d_id)) refl
works_claim_at_home (AddPayment p row) = one_group_want p.home.w_id (exclusively (HistoryGroup p.home.w_id p.home.d_id)) refl

-- no group is wanted for twice
pub works_group_want_once : (work : Work) → AreApart (group_wants_of work)
works_group_want_once (PayHome p) zero d less = All-nil _
works_group_want_once (PayHome p) (suc zero) d less =
    All-cons (λ (before : GroupWant). before.group ≢ District p.home.w_id p.home.d_id) (exclusively (Warehouse p.home.w_id)) [] (λ same. absurd cc) (All-nil _)
works_group_want_once (PayHome p) (suc (suc k)) d less = absurd (omega arith)
works_group_want_once (PayCustomer p) zero d less = All-nil _
works_group_want_once (PayCustomer p) (suc k) d less = absurd (omega arith)
works_group_want_once (AddPayment p row) zero d less = All-nil _
works_group_want_once (AddPayment p row) (suc k) d less = absurd (omega arith)

-- the claims are on the groups that it wanted for
pub done_on : (shared : SharedTables) (work : Work) (found : Found) (claims : List ClaimView) → HasDone shared work found claims
    → map (λ (claim : ClaimView). claim.group) claims ≡ groups_of (group_wants_of work)
done_on shared (PayHome p) found claims done =
    ap (map (λ (claim : ClaimView). claim.group)) done.4 ∙ (λ i. done.5.warehouse_claim.group i ∷ done.5.district_claim.group i ∷ [])
done_on shared (PayCustomer p) found claims done = ap (map (λ (claim : ClaimView). claim.group)) done.3 ∙ (λ i. done.4.claim.group i ∷ [])
done_on shared (AddPayment p row) found claims done = ap (map (λ (claim : ClaimView). claim.group)) done.2 ∙ (λ i. done.3.claim.group i ∷ [])

-- ---- the customer that is paid

pub gathered_payers_are_known : GatheredPayersAreKnown
gathered_payers_are_known scale p (h.Paid warehouse district) (c.Paid reply) given found known =
    let made : paid_with p reply warehouse district ≡ given = cc in
    let P : CustomerKey → Type 0 = λ key. IsTrue (has_customer scale key) in
    subst P (ap (λ (paid : Paid). paid.row.customer) made) known
gathered_payers_are_known scale p h.Missing customer given found known = absurd cc
gathered_payers_are_known scale p h.OutOfRange c.Missing given found known = absurd cc
gathered_payers_are_known scale p h.OutOfRange c.OutOfRange given found known = absurd cc
gathered_payers_are_known scale p h.OutOfRange (c.Paid reply) given found known = absurd cc
gathered_payers_are_known scale p (h.Paid warehouse district) c.Missing given found known = absurd cc
gathered_payers_are_known scale p (h.Paid warehouse district) c.OutOfRange given found known = absurd cc

-- ---- each phase

pub accepted : (shared : SharedTables) (asked : Request) (progress : Progress) (held : List (List ClaimView)) → IsReached shared asked progress held → IsAccepted shared.scale asked
accepted shared asked (PayRows p) held reached = reached.accepted
accepted shared asked (AddRow given) held reached = reached.accepted

pub some_actions : (progress : Progress) → 1 ≤ length (works_of progress)
some_actions (PayRows p) = omega arith
some_actions (AddRow given) = omega arith

-- they are few
pub few_actions : (shared : SharedTables) (asked : Request) (progress : Progress) (held : List (List ClaimView)) → IsReached shared asked progress held → length held + length (works_of progress) ≤ 3
few_actions shared asked (PayRows p) held known = omega (arith, ap (λ (hs : List (List ClaimView)). length hs) known.none)
few_actions shared asked (AddRow given) held known = omega (arith, ap (λ (hs : List (List ClaimView)). length hs) known.claims)

pub can_all : (shared : SharedTables) (asked : Request) (progress : Progress) (held : List (List ClaimView)) → IsReached shared asked progress held → All (AnyCanDo shared) (works_of progress)
can_all shared asked (PayRows p) held known =
    let accepted : IsAccepted shared.scale (request.Payment p) = subst (IsAccepted shared.scale) known.is known.accepted in
    All-cons (AnyCanDo shared) (any_work.Payment (PayHome p)) (any_work.Payment (PayCustomer p) ∷ []) accepted
    (All-cons (AnyCanDo shared) (any_work.Payment (PayCustomer p)) [] accepted (All-nil (AnyCanDo shared)))
can_all shared asked (AddRow given) held known =
    let p = given.payment in
    All-cons (AnyCanDo shared) (any_work.Payment (AddPayment p given.row)) []
    (subst (IsAccepted shared.scale) known.is known.accepted, gathered_payers_are_known shared.scale p known.home known.customer given known.next known.payer)
    (All-nil (AnyCanDo shared))

pub within : (shared : SharedTables) (asked : Request) (progress : Progress) (held : List (List ClaimView)) → IsReached shared asked progress held
    → AreSomeOf (map group_want_of (all_claims held) ++ all_group_wants (works_of progress)) (footprint asked)
within shared asked (PayRows p) held known =
    subst (λ held. AreSomeOf (map group_want_of (all_claims held) ++ all_group_wants (works_of (PayRows p))) (footprint asked)) (sym known.none)
    (subst (λ r. AreSomeOf (all_group_wants (works_of (PayRows p))) (footprint r)) (sym known.is)
    (first_are_some
    (exclusively (Warehouse p.home.w_id) ∷ exclusively (District p.home.w_id p.home.d_id) ∷ exclusively (Customers p.customer_home.w_id p.customer_home.d_id) ∷ [])
    (exclusively (HistoryGroup p.home.w_id p.home.d_id) ∷ [])))
within shared asked (AddRow given) held known =
    let p = given.payment in
    let warehouse = exclusively (Warehouse p.home.w_id) in
    let district = exclusively (District p.home.w_id p.home.d_id) in
    let history = exclusively (HistoryGroup p.home.w_id p.home.d_id) in
    subst (λ held. AreSomeOf (map group_want_of (all_claims held) ++ all_group_wants (works_of (AddRow given))) (footprint asked)) (sym known.claims)
    (subst (λ r. AreSomeOf (group_want_of known.warehouse ∷ group_want_of known.district ∷ group_want_of known.customers ∷ history ∷ []) (footprint r)) (sym known.is)
    (all_are_some (group_want_of known.warehouse ∷ group_want_of known.district ∷ group_want_of known.customers ∷ history ∷ []) (footprint (request.Payment p))
    (ap (λ (w : GroupWant). w ∷ group_want_of known.district ∷ group_want_of known.customers ∷ history ∷ []) (exclusive_group_want _ known.warehouse known.home_paid.warehouse_claim)
    ∙ ap (λ (w : GroupWant). warehouse ∷ w ∷ group_want_of known.customers ∷ history ∷ []) (exclusive_group_want _ known.district known.home_paid.district_claim)
    ∙ ap (λ (w : GroupWant). warehouse ∷ district ∷ w ∷ history ∷ []) (exclusive_group_want _ known.customers known.customer_paid.claim))))
