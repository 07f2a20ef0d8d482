-- What the actions of a Delivery need and claim, and where.
use Rattle.std.proofs.Common.{◌≡◌, ◌≤◌, ◌+◌, zero, suc, true, List, [], ◌∷◌, ◌++◌, length, map, IsTrue, sym, ap, refl, subst, ◌∙◌, arith}
use Rattle.std.specs.Prelude.{All}
use Rattle.std.proofs.lemmas.Bool.{not-false}
use Rattle.std.proofs.lemmas.List.Elements.{All-nil, All-cons, All-from_recursion}
use Rattle.rows.specs.Ranged.{is_between}
use Rattle.partitions.specs.Parts.{SharedTables}
use Rattle.schema.specs.declared.scale.Scale.{Scale}
use Rattle.schema.specs.Scale.{has_warehouse}
use Rattle.requests.specs.declared.request.Request.{Request}
use Rattle.requests.specs.declared.request.Request.TheVariants as request
use Rattle.requests.specs.declared.delivery.Delivery.{Delivery}
use Rattle.requests.specs.declared.refusal.Refusal.TheVariants.{BadWarehouse, BadDistrict, BadLines, BadQuantity, BadSupply, BadAmount, BadThreshold, BadCarrier}
use Rattle.requests.specs.Check.{applies, IsAccepted}
use Rattle.groups.specs.declared.group_wants.GroupWant.{GroupWant}
use Rattle.groups.specs.Footprint.{exclusively, footprint, groups_of, delivery_footprint}
use Rattle.tickets.specs.Claims.{ClaimView, all_claims}
use Rattle.tickets.specs.Places.{IsGroupOf}
use Rattle.transactions.specs.declared.delivery.work.Work.{Work}
use Rattle.transactions.specs.declared.delivery.work.Work.TheVariants.{DeliverOrder, CreditCustomer}
use Rattle.transactions.specs.declared.delivery.work.Found.{Found}
use Rattle.transactions.specs.declared.delivery.phases.Progress.{Progress}
use Rattle.transactions.specs.declared.delivery.phases.Progress.TheVariants as at
use Rattle.transactions.specs.declared.work.Work.TheVariants as any_work
use Rattle.transactions.specs.Granted.{AreSomeOf, AreGroupWantsAt, group_of_customers, group_of_orders, group_want_of}
use Rattle.transactions.specs.Delivery.{CanDo, HasDone, IsReached, home_of, group_wants_of, works_of}
use Rattle.transactions.specs.Works.{CanDo as AnyCanDo, all_group_wants}
use Rattle.transactions.proofs.InScale.{between, not_first}
use Rattle.transactions.proofs.Footprints.{AreApart, all_are_some, exclusive_group_want, first_are_some, one_group_want}

-- ---- the district of an accepted Delivery is there

delivery_in_scale : (scale : Scale) (d : Delivery) → IsAccepted scale (request.Delivery d) → (has_warehouse scale d.home.w_id ≡ true) × (is_between 1 10 d.home.d_id ≡ true)
delivery_in_scale scale d accepted =
    let others = BadLines ∷ BadQuantity ∷ BadSupply ∷ BadAmount ∷ BadThreshold ∷ BadCarrier ∷ [] in
    let first = not_first (applies scale (request.Delivery d)) BadWarehouse (BadDistrict ∷ others) accepted in
    let second = not_first (applies scale (request.Delivery d)) BadDistrict others first.1 in
    (not-false _ first.0, not-false _ second.0)

-- and so is each of its groups
own_there : (scale : Scale) (d : Delivery) → IsAccepted scale (request.Delivery d)
    → IsGroupOf scale.warehouses (group_of_orders d.home) × IsGroupOf scale.warehouses (group_of_customers d.home)
own_there scale d accepted =
    let is = delivery_in_scale scale d accepted in
    let warehouse = between 1 scale.warehouses d.home.w_id is.0 in
    let district = between 1 10 d.home.d_id is.1 in
    ((warehouse, district), (warehouse, district))

pub groups_there : (scale : Scale) (d : Delivery) → IsAccepted scale (request.Delivery d) → All (IsGroupOf scale.warehouses) (groups_of (delivery_footprint d))
groups_there scale d accepted =
    let own = own_there scale d accepted in
    All-from_recursion (IsGroupOf scale.warehouses) (groups_of (delivery_footprint d)) (own.0, (own.1, tt))

-- ---- each action

pub works_have_their_groups : (shared : SharedTables) (work : Work) → CanDo shared work → All (IsGroupOf shared.scale.warehouses) (groups_of (group_wants_of work))
works_have_their_groups shared (DeliverOrder d) accepted =
    All-from_recursion (IsGroupOf shared.scale.warehouses) (groups_of (group_wants_of (DeliverOrder d))) ((own_there shared.scale d accepted).0, tt)
works_have_their_groups shared (CreditCustomer d order) accepted =
    All-from_recursion (IsGroupOf shared.scale.warehouses) (groups_of (group_wants_of (CreditCustomer d order))) ((own_there shared.scale d accepted).1, tt)

pub works_are_at_warehouses : (shared : SharedTables) (work : Work) → CanDo shared work → IsTrue (has_warehouse shared.scale (home_of work))
works_are_at_warehouses shared (DeliverOrder d) accepted = (delivery_in_scale shared.scale d accepted).0
works_are_at_warehouses shared (CreditCustomer d order) accepted = (delivery_in_scale shared.scale d accepted).0

pub works_have_group_wants : (work : Work) → 1 ≤ length (group_wants_of work)
works_have_group_wants (DeliverOrder d) = omega arith
works_have_group_wants (CreditCustomer d order) = omega arith

pub works_claim_at_home : (work : Work) → AreGroupWantsAt (home_of work) (group_wants_of work)
works_claim_at_home (DeliverOrder d) = one_group_want d.home.w_id (exclusively (group_of_orders d.home)) refl
works_claim_at_home (CreditCustomer d order) = one_group_want d.home.w_id (exclusively (group_of_customers d.home)) refl

-- no group is wanted for twice
pub works_group_want_once : (work : Work) → AreApart (group_wants_of work)
works_group_want_once (DeliverOrder d) zero w less = All-nil _
works_group_want_once (DeliverOrder d) (suc k) w less = absurd (omega arith)
works_group_want_once (CreditCustomer d order) zero w less = All-nil _
works_group_want_once (CreditCustomer d order) (suc k) w less = absurd (omega arith)

-- the claims are on the groups that it wanted for
pub done_on : (shared : SharedTables) (work : Work) (found : Found) (claims : List ClaimView) → HasDone shared work found claims
    → map (λ (claim : ClaimView). claim.group) claims ≡ groups_of (group_wants_of work)
done_on shared (DeliverOrder d) found claims done = ap (map (λ (claim : ClaimView). claim.group)) done.3 ∙ (λ i. done.4.claim.group i ∷ [])
done_on shared (CreditCustomer d order) found claims done = ap (map (λ (claim : ClaimView). claim.group)) done.3 ∙ (λ i. done.4.claim.group i ∷ [])

-- ---- each phase

pub accepted : (shared : SharedTables) (asked : Request) (progress : Progress) (held : List (List ClaimView)) → IsReached shared asked progress held → IsAccepted shared.scale asked
accepted shared asked (at.DeliverOrder d) held reached = reached.accepted
accepted shared asked (at.CreditCustomer d order) held reached = reached.accepted

pub some_actions : (progress : Progress) → 1 ≤ length (works_of progress)
some_actions progress = omega arith

-- they are few
pub few_actions : (shared : SharedTables) (asked : Request) (progress : Progress) (held : List (List ClaimView)) → IsReached shared asked progress held → length held + length (works_of progress) ≤ 2
few_actions shared asked (at.DeliverOrder d) held known = omega (arith, ap (λ (hs : List (List ClaimView)). length hs) known.none)
few_actions shared asked (at.CreditCustomer d order) held known = omega (arith, ap (λ (hs : List (List ClaimView)). length hs) known.claims)

pub can_all : (shared : SharedTables) (asked : Request) (progress : Progress) (held : List (List ClaimView)) → IsReached shared asked progress held → All (AnyCanDo shared) (works_of progress)
can_all shared asked (at.DeliverOrder d) held known =
    All-cons (AnyCanDo shared) (any_work.Delivery (DeliverOrder d)) [] (subst (IsAccepted shared.scale) known.is known.accepted) (All-nil (AnyCanDo shared))
can_all shared asked (at.CreditCustomer d order) held known =
    All-cons (AnyCanDo shared) (any_work.Delivery (CreditCustomer d order)) [] (subst (IsAccepted shared.scale) known.is known.accepted) (All-nil (AnyCanDo shared))

pub within : (shared : SharedTables) (asked : Request) (progress : Progress) (held : List (List ClaimView)) → IsReached shared asked progress held
    → AreSomeOf (map group_want_of (all_claims held) ++ all_group_wants (works_of progress)) (footprint asked)
within shared asked (at.DeliverOrder d) held known =
    subst (λ held. AreSomeOf (map group_want_of (all_claims held) ++ all_group_wants (works_of (at.DeliverOrder d))) (footprint asked)) (sym known.none)
    (subst (λ r. AreSomeOf (all_group_wants (works_of (at.DeliverOrder d))) (footprint r)) (sym known.is)
    (first_are_some (exclusively (group_of_orders d.home) ∷ []) (exclusively (group_of_customers d.home) ∷ [])))
within shared asked (at.CreditCustomer d order) held known =
    let customers = exclusively (group_of_customers d.home) in
    subst (λ held. AreSomeOf (map group_want_of (all_claims held) ++ all_group_wants (works_of (at.CreditCustomer d order))) (footprint asked)) (sym known.claims)
    (subst (λ r. AreSomeOf (group_want_of known.orders ∷ customers ∷ []) (footprint r)) (sym known.is)
    (all_are_some (group_want_of known.orders ∷ customers ∷ []) (footprint (request.Delivery d))
    (ap (λ (w : GroupWant). w ∷ customers ∷ []) (exclusive_group_want _ known.orders known.done.claim))))
