-- What actions want for: claims that were granted for it, one after another, how many they are, and at which warehouse.
use Rattle.std.proofs.Common.{◌≡◌, ℕ, zero, suc, List, [], ◌∷◌, ◌++◌, length, refl, sym, ap, ◌∙◌, arith}
use Rattle.std.specs.Prelude.{◌+◌, Some, None, All, map, take, slice_get}
use Rattle.std.specs.List.{AllByRecursion}
use Rattle.std.proofs.lemmas.List.{length-map, take_more}
use Rattle.std.proofs.lemmas.List.Elements.{All-from_recursion}
use Rattle.std.proofs.lemmas.Option.{slice_get_within, get_or_from_slice_get}
use Rattle.groups.specs.Footprint.{groups_of}
use Rattle.groups.specs.declared.group_wants.GroupWant.{GroupWant}
use Rattle.tickets.specs.Claims.{ClaimView}
use Rattle.transactions.specs.declared.work.Work.TheVariants.{NewOrder, Payment, OrderStatus, Delivery, StockLevel}
use Rattle.transactions.specs.declared.work.Work.{Work}
use Rattle.transactions.specs.Granted.{AreGrantedFor, AreLeft}
use Rattle.transactions.specs.Works.{home_of, group_wants_of}
use Rattle.transactions.specs.Acting.{CanBeSettled, CanBeUndone}
use Rattle.transactions.specs.Laws.{WorksAreAtWarehouses, WorksAreDoneAtHome, WorksClaimAtHome, WorksHaveAClaimForEachGroupWant, WorksHaveTheirGroups, WorksHaveGroupWants}
use Rattle.transactions.proofs.Footprints.{AreApart}
use Rattle.transactions.proofs.Homes.{claims_here, of_one_home}
use Rattle.transactions.proofs.NewOrderWorks as new_order
use Rattle.transactions.proofs.PaymentWorks as payment
use Rattle.transactions.proofs.OrderStatusWorks as order_status
use Rattle.transactions.proofs.DeliveryWorks as delivery
use Rattle.transactions.proofs.StockLevelWorks as stock_level

-- ---- the want of a number

-- it comes after those before it
pub group_wants_more : (group_wants : List GroupWant) (k n : ℕ) (group_want : GroupWant) → slice_get group_wants k ≡ Some group_want → n ≡ k + 1 → take n group_wants ≡ take k group_wants ++ group_want ∷ []
group_wants_more group_wants k n group_want is next =
    ap (λ m. take m group_wants) next ∙ take_more group_wants k group_want (slice_get_within group_wants k group_want is)
    ∙ ap (λ (w : GroupWant). take k group_wants ++ w ∷ []) (get_or_from_slice_get group_wants k group_want group_want is)

-- with none of this number, those before it are all
pub take_all : (group_wants : List GroupWant) (k : ℕ) → slice_get group_wants k ≡ None → take k group_wants ≡ group_wants
take_all [] zero none = refl
take_all [] (suc k) none = refl
take_all (w ∷ ws) zero none = absurd cc
take_all (w ∷ ws) (suc k) none = ap (λ xs. w ∷ xs) (take_all ws k none)

-- ---- claims that are granted

-- nothing was done under them, so that nothing is to be committed
settled_each : (group_wants : List GroupWant) (claims : List ClaimView) → AreGrantedFor group_wants claims → AllByRecursion CanBeSettled claims
settled_each [] [] granted = tt
settled_each [] (c ∷ cs) granted = absurd granted
settled_each (w ∷ ws) [] granted = absurd granted
settled_each (w ∷ ws) (c ∷ cs) granted = ((λ exclusive. sym granted.0.fresh.left), settled_each ws cs granted.1)

pub granted_settled : (group_wants : List GroupWant) (claims : List ClaimView) → AreGrantedFor group_wants claims → All CanBeSettled claims
granted_settled group_wants claims granted = All-from_recursion CanBeSettled claims (settled_each group_wants claims granted)

-- whatever was left under them can be taken back
undone_each : (group_wants : List GroupWant) (olds news : List ClaimView) → AreGrantedFor group_wants olds → AreLeft olds news → AllByRecursion CanBeUndone news
undone_each group_wants [] [] granted left = tt
undone_each group_wants [] (new ∷ news) granted left = absurd left
undone_each group_wants (old ∷ olds) [] granted left = absurd left
undone_each [] (old ∷ olds) (new ∷ news) granted left = absurd granted
undone_each (group_want ∷ group_wants) (old ∷ olds) (new ∷ news) granted left =
    ((λ exclusive. ap (λ (c : ClaimView). c.recorded) left.0 ∙ sym granted.0.fresh.back ∙ sym (ap (λ (c : ClaimView). c.back) left.0)), undone_each group_wants olds news granted.1 left.1)

pub left_undone : (group_wants : List GroupWant) (olds news : List ClaimView) → AreGrantedFor group_wants olds → AreLeft olds news → All CanBeUndone news
left_undone group_wants olds news granted left = All-from_recursion CanBeUndone news (undone_each group_wants olds news granted left)

-- before each of an action's wants none is for its group
pub works_group_want_once : (work : Work) → AreApart (group_wants_of work)
works_group_want_once (NewOrder work) = new_order.works_group_want_once work
works_group_want_once (Payment work) = payment.works_group_want_once work
works_group_want_once (OrderStatus work) = order_status.works_group_want_once work
works_group_want_once (Delivery work) = delivery.works_group_want_once work
works_group_want_once (StockLevel work) = stock_level.works_group_want_once work

pub works_have_group_wants : WorksHaveGroupWants
works_have_group_wants (NewOrder work) = new_order.works_have_group_wants work
works_have_group_wants (Payment work) = payment.works_have_group_wants work
works_have_group_wants (OrderStatus work) = order_status.works_have_group_wants work
works_have_group_wants (Delivery work) = delivery.works_have_group_wants work
works_have_group_wants (StockLevel work) = stock_level.works_have_group_wants work

pub works_have_a_claim_for_each_group_want : WorksHaveAClaimForEachGroupWant
works_have_a_claim_for_each_group_want shared (NewOrder work) found claims done = new_order.done_on shared work done.0 claims done.2
works_have_a_claim_for_each_group_want shared (Payment work) found claims done = payment.done_on shared work done.0 claims done.2
works_have_a_claim_for_each_group_want shared (OrderStatus work) found claims done = order_status.done_on shared work done.0 claims done.2
works_have_a_claim_for_each_group_want shared (Delivery work) found claims done = delivery.done_on shared work done.0 claims done.2
works_have_a_claim_for_each_group_want shared (StockLevel work) found claims done = stock_level.done_on shared work done.0 claims done.2

-- as many claims as wants
as_many : (group_wants : List GroupWant) (claims : List ClaimView) → map (λ (claim : ClaimView). claim.group) claims ≡ groups_of group_wants → length claims ≡ length group_wants
as_many group_wants claims on =
    sym (length-map claims (λ (claim : ClaimView). claim.group)) ∙ ap length on ∙ length-map group_wants (λ (group_want : GroupWant). group_want.group)

-- ---- at which warehouse

pub works_claim_at_home : WorksClaimAtHome
works_claim_at_home (NewOrder work) = new_order.works_claim_at_home work
works_claim_at_home (Payment work) = payment.works_claim_at_home work
works_claim_at_home (OrderStatus work) = order_status.works_claim_at_home work
works_claim_at_home (Delivery work) = delivery.works_claim_at_home work
works_claim_at_home (StockLevel work) = stock_level.works_claim_at_home work

pub works_have_their_groups : WorksHaveTheirGroups
works_have_their_groups shared (NewOrder work) can = new_order.works_have_their_groups shared work can
works_have_their_groups shared (Payment work) can = payment.works_have_their_groups shared work can
works_have_their_groups shared (OrderStatus work) can = order_status.works_have_their_groups shared work can
works_have_their_groups shared (Delivery work) can = delivery.works_have_their_groups shared work can
works_have_their_groups shared (StockLevel work) can = stock_level.works_have_their_groups shared work can

pub works_are_at_warehouses : WorksAreAtWarehouses
works_are_at_warehouses shared (NewOrder work) can = new_order.works_are_at_warehouses shared work can
works_are_at_warehouses shared (Payment work) can = payment.works_are_at_warehouses shared work can
works_are_at_warehouses shared (OrderStatus work) can = order_status.works_are_at_warehouses shared work can
works_are_at_warehouses shared (Delivery work) can = delivery.works_are_at_warehouses shared work can
works_are_at_warehouses shared (StockLevel work) can = stock_level.works_are_at_warehouses shared work can

pub works_are_done_at_home : WorksAreDoneAtHome
works_are_done_at_home shared work found claims done =
    let on = works_have_a_claim_for_each_group_want shared work found claims done in
    let here = claims_here (home_of work) (group_wants_of work) claims on (works_claim_at_home work) in
    let some = works_have_group_wants work in
    let many = as_many (group_wants_of work) claims on in
    (here, of_one_home (home_of work) claims (omega (arith, some, many)) here)
