-- What the actions of a Stock-Level need and claim, and where.
use Rattle.std.proofs.Common.{◌≡◌, ◌≢◌, ◌≤◌, ◌<◌, ◌+◌, ℕ, zero, suc, List, [], ◌∷◌, ◌++◌, length, map, IsTrue, refl, sym, ap, subst, ◌∙◌, arith}
use Rattle.std.specs.Prelude.{All, take}
use Rattle.std.specs.List.{range_with_len}
use Rattle.std.proofs.lemmas.Bool.{not-false}
use Rattle.std.proofs.lemmas.List.{append-nil}
use Rattle.std.proofs.lemmas.List.Elements.{All-nil, All-cons, All-head, All-tail}
use Rattle.std.proofs.lemmas.List.FromFn.{get_or-map-range_with_len, length-map-range_with_len, take-map-range_with_len}
use Rattle.rows.specs.declared.limits.TheConstants.{STOCK_GROUPS}
use Rattle.partitions.specs.Parts.{SharedTables}
use Rattle.schema.specs.declared.scale.Scale.{Scale}
use Rattle.schema.specs.Scale.{has_warehouse}
use Rattle.requests.specs.declared.group.Group.{Group}
use Rattle.requests.specs.declared.group.Group.TheVariants.{District, Orders, Stock}
use Rattle.requests.specs.declared.request.Request.{Request}
use Rattle.requests.specs.declared.request.Request.TheVariants as request
use Rattle.requests.specs.declared.stock_level.StockLevel.{StockLevel}
use Rattle.requests.specs.declared.refusal.Refusal.TheVariants.{BadWarehouse, BadDistrict, BadLines, BadQuantity, BadSupply, BadAmount, BadThreshold, BadCarrier}
use Rattle.requests.specs.Check.{applies, IsAccepted}
use Rattle.groups.specs.Groups.{warehouse_of}
use Rattle.groups.specs.declared.group_wants.GroupWant.{GroupWant}
use Rattle.groups.specs.Footprint.{shared as sharing, footprint, groups_of}
use Rattle.tickets.specs.Claims.{ClaimView, all_claims}
use Rattle.tickets.specs.Places.{IsGroupOf}
use Rattle.transactions.specs.declared.stock_level.Work.{Work}
use Rattle.transactions.specs.declared.stock_level.Work.TheVariants.{ReadNext, ReadItems, CountLow}
use Rattle.transactions.specs.declared.stock_level.Found.{Found}
use Rattle.transactions.specs.declared.stock_level.Progress.{Progress}
use Rattle.transactions.specs.declared.stock_level.Progress.TheVariants as at
use Rattle.transactions.specs.declared.work.Work.TheVariants as any_work
use Rattle.transactions.specs.Granted.{AreSomeOf, AreGroupWantsAt, group_want_of}
use Rattle.transactions.specs.StockLevel.{AreSharedOn, CanDo, HasDone, IsReached, home_of, stock_of, group_wants_of, works_of}
use Rattle.transactions.specs.Works.{CanDo as AnyCanDo, all_group_wants}
use Rattle.transactions.proofs.AcceptedGroups.{level_groups_there}
use Rattle.transactions.proofs.InScale.{not_first}
use Rattle.transactions.proofs.Footprints.{AreApart, all_are_some, first_are_some, one_group_want, shared_group_want}

-- ---- the wants for all stock

module _ (w_id : ℕ) where
  abbrev pub stock_group_want : ℕ → GroupWant
  stock_group_want residue = sharing (Stock w_id residue)

  abbrev pub stock_group_wants : ℕ → ℕ → List GroupWant
  stock_group_wants from count = map stock_group_want (range_with_len from count)

  stock_at_home : (from count : ℕ) → AreGroupWantsAt w_id (stock_group_wants from count)
  stock_at_home from zero = All-nil (λ (group_want : GroupWant). warehouse_of group_want.group ≡ w_id)
  stock_at_home from (suc count) =
      All-cons (λ (group_want : GroupWant). warehouse_of group_want.group ≡ w_id) (stock_group_want from) (stock_group_wants (from + 1) count) refl (stock_at_home (from + 1) count)

  -- those before a residue are for others
  stock_before : (residue from count : ℕ) → from + count ≤ residue → All (λ (before : GroupWant). before.group ≢ Stock w_id residue) (stock_group_wants from count)
  stock_before residue from zero low = All-nil (λ (before : GroupWant). before.group ≢ Stock w_id residue)
  stock_before residue from (suc count) low =
      All-cons (λ (before : GroupWant). before.group ≢ Stock w_id residue) (stock_group_want from) (stock_group_wants (from + 1) count)
      (λ (same : Stock w_id from ≡ Stock w_id residue). let equal : from ≡ residue = cc in absurd (omega arith)) (stock_before residue (from + 1) count (omega arith))

  stock_apart : AreApart (stock_group_wants 0 STOCK_GROUPS)
  stock_apart k d less =
      let small : k < STOCK_GROUPS = omega (arith, less, length-map-range_with_len stock_group_want 0 STOCK_GROUPS) in
      subst (λ (group_want : GroupWant). All (λ (before : GroupWant). before.group ≢ group_want.group) (take k (stock_group_wants 0 STOCK_GROUPS))) (sym (get_or-map-range_with_len stock_group_want 0 STOCK_GROUPS k k d small (omega arith)))
      (subst (All (λ (before : GroupWant). before.group ≢ Stock w_id k)) (sym (take-map-range_with_len stock_group_want 0 STOCK_GROUPS k (omega arith))) (stock_before k 0 k (omega arith)))

  -- the groups of the wants are those of the stock
  same_groups : (from count : ℕ) → map (λ (residue : ℕ). Stock w_id residue) (range_with_len from count) ≡ groups_of (stock_group_wants from count)
  same_groups from zero = refl
  same_groups from (suc count) = ap (λ (groups : List Group). Stock w_id from ∷ groups) (same_groups (from + 1) count)

-- claims that are shared ones on groups are on these groups
claims_on : (groups : List Group) (claims : List ClaimView) → AreSharedOn groups claims → map (λ (claim : ClaimView). claim.group) claims ≡ groups
claims_on [] [] on = refl
claims_on [] (claim ∷ claims) on = absurd on
claims_on (group ∷ groups) [] on = absurd on
claims_on (group ∷ groups) (claim ∷ claims) on = λ i. on.0.group i ∷ claims_on groups claims on.1 i

-- ---- each action

-- the warehouse of an accepted Stock-Level is there
warehouse_there : (scale : Scale) (s : StockLevel) → IsAccepted scale (request.StockLevel s) → IsTrue (has_warehouse scale s.home.w_id)
warehouse_there scale s accepted =
    let others = BadDistrict ∷ BadLines ∷ BadQuantity ∷ BadSupply ∷ BadAmount ∷ BadThreshold ∷ BadCarrier ∷ [] in
    not-false _ (not_first (applies scale (request.StockLevel s)) BadWarehouse others accepted).0

pub works_have_their_groups : (shared : SharedTables) (work : Work) → CanDo shared work → All (IsGroupOf shared.scale.warehouses) (groups_of (group_wants_of work))
works_have_their_groups shared (ReadNext s) accepted =
    let P = IsGroupOf shared.scale.warehouses in
    let district = District s.home.w_id s.home.d_id in
    let orders = Orders s.home.w_id s.home.d_id in
    let stock = groups_of (stock_group_wants s.home.w_id 0 STOCK_GROUPS) in
    All-cons P district [] (All-head P district (orders ∷ stock) (level_groups_there shared.scale s accepted)) (All-nil P)
works_have_their_groups shared (ReadItems s next) accepted =
    let P = IsGroupOf shared.scale.warehouses in
    let district = District s.home.w_id s.home.d_id in
    let orders = Orders s.home.w_id s.home.d_id in
    let stock = groups_of (stock_group_wants s.home.w_id 0 STOCK_GROUPS) in
    All-cons P orders [] (All-head P orders stock (All-tail P district (orders ∷ stock) (level_groups_there shared.scale s accepted))) (All-nil P)
works_have_their_groups shared (CountLow s items) accepted =
    let P = IsGroupOf shared.scale.warehouses in
    let district = District s.home.w_id s.home.d_id in
    let orders = Orders s.home.w_id s.home.d_id in
    let stock = groups_of (stock_group_wants s.home.w_id 0 STOCK_GROUPS) in
    All-tail P orders stock (All-tail P district (orders ∷ stock) (level_groups_there shared.scale s accepted))

pub works_are_at_warehouses : (shared : SharedTables) (work : Work) → CanDo shared work → IsTrue (has_warehouse shared.scale (home_of work))
works_are_at_warehouses shared (ReadNext s) accepted = warehouse_there shared.scale s accepted
works_are_at_warehouses shared (ReadItems s next) accepted = warehouse_there shared.scale s accepted
works_are_at_warehouses shared (CountLow s items) accepted = warehouse_there shared.scale s accepted

pub works_have_group_wants : (work : Work) → 1 ≤ length (group_wants_of work)
works_have_group_wants (ReadNext s) = omega arith
works_have_group_wants (ReadItems s next) = omega arith
works_have_group_wants (CountLow s items) = omega (arith, length-map-range_with_len (stock_group_want s.home.w_id) 0 STOCK_GROUPS)

pub works_claim_at_home : (work : Work) → AreGroupWantsAt (home_of work) (group_wants_of work)
works_claim_at_home (ReadNext s) = one_group_want s.home.w_id (sharing (District s.home.w_id s.home.d_id)) refl
works_claim_at_home (ReadItems s next) = one_group_want s.home.w_id (sharing (Orders s.home.w_id s.home.d_id)) refl
works_claim_at_home (CountLow s items) = stock_at_home s.home.w_id 0 STOCK_GROUPS

-- no group is wanted for twice
pub works_group_want_once : (work : Work) → AreApart (group_wants_of work)
works_group_want_once (ReadNext s) zero d less = All-nil _
works_group_want_once (ReadNext s) (suc k) d less = absurd (omega arith)
works_group_want_once (ReadItems s next) zero d less = All-nil _
works_group_want_once (ReadItems s next) (suc k) d less = absurd (omega arith)
works_group_want_once (CountLow s items) k d less = stock_apart s.home.w_id k d less

-- the claims are on the groups that it wanted for
pub done_on : (shared : SharedTables) (work : Work) (found : Found) (claims : List ClaimView) → HasDone shared work found claims
    → map (λ (claim : ClaimView). claim.group) claims ≡ groups_of (group_wants_of work)
done_on shared (ReadNext s) found claims done = ap (map (λ (claim : ClaimView). claim.group)) done.3 ∙ (λ i. done.4.claim.group i ∷ [])
done_on shared (ReadItems s next) found claims done = ap (map (λ (claim : ClaimView). claim.group)) done.3 ∙ (λ i. done.4.claim.group i ∷ [])
done_on shared (CountLow s items) found claims done = claims_on (stock_of s.home.w_id) claims done.2.claims ∙ same_groups s.home.w_id 0 STOCK_GROUPS

-- ---- each phase

pub accepted : (shared : SharedTables) (asked : Request) (progress : Progress) (held : List (List ClaimView)) → IsReached shared asked progress held → IsAccepted shared.scale asked
accepted shared asked (at.ReadNext s) held reached = reached.accepted
accepted shared asked (at.ReadItems s next) held reached = reached.accepted
accepted shared asked (at.CountLow s items) held reached = reached.accepted

pub some_actions : (progress : Progress) → 1 ≤ length (works_of progress)
some_actions progress = omega arith

-- they are few
pub few_actions : (shared : SharedTables) (asked : Request) (progress : Progress) (held : List (List ClaimView)) → IsReached shared asked progress held → length held + length (works_of progress) ≤ 3
few_actions shared asked (at.ReadNext s) held known = omega (arith, ap (λ (hs : List (List ClaimView)). length hs) known.none)
few_actions shared asked (at.ReadItems s next) held known = omega (arith, ap (λ (hs : List (List ClaimView)). length hs) known.claims)
few_actions shared asked (at.CountLow s items) held known = omega (arith, ap (λ (hs : List (List ClaimView)). length hs) known.claims)

pub can_all : (shared : SharedTables) (asked : Request) (progress : Progress) (held : List (List ClaimView)) → IsReached shared asked progress held → All (AnyCanDo shared) (works_of progress)
can_all shared asked (at.ReadNext s) held known =
    All-cons (AnyCanDo shared) (any_work.StockLevel (ReadNext s)) [] (subst (IsAccepted shared.scale) known.is known.accepted) (All-nil (AnyCanDo shared))
can_all shared asked (at.ReadItems s next) held known =
    All-cons (AnyCanDo shared) (any_work.StockLevel (ReadItems s next)) [] (subst (IsAccepted shared.scale) known.is known.accepted) (All-nil (AnyCanDo shared))
can_all shared asked (at.CountLow s items) held known =
    All-cons (AnyCanDo shared) (any_work.StockLevel (CountLow s items)) [] (subst (IsAccepted shared.scale) known.is known.accepted) (All-nil (AnyCanDo shared))

pub within : (shared : SharedTables) (asked : Request) (progress : Progress) (held : List (List ClaimView)) → IsReached shared asked progress held
    → AreSomeOf (map group_want_of (all_claims held) ++ all_group_wants (works_of progress)) (footprint asked)
within shared asked (at.ReadNext s) held known =
    let home = s.home in
    subst (λ held. AreSomeOf (map group_want_of (all_claims held) ++ all_group_wants (works_of (at.ReadNext s))) (footprint asked)) (sym known.none)
    (subst (λ r. AreSomeOf (all_group_wants (works_of (at.ReadNext s))) (footprint r)) (sym known.is)
    (first_are_some (sharing (District home.w_id home.d_id) ∷ []) (sharing (Orders home.w_id home.d_id) ∷ stock_group_wants home.w_id 0 STOCK_GROUPS)))
within shared asked (at.ReadItems s next) held known =
    let home = s.home in
    let orders = sharing (Orders home.w_id home.d_id) in
    subst (λ held. AreSomeOf (map group_want_of (all_claims held) ++ all_group_wants (works_of (at.ReadItems s next))) (footprint asked)) (sym known.claims)
    (subst (λ r. AreSomeOf (group_want_of known.district ∷ orders ∷ []) (footprint r)) (sym known.is)
    (subst (λ (w : GroupWant). AreSomeOf (w ∷ orders ∷ []) (footprint (request.StockLevel s))) (sym (shared_group_want _ known.district known.read.claim))
    (first_are_some (sharing (District home.w_id home.d_id) ∷ orders ∷ []) (stock_group_wants home.w_id 0 STOCK_GROUPS))))
within shared asked (at.CountLow s items) held known =
    let home = s.home in
    let stock = stock_group_wants home.w_id 0 STOCK_GROUPS in
    subst (λ held. AreSomeOf (map group_want_of (all_claims held) ++ all_group_wants (works_of (at.CountLow s items))) (footprint asked)) (sym known.claims)
    (subst (λ r. AreSomeOf (group_want_of known.district ∷ group_want_of known.orders ∷ (stock ++ [])) (footprint r)) (sym known.is)
    (all_are_some (group_want_of known.district ∷ group_want_of known.orders ∷ (stock ++ [])) (footprint (request.StockLevel s))
    (λ i. shared_group_want _ known.district known.next_read.claim i ∷ shared_group_want _ known.orders known.read.claim i ∷ append-nil stock i)))
