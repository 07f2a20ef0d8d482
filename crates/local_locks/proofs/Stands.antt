-- The contents of a table's groups, after something else is left in one, and after claims are given back.
use Rattle.std.proofs.Common.{◌≡◌, ℕ, ◌<◌, Bool, true, List, [], ◌∷◌, length, get_or, map, refl, sym, ap, subst, ◌∙◌, arith}
use Rattle.std.specs.Prelude.{if◌then◌else◌}
use Rattle.std.proofs.lemmas.List.{get_or-map, length-map}
use Rattle.requests.specs.declared.group.Group.{Group}
use Rattle.requests.specs.declared.group.Group.TheVariants.{Warehouse}
use Rattle.groups.specs.Content.{Content}
use Rattle.groups.specs.Groups.{is_same, warehouse_of}
use Rattle.groups.proofs.SameGroups.{is_same-itself}
use Rattle.tickets.specs.Boxes.{sharing}
use Rattle.tickets.specs.Claims.{ClaimView}
use Rattle.tickets.specs.Places.{IsGroupOf, place_in_warehouse}
use Rattle.tickets.specs.Unset.{nothing}
use Rattle.local_locks.specs.Asking.{all_kept_after, kept_after, left_after}
use Rattle.local_locks.specs.LockTableView.{AreStandsOf, IsStandAt, Stand, left_in}
use Rattle.local_locks.specs.Locks.{AreLocksOf, LockView, stand_in}
use Rattle.local_locks.proofs.Covering.{one_group}

pub stands_of : (warehouses w_id : ℕ) (locks : List LockView) → AreLocksOf warehouses w_id locks → AreStandsOf warehouses w_id (map stand_in locks)
stands_of warehouses w_id locks are = record {
  all_there = length-map locks stand_in ∙ are.all_there;
  each = λ k d small.
      let there : k < length locks = omega (arith, small, are.all_there) in
      let e : LockView = record { ticket_box = sharing (Warehouse 0) nothing 0; holders = [] } in
      let at = are.each k e there in
      let is : IsStandAt warehouses w_id k (stand_in (get_or locks k e)) = record { known = at.known; here = at.here; place = at.place } in
      subst (IsStandAt warehouses w_id k) (sym (get_or-map stand_in locks k e d there)) is;
}

pub inside : (warehouses : ℕ) (group : Group) → IsGroupOf warehouses group → place_in_warehouse group < 105
inside warehouses group known = grind arith

abbrev unset : Group → Stand
unset group = record { group = group; left = nothing; back = nothing }

-- what is left in a group is its content
pub left_there : (warehouses w_id : ℕ) (stands : List Stand) (group : Group) (content : Content) → AreStandsOf warehouses w_id stands → IsGroupOf warehouses group → warehouse_of group ≡ w_id
    → left_in (map (left_after group content) stands) group ≡ content
left_there warehouses w_id stands group content are known home =
    let place = place_in_warehouse group in
    let d = unset group in
    let small : place < 105 = inside warehouses group known in
    let stand = get_or stands place d in
    let at = are.each place d small in
    let same : stand.group ≡ group = one_group warehouses stand.group group at.known known (at.here ∙ sym home) at.place in
    let test : is_same stand.group group ≡ true = ap (λ (g : Group). is_same g group) same ∙ is_same-itself group in
    ap (λ (s : Stand). s.left) (get_or-map (left_after group content) stands place d d (omega (arith, small, are.all_there)))
    ∙ ap (λ (t : Bool). if t then content else stand.left) test

-- giving claims back leaves the contents unchanged
pub left_kept : (claims : List ClaimView) (stands : List Stand) (group : Group) → place_in_warehouse group < length stands → left_in (all_kept_after claims stands) group ≡ left_in stands group
left_kept [] stands group small = refl
left_kept (claim ∷ claims) stands group small =
    let d = unset group in
    left_kept claims (map (kept_after claim) stands) group (omega (arith, small, length-map stands (kept_after claim)))
    ∙ ap (λ (s : Stand). s.left) (get_or-map (kept_after claim) stands (place_in_warehouse group) d d small)
