-- The boxes of a warehouse whose groups were named.
use Rattle.std.proofs.Common.{◌≡◌, ◌<◌, List, length, get_or, refl, sym, subst, ◌∙◌, arith}
use Rattle.std.proofs.lemmas.List.{get_or-map, length-map}
use Rattle.requests.specs.declared.group.Group.{Group}
use Rattle.requests.specs.declared.group.Group.TheVariants.{Warehouse}
use Rattle.groups.specs.Groups.{warehouse_of}
use Rattle.tickets.specs.Boxes.{TicketBoxView}
use Rattle.tickets.specs.LogSeats.{CommittedGroup}
use Rattle.tickets.specs.Openings.{box_beside, boxes_beside}
use Rattle.tickets.specs.Places.{IsGroupOf, AreInPlace, place_of, place_in_warehouse}
use Rattle.tickets.specs.Unset.{nothing}
use Rattle.local_locks.specs.LockTableView.{IsBoxAt, AreBoxesOf}

only_warehouse : (group : Group) → IsGroupOf 1 group → warehouse_of group ≡ 1
only_warehouse group known = grind arith

only_place : (group : Group) → IsGroupOf 1 group → place_of group ≡ place_in_warehouse group
only_place group known = grind arith

pub boxes_of_one : (seats : List CommittedGroup) (boxes : List TicketBoxView) → AreInPlace 1 seats → boxes ≡ boxes_beside seats → AreBoxesOf 1 1 boxes
boxes_of_one seats boxes places same = subst (AreBoxesOf 1 1) (sym same) (record {
  all_there = length-map seats box_beside ∙ places.all_there;
  each = λ k d small.
      let e : CommittedGroup = record { group = Warehouse 0; content = nothing } in
      let inside : k < length seats = omega (arith, small, places.all_there) in
      let seat = get_or seats k e in
      let known : IsGroupOf 1 seat.group = places.at_places.groups k e inside in
      let is : IsBoxAt 1 1 k (box_beside seat) = record { known = known; here = only_warehouse seat.group known; place = sym (only_place seat.group known) ∙ places.at_places.places k e inside; idle = refl } in
      subst (IsBoxAt 1 1 k) (sym (get_or-map box_beside seats k e d inside)) is;
})
