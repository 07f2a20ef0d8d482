use Rattle.std.proofs.Common.{◌≡◌, drop, length, take}
use Rattle.tickets.specs.Openings.{boxes_beside, contents_committed, contents_opened}
use Rattle.tickets.specs.Places.{AreAtPlaces}
use Rattle.tickets.proofs.opening.named_all.Given as goal

-- so many seats stand at their places, with what was opened for them and a box beside each
abbrev pub invariant-loop-opening : goal.invariant-loop-opening
invariant-loop-opening g l = record {
  can_next : (goal.iterator-loop-opening g).can_next l.opening-iterator;
  finite : (goal.iterator-loop-opening g).is_finite l.opening-iterator;
  rest : l.opening-iterator.rest.items ≡ drop (length l.seats.items) l.fn.openings.items;
  places : AreAtPlaces l.fn.warehouses l.seats.items;
  contents : contents_committed l.seats.items ≡ contents_opened (take (length l.seats.items) l.fn.openings.items);
  boxes : l.boxes.items ≡ boxes_beside l.seats.items;
}
