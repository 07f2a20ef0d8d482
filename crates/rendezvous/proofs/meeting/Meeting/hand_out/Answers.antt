use Rattle.std.proofs.Common.{arith}
use Rattle.rendezvous.proofs.SharedPlaces.{handed_out}
use Rattle.rendezvous.proofs.meeting.Meeting.hand_out.Goals as goal

pub invariant_of-places : goal.invariant_of-places
invariant_of-places g c = handed_out c.places.inside.places c.places.inside.next c.places.inside.seat c.part-seat.new.seat _ c.places.invariant (omega (arith, c.places.invariant.bound, c.if-number-places.false)) c.part-seat.ensures.seat c.part-seat.ensures.left
