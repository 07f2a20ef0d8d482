-- The comparison of Delivery's replies is exact.
use Rattle.std.proofs.Common.{rules, ◌≡◌}
use Rattle.std.specs.Bool.{Decides}
use Rattle.requests.specs.declared.delivery.DeliveryReply.{DeliveryReply}
use Rattle.requests.specs.contracts.delivery.DeliveryReplyPartialEq.TheImpl as reply

pub delivery_decides : (a b : DeliveryReply) → Decides (reply.ghosts.eq a b) (a ≡ b)
delivery_decides a b = Prim.search rules
