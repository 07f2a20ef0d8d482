-- The comparison of payments' replies is exact.
use Rattle.std.proofs.Common.{rules, ◌≡◌}
use Rattle.std.specs.Bool.{Decides}
use Rattle.requests.specs.declared.payment.PaymentReply.{PaymentReply}
use Rattle.requests.specs.contracts.payment.PaymentReplyPartialEq.TheImpl as reply

pub payment_decides : (a b : PaymentReply) → Decides (reply.ghosts.eq a b) (a ≡ b)
payment_decides a b = Prim.search rules
