-- The comparison of replies is exact.
use Rattle.std.proofs.Common.{rules, ◌≡◌, ap}
use Rattle.std.specs.Bool.{Decides}
use Rattle.requests.specs.declared.reply.Fault.{Fault}
use Rattle.requests.specs.declared.reply.Reply.{Reply}
use Rattle.requests.specs.declared.reply.Reply.TheVariants.{Done, RolledBack}
use Rattle.requests.specs.declared.reply.Shown.{Shown}
use Rattle.requests.specs.contracts.reply.FaultPartialEq.TheImpl as fault
use Rattle.requests.specs.contracts.reply.ShownPartialEq.TheImpl as shown
use Rattle.requests.specs.contracts.reply.ReplyPartialEq.TheImpl as reply
use Rattle.requests.proofs.NewOrderReplies.{new_order_decides}
use Rattle.requests.proofs.PaymentReplies.{payment_decides}
use Rattle.requests.proofs.OrderStatusReplies.{order_status_decides}
use Rattle.requests.proofs.DeliveryReplies.{delivery_decides}
use Rattle.requests.proofs.StockLevelReplies.{stock_level_decides}

fault_decides : (a b : Fault) → Decides (fault.ghosts.eq a b) (a ≡ b)
fault_decides a b = Prim.search rules

shown_decides : (a b : Shown) → Decides (shown.ghosts.eq a b) (a ≡ b)
shown_decides a b = Prim.search (rules, new_order_decides, payment_decides, order_status_decides, delivery_decides, stock_level_decides)

pub reply_decides : (a b : Reply) → Decides (reply.ghosts.eq a b) (a ≡ b)
reply_decides (Done a) (Done b) =
    (λ e. ap Done ((shown_decides a b).0 e), λ same. let inner : a ≡ b = cc in (shown_decides a b).1 inner)
reply_decides (Done a) (RolledBack b) = (λ e. absurd (cc), λ same. absurd (cc))
reply_decides (RolledBack a) (Done b) = (λ e. absurd (cc), λ same. absurd (cc))
reply_decides (RolledBack a) (RolledBack b) =
    (λ e. ap RolledBack ((fault_decides a b).0 e), λ same. let inner : a ≡ b = cc in (fault_decides a b).1 inner)
