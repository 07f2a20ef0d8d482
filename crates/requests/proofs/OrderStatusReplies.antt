-- The comparison of Order-Status' replies is exact.
use Rattle.std.proofs.Common.{rules, ◌≡◌, List}
use Rattle.std.specs.Bool.{Decides}
use Rattle.std.specs.Cmp.Lexicographic.{pointwise, pointwise_decides}
use Rattle.requests.specs.declared.order_status.OrderStatusReply.{OrderStatusReply}
use Rattle.requests.specs.declared.order_status.StatusLine.{StatusLine}
use Rattle.requests.specs.declared.order_status.StatusOrder.{StatusOrder}
use Rattle.requests.specs.contracts.order_status.StatusLinePartialEq.TheImpl as line
use Rattle.requests.specs.contracts.order_status.StatusOrderPartialEq.TheImpl as order
use Rattle.requests.specs.contracts.order_status.OrderStatusReplyPartialEq.TheImpl as reply

line_decides : (a b : StatusLine) → Decides (line.ghosts.eq a b) (a ≡ b)
line_decides a b = Prim.search rules

lines_decide : (xs ys : List StatusLine) → Decides (pointwise line.ghosts.eq xs ys) (xs ≡ ys)
lines_decide = pointwise_decides line_decides

order_decides : (a b : StatusOrder) → Decides (order.ghosts.eq a b) (a ≡ b)
order_decides a b = Prim.search (rules, lines_decide)

pub order_status_decides : (a b : OrderStatusReply) → Decides (reply.ghosts.eq a b) (a ≡ b)
order_status_decides a b = Prim.search (rules, order_decides)
