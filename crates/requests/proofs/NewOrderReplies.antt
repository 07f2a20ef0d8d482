-- The comparison of New-Order's replies is exact.
use Rattle.std.proofs.Common.{rules, ◌≡◌, List}
use Rattle.std.specs.Bool.{Decides}
use Rattle.std.specs.Cmp.Lexicographic.{pointwise, pointwise_decides}
use Rattle.requests.specs.declared.new_order.NewOrderReply.{NewOrderReply}
use Rattle.requests.specs.declared.new_order.NewOrderLine.{NewOrderLine}
use Rattle.requests.specs.contracts.new_order.NewOrderLinePartialEq.TheImpl as line
use Rattle.requests.specs.contracts.new_order.NewOrderReplyPartialEq.TheImpl as reply

line_decides : (a b : NewOrderLine) → Decides (line.ghosts.eq a b) (a ≡ b)
line_decides a b = Prim.search rules

lines_decide : (xs ys : List NewOrderLine) → Decides (pointwise line.ghosts.eq xs ys) (xs ≡ ys)
lines_decide = pointwise_decides line_decides

pub new_order_decides : (a b : NewOrderReply) → Decides (reply.ghosts.eq a b) (a ≡ b)
new_order_decides a b = Prim.search (rules, lines_decide)
