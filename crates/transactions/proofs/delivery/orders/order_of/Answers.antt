use Rattle.std.proofs.Common.{◌≡◌, true, Option, Some, None, is_some}
use Rattle.std.specs.FinMap as table
use Rattle.machine.specs.NewOrder.{order_key}
use Rattle.machine.proofs.OldestOrder.{oldest_is_there}
use Rattle.transactions.proofs.EachOne.{is_there}
use Rattle.transactions.proofs.delivery.orders.order_of.Goals as goal

not_none : {X : Type 0} (row : Option X) → None ≡ row → is_some row ≡ true → ⊥
not_none None is there = absurd cc
not_none (Some x) is there = absurd cc

-- each row of NEW-ORDER has its row of ORDER
pub unreachable-requires : goal.unreachable-requires
unreachable-requires c =
    let key = order_key c.args.home c.args.o_id in
    let t = c.args.rows.now.tables in
    let new = is_there (table.get t.new_orders key) (oldest_is_there c.args.home c.args.o_id t.new_orders c.requires.oldest) in
    let there : is_some (table.get t.orders key) ≡ true = c.requires.part.new_orders_have_orders key new.0 new.1 in
    let none : None ≡ table.get t.orders key = c.in_default.ensures in
    not_none (table.get t.orders key) none there
