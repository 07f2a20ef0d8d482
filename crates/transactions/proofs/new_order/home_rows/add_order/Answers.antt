use Rattle.std.proofs.Common.{◌≡◌, [], ◌∷◌, ◌∙◌}
use Rattle.std.proofs.lemmas.Result.{on_ok_weaker}
use Rattle.tickets.specs.Claims.{leaving}
use Rattle.slices.specs.Undo.{with_order_more}
use Rattle.transactions.proofs.Kept as kept
use Rattle.transactions.proofs.NewOrderDone as done
use Rattle.transactions.proofs.new_order.home_rows.add_order.Goals as goal

pub returns-clause-kept : goal.returns-clause-kept
returns-clause-kept g c =
    let looked = kept.unchanged (c.args.orders.now ∷ []) (c.look.new.claim ∷ []) c.args.slice.now c.look.new.self (λ i. c.look.ensures.same.1 i ∷ []) c.look.ensures.same.0 in
    kept.then _ _ _ _ _ _ looked
    (kept.by_call c.add_order.result c.look.new.claim c.add_order.new.claim c.look.new.self c.add_order.new.self c.add_order.ensures.kept c.add_order.ensures.err)

pub returns-clause-added : goal.returns-clause-added
returns-clause-added g c =
    let rows = c.args.rows in
    on_ok_weaker c.add_order.result
    (λ (is : c.add_order.new.claim ≡ leaving c.look.new.claim (with_order_more rows.key rows.row c.into_vec.result.items c.look.new.claim.left)).
    done.order_is_added c.args.slice.now.tables rows c.args.orders.now c.add_order.new.claim c.requires.claim c.requires.fresh c.look.ensures.left
    (is ∙ (λ i. leaving (c.look.ensures.same.1 i) (with_order_more rows.key rows.row (c.into_vec.ensures i) (c.look.ensures.same.1 i).left))))
    c.add_order.ensures.claim
