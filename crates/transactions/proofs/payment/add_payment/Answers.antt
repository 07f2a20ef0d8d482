use Rattle.std.proofs.Common.{◌≡◌, [], ◌∷◌, ap, ◌∙◌}
use Rattle.std.proofs.lemmas.Result.{on_ok_weaker}
use Rattle.tickets.specs.Claims.{ClaimView, leaving}
use Rattle.slices.specs.Undo.{with_payment_more}
use Rattle.transactions.proofs.Kept as kept
use Rattle.transactions.proofs.PaymentDone as done
use Rattle.transactions.proofs.payment.add_payment.Goals as goal

pub returns-clause-kept : goal.returns-clause-kept
returns-clause-kept g c =
    let looked = kept.unchanged (c.args.history.now ∷ []) (c.look.new.claim ∷ []) c.args.slice.now c.look.new.self (λ i. c.look.ensures.same.1 i ∷ []) c.look.ensures.same.0 in
    kept.then _ _ _ _ _ _ looked
    (kept.by_call c.add_payment.result c.look.new.claim c.add_payment.new.claim c.look.new.self c.add_payment.new.self c.add_payment.ensures.kept c.add_payment.ensures.err)

pub returns-clause-added : goal.returns-clause-added
returns-clause-added g c =
    let row = c.args.row in
    on_ok_weaker c.add_payment.result
    (λ (is : c.add_payment.new.claim ≡ leaving c.look.new.claim (with_payment_more row c.look.new.claim.left)).
    done.payment_added c.args.payment.now c.args.slice.now.tables row c.args.history.now c.add_payment.new.claim c.requires.claim c.requires.fresh c.look.ensures.left
    (is ∙ ap (λ (k : ClaimView). leaving k (with_payment_more row k.left)) c.look.ensures.same.1))
    c.add_payment.ensures.claim
