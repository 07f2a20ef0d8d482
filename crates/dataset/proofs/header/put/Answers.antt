use Rattle.std.proofs.Common.{codes, refl}
use Rattle.dataset.proofs.Texts.{adds-then, adds-number, adds-words}
use Rattle.std.proofs.lemmas.Result.{on_ok_weaker}
use Rattle.dataset.proofs.header.put.Goals as goal

pub returns : goal.returns
returns c =
    let scale = c.args.scale in
    on_ok_weaker c.push_number-4.result (λ last.
    adds-then (adds-words (codes "TPCC") (codes "TPCC") refl c.in_ok-push.ensures.added)
    (adds-then (adds-number 2 _ (cc) c.in_ok-push_number.ensures.added)
    (adds-then (adds-number scale.warehouses _ (cc) c.in_ok-push_number-2.ensures.added)
    (adds-then (adds-number scale.items _ (cc) c.in_ok-push_number-3.ensures.added)
    (adds-number scale.customers _ (cc) last))))) c.push_number-4.ensures.added
