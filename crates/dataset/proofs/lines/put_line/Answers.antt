use Rattle.std.proofs.lemmas.Result.{on_ok_weaker}
use Rattle.dataset.proofs.Texts.{adds-then, adds-number, adds-words}
use Rattle.dataset.proofs.lines.put_line.Goals as goal

pub returns : goal.returns
returns c =
    let row = c.args.row.now in
    on_ok_weaker c.push.result (λ last.
    adds-then (adds-number c.args.number _ (cc) c.in_ok-push_number.ensures.added)
    (adds-then (adds-number row.i_id _ (cc) c.in_ok-push_number-2.ensures.added)
    (adds-then (adds-number row.supply_w_id _ (cc) c.in_ok-push_number-3.ensures.added)
    (adds-then c.in_ok-put_delivery.ensures
    (adds-then (adds-number row.quantity _ (cc) c.in_ok-push_number-4.ensures.added)
    (adds-then (adds-number row.amount _ (cc) c.in_ok-push_number-5.ensures.added)
    (adds-words row.dist_info _ (cc) last))))))) c.push.ensures.added
