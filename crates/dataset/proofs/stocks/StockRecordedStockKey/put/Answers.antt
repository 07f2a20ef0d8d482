use Rattle.std.proofs.Common.{codes, refl}
use Rattle.std.proofs.lemmas.Result.{on_ok_weaker}
use Rattle.dataset.proofs.Texts.{adds-then, adds-number, adds-words}
use Rattle.dataset.proofs.stocks.StockRecordedStockKey.put.Goals as goal

pub returns : goal.returns
returns c =
    let row = c.args.self.now in
    on_ok_weaker c.push-2.result (λ last.
    adds-then (adds-words (codes "S") (codes "S") refl c.in_ok-push.ensures.added)
    (adds-then (adds-number c.args.key.w_id _ (cc) c.in_ok-push_number.ensures.added)
    (adds-then (adds-number c.args.key.i_id _ (cc) c.in_ok-push_number-2.ensures.added)
    (adds-then (adds-number row.quantity _ (cc) c.in_ok-push_number-3.ensures.added)
    (adds-then c.in_ok-put_district_infos.ensures
    (adds-then (adds-number row.ytd _ (cc) c.in_ok-push_number-4.ensures.added)
    (adds-then (adds-number row.order_cnt _ (cc) c.in_ok-push_number-5.ensures.added)
    (adds-then (adds-number row.remote_cnt _ (cc) c.in_ok-push_number-6.ensures.added)
    (adds-words row.data _ (cc) last))))))))) c.push-2.ensures.added
