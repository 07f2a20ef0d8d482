use Rattle.std.proofs.Common.{codes, refl, rules}
use Rattle.std.specs.Prelude.{if◌then◌else◌}
use Rattle.std.proofs.lemmas.Result.{on_ok_weaker}
use Rattle.dataset.proofs.Texts.{adds-then, adds-number, adds-words}
use Rattle.dataset.proofs.orders.put.Goals as goal

pub returns : goal.returns
returns c =
    let row = c.args.row.now in
    on_ok_weaker c.put_all.result (λ last.
    adds-then (adds-words (codes "O") (codes "O") refl c.in_ok-push.ensures.added)
    (adds-then c.in_ok-put_key.ensures
    (adds-then (adds-number row.c_id _ (cc) c.in_ok-push_number.ensures.added)
    (adds-then c.in_ok-put_moment.ensures
    (adds-then c.in_ok-put_carrier.ensures
    (adds-then (adds-number row.ol_cnt _ (cc) c.in_ok-push_number-2.ensures.added)
    (adds-then (adds-number (if row.all_local then 1 else 0) _ (search rules) c.in_ok-push_number-3.ensures.added) last))))))) c.put_all.ensures
