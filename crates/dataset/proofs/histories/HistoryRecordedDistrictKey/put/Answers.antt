use Rattle.std.proofs.Common.{codes, refl, ◌∙◌, arith, w64, FitsSigned}
use Rattle.std.proofs.lemmas.Int.{ints, to_z-of_z}
use Rattle.std.proofs.lemmas.Result.{on_ok_weaker}
use Rattle.dataset.proofs.Texts.{adds-then, adds-money, adds-words}
use Rattle.dataset.proofs.histories.HistoryRecordedDistrictKey.put.Goals as goal

pub returns : goal.returns
returns c =
    let row = c.args.self.now in
    let fits_one : FitsSigned w64 c.get.result = omega (arith, ints, c.get.ensures.in_range.low, c.get.ensures.in_range.high) in
    on_ok_weaker c.push-2.result (λ last.
    adds-then (adds-words (codes "H") (codes "H") refl c.in_ok-push.ensures.added)
    (adds-then c.in_ok-put_key.ensures
    (adds-then c.in_ok-put_key-2.ensures
    (adds-then c.in_ok-put_moment.ensures
    (adds-then (adds-money row.amount _ (to_z-of_z w64 c.get.result fits_one ∙ c.get.ensures.value) c.in_ok-push_signed.ensures.added)
    (adds-words row.data _ (cc) last)))))) c.push-2.ensures.added
