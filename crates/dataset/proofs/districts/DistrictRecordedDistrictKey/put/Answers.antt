use Rattle.std.proofs.Common.{codes, refl, ◌∙◌, arith, w64, FitsSigned}
use Rattle.std.proofs.lemmas.Int.{ints, to_z-of_z}
use Rattle.std.proofs.lemmas.Result.{on_ok_weaker}
use Rattle.dataset.proofs.Texts.{adds-then, adds-money, adds-number, adds-words}
use Rattle.dataset.proofs.districts.DistrictRecordedDistrictKey.put.Goals as goal

pub returns : goal.returns
returns c =
    let row = c.args.self.now in
    let fits_two : FitsSigned w64 c.get-2.result = omega (arith, ints, c.get-2.ensures.in_range.low, c.get-2.ensures.in_range.high) in
    on_ok_weaker c.push_number-2.result (λ last.
    adds-then (adds-words (codes "D") (codes "D") refl c.in_ok-push.ensures.added)
    (adds-then c.in_ok-put_key.ensures
    (adds-then (adds-words row.name _ (cc) c.in_ok-push-2.ensures.added)
    (adds-then c.in_ok-put_address.ensures
    (adds-then (adds-number row.tax _ (cc) c.in_ok-push_number.ensures.added)
    (adds-then (adds-money row.ytd _ (to_z-of_z w64 c.get-2.result fits_two ∙ c.get-2.ensures.value) c.in_ok-push_signed.ensures.added)
    (adds-number row.next_o_id _ (cc) last))))))) c.push_number-2.ensures.added
