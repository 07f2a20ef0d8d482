use Rattle.std.proofs.Common.{◌∙◌, arith, w64, FitsSigned}
use Rattle.std.proofs.lemmas.Int.{ints, to_z-of_z}
use Rattle.std.proofs.lemmas.Result.{on_ok_weaker}
use Rattle.dataset.proofs.Texts.{adds-then, adds-money, adds-number, adds-words}
use Rattle.dataset.proofs.customers.put_account.Goals as goal

pub returns : goal.returns
returns c =
    let row = c.args.row.now in
    let fits_one : FitsSigned w64 c.get.result = omega (arith, ints, c.get.ensures.in_range.low, c.get.ensures.in_range.high) in
    let fits_three : FitsSigned w64 c.get-3.result = omega (arith, ints, c.get-3.ensures.in_range.low, c.get-3.ensures.in_range.high) in
    let fits_four : FitsSigned w64 c.get-4.result = omega (arith, ints, c.get-4.ensures.in_range.low, c.get-4.ensures.in_range.high) in
    on_ok_weaker c.push.result (λ last.
    adds-then (adds-money row.credit_lim _ (to_z-of_z w64 c.get.result fits_one ∙ c.get.ensures.value) c.in_ok-push_signed.ensures.added)
    (adds-then (adds-number row.discount _ (cc) c.in_ok-push_number.ensures.added)
    (adds-then (adds-money row.balance _ (to_z-of_z w64 c.get-3.result fits_three ∙ c.get-3.ensures.value) c.in_ok-push_signed-2.ensures.added)
    (adds-then (adds-money row.ytd_payment _ (to_z-of_z w64 c.get-4.result fits_four ∙ c.get-4.ensures.value) c.in_ok-push_signed-3.ensures.added)
    (adds-then (adds-number row.payment_cnt _ (cc) c.in_ok-push_number-2.ensures.added)
    (adds-then (adds-number row.delivery_cnt _ (cc) c.in_ok-push_number-3.ensures.added)
    (adds-words row.data _ (cc) last))))))) c.push.ensures.added
