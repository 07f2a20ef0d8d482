use Rattle.std.proofs.Common.{codes, refl}
use Rattle.files.specs.Word.{credit_text}
use Rattle.std.proofs.lemmas.Result.{on_ok_weaker}
use Rattle.dataset.proofs.Texts.{adds-then, adds-words}
use Rattle.dataset.proofs.customers.CustomerRecordedCustomerKey.put.Goals as goal

pub returns : goal.returns
returns c =
    let row = c.args.self.now in
    on_ok_weaker c.put_account.result (λ last.
    adds-then (adds-words (codes "C") (codes "C") refl c.in_ok-push.ensures.added)
    (adds-then c.in_ok-put_key.ensures
    (adds-then (adds-words row.first _ (cc) c.in_ok-push-2.ensures.added)
    (adds-then (adds-words row.middle _ (cc) c.in_ok-push-3.ensures.added)
    (adds-then (adds-words row.last _ (cc) c.in_ok-push-4.ensures.added)
    (adds-then c.in_ok-put_address.ensures
    (adds-then (adds-words row.phone _ (cc) c.in_ok-push-5.ensures.added)
    (adds-then c.in_ok-put_moment.ensures
    (adds-then (adds-words (credit_text row.credit) _ (cc) c.in_ok-push-6.ensures.added)
    (last)))))))))) c.put_account.ensures
