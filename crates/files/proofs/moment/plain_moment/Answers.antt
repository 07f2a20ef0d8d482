use Rattle.std.proofs.Common.{arith, ap, ◌∙◌, None}
use Rattle.jiff_fmt.specs.Text.{date_text, time_text}
use Rattle.files.specs.MomentText.{IsMomentText}
use Rattle.files.proofs.PlainMoments.{if_some_ok, plain_text}
use Rattle.files.proofs.moment.plain_moment.Goals as goal

pub returns-clause-spelt : goal.returns-clause-spelt
returns-clause-spelt c =
    let moment = c.from_plain.result in
    let date = ap (λ m. date_text m.date) c.from_plain.ensures ∙ c.in_ok-date.ensures in
    let time = ap (λ m. time_text None m.time) c.from_plain.ensures ∙ c.in_ok-time.ensures.spelt in
    let whole = ap (λ m. m.time.subsec_nanosecond) c.from_plain.ensures ∙ c.in_ok-time.ensures.whole in
    rw c.ok.ensures.value (if_some_ok c.seconds_of.result (IsMomentText c.args.field.now) (λ seconds is.
    let second = (c.seconds_of.ensures.reads seconds).0 is in
    (moment, record { is_text = plain_text c.args.field.now moment (omega arith) date (omega arith) time; is_whole = whole; is_second = second.0 })))
