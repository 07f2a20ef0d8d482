use Rattle.std.proofs.Common.{◌≡◌, None, arith, ap, ◌∙◌}
use Rattle.std.proofs.lemmas.Int.{ints}
use Rattle.jiff_fmt.specs.Text.{pad2, time_text}
use Rattle.files.proofs.PlainMoments.{if_some_ok, plain_time_text}
use Rattle.files.proofs.moment.plain_time.Goals as goal

pub returns-clause-spelt : goal.returns-clause-spelt
returns-clause-spelt c =
    let h = c.in_ok-hour.ensures in
    let m = c.in_ok-minute.ensures in
    let s = c.in_ok-second.ensures in
    rw c.ok.ensures.value (if_some_ok c.new.result (λ time. time_text None time ≡ c.args.bytes.now) (λ time is.
    let parts = rw is at c.new.ensures.value in
    let hour : time.hour ≡ c.in_ok-hour.hour = omega (arith, ints) in
    let minute : time.minute ≡ c.in_ok-minute.minute = omega (arith, ints) in
    let second : time.second ≡ c.in_ok-second.second = omega (arith, ints) in
    plain_time_text c.args.bytes.now time (omega arith) (ap pad2 hour ∙ h.value) (omega arith) (ap pad2 minute ∙ m.value) (omega arith) (ap pad2 second ∙ s.value) (omega (arith, ints))))
