use Rattle.std.proofs.Common.{◌≡◌, ◌*◌, ◌+◌, arith, ap, ◌∙◌, pos}
use Rattle.std.proofs.lemmas.Int.{ints}
use Rattle.jiff_fmt.specs.Text.{pad2, date_text}
use Rattle.files.proofs.PlainMoments.{if_some_ok, plain_date_text}
use Rattle.files.proofs.moment.plain_date.Goals as goal

pub returns : goal.returns
returns c =
    let h = c.in_ok-century.ensures in
    let y = c.in_ok-of_century.ensures in
    let m = c.in_ok-month.ensures in
    let d = c.in_ok-day.ensures in
    rw c.ok.ensures.value (if_some_ok c.new.result (λ date. date_text date ≡ c.args.bytes.now) (λ date is.
    let parts = rw is at c.new.ensures.value in
    let year : date.year ≡ pos (c.in_ok-century.century * 100 + c.in_ok-of_century.of_century) = omega (arith, ints) in
    let month : date.month ≡ c.in_ok-month.month = omega (arith, ints) in
    let day : date.day ≡ c.in_ok-day.day = omega (arith, ints) in
    plain_date_text c.args.bytes.now date c.in_ok-century.century c.in_ok-of_century.of_century (omega arith) year y.high
    h.value y.value (omega arith) (ap pad2 month ∙ m.value) (omega arith) (ap pad2 day ∙ d.value)))
