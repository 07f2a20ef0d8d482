use Rattle.std.proofs.Common.{◌≡◌, Some, sym, ap, ◌∙◌, arith}
use Rattle.std.specs.Prelude.{pos}
use Rattle.std.specs.Option.{is_some}
use Rattle.std.proofs.lemmas.Int.{ints}
use Rattle.indexes.specs.Namesakes.{Keyed}
use Rattle.machine.proofs.ChosenRows.{chosen_there}
use Rattle.machine.proofs.Payments.{payment-posted}
use Rattle.requests.specs.declared.reply.Reply.TheVariants.{Done}
use Rattle.requests.specs.declared.reply.Shown.TheVariants.{Payment as PaymentShown}
use Rattle.machine.specs.Outcome.{Outcome}
use Rattle.machine.specs.Payment.{payment, posted, posting}
use Rattle.machine.proofs.payment.pay.Goals as goal
use Rattle.machine.proofs.payment.pay.Goals.{In_ok-reply}

pub post-requires-clause-customer_is_there : goal.post-requires-clause-customer_is_there
post-requires-clause-customer_is_there c =
    let t = c.args.tables.now in
    let p = c.args.payment.now in
    let found : Keyed = (c.in-Some-chosen.key, c.in-Some-chosen.customer.now) in
    ap is_some (chosen_there t.customers p.customer_home p.customer found (sym c.in-Some-chosen.ensures)).0

-- what is replied and changed, where all rows are found
whole : (c : In_ok-reply) → payment c.args.tables.now c.args.payment.now ≡ posted c.args.tables.now (posting c.args.payment.now c.in-Some-chosen.key c.payment_row-row.result)
    (Some c.in-Some-warehouse_paid.warehouse) (Some c.in-Some-district_paid.district) (Some c.in-Some-customer_paid.customer)
whole c =
    let t = c.args.tables.now in
    let p = c.args.payment.now in
    let found : Keyed = (c.in-Some-chosen.key, c.in-Some-chosen.customer.now) in
    let amount : c.new-amount.result ≡ pos p.amount = omega (arith, ints) in
    payment-posted t p c.new-amount.result c.payment_row-row.result c.in-Some.warehouse.now c.in-Some-district.district.now found
    c.in-Some-warehouse_paid.warehouse c.in-Some-district_paid.district c.in-Some-customer_paid.customer amount (sym c.in-Some.ensures) (sym c.in-Some-district.ensures) (sym c.in-Some-chosen.ensures) c.payment_row-row.ensures
    (sym c.in-Some-warehouse_paid.ensures) (sym c.in-Some-district_paid.ensures) (sym c.in-Some-customer_paid.ensures)

pub returns-clause-reply : goal.returns-clause-reply
returns-clause-reply c =
    ap (λ r. Done (PaymentShown r)) c.in_ok-reply.ensures.reply ∙ ap (λ (o : Outcome). o.reply) (sym (whole (goal.at.returns-clause-reply c).In_ok-reply))

pub returns-clause-tables : goal.returns-clause-tables
returns-clause-tables c =
    c.in_ok-post.ensures.ok ∙ ap (λ (o : Outcome). o.tables) (sym (whole (goal.at.returns-clause-tables c).In_ok-reply))
