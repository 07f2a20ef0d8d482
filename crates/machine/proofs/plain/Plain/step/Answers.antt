use Rattle.std.proofs.Common.{subst, sym, ap, ◌∙◌}
use Rattle.schema.specs.Database.{Database}
use Rattle.requests.specs.declared.reply.Reply.TheVariants.{Done}
use Rattle.requests.specs.declared.reply.Shown.TheVariants.{StockLevel as LevelShown}
use Rattle.indexes.specs.LatestIndex.{FitsLatest}
use Rattle.indexes.specs.NameOrder.{FitsNames}
use Rattle.machine.specs.NewOrder.{new_order}
use Rattle.machine.specs.Payment.{payment}
use Rattle.machine.specs.Machine.{transaction}
use Rattle.machine.proofs.KeptIndexes.{new_order_keeps_names, payment_keeps_indexes, still_so}
use Rattle.machine.proofs.DeliveryIndexes.{delivery_keeps_indexes}
use Rattle.machine.proofs.plain.Plain.step.Goals as goal

pub invariant_of-self : goal.invariant_of-self
invariant_of-self c =
    let t = c.self.inside.tables in
    let asked = c.in-NewOrder.asked in
    let after = c.place_order.ensures in (
      still_so (FitsNames c.self.inside.names) c.place_order.result t (new_order t asked).tables c.place_order.new.tables after.tables after.err
          c.self.invariant.0 (new_order_keeps_names c.self.inside.names t asked c.self.invariant.0),
      after.latest,
    )

pub invariant_of-self-in-Payment : goal.invariant_of-self-in-Payment
invariant_of-self-in-Payment c =
    let t = c.self.inside.tables in
    let asked = c.in-Payment.asked in
    let fits = c.self.invariant in
    still_so (λ (s : Database). FitsNames c.self.inside.names s × FitsLatest c.self.inside.latest s) c.pay.result t (payment t asked).tables c.pay.new.tables c.pay.ensures.tables c.pay.ensures.err
    fits (payment_keeps_indexes c.self.inside.names c.self.inside.latest t asked fits.0 fits.1)

pub invariant_of-self-in-Delivery : goal.invariant_of-self-in-Delivery
invariant_of-self-in-Delivery c =
    let t = c.self.inside.tables in
    let asked = c.in-Delivery.asked in
    let fits = c.self.invariant in
    subst (λ (s : Database). FitsNames c.self.inside.names s × FitsLatest c.self.inside.latest s) (sym c.deliver.ensures.tables)
    (delivery_keeps_indexes c.self.inside.names c.self.inside.latest t asked fits.0 fits.1)

pub returns-in_ok-shown-in-StockLevel-clause-reply : goal.returns-in_ok-shown-in-StockLevel-clause-reply
returns-in_ok-shown-in-StockLevel-clause-reply c =
    ap (λ shown. Done (LevelShown shown)) c.in_ok-shown-in-StockLevel.ensures
    ∙ (λ i. (transaction (c.self.view_is i) (sym c.in-StockLevel.is i)).reply)
