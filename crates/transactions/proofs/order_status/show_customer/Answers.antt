use Rattle.std.proofs.Common.{◌≡◌, Some, ap, ◌∙◌}
use Rattle.schema.specs.Database.{Database}
use Rattle.partitions.specs.Parts.{Part}
use Rattle.slices.specs.SliceView.{SliceView}
use Rattle.machine.specs.Chosen.{chosen}
use Rattle.transactions.specs.declared.order_status.CustomerShown.TheVariants.{Missing, Shown}
use Rattle.transactions.specs.OrderStatus.{customer_shown}
use Rattle.transactions.proofs.OrderStatusShown as shown
use Rattle.transactions.proofs.order_status.show_customer.Goals as goal

pub returns-in-None-clause-shown : goal.returns-in-None-clause-shown
returns-in-None-clause-shown g c =
    let o = c.args.asked.now in
    let seen = ap (λ (p : Part). p.tables) c.partition.ensures.rows ∙ ap (λ (s : SliceView). s.tables) c.look.ensures.same.0 in
    shown.customer_is_shown c.args.slice.now.tables o Missing c.args.customers.now c.look.new.claim c.requires.claim c.look.ensures.left c.look_untouched.ensures.left c.look.ensures.same.1
    (ap customer_shown (c.in-None.ensures ∙ ap (λ (s : Database). chosen s.customers o.home o.customer) seen))

pub returns-in-Some-clause-shown : goal.returns-in-Some-clause-shown
returns-in-Some-clause-shown g c =
    let o = c.args.asked.now in
    let key = c.in-Some.key in
    let row = c.in-Some.row.now in
    let seen = ap (λ (p : Part). p.tables) c.partition.ensures.rows ∙ ap (λ (s : SliceView). s.tables) c.look.ensures.same.0 in
    let copied : Shown key (record { first = c.copy.result; middle = c.copy-in-Some.result; last = c.copy-in-Some-2.result; balance = row.balance }) ≡ customer_shown (Some (key, row)) =
    λ i. Shown key (record { first = c.copy.ensures i; middle = c.copy-in-Some.ensures i; last = c.copy-in-Some-2.ensures i; balance = row.balance }) in
    shown.customer_is_shown c.args.slice.now.tables o _ c.args.customers.now c.look.new.claim c.requires.claim c.look.ensures.left c.look_untouched.ensures.left c.look.ensures.same.1
    (copied ∙ ap customer_shown (c.in-Some.ensures ∙ ap (λ (s : Database). chosen s.customers o.home o.customer) seen))
