use Rattle.std.proofs.Common.{◌≡◌, Some, ap, ◌∙◌}
use Rattle.std.specs.FinMap as table
use Rattle.schema.specs.Scale.{customer_key}
use Rattle.schema.specs.Database.{Database}
use Rattle.partitions.specs.Parts.{Part}
use Rattle.slices.specs.SliceView.{SliceView}
use Rattle.transactions.specs.declared.new_order.OrdererFound.TheVariants.{Missing, Shown}
use Rattle.transactions.specs.NewOrder.{orderer_found}
use Rattle.transactions.proofs.NewOrderDone as done
use Rattle.transactions.proofs.new_order.home_rows.show_orderer.Goals as goal

pub returns-in-None-clause-shown : goal.returns-in-None-clause-shown
returns-in-None-clause-shown g c =
    let n = c.args.order.now in
    let seen = ap (λ (p : Part). p.tables) c.partition.ensures.rows ∙ ap (λ (s : SliceView). s.tables) c.look.ensures.same.0 in
    done.orderer_is_shown c.args.slice.now.tables n Missing c.args.customers.now c.look.new.claim c.requires.claim c.look.ensures.left c.look_untouched.ensures.left c.look.ensures.same.1
    (ap orderer_found (c.in-None.ensures ∙ ap (λ (s : Database). table.get s.customers (customer_key n.home n.c_id)) seen))

pub returns-in-Some-clause-shown : goal.returns-in-Some-clause-shown
returns-in-Some-clause-shown g c =
    let n = c.args.order.now in
    let row = c.in-Some.row.now in
    let seen = ap (λ (p : Part). p.tables) c.partition.ensures.rows ∙ ap (λ (s : SliceView). s.tables) c.look.ensures.same.0 in
    let copied : Shown (record { last = c.copy.result; credit = row.credit; discount = row.discount }) ≡ orderer_found (Some row) =
    λ i. Shown (record { last = c.copy.ensures i; credit = row.credit; discount = row.discount }) in
    done.orderer_is_shown c.args.slice.now.tables n _ c.args.customers.now c.look.new.claim c.requires.claim c.look.ensures.left c.look_untouched.ensures.left c.look.ensures.same.1
    (copied ∙ ap orderer_found (c.in-Some.ensures ∙ ap (λ (s : Database). table.get s.customers (customer_key n.home n.c_id)) seen))
