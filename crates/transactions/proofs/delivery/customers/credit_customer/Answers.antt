use Rattle.std.proofs.Common.{Some, None, sym, ap, ◌∙◌}
use Rattle.std.specs.FinMap as table
use Rattle.schema.specs.Scale.{customer_key}
use Rattle.schema.specs.Database.{Database}
use Rattle.partitions.specs.Parts.{Part}
use Rattle.groups.specs.Laws.{with_customer}
use Rattle.tickets.specs.Claims.{leaving}
use Rattle.slices.specs.SliceView.{SliceView}
use Rattle.transactions.proofs.DeliveryDone as done
use Rattle.transactions.proofs.delivery.customers.credit_customer.Goals as goal

pub returns-in_default-clause-credited : goal.returns-in_default-clause-credited
returns-in_default-clause-credited g c =
    let seen = ap (λ (p : Part). p.tables) c.partition.ensures.rows ∙ ap (λ (s : SliceView). s.tables) c.look.ensures.same.0 in
    done.customer_is_out c.args.slice.now.tables c.args.home c.args.order c.args.customers.now c.look.new.claim c.requires.claim c.requires.fresh c.look.ensures.left None c.look.ensures.same.1
    (c.in_default.ensures ∙ ap (λ (s : Database). table.get s.customers (customer_key c.args.home c.args.order.c_id)) seen) (λ i. None)

pub returns-in_default-customer_delivered-clause-credited : goal.returns-in_default-customer_delivered-clause-credited
returns-in_default-customer_delivered-clause-credited g c =
    let seen = ap (λ (p : Part). p.tables) c.partition.ensures.rows ∙ ap (λ (s : SliceView). s.tables) c.look.ensures.same.0 in
    done.customer_is_out c.args.slice.now.tables c.args.home c.args.order c.args.customers.now c.look.new.claim c.requires.claim c.requires.fresh c.look.ensures.left (Some c.in-Some.row.now) c.look.ensures.same.1
    (c.in-Some.ensures ∙ ap (λ (s : Database). table.get s.customers (customer_key c.args.home c.args.order.c_id)) seen)
    (sym c.in_default-customer_delivered.ensures)

pub returns-clause-credited : goal.returns-clause-credited
returns-clause-credited g c =
    let key = customer_key c.args.home c.args.order.c_id in
    let new = c.in-Some-customer_delivered.row in
    let seen = ap (λ (p : Part). p.tables) c.partition.ensures.rows ∙ ap (λ (s : SliceView). s.tables) c.look.ensures.same.0 in
    done.customer_is_credited c.args.slice.now.tables c.args.home c.args.order c.args.customers.now c.put_customer.new.claim c.requires.claim c.requires.fresh c.look.ensures.left c.in-Some.row.now new
    (c.in-Some.ensures ∙ ap (λ (s : Database). table.get s.customers key) seen)
    (sym c.in-Some-customer_delivered.ensures)
    (c.in_ok-put_customer.ensures.claim
    ∙ (λ i. leaving (c.look.ensures.same.1 i) (with_customer key new (c.look.ensures.same.1 i).left)))
