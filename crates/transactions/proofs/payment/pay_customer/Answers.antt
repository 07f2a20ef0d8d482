use Rattle.std.proofs.Common.{◌≡◌, [], ◌∷◌, None, IsTrue, is_some, sym, ap, subst, ◌∙◌}
use Rattle.std.specs.Prelude.{pos}
use Rattle.std.specs.Option.{option_map}
use Rattle.std.specs.FinMap as map
use Rattle.rows.specs.PaymentNote.{payment_note}
use Rattle.schema.specs.Scale.{customer_key, has_customer}
use Rattle.schema.specs.Database.{Database}
use Rattle.indexes.specs.Namesakes.{Keyed}
use Rattle.indexes.specs.NameOrder.{last_of, first_of}
use Rattle.requests.specs.declared.payment.PaymentReply.{PaymentReply}
use Rattle.partitions.specs.Parts.{Part}
use Rattle.groups.specs.Groups.{group_of_customer}
use Rattle.groups.specs.Laws.{with_customer}
use Rattle.tickets.specs.Claims.{ClaimView, leaving}
use Rattle.slices.specs.SliceView.{SliceView, part_in}
use Rattle.slices.specs.Undo.{AreNamesAt}
use Rattle.machine.specs.Chosen.{chosen}
use Rattle.machine.proofs.ChosenRows.{chosen_there}
use Rattle.machine.proofs.PaidRows.{customer_paid-is}
use Rattle.transactions.proofs.PaymentDone as done
use Rattle.transactions.proofs.Homes.{customer_known}
use Rattle.transactions.proofs.Kept as kept
use Rattle.transactions.proofs.payment.pay_customer.Goals as goal

pub returns-in_default-clause-paid : goal.returns-in_default-clause-paid
returns-in_default-clause-paid g c =
    let p = c.args.payment.now in
    let t = c.args.slice.now.tables in
    let seen = ap (λ (p : Part). p.tables) c.partition.ensures.rows ∙ ap (λ (s : SliceView). s.tables) c.look.ensures.same.0 in
    let none : None ≡ chosen c.partition.result.now.tables.customers p.customer_home p.customer = sym (ap (option_map (λ found. (found.0, found.1.now))) c.in_default.is) ∙ c.chosen.ensures in
    done.no_customer p t c.args.customers.now c.requires.claim c.requires.fresh c.look.ensures.left c.look.new.claim c.look.ensures.same.1
    (sym (none ∙ ap (λ (s : Database). chosen s.customers p.customer_home p.customer) seen))

pub returns-in_default-customer_paid-clause-paid : goal.returns-in_default-customer_paid-clause-paid
returns-in_default-customer_paid-clause-paid g c =
    let p = c.args.payment.now in
    let t = c.args.slice.now.tables in
    let seen = ap (λ (p : Part). p.tables) c.partition.ensures.rows ∙ ap (λ (s : SliceView). s.tables) c.look.ensures.same.0 in
    done.customer_out p t c.args.customers.now c.requires.claim c.requires.fresh c.look.ensures.left c.look.new.claim c.in-Some.key c.in-Some.row.now c.look.ensures.same.1
    (sym (c.in-Some.ensures ∙ ap (λ (s : Database). chosen s.customers p.customer_home p.customer) seen))
    (sym c.in_default-customer_paid.ensures)

-- the customer who was chosen is one of the district
pub put_customer-requires-clause-group : goal.put_customer-requires-clause-group
put_customer-requires-clause-group g c =
    let p = c.args.payment.now in
    let found : Keyed = (c.in-Some.key, c.in-Some.row.now) in
    let there = chosen_there c.partition.result.now.tables.customers p.customer_home p.customer found (sym c.in-Some.ensures) in
    ap (λ (k : ClaimView). k.group) c.look.ensures.same.1 ∙ c.requires.claim.group ∙ sym (ap group_of_customer there.1)

pub put_customer-requires-clause-there : goal.put_customer-requires-clause-there
put_customer-requires-clause-there g c =
    let p = c.args.payment.now in
    let found : Keyed = (c.in-Some.key, c.in-Some.row.now) in
    let there = chosen_there c.partition.result.now.tables.customers p.customer_home p.customer found (sym c.in-Some.ensures) in
    subst (λ (q : Part). IsTrue (map.contains_key q.tables.customers c.in-Some.key)) c.partition.ensures.rows (ap is_some there.0)

-- a payment changes no name
pub put_customer-requires-clause-names : goal.put_customer-requires-clause-names
put_customer-requires-clause-names g c =
    let p = c.args.payment.now in
    let key = c.in-Some.key in
    let row = c.in-Some.row.now in
    let new = c.in-Some-customer_paid.row in
    let found : Keyed = (key, row) in
    let there = chosen_there c.partition.result.now.tables.customers p.customer_home p.customer found (sym c.in-Some.ensures) in
    let paid = customer_paid-is row new (payment_note key p.home p.amount) (pos p.amount) (sym c.in-Some-customer_paid.ensures) in
    subst (λ (q : Part). AreNamesAt q.tables key new) c.partition.ensures.rows (ap last_of there.0 ∙ sym paid.last, ap first_of there.0 ∙ sym paid.first)

pub returns-clause-paid : goal.returns-clause-paid
returns-clause-paid g c =
    let p = c.args.payment.now in
    let t = c.args.slice.now.tables in
    let key = c.in-Some.key in
    let row = c.in-Some.row.now in
    let new = c.in-Some-customer_paid.row in
    let seen = ap (λ (p : Part). p.tables) c.partition.ensures.rows ∙ ap (λ (s : SliceView). s.tables) c.look.ensures.same.0 in
    done.customer_is_paid p t c.args.customers.now c.requires.claim c.requires.fresh c.look.ensures.left c.put_customer.new.claim key row new c.in_ok-reply.reply
    (sym (c.in-Some.ensures ∙ ap (λ (s : Database). chosen s.customers p.customer_home p.customer) seen))
    (sym c.in-Some-customer_paid.ensures)
    (c.in_ok-put_customer.ensures.claim
    ∙ (λ i. leaving (c.look.ensures.same.1 i) (with_customer key new (c.look.ensures.same.1 i).left)))
    c.in_ok-reply.ensures.reply

-- the reply shows the customer who was chosen, and the scale has each customer of the tables
pub returns-clause-payer : goal.returns-clause-payer
returns-clause-payer g c =
    let p = c.args.payment.now in
    let key = c.in-Some.key in
    let found : Keyed = (key, c.in-Some.row.now) in
    let there = chosen_there c.partition.result.now.tables.customers p.customer_home p.customer found (sym c.in-Some.ensures) in
    let held = subst (λ (q : Part). IsTrue (map.contains_key q.tables.customers key)) c.partition.ensures.rows (ap is_some there.0) in
    let has = customer_known (part_in c.look.new.self) key c.partition.ensures.part held in
    let seen : c.look.new.self.tables ≡ c.args.slice.now.tables = ap (λ (s : SliceView). s.tables) c.look.ensures.same.0 in
    let shown = there.1 ∙ ap (λ (r : PaymentReply). customer_key p.customer_home r.c_id) (sym c.in_ok-reply.ensures.reply) in
    subst (λ k. IsTrue (has_customer c.args.slice.now.tables.scale k)) shown (subst (λ (s : Database). IsTrue (has_customer s.scale key)) seen has)

pub returns-in_err-reply-clause-kept : goal.returns-in_err-reply-clause-kept
returns-in_err-reply-clause-kept g c =
    kept.unchanged (c.args.customers.now ∷ []) (c.look.new.claim ∷ []) c.args.slice.now c.look.new.self
    (λ i. c.look.ensures.same.1 i ∷ []) c.look.ensures.same.0

pub returns-in_err-put_customer-clause-kept : goal.returns-in_err-put_customer-clause-kept
returns-in_err-put_customer-clause-kept g c =
    let same = c.in_err-put_customer.ensures.err in
    kept.unchanged (c.args.customers.now ∷ []) (c.put_customer.new.claim ∷ []) c.args.slice.now c.put_customer.new.self
    (λ i. (same.1 ∙ c.look.ensures.same.1) i ∷ []) (same.0 ∙ c.look.ensures.same.0)
