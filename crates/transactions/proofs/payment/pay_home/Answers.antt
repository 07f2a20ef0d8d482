use Rattle.std.proofs.Common.{◌≡◌, ℕ, List, [], ◌∷◌, Some, inl, sym, ap, subst, ◌∙◌, arith}
use Rattle.std.specs.Prelude.{pos}
use Rattle.std.proofs.lemmas.Int.{ints}
use Rattle.std.specs.FinMap as map
use Rattle.schema.specs.Database.{Database}
use Rattle.partitions.specs.Parts.{Part}
use Rattle.groups.specs.Content.{content}
use Rattle.groups.specs.Laws.{with_warehouse, with_district}
use Rattle.tickets.specs.Claims.{ClaimView, leaving}
use Rattle.slices.specs.SliceView.{SliceView}
use Rattle.machine.specs.Payment.{warehouse_paid, district_paid}
use Rattle.transactions.specs.declared.payment.HomePaid.TheVariants as h
use Rattle.transactions.specs.Payment.{IsHomePaid}
use Rattle.transactions.proofs.PaymentDone as done
use Rattle.transactions.proofs.Kept as kept
use Rattle.transactions.proofs.payment.pay_home.Goals as goal

pub returns-in_default-warehouse_paid-clause-paid : goal.returns-in_default-warehouse_paid-clause-paid
returns-in_default-warehouse_paid-clause-paid g c =
    let p = c.args.payment.now in
    let t = c.args.slice.now.tables in
    let w = c.in-Some.warehouse_row.now in
    let d = c.in-Some-district.district_row.now in
    let looked : c.look.new.self.tables ≡ t = ap (λ (s : SliceView). s.tables) c.look.ensures.same.0 in
    let again : c.look-2.new.self.tables ≡ t = ap (λ (s : SliceView). s.tables) c.look-2.ensures.same.0 ∙ looked in
    let w_read : map.get t.warehouses p.home.w_id ≡ Some w = sym (c.in-Some.ensures ∙ ap (λ (s : Database). map.get s.warehouses p.home.w_id) (ap (λ (p : Part). p.tables) c.partition.ensures.rows ∙ again)) in
    let d_read : map.get t.districts p.home ≡ Some d = sym (c.in-Some-district.ensures ∙ ap (λ (s : Database). map.get s.districts p.home) (ap (λ (p : Part). p.tables) c.partition-2.ensures.rows ∙ again)) in
    let amount : c.new-amount.result ≡ pos p.amount = omega (arith, ints) in
    done.home_out p t c.args.warehouse.now c.args.district.now c.requires.warehouse_claim c.requires.district_claim c.requires.warehouse_fresh c.requires.district_fresh
    c.look.ensures.left (c.look-2.ensures.left ∙ ap (λ (s : Database). content s c.args.district.now.group) looked)
    c.look.new.claim c.look-2.new.claim c.look.ensures.same.1 c.look-2.ensures.same.1 w d w_read d_read
    (inl (ap (warehouse_paid w) (sym amount) ∙ sym c.in_default-warehouse_paid.ensures))

pub returns-in_default-district_paid-clause-kept : goal.returns-in_default-district_paid-clause-kept
returns-in_default-district_paid-clause-kept g c =
    kept.unchanged (c.args.warehouse.now ∷ c.args.district.now ∷ []) (c.look.new.claim ∷ c.look-2.new.claim ∷ []) c.args.slice.now c.look-2.new.self
    (λ i. c.look.ensures.same.1 i ∷ c.look-2.ensures.same.1 i ∷ []) (c.look-2.ensures.same.0 ∙ c.look.ensures.same.0)

pub returns-clause-paid : goal.returns-clause-paid
returns-clause-paid g c =
    let p = c.args.payment.now in
    let t = c.args.slice.now.tables in
    let w = c.in-Some.warehouse_row.now in
    let d = c.in-Some-district.district_row.now in
    let new_w = c.in-Some-warehouse_paid.new_warehouse in
    let new_d = c.in-Some-district_paid.new_district in
    let looked : c.look.new.self.tables ≡ t = ap (λ (s : SliceView). s.tables) c.look.ensures.same.0 in
    let again : c.look-2.new.self.tables ≡ t = ap (λ (s : SliceView). s.tables) c.look-2.ensures.same.0 ∙ looked in
    let w_read : map.get t.warehouses p.home.w_id ≡ Some w = sym (c.in-Some.ensures ∙ ap (λ (s : Database). map.get s.warehouses p.home.w_id) (ap (λ (p : Part). p.tables) c.partition.ensures.rows ∙ again)) in
    let d_read : map.get t.districts p.home ≡ Some d = sym (c.in-Some-district.ensures ∙ ap (λ (s : Database). map.get s.districts p.home) (ap (λ (p : Part). p.tables) c.partition-2.ensures.rows ∙ again)) in
    let amount : c.new-amount.result ≡ pos p.amount = omega (arith, ints) in
    let paid = done.home_paid p t c.args.warehouse.now c.args.district.now c.requires.warehouse_claim c.requires.district_claim c.requires.warehouse_fresh c.requires.district_fresh
    c.look.ensures.left (c.look-2.ensures.left ∙ ap (λ (s : Database). content s c.args.district.now.group) looked)
    c.put_home.new.warehouse c.put_home.new.district w new_w d new_d w_read d_read
    (ap (warehouse_paid w) (sym amount) ∙ sym c.in-Some-warehouse_paid.ensures)
    (ap (district_paid d) (sym amount) ∙ sym c.in-Some-district_paid.ensures)
    (c.in_ok-put_home.ensures.warehouse ∙ (λ i. leaving (c.look.ensures.same.1 i) (with_warehouse new_w (c.look.ensures.same.1 i).left)))
    (c.in_ok-put_home.ensures.district ∙ (λ i. leaving (c.look-2.ensures.same.1 i) (with_district new_d (c.look-2.ensures.same.1 i).left))) in
    subst (λ (names : List ℕ × List ℕ). IsHomePaid p (h.Paid names.0 names.1) c.put_home.new.warehouse c.put_home.new.district)
    (λ i. (sym c.copy.ensures i, sym c.copy-2.ensures i)) paid

-- what the claim left is still stored there
pub put_home-requires-clause-warehouse_left : goal.put_home-requires-clause-warehouse_left
put_home-requires-clause-warehouse_left g c =
    let same = c.look.ensures.same.1 in
    let seen = ap (λ (s : SliceView). s.tables) (c.look-2.ensures.same.0 ∙ c.look.ensures.same.0) in
    ap (λ (k : ClaimView). k.left) same ∙ c.look.ensures.left ∙ (λ i. content (sym seen i) (sym same i).group)
