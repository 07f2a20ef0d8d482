use Rattle.std.proofs.Common.{◌≡◌, Some, None, slice_get, sym, ◌∙◌}
use Rattle.schema.proofs.RowReads.{copied_item}
use Rattle.partitions.specs.Slots.{customer_slot_by}
use Rattle.indexes.proofs.Latest.{latest_outside, latest_inside}
use Rattle.indexes.proofs.latest_orders.LatestOrders.latest_order.Goals as goal

pub returns-in_err-slot : goal.returns-in_err-slot
returns-in_err-slot g c =
    let r = c.args.rows.now in
    let t = g.T.Rows.tables r in
    let none : customer_slot_by (g.T.Rows.slot r) t.scale.customers c.args.customer ≡ None = sym c.customer_slot.ensures.slot ∙ c.in_err-slot.was in
    c.from_residual.ensures ∙ sym (latest_outside (g.T.Rows.slot r) (g.T.Rows.districts r) t c.customer_slot.ensures.rows c.args.customer none)

pub returns-in_err-get : goal.returns-in_err-get
returns-in_err-get g c =
    let r = c.args.rows.now in
    let t = g.T.Rows.tables r in
    let slot = c.in_ok-slot.slot in
    let at : customer_slot_by (g.T.Rows.slot r) t.scale.customers c.args.customer ≡ Some slot = sym c.customer_slot.ensures.slot ∙ c.in_ok-slot.was in
    let items : c.self.inside.numbers.items ≡ c.args.self.now = c.self.view_is in
    let none : None ≡ slice_get c.args.self.now slot = copied_item c.args.self.now c.deref.result.now (c.deref.ensures.value ∙ items) slot None c.in_err-get.ensures.lookup in
    let some = c.requires c.args.customer slot at in
    let clash = none ∙ some in
    absurd cc

pub returns : goal.returns
returns g c =
    let r = c.args.rows.now in
    let t = g.T.Rows.tables r in
    let slot = c.in_ok-slot.slot in
    let at : customer_slot_by (g.T.Rows.slot r) t.scale.customers c.args.customer ≡ Some slot = sym c.customer_slot.ensures.slot ∙ c.in_ok-slot.was in
    let items : c.self.inside.numbers.items ≡ c.args.self.now = c.self.view_is in
    let found : Some c.in_ok-get.field-0.now ≡ slice_get c.args.self.now slot = copied_item c.args.self.now c.deref.result.now (c.deref.ensures.value ∙ items) slot (Some c.in_ok-get.field-0) c.in_ok-get.ensures.lookup in
    c.number_of.ensures ∙ latest_inside (g.T.Rows.slot r) (g.T.Rows.districts r) t c.customer_slot.ensures.rows c.args.self.now c.requires c.args.customer slot c.in_ok-get.field-0.now at found
