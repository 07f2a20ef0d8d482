use Rattle.std.proofs.Common.{subst}
use Rattle.rows.specs.Keys.{order_cmp}
use Rattle.schema.proofs.KeyOrders.{orders_total}
use Rattle.partitions.specs.Appends.{AddsRows}
use Rattle.schema.proofs.EntriesAdded.{adds_rows}
use Rattle.partitions.proofs.Returned.{settled_entries}
use Rattle.partitions.proofs.new_order_rows.NewOrderRows.append_to.Goals as goal

pub returns : goal.returns
returns c =
    let own = c.own.inside in
    let settle = c.settle.new in
    let old = c.args.rows.now.entries in
    let new = c.append.new.self.entries in
    let sorted = c.append.ensures.other_was_ordered in
    subst (λ es. AddsRows order_cmp old es new)
    (settled_entries own.returned settle.returned own.rows settle.rows c.args.self c.own.view_is c.in_ok-settle.ensures.same c.in_ok-settle.ensures.all sorted)
    (adds_rows orders_total old settle.rows.entries new sorted c.in_ok-append.ensures.inserts_all.0)
