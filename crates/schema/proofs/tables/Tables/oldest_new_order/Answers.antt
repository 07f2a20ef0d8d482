use Rattle.std.proofs.Common.{ap, ◌∙◌}
use Rattle.schema.specs.Database.{Database}
use Rattle.schema.specs.OrderRows.{oldest_new_order}
use Rattle.schema.specs.Rows.{database}
use Rattle.schema.proofs.OrderedParts.{new_orders_numbered}
use Rattle.schema.proofs.tables.Tables.oldest_new_order.Goals as goal

pub oldest_number-requires : goal.oldest_number-requires
oldest_number-requires c = new_orders_numbered (database c.self.inside.scale c.self.inside.rows) c.self.invariant.within

pub returns : goal.returns
returns c = c.oldest_number.ensures ∙ ap (λ (m : Database). oldest_new_order m c.args.home) c.self.view_is
