use Rattle.std.proofs.Common.{ap, ◌∙◌}
use Rattle.rows.specs.Keys.{order_of_line}
use Rattle.schema.specs.Database.{Database, rows_where, is_of_district}
use Rattle.schema.specs.Rows.{database}
use Rattle.schema.proofs.OrderedParts.{lines_of_numbered}
use Rattle.schema.proofs.tables.Tables.lines_of_district.Goals as goal

pub of_district-requires : goal.of_district-requires
of_district-requires c = lines_of_numbered (database c.self.inside.scale c.self.inside.rows) c.self.invariant.within

pub returns-clause-rows : goal.returns-clause-rows
returns-clause-rows c =
    c.of_district.ensures.rows ∙ ap (λ (m : Database). rows_where (λ key. is_of_district c.args.home (order_of_line key)) m.lines) c.self.view_is
