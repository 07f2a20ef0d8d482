use Rattle.std.proofs.Common.{sym, ap, subst, ◌∙◌}
use Rattle.std.specs.FinMap as map
use Rattle.partitions.specs.Parts.{Part}
use Rattle.partitions.specs.Slots.{home_slot}
use Rattle.indexes.specs.NameOrder.{last_of, first_of}
use Rattle.indexes.proofs.Names.{put_keeps_names, same_names_fit_by}
use Rattle.slices.specs.Fitting.{FitRows}
use Rattle.slices.specs.Undo.{AreNamesAt}
use Rattle.slices.proofs.indexed.IndexedRows.replace_customer.Goals as goal

pub invariant_of-self : goal.invariant_of-self
invariant_of-self c =
    let p : Part = c.self.inside.partition in
    let key = c.args.key in
    let row = c.args.row in
    let was = sym c.replace_customer.ensures.was ∙ c.unwrap.ensures in
    let asked = subst (λ (r : Part). AreNamesAt r.tables key row) (sym c.self.view_is) c.requires.names in
    let names = put_keeps_names p.tables key c.unwrap.result row was (sym asked.0 ∙ ap last_of was) (sym asked.1 ∙ ap first_of was) in
    let fits = same_names_fit_by (home_slot p.home) c.self.inside.names p.tables (record p.tables { customers = map.insert p.tables.customers key row }) names c.self.invariant.0 in
    subst (FitRows c.self.inside.names c.self.inside.latest) (sym c.replace_customer.ensures.tables) (fits, c.self.invariant.1)
