use Rattle.std.proofs.Common.{◌≡◌, [], Some, None, is_some, MatchOption, IsSomeAnd, slice_get, sym, ap, subst, ◌∙◌}
use Rattle.schema.proofs.RowReads.{copied_item}
use Rattle.indexes.specs.Namesakes.{namesakes, IsMiddleOf}
use Rattle.indexes.specs.NameOrder.{IsNameRun, last_name, first_name}
use Rattle.indexes.proofs.DistrictEntries.{no_district}
use Rattle.indexes.proofs.Fits.{run_of_rows, middle_of_tables}
use Rattle.indexes.proofs.name_index.NameIndex.middle_of.Goals as goal

pub returns-in_err-slot : goal.returns-in_err-slot
returns-in_err-slot g c =
    let r = c.args.rows.now in
    let t = g.T.Rows.tables r in
    let none : g.T.Rows.slot r c.args.home ≡ None = sym c.district_slot.ensures ∙ c.in_err-slot.was in
    subst (λ r. MatchOption r (namesakes t.customers c.args.home c.args.last.now ≡ []) (IsMiddleOf t.customers c.args.home c.args.last.now)) (sym c.from_residual.ensures)
    (no_district (g.T.Rows.slot r) (g.T.Rows.districts r) t c.scale.ensures.rows c.args.home c.args.last.now none)

pub returns-in_err-get : goal.returns-in_err-get
returns-in_err-get g c =
    let r = c.args.rows.now in
    let t = g.T.Rows.tables r in
    let home = c.args.home in
    let slot = c.in_ok-slot.slot in
    let placed : g.T.Rows.slot r home ≡ Some slot = sym c.district_slot.ensures ∙ c.in_ok-slot.was in
    let items : c.self.inside.runs.items ≡ c.args.self.now = c.self.view_is in
    let none : None ≡ slice_get c.args.self.now slot = copied_item c.args.self.now c.deref.result.now (c.deref.ensures.value ∙ items) slot None c.in_err-get.ensures.lookup in
    absurd (subst (λ r. IsSomeAnd r (IsNameRun (last_name t home) (first_name t home) t.scale.customers)) (sym none) (c.requires home slot placed))

pub middle-requires : goal.middle-requires
middle-requires g c =
    let r = c.args.rows.now in
    let t = g.T.Rows.tables r in
    let home = c.args.home in
    let slot = c.in_ok-slot.slot in
    let placed : g.T.Rows.slot r home ≡ Some slot = sym c.district_slot.ensures ∙ c.in_ok-slot.was in
    let items : c.self.inside.runs.items ≡ c.args.self.now = c.self.view_is in
    let found : Some c.in_ok-get.field-0.now ≡ slice_get c.args.self.now slot = copied_item c.args.self.now c.deref.result.now (c.deref.ensures.value ∙ items) slot (Some c.in_ok-get.field-0) c.in_ok-get.ensures.lookup in
    run_of_rows (g.T.Rows.slot r) (g.T.Rows.districts r) t c.scale.ensures.rows home c.in_ok-customers.customers.now c.in_ok-customers.ensures.rows (ap is_some placed) c.in_ok-get.field-0.now
    (subst (λ r. IsSomeAnd r (IsNameRun (last_name t home) (first_name t home) t.scale.customers)) (sym found) (c.requires home slot placed))

pub returns : goal.returns
returns g c =
    let r = c.args.rows.now in
    middle_of_tables (g.T.Rows.slot r) (g.T.Rows.districts r) (g.T.Rows.tables r) c.scale.ensures.rows c.args.home c.in_ok-customers.customers.now c.in_ok-customers.ensures.rows (sym c.in_ok-customers.ensures.district) c.args.last.now c.middle.result (c.middle.ensures c.args.home)
