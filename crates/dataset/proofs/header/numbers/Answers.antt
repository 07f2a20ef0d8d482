use Rattle.std.proofs.Common.{◌≡◌, ℕ, [], ◌∷◌, None, sym, subst, ◌∙◌, arith}
use Rattle.schema.specs.Limits.{IsScale}
use Rattle.files.specs.declared.fault.FaultKind.TheVariants.{OutOfRange}
use Rattle.files.specs.Columns.{columns_fault}
use Rattle.files.specs.FieldRead.{FieldsView, fields_view, field_read, whole_read}
use Rattle.files.specs.Taken.{fault_of, fields_left}
use Rattle.files.proofs.ColumnsRead.{and_then, ended, whole}
use Rattle.dataset.specs.Formats.{most_warehouses}
use Rattle.dataset.specs.FirstFault.{header_columns}
use Rattle.dataset.specs.Records.{Number}
use Rattle.dataset.proofs.Bounds.{most_within, some_within}
use Rattle.dataset.proofs.HeaderFault.{numbers_taken, scale_made}
use Rattle.dataset.proofs.Taking.{TakesFields, all_spelt, none_before, on_any_ok, scale_spelt, takes-number, takes-then}
use Rattle.dataset.proofs.header.numbers.Goals.{After-finish}
use Rattle.dataset.proofs.header.numbers.Goals as goal

-- the fault of the numbers
reported : (c : After-finish) → fault_of c.args.fields.now ≡ None → columns_fault (header_columns c.args.format) (fields_left c.args.fields.now) ≡ c.finish.result
reported c free =
    let most = most_warehouses c.args.format in
    let start = c.args.fields.now in
    let field = subst (λ (m : ℕ). ◌≡◌ {A = ℕ × FieldsView} (c.whole-warehouses.result, fields_view c.whole-warehouses.new.self) (field_read (whole_read 1 m) 1 (fields_view start)))
    c.most_warehouses.ensures c.whole-warehouses.ensures.field in
    let columns =
    and_then (whole 1 most start c.whole-warehouses.new.self field)
    (and_then (whole 1 100000 c.whole-warehouses.new.self c.whole-items.new.self c.whole-items.ensures.field)
    (whole 1 3000 c.whole-items.new.self c.whole-customers.new.self c.whole-customers.ensures.field)) in
    numbers_taken c.args.format start c.whole-customers.new.self (fault_of c.finish.new.self) free columns.is
    (ended (fields_left c.whole-customers.new.self) (fault_of c.whole-customers.new.self) (fault_of c.finish.new.self) c.finish.ensures.none_left c.finish.ensures.some_left)
    ∙ sym c.finish.ensures.fault

-- the numbers as fields
takes : (c : After-finish) → TakesFields (Number c.whole-warehouses.result ∷ Number c.whole-items.result ∷ Number c.whole-customers.result ∷ []) c.args.fields.now c.whole-customers.new.self
takes c =
    takes-then (takes-number c.whole-warehouses.result c.whole-warehouses.new.self c.whole-warehouses.ensures.taken)
    (takes-then (takes-number c.whole-items.result c.whole-items.new.self c.whole-items.ensures.taken)
    (takes-number c.whole-customers.result c.whole-customers.new.self c.whole-customers.ensures.taken))

pub returns-in-Some-clause-exact : goal.returns-in-Some-clause-exact
returns-in-Some-clause-exact c = λ free. reported (goal.at.returns-in-Some-clause-exact c).After-finish free ∙ c.in-Some.is

pub returns-in-None-clause-exact : goal.returns-in-None-clause-exact
returns-in-None-clause-exact c = λ free.
    let most : c.most_warehouses.result ≡ most_warehouses c.args.format = c.most_warehouses.ensures in
    let some = some_within c.args.format in
    let within = most_within c.args.format in
    let w = c.whole-warehouses.ensures.range (omega (arith, most, some)) in
    let i = c.whole-items.ensures.range (omega arith) in
    let n = c.whole-customers.ensures.range (omega arith) in
    let least = w.0 in
    let greatest = w.1 in
    let fits : IsScale c.whole-warehouses.result c.whole-items.result c.whole-customers.result = record {
      some_warehouse = w.0;
      most_warehouses = omega (arith, greatest, most, within);
      some_item = i.0;
      most_items = i.1;
      some_customer = n.0;
      most_customers = n.1;
    } in
    let whole = c.finish.ensures.well c.in-None.is in
    let made = c.checked_new.ensures in
    scale_made c.args.format c.ok_or.result c.checked_new.result OutOfRange (fields_left c.args.fields.now) c.ok_or.ensures.value (made.fits.1 fits)
    (reported (goal.at.returns-in-None-clause-exact c).After-finish free ∙ c.in-None.is)
    (scale_spelt c.checked_new.result c.whole-warehouses.result c.whole-items.result c.whole-customers.result (most_warehouses c.args.format) (fields_left c.args.fields.now) made.warehouses made.items made.customers
    (omega (arith, greatest, most))
    (all_spelt c.args.fields.now c.whole-customers.new.self (takes (goal.at.returns-in-None-clause-exact c).After-finish) whole.1 whole.0))

pub returns-in-None-clause-clean : goal.returns-in-None-clause-clean
returns-in-None-clause-clean c =
    let whole = c.finish.ensures.well c.in-None.is in
    on_any_ok c.ok_or.result (none_before c.args.fields.now c.whole-customers.new.self (takes (goal.at.returns-in-None-clause-clean c).After-finish) whole.1)
