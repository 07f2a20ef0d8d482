use Rattle.std.proofs.Common.{◌≡◌, ◌≢◌, [], ◌∷◌, None}
use Rattle.files.specs.Columns.{Spelt, take_columns}
use Rattle.files.specs.FieldRead.{fields_view}
use Rattle.files.specs.Taken.{fault_of}
use Rattle.terminals.specs.RequestColumns.{repeated}
use Rattle.terminals.proofs.log_records.pass_over_rest.Given as goal

abbrev pub invariant-loop : goal.invariant-loop
invariant-loop l =
    (fault_of l.fn.fields ≢ None → fault_of l.fields ≢ None)
    × (fields_view l.fields ≡ take_columns (repeated l.counter (Spelt (λ word. None) ∷ [])) (fields_view l.fn.fields))
