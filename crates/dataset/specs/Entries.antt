-- Rows that an iterator returns by reference, with their keys.
use Rattle.std.specs.Prelude.{List}
use Rattle.std.specs.Borrow.{Bor}
use Rattle.std.specs.Map.Iter.{TakesFirst}
use Rattle.std.specs.declared.option.Option.{Option}
use Rattle.schema.specs.Entries.{entry}

-- each step returns the first of the entries that are left
abbrev pub GivesEntries : {S K X : Type 0} → (S → Option (K × Bor X) → S → Type 0) → (S → List (K × X)) → Type 0
GivesEntries {S} {K} {X} steps left = (s : S) (r : Option (K × Bor X)) (t : S) → steps s r t → TakesFirst entry (left s) r (left t)
