-- Rows that are added in the order of their keys.
use Rattle.std.specs.Prelude.{◌≡◌, List}
use Rattle.std.specs.List.{AllByRecursion}
use Rattle.std.specs.Map.{keys_of}
use Rattle.std.specs.declared.cmp.Ordering.{Ordering}
use Rattle.std.specs.declared.cmp.Ordering.TheVariants.{Less}

-- the keys of all these entries are less than the key
abbrev pub AreBefore : {K X : Type 0} → (K → K → Ordering) → K → List (K × X) → Type 0
AreBefore cmp key entries = AllByRecursion (λ other. cmp other key ≡ Less) (keys_of entries)
