-- Properties of each row of a table.
use Rattle.std.specs.Prelude.{◌≡◌, Bool, Some, IsTrue}
use Rattle.std.specs.declared.cmp.Ordering.{Ordering}
use Rattle.std.specs.FinMap as map

-- each row passes the test, which also takes the key
abbrev pub EachRow : {K X : Type 0} {R : K → K → Ordering} → (K → X → Bool) → map.FinMap R X → Type 0
EachRow {K} {X} test table = (key : K) (row : X) → map.get table key ≡ Some row → IsTrue (test key row)
