-- Changes of rows of a table.
use Rattle.std.specs.Prelude.{◌≡◌, ℕ, Bool, List, [], ◌∷◌, Option, Some, None, is_some, if◌then◌else◌}
use Rattle.std.specs.declared.cmp.Ordering.{Ordering}
use Rattle.std.specs.BTreeMap.{BTreeMap}
use Rattle.std.specs.FinMap as table
use Rattle.std.specs.Option.{option_map, option_or}
use Rattle.rows.specs.declared.keys.OrderKey.{OrderKey}
use Rattle.rows.specs.Keys.{order_cmp}

-- the table that an ordered map represents
abbrev pub table_of : {K X : Type 0} (R : K → K → Ordering) → BTreeMap K X → table.FinMap R X
table_of R map = table.from_entries map.entries

-- the table that an ordered map by the keys of orders represents
abbrev pub order_table : {X : Type 0} → BTreeMap OrderKey X → table.FinMap order_cmp X
order_table map = table_of order_cmp map

-- the entries with each row changed by f, which also takes the key
abbrev pub mapped : {K X Y : Type 0} → (K → X → Y) → List (K × X) → List (K × Y)
mapped f [] = []
mapped f (e ∷ es) = (e.0, f e.0 e.1) ∷ mapped f es

-- the table with each row changed by f, which also takes the key
unfoldable pub map_rows : {K X Y : Type 0} {R : K → K → Ordering} → (K → X → Y) → table.FinMap R X → table.FinMap R Y
map_rows f rows = table.from_sorted (mapped f (table.entries rows))

-- the table with this row at the key, or with no row at the key
abbrev pub put_row : {K X : Type 0} {R : K → K → Ordering} → table.FinMap R X → K → Option X → table.FinMap R X
put_row rows key (Some row) = table.insert rows key row
put_row rows key None = table.remove rows key

-- the number of rows at a key that has this row, or none: 1 or 0
abbrev pub row_count : {X : Type 0} → Option X → ℕ
row_count row = if is_some row then 1 else 0

-- Only the row at the key, if there is one, changes: f is applied to it. The test compares keys.
abbrev pub ChangesRow : {K X : Type 0} {R : K → K → Ordering} → (K → K → Bool) → K → (X → X) → table.FinMap R X → table.FinMap R X → Type 0
ChangesRow {K} equal key f old new = (k : K) → table.get new k ≡ option_map (λ row. if equal k key then f row else row) (table.get old k)

-- the new table has the added rows, and at the other keys the old ones
abbrev pub MergesRows : {K X : Type 0} {R : K → K → Ordering} → table.FinMap R X → table.FinMap R X → table.FinMap R X → Type 0
MergesRows {K} old added new = (key : K) → table.get new key ≡ option_or (table.get added key) (table.get old key)
