-- Rows of orders of which some have been passed.
use Rattle.std.specs.Prelude.{◌≡◌, List, [], ◌∷◌, Option, Some, None, IsTrue}
use Rattle.std.specs.Borrow.{Bor}
use Rattle.std.specs.FinMap as map
use Rattle.std.specs.Ordering.{is_le}
use Rattle.rows.specs.declared.keys.OrderKey.{OrderKey}
use Rattle.rows.specs.Keys.{order_cmp}
use Rattle.schema.specs.Entries.{entry}

-- the first row that is left, if there is one, and the rows after it
abbrev pub rows_left : {R : Type 0} → Option (OrderKey × Bor R) → List (OrderKey × R) → List (OrderKey × R)
rows_left None others = []
rows_left (Some first) others = entry first ∷ others

-- look-ups from the key on return the same rows
abbrev pub SameFrom : {R : Type 0} → OrderKey → List (OrderKey × R) → List (OrderKey × R) → Type 0
SameFrom key old new = (later : OrderKey) → IsTrue (is_le (order_cmp key later)) → map.find order_cmp later new ≡ map.find order_cmp later old
