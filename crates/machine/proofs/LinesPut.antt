-- The lines of an order that are put into a table where it had none.
use Rattle.std.proofs.Common.{◌≡◌, ◌≢◌, ℕ, ◌+◌, ◌≤◌, Bool, true, false, List, [], ◌∷◌, map, length, Some, None, refl, ap, ◌∙◌, arith}
use Rattle.std.specs.Prelude.{ℤ, pos}
use Rattle.std.specs.List.{AllByRecursion}
use Rattle.std.proofs.lemmas.Int.{ints}
use Rattle.std.specs.FinMap.{get, entries}
use Rattle.rows.specs.declared.keys.OrderKey.{OrderKey}
use Rattle.rows.specs.declared.keys.OrderLineKey.{OrderLineKey}
use Rattle.rows.specs.declared.records.OrderLine.{OrderLine}
use Rattle.schema.specs.Sums.{sum_rows, weight_at}
use Rattle.schema.specs.Database.{rows_where}
use Rattle.schema.specs.OrderRows.{LineTable, line_key, put_lines}
use Rattle.schema.proofs.KeyOrders.{lines_total, lines_exact}
use Rattle.schema.proofs.TableSums.{sum_rows-insert}
use Rattle.machine.proofs.TableChanges.{get-insert_elsewhere, each_row-insert}
use Rattle.machine.proofs.RowsAdded.{IsAdded, added-insert, added-filter_inside, added-filter_outside, length-added}

module _ (order : OrderKey) where
  -- the table with these lines, numbered from that number on
  abbrev pub with_lines : ℕ → List OrderLine → LineTable → LineTable
  with_lines low rows lines = put_lines order low (map Some rows) lines

  -- no line of the order is stored in the table
  abbrev pub HasNone : LineTable → Type 0
  HasNone lines = (number : ℕ) → get lines (line_key order number) ≡ None

  pub get-with_lines_elsewhere : (q : OrderLineKey) (low : ℕ) (rows : List OrderLine) (lines : LineTable) → ((number : ℕ) → low ≤ number → q ≢ line_key order number)
      → get (with_lines low rows lines) q ≡ get lines q
  get-with_lines_elsewhere q low [] lines apart = refl
  get-with_lines_elsewhere q low (row ∷ rows) lines apart =
      get-insert_elsewhere lines_total lines_exact (with_lines (low + 1) rows lines) (line_key order low) row q (apart low (omega arith))
      ∙ get-with_lines_elsewhere q (low + 1) rows lines (λ number h. apart number (omega arith))

  none_there : (low : ℕ) (rows : List OrderLine) (lines : LineTable) → HasNone lines → get (with_lines (low + 1) rows lines) (line_key order low) ≡ None
  none_there low rows lines none =
      get-with_lines_elsewhere (line_key order low) (low + 1) rows lines
      (λ number h e. let same : low ≡ number = ap (λ (k : OrderLineKey). k.number) e in absurd (omega arith))
      ∙ none low

  one_more : (low : ℕ) (row : OrderLine) (rows : List OrderLine) (lines : LineTable) → HasNone lines
      → IsAdded (line_key order low, row) (entries (with_lines (low + 1) rows lines)) (entries (with_lines low (row ∷ rows) lines))
  one_more low row rows lines none = added-insert lines_total (with_lines (low + 1) rows lines) (line_key order low) row (none_there low rows lines none)

  -- a test that the lines pass counts them too
  pub rows-with_lines_inside : (test : OrderLineKey → Bool) → ((number : ℕ) → test (line_key order number) ≡ true) → (low : ℕ) (rows : List OrderLine) (lines : LineTable) → HasNone lines
      → length (rows_where test (with_lines low rows lines)) ≡ length (rows_where test lines) + length rows
  rows-with_lines_inside test passes low [] lines none = omega arith
  rows-with_lines_inside test passes low (row ∷ rows) lines none =
      let inner = entries (with_lines (low + 1) rows lines) in
      let outer = entries (with_lines low (row ∷ rows) lines) in
      let added = added-filter_inside (line_key order low, row) inner outer (one_more low row rows lines none) (λ e. test e.0) (passes low) in
      let more : length (rows_where test (with_lines low (row ∷ rows) lines)) ≡ length (rows_where test (with_lines (low + 1) rows lines)) + 1 = length-added _ _ _ added in
      let rest : length (rows_where test (with_lines (low + 1) rows lines)) ≡ length (rows_where test lines) + length rows = rows-with_lines_inside test passes (low + 1) rows lines none in
      omega arith

  -- and one that they fail finds the same rows
  pub rows-with_lines_outside : (test : OrderLineKey → Bool) → ((number : ℕ) → test (line_key order number) ≡ false) → (low : ℕ) (rows : List OrderLine) (lines : LineTable) → HasNone lines
      → rows_where test (with_lines low rows lines) ≡ rows_where test lines
  rows-with_lines_outside test fails low [] lines none = refl
  rows-with_lines_outside test fails low (row ∷ rows) lines none =
      added-filter_outside (line_key order low, row) (entries (with_lines (low + 1) rows lines)) (entries (with_lines low (row ∷ rows) lines)) (one_more low row rows lines none) (λ e. test e.0) (fails low)
      ∙ rows-with_lines_outside test fails (low + 1) rows lines none

  module _ (P : OrderLine → Type 0) where
    -- lines that weigh nothing leave a sum as it was
    pub sum_rows-with_lines : (weight : OrderLineKey → OrderLine → ℤ) → ((number : ℕ) (row : OrderLine) → P row → weight (line_key order number) row ≡ pos 0)
        → (low : ℕ) (rows : List OrderLine) (lines : LineTable) → AllByRecursion P rows → HasNone lines → sum_rows weight (with_lines low rows lines) ≡ sum_rows weight lines
    sum_rows-with_lines weight nothing low [] lines each none = refl
    sum_rows-with_lines weight nothing low (row ∷ rows) lines each none =
        let inner = with_lines (low + 1) rows lines in
        let change = sum_rows-insert lines_total lines_exact weight inner (line_key order low) row in
        let gone : weight_at weight (line_key order low) (get inner (line_key order low)) ≡ pos 0 = ap (weight_at weight (line_key order low)) (none_there low rows lines none) in
        let here : weight (line_key order low) row ≡ pos 0 = nothing low row each.0 in
        let rest : sum_rows weight inner ≡ sum_rows weight lines = sum_rows-with_lines weight nothing (low + 1) rows lines each.1 none in
        omega (arith, ints, change, gone, here, rest)

    -- a property of each line that was stored, and of each that is put, is a property of each line
    pub each_row-with_lines : (Q : OrderLineKey → OrderLine → Type 0) → ((number : ℕ) (row : OrderLine) → P row → Q (line_key order number) row)
        → (low : ℕ) (rows : List OrderLine) (lines : LineTable) → AllByRecursion P rows
        → ((q : OrderLineKey) (row : OrderLine) → get lines q ≡ Some row → Q q row)
        → (q : OrderLineKey) (row : OrderLine) → get (with_lines low rows lines) q ≡ Some row → Q q row
    each_row-with_lines Q new low [] lines each old = old
    each_row-with_lines Q new low (row ∷ rows) lines each old =
        each_row-insert lines_total lines_exact Q Q (with_lines (low + 1) rows lines) (line_key order low) row
        (each_row-with_lines Q new (low + 1) rows lines each.1 old) (new low row each.0) (λ q r apart h. h)
