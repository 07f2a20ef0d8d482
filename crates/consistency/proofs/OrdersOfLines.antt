-- The orders of lines, which ascend with them.
use Rattle.std.proofs.Common.{◌≡◌, List, [], ◌∷◌, map, IsTrue, refl, sym, ◌∙◌}
use Rattle.std.specs.List.{AllByRecursion}
use Rattle.std.specs.List.Sorted.{IsStrictlySortedBy}
use Rattle.std.specs.Map.{keys_of}
use Rattle.std.specs.Ordering.{is_le, nat_cmp, ordering_then}
use Rattle.std.specs.declared.cmp.Ordering.{Ordering}
use Rattle.std.specs.declared.cmp.Ordering.TheVariants.{Less, Equal, Greater}
use Rattle.std.proofs.lemmas.Map.Keys.{sorted_head, sorted_tail}
use Rattle.rows.specs.declared.keys.OrderKey.{OrderKey}
use Rattle.rows.specs.declared.keys.OrderLineKey.{OrderLineKey}
use Rattle.rows.specs.declared.records.OrderLine.{OrderLine}
use Rattle.rows.specs.Keys.{line_cmp, order_cmp, order_of_line}
use Rattle.schema.proofs.AllBeside.{DoAscend}
use Rattle.schema.proofs.PackedLines.{by_order}

abbrev pub orders_of : List (OrderLineKey × OrderLine) → List OrderKey
orders_of lines = map (λ e. order_of_line e.0) lines

first_le : (r s : Ordering) → ordering_then r s ≡ Less → IsTrue (is_le r)
first_le Less s h = refl
first_le Equal s h = refl
first_le Greater s h = absurd cc

-- of two lines the later has no earlier order
order_le : (a b : OrderLineKey) → line_cmp a b ≡ Less → IsTrue (is_le (order_cmp (order_of_line a) (order_of_line b)))
order_le a b h = first_le (order_cmp (order_of_line a) (order_of_line b)) (nat_cmp a.number b.number) (sym (by_order a b) ∙ h)

pub orders-ascend : (lines : List (OrderLineKey × OrderLine)) → IsStrictlySortedBy line_cmp (keys_of lines) → DoAscend (orders_of lines)
orders-ascend [] sorted = tt
orders-ascend (line ∷ lines) sorted =
    (no_earlier lines (sorted_head line_cmp line.0 (keys_of lines) sorted), orders-ascend lines (sorted_tail line_cmp line.0 (keys_of lines) sorted))
  where
    no_earlier : (es : List (OrderLineKey × OrderLine)) → AllByRecursion (λ later. line_cmp line.0 later ≡ Less) (keys_of es)
        → AllByRecursion (λ later. IsTrue (is_le (order_cmp (order_of_line line.0) later))) (orders_of es)
    no_earlier [] after = tt
    no_earlier (e ∷ es) after = (order_le line.0 e.0 after.0, no_earlier es after.1)
