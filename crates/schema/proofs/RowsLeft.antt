-- Rows in the order of their keys, of which some were passed: what is found among those that are left.
use Rattle.std.proofs.Common.{◌≡◌, cond, List, [], ◌∷◌, Option, Some, None, IsTrue, refl, sym, ap, ◌∙◌}
use Rattle.std.specs.Borrow.{Bor}
use Rattle.std.specs.Cmp.{IsTotalOrder, alike_right}
use Rattle.std.specs.FinMap.Entries.{find}
use Rattle.std.specs.List.{AllByRecursion}
use Rattle.std.specs.List.Sorted.{IsStrictlySortedBy}
use Rattle.std.specs.Map.{keys_of}
use Rattle.std.specs.Map.Iter.{TakesFirst}
use Rattle.std.specs.Ordering.{is_eq, is_le, ordering_reverse}
use Rattle.std.specs.declared.cmp.Ordering.{Ordering}
use Rattle.std.specs.declared.cmp.Ordering.TheVariants.{Less, Equal, Greater}
use Rattle.std.proofs.lemmas.Map.Keys.{sorted_head}
use Rattle.rows.specs.declared.keys.OrderKey.{OrderKey}
use Rattle.schema.specs.Entries.{entry}
use Rattle.schema.specs.RowsLeft.{rows_left}

-- where the first is passed, the others are left
pub passed_first : {R : Type 0} (others : List (OrderKey × R)) (next : Option (OrderKey × Bor R)) (rest : List (OrderKey × R)) → TakesFirst entry others next rest → rows_left next rest ≡ others
passed_first others None rest steps = sym steps.0
passed_first others (Some first) rest steps = sym steps

-- a key before one that is no later than a third
pub before_le : {K : Type 0} {R : K → K → Ordering} → IsTotalOrder R → (x y z : K) → R x y ≡ Less → IsTrue (is_le (R y z)) → R x z ≡ Less
before_le {K} {R} o x y z h le =
    elim (R y z) as (λ r. R y z ≡ r → IsTrue (is_le r) → R x z ≡ Less) [
      | Less ↦ λ p _. o.trans x y z h p
      | Equal ↦ λ p _. sym (alike_right o y z x p) ∙ h
      | Greater ↦ λ p no. absurd cc
    ] refl le

module _ {K X : Type 0} {R : K → K → Ordering} (o : IsTotalOrder R) where
  -- a key behind the first is found among the others
  pub find_behind : (q : K) (e : K × X) (es : List (K × X)) → R e.0 q ≡ Less → find R q (e ∷ es) ≡ find R q es
  find_behind q e es h =
      let behind = o.antisymm q e.0 ∙ ap ordering_reverse h in
      ap (λ r. cond (is_eq r) (Some e.1) (find R q es)) behind

  find_before_all : (q k : K) (es : List (K × X)) → R q k ≡ Less → AllByRecursion (λ later. R k later ≡ Less) (keys_of es) → find R q es ≡ None
  find_before_all q k [] h below = refl
  find_before_all q k (e ∷ es) h below =
      ap (λ r. cond (is_eq r) (Some e.1) (find R q es)) (o.trans q k e.0 h below.0) ∙ find_before_all q k es h below.1

  -- and one before the first is nowhere
  pub find_before : (q : K) (e : K × X) (es : List (K × X)) → R q e.0 ≡ Less → IsStrictlySortedBy R (keys_of (e ∷ es)) → find R q (e ∷ es) ≡ None
  find_before q e es h sorted =
      ap (λ r. cond (is_eq r) (Some e.1) (find R q es)) h ∙ find_before_all q e.0 es h (sorted_head R e.0 (keys_of es) sorted)
