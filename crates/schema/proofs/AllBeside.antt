-- Keys of orders that ascend, and the rows that are left beside them.
use Rattle.std.proofs.Common.{◌≡◌, List, [], ◌∷◌, IsTrue, refl, ap, ◌∙◌}
use Rattle.std.specs.FinMap.Entries.{find}
use Rattle.std.specs.List.{AllByRecursion}
use Rattle.std.specs.List.Sorted.{IsStrictlySortedBy}
use Rattle.std.specs.Ordering.{is_le}
use Rattle.std.specs.declared.cmp.Ordering.TheVariants.{Less}
use Rattle.std.proofs.lemmas.Map.Keys.{sorted_head, sorted_tail}
use Rattle.rows.specs.declared.keys.OrderKey.{OrderKey}
use Rattle.rows.specs.Keys.{order_cmp}
use Rattle.schema.specs.RowsLeft.{SameFrom}

-- none of these keys comes before an earlier one
abbrev pub DoAscend : List OrderKey → Type 0
DoAscend [] = Unit {0}
DoAscend (key ∷ keys) = AllByRecursion (λ later. IsTrue (is_le (order_cmp key later))) keys × DoAscend keys

-- for each of these keys the same row is found among those that are left as among all
abbrev pub FindsEach : {R : Type 0} → List (OrderKey × R) → List (OrderKey × R) → List OrderKey → Type 0
FindsEach all left [] = Unit {0}
FindsEach all left (key ∷ keys) = (find order_cmp key left ≡ find order_cmp key all) × FindsEach all left keys

-- the keys ascend, and their rows are left
pub record AreBeside {R : Type 0} (all left : List (OrderKey × R)) (keys : List OrderKey) : Type 0 where
  pub ascend : DoAscend keys
  pub finds : FindsEach all left keys

-- at first all are left
pub beside-all : {R : Type 0} (all : List (OrderKey × R)) (keys : List OrderKey) → DoAscend keys → AreBeside all all keys
beside-all {R} all keys ascend = record { ascend = ascend; finds = each keys }
  where
    each : (ks : List OrderKey) → FindsEach all all ks
    each [] = tt
    each (k ∷ ks) = (refl, each ks)

-- and behind the first key, where its row and those behind it are
pub beside-rest : {R : Type 0} (all old new : List (OrderKey × R)) (key : OrderKey) (keys : List OrderKey) → AreBeside all old (key ∷ keys) → SameFrom key old new → AreBeside all new keys
beside-rest {R} all old new key keys beside same =
    record { ascend = beside.ascend.1; finds = each keys beside.ascend.0 beside.finds.1 }
  where
    each : (ks : List OrderKey) → AllByRecursion (λ later. IsTrue (is_le (order_cmp key later))) ks → FindsEach all old ks → FindsEach all new ks
    each [] after finds = tt
    each (k ∷ ks) after finds = (same k after.0 ∙ finds.0, each ks after.1 finds.1)

-- keys of which each comes behind those before it
pub sorted-ascend : (keys : List OrderKey) → IsStrictlySortedBy order_cmp keys → DoAscend keys
sorted-ascend [] sorted = tt
sorted-ascend (key ∷ keys) sorted =
    (no_earlier keys (sorted_head order_cmp key keys sorted), sorted-ascend keys (sorted_tail order_cmp key keys sorted))
  where
    no_earlier : (ks : List OrderKey) → AllByRecursion (λ later. order_cmp key later ≡ Less) ks → AllByRecursion (λ later. IsTrue (is_le (order_cmp key later))) ks
    no_earlier [] after = tt
    no_earlier (k ∷ ks) after = (ap is_le after.0, no_earlier ks after.1)
