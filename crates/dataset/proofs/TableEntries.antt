-- The entries of a finite map, and what holds of each.
use Rattle.std.proofs.Common.{◌≡◌, List, [], ◌∷◌, map, refl, sym, ◌∙◌, Some}
use Rattle.std.specs.List.{AllByRecursion}
use Rattle.std.specs.List.Sorted.{IsStrictlySortedBy}
use Rattle.std.specs.Map.{keys_of, values_of}
use Rattle.std.specs.declared.cmp.Ordering.{Ordering}
use Rattle.std.specs.declared.cmp.Ordering.TheVariants.{Less}
use Rattle.std.specs.Cmp.{IsTotalOrder}
use Rattle.std.specs.FinMap.{FinMap, IsAntisymmetric, contains_key, contains_key-keys, entries, get, get-entries}
use Rattle.std.specs.FinMap.Entries.{find}
use Rattle.std.proofs.lemmas.Cmp.{tied_itself}
use Rattle.std.proofs.lemmas.Map.Lookups.{btree_set_from_contains}
use Rattle.std.specs.BTreeSet.{BTreeSet}
use Rattle.schema.proofs.EachRows.{keys_ascend}
use Rattle.dataset.proofs.Order.{turned}

pub all-both : {X : Type 0} (P Q S : X → Type 0) → ((x : X) → P x → Q x → S x) → (xs : List X) → AllByRecursion P xs → AllByRecursion Q xs → AllByRecursion S xs
all-both P Q S f [] h g = tt
all-both P Q S f (x ∷ xs) h g = (f x h.0 g.0, all-both P Q S f xs h.1 g.1)

pub all-of_values : {K X : Type 0} (P : X → Type 0) (es : List (K × X)) → AllByRecursion P (map (λ e. e.1) es) → AllByRecursion (λ e. P e.1) es
all-of_values P [] h = tt
all-of_values P (e ∷ es) h = (h.0, all-of_values P es h.1)

-- the row of an entry is found under its key
found_in : {K X : Type 0} {R : K → K → Ordering} → IsTotalOrder R → (es : List (K × X)) → IsStrictlySortedBy R (keys_of es)
    → AllByRecursion (λ e. find R e.0 es ≡ Some e.1) es
unfolding IsStrictlySortedBy
found_in o [] sorted = tt
found_in {K} {X} {R} o (e ∷ es) sorted = (rw (tied_itself o e.0) refl, later es sorted.0 (found_in o es sorted.1))
  where
    later : (ds : List (K × X)) → AllByRecursion (λ k. R e.0 k ≡ Less) (keys_of ds) → AllByRecursion (λ d. find R d.0 es ≡ Some d.1) ds
        → AllByRecursion (λ d. find R d.0 (e ∷ es) ≡ Some d.1) ds
    later [] above found = tt
    later (d ∷ ds) above found = (rw (turned o e.0 d.0 above.0) found.0, later ds above.1 found.1)

-- what holds of each row that is found and whose columns are as they are holds of each entry
pub each_entry : {K X : Type 0} {R : K → K → Ordering} {Q : K × X → Type 0} (P : X → Type 0) → IsTotalOrder R → (m : FinMap R X)
    → AllByRecursion P (values_of (entries m)) → ((e : K × X) → get m e.0 ≡ Some e.1 → P e.1 → Q e) → AllByRecursion Q (entries m)
each_entry P o m columns each =
    all-both _ _ _ (λ e found. each e (get-entries m e.0 ∙ found)) (entries m) (found_in o (entries m) (keys_ascend _ m)) (all-of_values P (entries m) columns)

-- ---- maps with the same keys

pub same_keys : {K X Y : Type 0} {R : K → K → Ordering} → IsTotalOrder R → IsAntisymmetric R → (m : FinMap R X) (n : FinMap R Y) → ((q : K) → contains_key m q ≡ contains_key n q)
    → keys_of (entries m) ≡ keys_of (entries n)
same_keys {K = K} o exact m n same =
    let ks : BTreeSet K = record { keys = keys_of (entries m) } in
    let ls : BTreeSet K = record { keys = keys_of (entries n) } in
    btree_set_from_contains o ks ls (keys_ascend _ m) (keys_ascend _ n) (λ q. sym (contains_key-keys m q) ∙ same q ∙ contains_key-keys n q) exact
