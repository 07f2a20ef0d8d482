-- An entry that is inserted behind all others.
use Rattle.std.proofs.Common.{◌≡◌, List, [], ◌∷◌, ◌++◌, refl, sym, ap, subst, ◌∙◌}
use Rattle.std.proofs.lemmas.List.{map-append}
use Rattle.std.specs.List.{AllByRecursion}
use Rattle.std.specs.List.Sorted.{IsStrictlySortedBy}
use Rattle.std.specs.Map.{keys_of}
use Rattle.std.specs.BTreeMap.{insert_entry}
use Rattle.std.specs.Cmp.{IsTotalOrder}
use Rattle.std.specs.declared.cmp.Ordering.{Ordering}
use Rattle.std.specs.declared.cmp.Ordering.TheVariants.{Less, Greater}
use Rattle.std.specs.Ordering.{ordering_reverse}
use Rattle.population.specs.Append.{AreBefore}
use Rattle.population.proofs.Lists.{each_both}

pub insert_last : {K X : Type 0} {R : K → K → Ordering} → IsTotalOrder R → (key : K) (row : X) (es : List (K × X)) → AreBefore R key es
    → insert_entry R es key row ≡ es ++ (key, row) ∷ []
insert_last o key row [] before = refl
insert_last {R = R} o key row (e ∷ es) before =
    let behind : R key e.0 ≡ Greater = o.antisymm key e.0 ∙ ap ordering_reverse before.0 in
    rw behind (ap (λ l. e ∷ l) (insert_last o key row es before.1))

ordered_push : {K : Type 0} (R : K → K → Ordering) (key : K) (keys : List K) → AllByRecursion (λ other. R other key ≡ Less) keys → IsStrictlySortedBy R keys → IsStrictlySortedBy R (keys ++ key ∷ [])
unfolding IsStrictlySortedBy
ordered_push R key [] before had = (tt, tt)
ordered_push R key (k ∷ ks) before had = (each_both (λ other. R k other ≡ Less) ks (key ∷ []) had.0 (before.0, tt), ordered_push R key ks before.1 had.1)

-- the keys stay in order
pub ordered_last : {K X : Type 0} (R : K → K → Ordering) (key : K) (row : X) (es new : List (K × X)) → AreBefore R key es → new ≡ es ++ (key, row) ∷ []
    → IsStrictlySortedBy R (keys_of es) → IsStrictlySortedBy R (keys_of new)
ordered_last R key row es new before is had =
    subst (IsStrictlySortedBy R) (sym (ap keys_of is ∙ map-append (λ e. e.0) es ((key, row) ∷ []))) (ordered_push R key (keys_of es) before had)
