-- What an ordered map has at a key, once the entries of another are moved into it.
use Rattle.std.proofs.Common.{◌≡◌, List, refl, sym, ap, ◌∙◌}
use Rattle.std.specs.List.Sorted.{IsStrictlySortedBy}
use Rattle.std.specs.Option.{option_or}
use Rattle.std.specs.Map.{lookup, update_all, keys_of}
use Rattle.std.specs.BTreeMap.{is_at}
use Rattle.std.specs.declared.cmp.Ordering.{Ordering}
use Rattle.std.specs.Ordering.{eq_by_cmp}
use Rattle.std.specs.Cmp.{IsTotalOrder, eq_by_cmp_equiv}
use Rattle.std.specs.FinMap.{get, from_entries}
use Rattle.std.proofs.lemmas.Map.Made.{update_all_distinct}
use Rattle.std.proofs.lemmas.Map.Keys.{IsDistinct-from_sorted}
use Rattle.schema.proofs.RowReads.{read_entry}

pub adds_rows : {K X : Type 0} {R : K → K → Ordering} → IsTotalOrder R → (old more new : List (K × X)) → IsStrictlySortedBy R (keys_of more)
    → ((q : K) → lookup (is_at (R q)) new ≡ update_all (eq_by_cmp R) (λ k. lookup (is_at (R k)) old) more q) → (q : K) → get (from_entries {R = R} new) q ≡ option_or (get (from_entries {R = R} more) q) (get (from_entries {R = R} old) q)
adds_rows {R = R} o old more new sorted inserts q =
    read_entry o new q ∙ inserts q
    ∙ update_all_distinct (eq_by_cmp_equiv o) (eq_by_cmp R) (λ x y. refl) (λ k. lookup (is_at (R k)) old) more q (IsDistinct-from_sorted R (keys_of more) sorted)
    ∙ ap (λ r. option_or r (lookup (is_at (R q)) old)) (sym (read_entry o more q))
    ∙ ap (option_or (get (from_entries more) q)) (sym (read_entry o old q))
