-- What a read of a row gives, against the table.
use Rattle.std.proofs.Common.{◌≡◌, ℕ, List, [], ◌∷◌, Option, Some, None, Bor, refl, sym, ap, ◌∙◌, cond}
use Rattle.std.specs.List.{zip, slice_get}
use Rattle.std.specs.Map.{lookup}
use Rattle.std.specs.Option.{option_copied, option_and_then}
use Rattle.std.specs.Slice.{IsItemAt}
use Rattle.std.specs.BTreeMap.{is_at}
use Rattle.std.specs.declared.cmp.Ordering.{Ordering}
use Rattle.std.specs.Ordering.{eq_by_cmp}
use Rattle.std.specs.Cmp.{IsTotalOrder}
use Rattle.std.specs.FinMap.{get, from_entries, get-from_entries, IsAntisymmetric}
use Rattle.std.specs.FinMap.Entries.{find}
use Rattle.std.proofs.lemmas.Option.{slice_get-get_or, slice_get_past}
use Rattle.schema.specs.Dense.{place}
use Rattle.schema.proofs.Places.{get-dense}

copied : {X : Type 0} (xs : List X) (i : ℕ) (r : Option (Bor X)) → IsItemAt xs i r → option_copied r ≡ slice_get xs i
copied xs i None h = sym (slice_get_past xs i h.3)
copied xs i (Some x) h = ap Some (h.3.1 x.now) ∙ sym (slice_get-get_or xs i x.now h.3.0)

-- what `get` gives of a slice of the items
pub copied_item : {X : Type 0} (items slice : List X) → slice ≡ items → (i : ℕ) (r : Option (Bor X)) → IsItemAt slice i r → option_copied r ≡ slice_get items i
copied_item items slice same i r h = copied slice i r h ∙ ap (λ l. slice_get l i) same

module _ {K X : Type 0} {R : K → K → Ordering} (o : IsTotalOrder R) (a : IsAntisymmetric R) where
  -- the row at the key's slot, of rows in key order
  pub read_slot : (ks : List K) (xs : List X) (q : K) (slot r : Option ℕ) (n : ℕ) → place (eq_by_cmp R q) ks ≡ slot → r ≡ slot → r ≡ Some n
      → get (from_entries {R = R} (zip ks xs)) q ≡ slice_get xs n
  read_slot ks xs q slot r n placed is found =
      get-dense o a ks xs q ∙ ap (option_and_then (slice_get xs)) (placed ∙ sym is ∙ found)

  pub read_no_slot : (ks : List K) (xs : List X) (q : K) (slot r : Option ℕ) → place (eq_by_cmp R q) ks ≡ slot → r ≡ slot → r ≡ None
      → get (from_entries {R = R} (zip ks xs)) q ≡ None
  read_no_slot ks xs q slot r placed is none =
      get-dense o a ks xs q ∙ ap (option_and_then (slice_get xs)) (placed ∙ sym is ∙ none)

module _ {K X : Type 0} {R : K → K → Ordering} (o : IsTotalOrder R) where
  pub find-lookup : (q : K) (es : List (K × X)) → find R q es ≡ lookup (is_at (R q)) es
  find-lookup q [] = refl
  find-lookup q (e ∷ es) = ap (cond (is_at (R q) e.0) (Some e.1)) (find-lookup q es)

  -- a row of an ordered map
  pub read_entry : (es : List (K × X)) (q : K) → get (from_entries {R = R} es) q ≡ lookup (is_at (R q)) es
  read_entry es q = get-from_entries o es q ∙ find-lookup q es
