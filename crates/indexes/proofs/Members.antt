-- An entry of a table, against a look-up at its key.
use Rattle.std.proofs.Common.{◌≡◌, ℕ, zero, suc, ◌<◌, Bool, true, false, cond, ◌&&◌, List, [], ◌∷◌, length, get_or, Contains, filter, Some, refl, sym, ap, ◌∙◌, arith}
use Rattle.std.specs.declared.cmp.Ordering.{Ordering}
use Rattle.std.specs.declared.cmp.Ordering.TheVariants.{Less, Equal, Greater}
use Rattle.std.specs.Ordering.{eq_by_cmp, is_eq, is_lt, ordering_reverse}
use Rattle.std.specs.Cmp.{IsTotalOrder}
use Rattle.std.specs.FinMap.Entries.{find, is_sorted, below_all}
use Rattle.std.proofs.lemmas.Cmp.{tied_itself}

pub and_first : (a b : Bool) → (a && b) ≡ true → a ≡ true
and_first true b h = refl
and_first false b h = h

pub and_second : (a b : Bool) → (a && b) ≡ true → b ≡ true
and_second true b h = h
and_second false b h = absurd cc

later : {X : Type 0} (p : X → Bool) (y : X) (ys : List X) (x : X) → (p x ≡ true) × Contains ys x → (p x ≡ true) × Contains (y ∷ ys) x
later p y ys x h = let inside : h.1.0 < length ys = h.1.1 in (h.0, (suc h.1.0, omega arith, h.1.2))

in_front : {X : Type 0} (p : X → Bool) (y : X) (ys : List X) (x : X) → p y ≡ true → ((n : ℕ) → n < length (filter p ys) → get_or (filter p ys) n x ≡ x → (p x ≡ true) × Contains ys x)
    → (n : ℕ) → n < length (y ∷ filter p ys) → get_or (y ∷ filter p ys) n x ≡ x → (p x ≡ true) × Contains (y ∷ ys) x
in_front p y ys x e rest zero l s = (ap p (sym s) ∙ e, (zero, omega arith, s))
in_front p y ys x e rest (suc n) l s = later p y ys x (rest n (omega arith) s)

-- an element of a filter passes the test, and is one of the whole
pub passed : {X : Type 0} (p : X → Bool) (xs : List X) (x : X) → (k : ℕ) → k < length (filter p xs) → get_or (filter p xs) k x ≡ x → (p x ≡ true) × Contains xs x
passed p [] x k below is = absurd (omega arith)
passed {X} p (y ∷ ys) x k below is =
    elim (p y) as (λ b. p y ≡ b → (n : ℕ) → n < length (cond b (y ∷ filter p ys) (filter p ys)) → get_or (cond b (y ∷ filter p ys) (filter p ys)) n x ≡ x → (p x ≡ true) × Contains (y ∷ ys) x) [
      | true ↦ λ e n l s. in_front p y ys x e (λ m l' s'. passed p ys x m l' s') n l s
      | false ↦ λ e n l s. later p y ys x (passed p ys x n l s)
    ] refl k below is

less : (r : Ordering) → is_lt r ≡ true → r ≡ Less
less Less h = refl
less Equal h = absurd cc
less Greater h = absurd cc

module _ {K X : Type 0} (R : K → K → Ordering) (o : IsTotalOrder R) where
  below_at : (q k : K) (v : X) (es : List (K × X)) → below_all R q es ≡ true → (n : ℕ) → n < length es → get_or es n (k, v) ≡ (k, v) → R q k ≡ Less
  below_at q k v [] h n l s = absurd (omega arith)
  below_at q k v (e ∷ es) h zero l s = ap (λ (p : K × X). R q p.0) (sym s) ∙ less _ (and_first _ _ h)
  below_at q k v (e ∷ es) h (suc n) l s = below_at q k v es (and_second _ _ h) n (omega arith) s

  -- a look-up at the key of an entry finds it
  pub found_at : (k : K) (v : X) (es : List (K × X)) → is_sorted R es ≡ true → (n : ℕ) → n < length es → get_or es n (k, v) ≡ (k, v) → find R k es ≡ Some v
  found_at k v [] h n l s = absurd (omega arith)
  found_at k v (e ∷ es) h zero l s =
      let key : e.0 ≡ k = ap (λ (p : K × X). p.0) s in
      let value : e.1 ≡ v = ap (λ (p : K × X). p.1) s in
      let tie : eq_by_cmp R k e.0 ≡ true = ap (λ q. is_eq (R k q)) key ∙ ap is_eq (tied_itself o k) in
      rw tie (ap Some value)
  found_at k v (e ∷ es) h (suc n) l s =
      let before : R e.0 k ≡ Less = below_at e.0 k v es (and_first _ _ h) n (omega arith) s in
      let apart : eq_by_cmp R k e.0 ≡ false = ap is_eq (o.antisymm k e.0 ∙ ap ordering_reverse before) in
      rw apart (found_at k v es (and_second _ _ h) n (omega arith) s)
