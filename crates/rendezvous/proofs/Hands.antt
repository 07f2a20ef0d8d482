-- The first result goes out of the hand of who reported last.
use Rattle.std.proofs.Common.{◌≡◌, ℕ, zero, suc, ◌+◌, ◌-◌, ◌<◌, List, [], ◌∷◌, ◌++◌, length, Option, Some, None, IsSome, option_to_list, refl, sym, ap, ◌∙◌, subst, arith}
use Rattle.std.proofs.lemmas.List.{append-nil}
use Rattle.atomic_table.specs.Table.{rest}
use Rattle.rendezvous.specs.Rule.{empty_slots, in_slots}
use Rattle.rendezvous.specs.Hands.{held, IsInHand}

append_append : {A : Type 0} (xs ys zs : List A) → (xs ++ ys) ++ zs ≡ xs ++ (ys ++ zs)
append_append [] ys zs = refl
append_append (x ∷ xs) ys zs = ap (λ l. x ∷ l) (append_append xs ys zs)

module _ {R : Type 0} where
  held_append : (xs ys : List (ℕ × Option R)) → held (xs ++ ys) ≡ held xs ++ held ys
  held_append [] ys = refl
  held_append (x ∷ xs) ys = ap (λ l. option_to_list x.1 ++ l) (held_append xs ys) ∙ sym (append_append (option_to_list x.1) (held xs) (held ys))

  held_in_slots : (k : ℕ) (rs : List R) → held (in_slots k rs) ≡ rs
  held_in_slots k [] = refl
  held_in_slots k (r ∷ rs) = ap (λ l. r ∷ l) (held_in_slots (suc k) rs)

  held_empty : (k n : ℕ) → held (empty_slots {R = R} k n) ≡ []
  held_empty k zero = refl
  held_empty k (suc n) = held_empty (suc k) n

  -- one slot more is empty
  empty_more : (k n : ℕ) → empty_slots {R = R} k n ++ (k + n, None) ∷ [] ≡ empty_slots k (suc n)
  empty_more k zero = let same : k + 0 ≡ k = omega arith in ap (λ (j : ℕ). (j, None) ∷ []) same
  empty_more k (suc n) = let same : k + suc n ≡ suc k + n = omega arith in ap (λ (j : ℕ). (k, None) ∷ (empty_slots (suc k) n ++ (j, None) ∷ [])) same ∙ ap (λ l. (k, None) ∷ l) (empty_more (suc k) n)

  -- if the hand is this, these results are left
  is_in_hand : (places next left : ℕ) (hand : List (ℕ × Option R)) (rs : List R) → left ≡ length rs → next + left ≡ places → hand ≡ in_slots next rs ++ empty_slots 0 next → (IsInHand places next left hand) × (held hand ≡ rs)
  is_in_hand places next left hand rs count all is =
      let here : held hand ≡ rs = ap held is ∙ held_append (in_slots next rs) (empty_slots 0 next) ∙ ap (λ (l : List R). l ++ held (empty_slots {R = R} 0 next)) (held_in_slots next rs) ∙ ap (λ (l : List R). rs ++ l) (held_empty 0 next) ∙ append-nil rs in (
        record { count = count ∙ sym (ap length here); all = all; first = is ∙ ap (λ (l : List R). in_slots next l ++ empty_slots 0 next) (sym here) },
        here,
      )

  -- what the last one took is in its hand
  pub all_in_hand : (places : ℕ) (hand : List (ℕ × Option R)) (rs : List R) → hand ≡ in_slots 0 rs → length rs ≡ places → (IsInHand places 0 places hand) × (held hand ≡ rs)
  all_in_hand places hand rs is long = is_in_hand places 0 places hand rs (sym long) (omega arith) (is ∙ sym (append-nil (in_slots 0 rs)))

  abbrev value_of : Option R → List (ℕ × Option R) → Option R
  value_of d [] = d
  value_of d (x ∷ xs) = x.1

  -- if some are left, the first of them is first in the hand
  pub first_in_hand : (places next left : ℕ) (hand : List (ℕ × Option R)) → IsInHand places next left hand → 0 < left → (own : Option R) × (hand ≡ (next, own) ∷ rest hand)
  first_in_hand places next left hand inside any = first_of (held hand) inside.count inside.first
    where
      first_of : (rs : List R) → left ≡ length rs → hand ≡ in_slots next rs ++ empty_slots 0 next → (own : Option R) × (hand ≡ (next, own) ∷ rest hand)
      first_of [] count is = absurd (omega arith)
      first_of (r ∷ rs) count is = (Some r, is ∙ ap (λ (l : List (ℕ × Option R)). (next, Some r) ∷ l) (sym (ap rest is)))

  -- and after it went, its slot lies empty behind the others
  pub next_in_hand : (places next left : ℕ) (hand after : List (ℕ × Option R)) (own : Option R) → IsInHand places next left hand → 0 < left → hand ≡ (next, own) ∷ rest hand → after ≡ rest hand ++ (next, None) ∷ []
      → (IsInHand places (next + 1) (left - 1) after) × (held hand ≡ option_to_list own ++ held after) × IsSome own
  next_in_hand places next left hand after own inside any is then = goes (held hand) inside.count inside.first refl
    where
      goes : (rs : List R) → left ≡ length rs → hand ≡ in_slots next rs ++ empty_slots 0 next → held hand ≡ rs → (IsInHand places (next + 1) (left - 1) after) × (held hand ≡ option_to_list own ++ held after) × IsSome own
      goes [] count first all = absurd (omega arith)
      goes (r ∷ rs) count first all =
          let same : own ≡ Some r = ap (value_of own) (sym is ∙ first) in
          let others : rest hand ≡ in_slots (suc next) rs ++ empty_slots 0 next = ap rest first in
          let one_more : suc next ≡ next + 1 = omega arith in
          let from_zero : next ≡ 0 + next = omega arith in
          let left_over : after ≡ in_slots (next + 1) rs ++ empty_slots 0 (next + 1) =
          then ∙ ap (λ (l : List (ℕ × Option R)). l ++ (next, None) ∷ []) others ∙ append_append (in_slots (suc next) rs) (empty_slots 0 next) ((next, None) ∷ [])
          ∙ ap (λ (l : List (ℕ × Option R)). in_slots (suc next) rs ++ l) (ap (λ (k : ℕ). empty_slots 0 next ++ (k, None) ∷ []) from_zero ∙ empty_more 0 next) ∙ ap (λ (n : ℕ). in_slots n rs ++ empty_slots 0 n) one_more in
          let result = is_in_hand places (next + 1) (left - 1) after rs (omega arith) (omega (arith, inside.all)) left_over in (
            result.0,
            all ∙ ap (λ (l : List R). r ∷ l) (sym result.1) ∙ ap (λ (o : Option R). option_to_list o ++ held after) (sym same),
            subst (λ (o : Option R). IsSome o) (sym same) refl,
          )
