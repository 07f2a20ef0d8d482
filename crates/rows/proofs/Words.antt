-- A test for whether a text contains a word.
use Rattle.std.proofs.Common.{◌≡◌, ◌↔◌, ℕ, Bool, true, false, nat_eq, ◌||◌, List, [], ◌∷◌, ◌++◌, length, take, drop, refl, sym, ap, ◌∙◌}
use Rattle.std.specs.List.{starts_with}
use Rattle.std.specs.Cmp.Lexicographic.{pointwise, same_text, nat_list_eq_equiv}
use Rattle.std.proofs.Math.Seq.{take-append_seam}
use Rattle.std.proofs.lemmas.List.{take-append-drop}
use Rattle.rows.specs.Brand.{HasWord, has_word}

-- what starts with a word is the word and a rest
started : (text word : List ℕ) → starts_with nat_eq text word ≡ true → text ≡ word ++ drop (length word) text
started text word h =
    sym (take-append-drop (length word) text) ∙ ap (λ l. l ++ drop (length word) text) (sym (same_text word (take (length word) text) (sym h)))

starts : (word after : List ℕ) → starts_with nat_eq (word ++ after) word ≡ true
starts word after = ap (pointwise nat_eq word) (take-append_seam word after) ∙ nat_list_eq_equiv.refl word

or_second : (a b : Bool) → b ≡ true → (a || b) ≡ true
or_second true b h = refl
or_second false b h = h

found : (text word : List ℕ) → has_word text word ≡ true → HasWord text word
found [] word h = ([], drop (length word) [], started [] word h)
found (byte ∷ rest) word h =
    elim (starts_with nat_eq (byte ∷ rest) word) as (λ b. starts_with nat_eq (byte ∷ rest) word ≡ b → (b || has_word rest word) ≡ true → HasWord (byte ∷ rest) word) [
      | true ↦ λ e k. ([], drop (length word) (byte ∷ rest), started (byte ∷ rest) word e)
      | false ↦ λ e k. let later = found rest word k in (byte ∷ later.0, later.1, ap (λ l. byte ∷ l) later.2)
    ] refl h

at_once : (text word : List ℕ) → starts_with nat_eq text word ≡ true → has_word text word ≡ true
at_once [] word h = h
at_once (byte ∷ rest) word h = ap (λ b. b || has_word rest word) h

stands : (before word after : List ℕ) → has_word (before ++ (word ++ after)) word ≡ true
stands [] word after = at_once (word ++ after) word (starts word after)
stands (byte ∷ before) word after = or_second (starts_with nat_eq (byte ∷ (before ++ (word ++ after))) word) _ (stands before word after)

pub has_word_exact : (text word : List ℕ) → (has_word text word ≡ true) ↔ HasWord text word
has_word_exact text word = (found text word, λ h. ap (λ l. has_word l word) h.2 ∙ stands h.0 word h.1)

-- tests of the same fact are equal
pub same_test : {P : Type 0} (a b : Bool) → (a ≡ true) ↔ P → (b ≡ true) ↔ P → a ≡ b
same_test true b h k = sym (k.1 (h.0 refl))
same_test false true h k = h.1 (k.0 refl)
same_test false false h k = refl
