-- Each step keeps the rule of a closing word.
use Rattle.std.proofs.Common.{◌≡◌, ◌≢◌, ℕ, zero, suc, ◌<◌, true, false, true≢false, eqb, List, [], ◌∷◌, ◌++◌, length, set, refl, sym, ◌∙◌, ap, subst, ⊎_elim, arith, length-set}
use Rattle.std.specs.Prelude.{slice_index}
use Rattle.std.proofs.lemmas.Bool.{eqb-true, eq-eqb}
use mathlib.Core.Option.{some, some-ne-none, some-injective}
use lib.ListN.{get_elem?}
use Rattle.atomic_table.specs.Table.{Me, keeps, Allows, Enters, opening}
use Rattle.atomic_table.proofs.Lists.{at_longer, at_set, at_snoc}
use Rattle.closing_word.specs.declared.rule.View.{View}
use Rattle.closing_word.specs.Rule.{closer_view, looker_view, IsTrue, AreTrue, HasLooked, HasClosed}

-- the opening keeps the rule
pub begins : AreTrue (opening (0 ∷ []) [] (closer_view false))
begins = record { some_word = omega arith; closer = 0; view = closer_view false; there = refl; knows = λ e. absurd (omega (arith, e)); each = one }
  where
    one : (place : ℕ) (v : View) → get_elem? (closer_view false ∷ []) place ≡ some v → IsTrue 0 0 place v
    one zero v e = subst (IsTrue 0 0 0) (some-injective _ _ e) (record { own = λ _. refl; found = λ same. absurd (true≢false (sym same)) })
    one (suc j) v e = absurd (some-ne-none v (sym e))

-- the view of a place that has found this word
looked : (closer word place : ℕ) → IsTrue closer word place (looker_view (eqb word 1))
looked closer word place = record { own = λ same. absurd (true≢false (sym same)); found = λ same. eqb-true word 1 same }

-- a new place may know what it finds
pub looks : (slots : ℕ) → Enters AreTrue slots 0 (λ n w. HasLooked n (w, []))
looks slots s holds long small =
    let word = slice_index s.words 0 in (
      looker_view (eqb word 1),
      record {
        some_word = holds.some_word;
        closer = holds.closer;
        view = holds.view;
        there = at_longer s.views (looker_view (eqb word 1) ∷ []) holds.closer holds.view holds.there;
        knows = holds.knows;
        each = λ j u e. ⊎_elim
            (λ was. holds.each j u was)
            (λ (same : looker_view (eqb word 1) ≡ u). subst (IsTrue holds.closer word j) same (looked holds.closer word j))
            (at_snoc s.views (looker_view (eqb word 1)) u j e);
      },
      λ found. ap looker_view (eq-eqb word 1 found),
    )

-- the word after it was written
slice_index-set : (words : List ℕ) (n : ℕ) → 0 < length words → slice_index (set words 0 n) 0 ≡ n
slice_index-set [] n long = absurd (omega arith)
slice_index-set (x ∷ xs) n long = refl

-- the words stay as many
still_long : (words : List ℕ) (n : ℕ) → 0 < length words → 0 < length (set words 0 n)
still_long words n long = omega (arith, length-set words 0 n)

-- an element that was written is there
set_there : (views : List View) (place : ℕ) (v w : View) → get_elem? views place ≡ some v → get_elem? (set views place w) place ≡ some w
set_there [] place v w e = absurd (some-ne-none v (sym e))
set_there (x ∷ xs) zero v w e = refl
set_there (x ∷ xs) (suc place) v w e = set_there xs place v w e

-- the closer's place may close the word
pub closes : (slots id : ℕ) (me : Me (Unit {0}) View) → me.0.is_closer ≡ true → Allows AreTrue slots id me 0 (λ _. 1) (λ _ after. HasClosed me after)
closes slots id me is_closer s holds long at small =
    let w = closer_view true in
    let own : id ≡ holds.closer = (holds.each id me.0 at).own is_closer in
    let closed : slice_index (set s.words 0 1) 0 ≡ 1 = slice_index-set s.words 1 holds.some_word in (
      w,
      keeps,
      tt,
      record {
        some_word = still_long s.words 1 holds.some_word;
        closer = holds.closer;
        view = w;
        there = subst (λ k. get_elem? (set s.views id w) k ≡ some w) own (set_there s.views id me.0 w at);
        knows = λ _. refl;
        each = λ j u e. record {
          own = λ same. ⊎_elim
              (λ (t : (j ≡ id) × (w ≡ u)). t.0 ∙ own)
              (λ (t : (j ≢ id) × (get_elem? s.views j ≡ some u)). (holds.each j u t.1).own same)
              (at_set s.views id j w u e);
          found = λ _. closed;
        };
      },
      refl,
    )
