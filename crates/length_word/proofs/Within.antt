-- Each step keeps the rule of a length.
use Rattle.std.proofs.Common.{◌≡◌, ◌≢◌, ℕ, zero, suc, ◌+◌, ◌<◌, ◌≤◌, true, true≢false, List, [], ◌∷◌, length, set, refl, sym, ◌∙◌, subst, ⊎_elim, arith, zero-le, length-set}
use Rattle.std.specs.Prelude.{slice_index}
use mathlib.Core.Option.{some, some-ne-none, some-injective}
use lib.ListN.{get_elem?}
use Rattle.atomic_table.specs.Table.{Me, keeps, Allows, Splits, Joins, opening}
use Rattle.atomic_table.proofs.Lists.{at_set, at_snoc, set_again, set_else}
use Rattle.length_word.specs.declared.rule.View.{View}
use Rattle.length_word.specs.Rule.{log_view, mark_view, noting, IsWithin, AreWithin, IsCompared, IsGrown}

-- all views are within this length
abbrev AllWithin : ℕ → ℕ → List View → Type 0
AllWithin log word vs = (place : ℕ) (v : View) → get_elem? vs place ≡ some v → IsWithin log word place v

-- a mark that knows no more than the length is within it, at any place
mark_within : (log word place entries : ℕ) → entries ≤ word → IsWithin log word place (mark_view entries)
mark_within log word place entries low = record { log_knows = λ e. absurd (true≢false (sym e)); reached = low; noted = zero-le }

-- the others are within the length, and so is the view that is written
all_within_set : (log word : ℕ) (vs : List View) (i : ℕ) (w : View) → ((j : ℕ) (u : View) → j ≢ i → get_elem? vs j ≡ some u → IsWithin log word j u) → IsWithin log word i w → AllWithin log word (set vs i w)
all_within_set log word vs i w others mine j u e =
    ⊎_elim (λ (t : (j ≡ i) × (w ≡ u)). subst (λ (y : ℕ × View). IsWithin log word y.0 y.1) (λ k. (sym t.0 k, t.1 k)) mine) (λ (t : (j ≢ i) × (get_elem? vs j ≡ some u)). others j u t.0 t.1) (at_set vs i j w u e)

-- the opening keeps the rule
pub begins : AreWithin (opening (0 ∷ []) [] (log_view 0))
begins = record { some_word = omega arith; log = 0; each = one }
  where
    one : AllWithin 0 0 (log_view 0 ∷ [])
    one zero v e = subst (IsWithin 0 0 0) (some-injective _ _ e) (record { log_knows = λ _. (refl, refl); reached = zero-le; noted = zero-le })
    one (suc j) v e = absurd (some-ne-none v (sym e))

-- a new place may know as much
pub copies : (id : ℕ) (v : View) → Splits AreWithin id v v (mark_view v.reached)
copies id v s holds at = record {
  some_word = holds.some_word;
  log = holds.log;
  each = λ j u e. ⊎_elim
      (λ was. holds.each j u (subst (λ l. get_elem? l j ≡ some u) (set_again s.views id v at) was))
      (λ (same : mark_view v.reached ≡ u). subst (IsWithin holds.log (slice_index s.words 0) j) same (mark_within holds.log (slice_index s.words 0) j v.reached (holds.each id v at).reached))
      (at_snoc (set s.views id v) (mark_view v.reached) u j e);
}

-- a place may note what another knows, which is spent then
pub notes : (id : ℕ) (v : View) (other : ℕ) (w : View) → Joins AreWithin id v other w (noting v w) (mark_view 0)
notes id v other w s holds at apart there =
    let was = sym (set_else s.views id other (noting v w) apart) ∙ there in
    let word = slice_index s.words 0 in
    let mine = holds.each id v at in
    let theirs = holds.each other w was in
    record {
      some_word = holds.some_word;
      log = holds.log;
      each = all_within_set holds.log word (set s.views id (noting v w)) other (mark_view 0)
          (λ j u _ e. all_within_set holds.log word s.views id (noting v w) (λ i y _ d. holds.each i y d) (record { log_knows = mine.log_knows; reached = mine.reached; noted = theirs.reached }) j u e)
          (mark_within holds.log word other 0 zero-le);
    }

-- the word after it was written
slice_index-set : (words : List ℕ) (n : ℕ) → 0 < length words → slice_index (set words 0 n) 0 ≡ n
slice_index-set [] n long = absurd (omega arith)
slice_index-set (x ∷ xs) n long = refl

-- the words stay as many
still_long : (words : List ℕ) (n : ℕ) → 0 < length words → 0 < length (set words 0 n)
still_long words n long = omega (arith, length-set words 0 n)

-- the log's own place may compare what it noted with the length
pub compares : (slots id : ℕ) (me : Me (Unit {0}) View) → me.0.is_log ≡ true → Allows AreWithin slots id me 0 (λ n. n) (λ n after. IsCompared me after)
compares slots id me is_log s holds long at small =
    let v = me.0 in
    let word = slice_index s.words 0 in
    let w = log_view v.reached in
    let mine = holds.each id v at in
    let recorded = mine.log_knows is_log in
    let all = all_within_set holds.log word s.views id w (λ i y _ d. holds.each i y d) (record { log_knows = λ _. recorded; reached = mine.reached; noted = zero-le }) in (
      w,
      keeps,
      tt,
      record {
        some_word = still_long s.words word holds.some_word;
        log = holds.log;
        each = subst (λ n. AllWithin holds.log n (set s.views id w)) (sym (slice_index-set s.words word holds.some_word)) all;
      },
      (refl, subst (λ n. v.noted ≤ n) (sym recorded.1) mine.noted),
    )

-- the log's own place may make the length one more
pub grows : (slots id : ℕ) (me : Me (Unit {0}) View) (n : ℕ) → me.0.is_log ≡ true → n ≡ me.0.reached + 1 → Allows AreWithin slots id me 0 (λ _. n) (λ _ after. IsGrown me after)
grows slots id me n is_log next s holds long at small =
    let v = me.0 in
    let word = slice_index s.words 0 in
    let w = log_view (v.reached + 1) in
    let recorded = (holds.each id v at).log_knows is_log in
    let up : word ≤ n = omega (arith, recorded.1) in
    let all : AllWithin holds.log n (set s.views id w) =
    all_within_set holds.log n s.views id w
    (λ j u apart e. let theirs = holds.each j u e in record { log_knows = λ h. absurd (apart ((theirs.log_knows h).0 ∙ sym recorded.0)); reached = omega (arith, theirs.reached); noted = omega (arith, theirs.noted) })
    (record { log_knows = λ _. (recorded.0, sym next); reached = omega arith; noted = zero-le }) in (
      w,
      keeps,
      tt,
      record {
        some_word = still_long s.words n holds.some_word;
        log = holds.log;
        each = subst (λ k. AllWithin holds.log k (set s.views id w)) (sym (slice_index-set s.words n holds.some_word)) all;
      },
      refl,
    )
