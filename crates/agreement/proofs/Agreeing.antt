-- Each step keeps the rule of an agreement.
use Rattle.std.proofs.Common.{◌≡◌, ◌≢◌, ℕ, zero, suc, ◌+◌, ◌<◌, ◌≤◌, List, [], ◌∷◌, ◌++◌, set, refl, sym, ap, ◌∙◌, subst, ⊎_elim, arith}
use mathlib.Core.Option.{some, some-ne-none, some-injective}
use lib.ListN.{get_elem?}
use Rattle.atomic_table.specs.Table.{Me, keeps, Allows, Splits, Joins, opening}
use Rattle.atomic_table.proofs.Lists.{at_set, at_snoc, set_else}
use Rattle.agreement.specs.declared.rule.View.{View}
use Rattle.agreement.specs.Rule.{shares, Records, IsAgreed, first_view, spent, less, part, taking_in, refilled, set_to, LooksRound, IsSetTo}

module _ {V : Type 0} where
  -- the sum of the shares after one view became another
  shares_set : (vs : List (View V)) (i : ℕ) (v w : View V) → get_elem? vs i ≡ some v → shares (set vs i w) + v.share ≡ shares vs + w.share
  shares_set [] i v w e = absurd (some-ne-none v (sym e))
  shares_set (x ∷ xs) zero v w e = let s = ap (λ (y : View V). y.share) (some-injective x v e) in omega arith
  shares_set (x ∷ xs) (suc i) v w e = let s = shares_set xs i v w e in omega arith

  -- the sum of the shares with one view more
  shares_snoc : (vs : List (View V)) (v : View V) → shares (vs ++ v ∷ []) ≡ shares vs + v.share
  shares_snoc [] v = omega arith
  shares_snoc (x ∷ xs) v = let s = shares_snoc xs v in omega arith

  -- one view has at most all shares
  one_share : (vs : List (View V)) (i : ℕ) (v : View V) → get_elem? vs i ≡ some v → v.share ≤ shares vs
  one_share [] i v e = absurd (some-ne-none v (sym e))
  one_share (x ∷ xs) zero v e = let s = ap (λ (y : View V). y.share) (some-injective x v e) in omega arith
  one_share (x ∷ xs) (suc i) v e = let s = one_share xs i v e in omega arith

  -- two views have at most all shares
  two_shares : (vs : List (View V)) (i j : ℕ) (v u : View V) → j ≢ i → get_elem? vs i ≡ some v → get_elem? vs j ≡ some u → v.share + u.share ≤ shares vs
  two_shares [] i j v u apart e d = absurd (some-ne-none v (sym e))
  two_shares (x ∷ xs) zero zero v u apart e d = absurd (apart refl)
  two_shares (x ∷ xs) zero (suc j) v u apart e d = let s = ap (λ (y : View V). y.share) (some-injective x v e) in let t = one_share xs j u d in omega arith
  two_shares (x ∷ xs) (suc i) zero v u apart e d = let s = ap (λ (y : View V). y.share) (some-injective x u d) in let t = one_share xs i v e in omega arith
  two_shares (x ∷ xs) (suc i) (suc j) v u apart e d = let s = two_shares xs i j v u (λ h. apart (ap suc h)) e d in omega arith

  -- all views with a share have this value
  abbrev AllRecord : ℕ → V → List (View V) → Type 0
  AllRecord count value vs = (place : ℕ) (v : View V) → get_elem? vs place ≡ some v → Records count value v

  -- the others have the value, and so does the view that is written
  all_record_set : (count : ℕ) (value : V) (vs : List (View V)) (i : ℕ) (w : View V) → ((j : ℕ) (u : View V) → j ≢ i → get_elem? vs j ≡ some u → Records count value u) → Records count value w → AllRecord count value (set vs i w)
  all_record_set count value vs i w others mine j u e =
      ⊎_elim (λ (t : (j ≡ i) × (w ≡ u)). subst (Records count value) t.1 mine) (λ (t : (j ≢ i) × (get_elem? vs j ≡ some u)). others j u t.0 t.1) (at_set vs i j w u e)

  -- the view that is added has the value too
  all_record_snoc : (count : ℕ) (value : V) (vs : List (View V)) (w : View V) → AllRecord count value vs → Records count value w → AllRecord count value (vs ++ w ∷ [])
  all_record_snoc count value vs w all mine j u e = ⊎_elim (all j u) (λ (t : w ≡ u). subst (Records count value) t mine) (at_snoc vs w u j e)

  -- the opening keeps the rule
  pub begins : (value : V) (count : ℕ) (words : List ℕ) → IsAgreed count (opening words [] (first_view value count))
  begins value count words = record { all_there = omega arith; value = value; recorded = one }
    where
      one : (j : ℕ) (u : View V) → get_elem? (first_view value count ∷ []) j ≡ some u → Records count value u
      one zero u e = subst (Records count value) (some-injective _ _ e) (λ _. (refl, refl, refl))
      one (suc j) u e = absurd (some-ne-none u (sym e))

  -- shares that are there may go to a new place
  pub cuts : (count id : ℕ) (v : View V) (n : ℕ) → n ≤ v.share → Splits (IsAgreed count) id v (less v n) (part v n)
  cuts count id v n enough s holds at =
      let left = shares_set s.views id v (less v n) at in
      let both = shares_snoc (set s.views id (less v n)) (part v n) in
      let sum = holds.all_there in
      let value = holds.value in
      let records = holds.recorded id v at in
      record {
        all_there = omega arith;
        value = value;
        recorded = all_record_snoc count value (set s.views id (less v n)) (part v n)
            (all_record_set count value s.views id (less v n) (λ j u _ e. holds.recorded j u e) (λ h. records (omega arith)))
            (λ h. let recorded = records (omega arith) in (recorded.0, recorded.0, recorded.2));
      }

  -- what another place knew, before this one's view changed
  other_was : (vs : List (View V)) (id other : ℕ) (x w : View V) → ¬ (other ≡ id) → get_elem? (set vs id x) other ≡ some w → get_elem? vs other ≡ some w
  other_was vs id other x w apart e = sym (set_else vs id other x apart) ∙ e

  -- a view with the value and the shares of another keeps the rule after that other is spent
  joins : (count id : ℕ) (v : View V) (other : ℕ) (w both : View V) (none : V) → both.share ≡ v.share + w.share → ((value : V) → Records count value v → Records count value w → Records count value both) → Joins (IsAgreed count) id v other w both (spent none)
  joins count id v other w both none sum records s holds at apart there =
      let was = other_was s.views id other both w apart there in
      let mine = shares_set s.views id v both at in
      let all = shares_set (set s.views id both) other w (spent none) there in
      let before = holds.all_there in
      let value = holds.value in
      record {
        all_there = omega arith;
        value = value;
        recorded = all_record_set count value (set s.views id both) other (spent none)
            (λ j u _ e. all_record_set count value s.views id both (λ i y _ d. holds.recorded i y d) (records value (holds.recorded id v at) (holds.recorded other w was)) j u e)
            (λ h. absurd (omega arith));
      }

  -- a place with a share may take in another with a share
  pub takes_in : (count id : ℕ) (v : View V) (other : ℕ) (w : View V) (none : V) → 0 < v.share → 0 < w.share → Joins (IsAgreed count) id v other w (taking_in v w) (spent none)
  takes_in count id v other w none some_mine some_theirs = joins count id v other w (taking_in v w) none refl (λ value mine theirs _. ((mine some_mine).0, (theirs some_theirs).0, (mine some_mine).2))

  -- any place may take in another with a share, and take over its value
  pub refills : (count id : ℕ) (v : View V) (other : ℕ) (w : View V) (none : V) → 0 < w.share → Joins (IsAgreed count) id v other w (refilled v w) (spent none)
  refills count id v other w none some_theirs = joins count id v other w (refilled v w) none refl (λ value mine theirs _. let recorded = theirs some_theirs in (recorded.0, recorded.0, recorded.2))

  -- a place with a share may look round
  pub looks : (count slots id : ℕ) (me : Me (Unit {0}) (View V)) (word : ℕ) (f : ℕ → ℕ) → 0 < me.0.share → Allows (IsAgreed count) slots id me word f (λ n after. LooksRound me after)
  looks count slots id me word f some_mine s holds long at small =
      let v = me.0 in
      let all = shares_set s.views id v v at in
      let mine = one_share s.views id v at in
      let sum = holds.all_there in
      let value = holds.value in
      let recorded = holds.recorded id v at some_mine in
      let known = recorded.2 in (
        v,
        keeps,
        tt,
        record { all_there = omega arith; value = value; recorded = all_record_set count value s.views id v (λ j u _ e. holds.recorded j u e) (λ _. recorded) },
        (refl, recorded.1 ∙ sym recorded.0, omega arith),
      )

  -- a place with all shares may change the value
  pub sets : (count slots id : ℕ) (me : Me (Unit {0}) (View V)) (word : ℕ) (f : ℕ → ℕ) (value : V) → 0 < me.0.count → me.0.share ≡ me.0.count → Allows (IsAgreed count) slots id me word f (λ n after. IsSetTo value me after)
  sets count slots id me word f value some_count all s holds long at small =
      let v = me.0 in
      let w = set_to v value in
      let same = shares_set s.views id v w at in
      let sum = holds.all_there in
      let known = (holds.recorded id v at (omega arith)).2 in (
        w,
        keeps,
        tt,
        record {
          all_there = omega arith;
          value = value;
          recorded = all_record_set count value s.views id w
              (λ j u apart e some_theirs. absurd (let most = two_shares s.views id j v u apart at e in omega arith))
              (λ _. (refl, refl, known));
        },
        refl,
      )
