-- Parts that stand the last first: one more at their end, and one less.
use Rattle.std.proofs.Common.{◌≡◌, ℕ, zero, suc, Option, Some, ◌+◌, ◌-◌, ◌<◌, ◌≤◌, nat_lt, true, false, List, [], ◌∷◌, ◌++◌, length, take, slice_index_or, refl, sym, ap, subst, ◌∙◌, arith, length-append, length-take-le, get_or-take}
use Rattle.std.proofs.lemmas.Bool.Decides.{nat_tests}
use Rattle.std.proofs.lemmas.List.{get_or_append_left}
use Rattle.std.proofs.Math.Seq.{get_or-append_seam}
use Rattle.partitions.specs.Splits.{AreLastFirst}

module _ {P : Type 0} (StandsAt : ℕ → P → Type 0) where
  one_more : (first many : ℕ) (parts : List P) (part : P) → AreLastFirst StandsAt (first + 1) many parts → StandsAt first part → AreLastFirst StandsAt first many (parts ++ part ∷ [])
  one_more first many parts part h stands = record {
    count = omega (arith, h.count, length-append parts (part ∷ []));
    each = λ place d low high.
        elim (nat_lt first place) as (λ b. nat_lt first place ≡ b → StandsAt place (slice_index_or (parts ++ part ∷ []) (many - 1 - place) d)) [
          | true ↦ λ e.
              let later : first + 1 ≤ place = grind (arith, nat_tests) in
              let inside : many - 1 - place < length parts = omega (arith, h.count) in
              subst (StandsAt place) (sym (get_or_append_left parts (part ∷ []) d (many - 1 - place) inside)) (h.each place d later high)
          | false ↦ λ e.
              let same : first ≡ place = grind (arith, nat_tests) in
              let end : length parts ≡ many - 1 - place = omega (arith, h.count) in
              subst (StandsAt place) (sym (get_or-append_seam parts part [] d) ∙ ap (λ n. slice_index_or (parts ++ part ∷ []) n d) end) (subst (λ n. StandsAt n part) same stands)
        ] refl;
  }

  -- the last of them stands at the first place
  pub end_stands : (first many : ℕ) (parts : List P) (d : P) → AreLastFirst StandsAt first many parts → 0 < length parts → StandsAt first (slice_index_or parts (length parts - 1) d)
  end_stands first many parts d h some =
      let end : many - 1 - first ≡ length parts - 1 = omega (arith, h.count) in
      subst (λ n. StandsAt first (slice_index_or parts n d)) end (h.each first d (omega arith) (omega (arith, h.count)))

  -- without it they are those from the next place on
  pub one_less : (first many : ℕ) (parts : List P) → AreLastFirst StandsAt first many parts → 0 < length parts → AreLastFirst StandsAt (first + 1) many (take (length parts - 1) parts)
  one_less first many parts h some = record {
    count = omega (arith, h.count, length-take-le (length parts - 1) parts (omega arith));
    each = λ place d low high.
        let inside : many - 1 - place < length parts - 1 = omega (arith, h.count) in
        subst (StandsAt place) (sym (get_or-take (length parts - 1) parts (many - 1 - place) d inside)) (h.each place d (omega arith) high);
  }

-- there are none before one is pushed
pub none_yet : {P : Type 0} {StandsAt : ℕ → P → Type 0} (many : ℕ) (parts : List P) → parts ≡ [] → AreLastFirst StandsAt many many parts
none_yet {StandsAt = StandsAt} many parts none = subst (AreLastFirst StandsAt many many) (sym none) (record { count = omega arith; each = λ place d low high. absurd (omega arith) })

-- what `push` puts at their end stands at the place before the first
pub pushed : {P : Type 0} {StandsAt : ℕ → P → Type 0} (first next many : ℕ) (old new : List P) (part : P) → next ≡ first + 1 → new ≡ old ++ part ∷ []
    → AreLastFirst StandsAt next many old → StandsAt first part → AreLastFirst StandsAt first many new
pushed {StandsAt = StandsAt} first next many old new part before more h stands =
    subst (AreLastFirst StandsAt first many) (sym more) (one_more StandsAt first many old part (subst (λ n. AreLastFirst StandsAt n many old) before h) stands)

-- what `pop` takes off stands at the first place, and the others are left
pub popped : {P : Type 0} {StandsAt : ℕ → P → Type 0} (first many : ℕ) (old new : List P) (n : ℕ) (r : Option P) (x : P) → n ≡ length old → 0 < length old → AreLastFirst StandsAt first many old
    → ((d : P) → 0 < n → r ≡ Some (slice_index_or old (n - 1) d)) → r ≡ Some x → new ≡ take (n - 1) old
    → StandsAt first x × AreLastFirst StandsAt (first + 1) many new
popped {StandsAt = StandsAt} first many old new n r x long some h value is rest =
    let positive : 0 < n = omega arith in
    let found : Some (slice_index_or old (n - 1) x) ≡ Some x = sym (value x positive) ∙ is in
    let same : slice_index_or old (n - 1) x ≡ x = cc in (
      subst (StandsAt first) same (subst (λ m. StandsAt first (slice_index_or old (m - 1) x)) (sym long) (end_stands StandsAt first many old x h some)),
      subst (AreLastFirst StandsAt (first + 1) many) (sym (rest ∙ ap (λ m. take (m - 1) old) long)) (one_less StandsAt first many old h some),
    )

-- there is one where not all are taken
pub some_left : {P : Type 0} {StandsAt : ℕ → P → Type 0} (first many : ℕ) (parts : List P) → AreLastFirst StandsAt first many parts → first < many → 0 < length parts
some_left first many parts h l = omega (arith, h.count)

get_or-any : {X : Type 0} (xs : List X) (i : ℕ) (d e : X) → i < length xs → slice_index_or xs i d ≡ slice_index_or xs i e
get_or-any [] i d e l = absurd (omega arith)
get_or-any (x ∷ xs) zero d e l = refl
get_or-any (x ∷ xs) (suc i) d e l = get_or-any xs i d e (omega arith)

-- elements in the other order are parts of one element each
pub reversed_stand : {P : Type 0} (many : ℕ) (xs ys : List P) → length xs ≡ many → length ys ≡ many
    → ((k : ℕ) (d : P) → k < many → slice_index_or ys k d ≡ slice_index_or xs (many - 1 - k) d)
    → AreLastFirst (λ place x. (d : P) → slice_index_or xs place d ≡ x) 0 many ys
reversed_stand many xs ys long also h = record {
  count = omega arith;
  each = λ place d low high e.
      let back : many - 1 - (many - 1 - place) ≡ place = omega arith in
      get_or-any xs place e d (omega arith) ∙ sym (h (many - 1 - place) d (omega arith) ∙ ap (λ n. slice_index_or xs n d) back);
}
