-- A run of places by name: where a last name stands in it, and which of its customers is the middle one.
use Rattle.std.proofs.Common.{◌≡◌, ℕ, ◌+◌, ◌-◌, ◌/◌, ◌<◌, ◌≤◌, Bool, true, false, cond, not, ◌&&◌, eqb, nat_le, nat_lt, List, [], length, get_or, Contains, filter, swap, Some, None, is_some, refl, sym, ap, subst, ◌∙◌, arith}
use Rattle.std.specs.List.{slice_get, range_with_len}
use Rattle.std.specs.List.Sorted.{IsPermutation, IsPartitionedBy, IsPartitionPoint}
use Rattle.std.specs.declared.cmp.Ordering.{Ordering}
use Rattle.std.specs.declared.cmp.Ordering.TheVariants.{Less, Equal, Greater}
use Rattle.std.specs.Ordering.{nat_cmp, ordering_then, ordering_reverse, is_eq, is_lt, is_le}
use Rattle.std.specs.Cmp.{IsTotalOrder, IsStrictWeakOrder, nat_cmp_total}
use Rattle.std.specs.Cmp.Lexicographic.{nat_list_cmp_total}
use Rattle.std.specs.FinMap.{IsAntisymmetric, slice_cmp-IsAntisymmetric, nat_cmp-IsAntisymmetric}
use Rattle.std.proofs.lemmas.Bool.{eq-eqb}
use Rattle.std.proofs.lemmas.Bool.Decides.{nat_tests}
use Rattle.std.proofs.lemmas.Cmp.{on_total, then_total, tied_itself}
use Rattle.std.proofs.lemmas.List.{get_or_default, nil_from_length}
use Rattle.std.proofs.lemmas.List.Edits.{Swapped, swapped_from_swap}
use Rattle.std.proofs.lemmas.List.FromFn.{length-range_with_len, get_or-range_with_len}
use Rattle.std.proofs.lemmas.List.Sorted.{ranks_by, sorted_far, IsPermutation-keeps, All-permutation, length_permutation, IsPermutation-swap}
use Rattle.rows.specs.declared.keys.DistrictKey.{DistrictKey}
use Rattle.rows.specs.declared.records.Customer.{Customer}
use Rattle.schema.specs.Scale.{customer_key}
use Rattle.indexes.specs.Namesakes.{Keyed, text_cmp, is_customer_of, is_namesake, is_before}
use Rattle.indexes.specs.NameOrder.{place_cmp, IsNameRun, first_of, last_at, first_at, numbered, namesakes_among, IsMiddleAmong}
use Rattle.indexes.proofs.Counts.{filter-filter, count-between, count-permutation, contains-filter}
use Rattle.indexes.proofs.DistrictEntries.{count-numbered, contains-numbered, some_below}

-- ---- orders

text_exact : IsAntisymmetric text_cmp
text_exact = slice_cmp-IsAntisymmetric nat_cmp-IsAntisymmetric

text_ranks : IsStrictWeakOrder (λ (x y : List ℕ). is_lt (text_cmp x y))
text_ranks = ranks_by nat_list_cmp_total (λ (x : List ℕ). x)

equal : (o : Ordering) → is_eq o ≡ true → o ≡ Equal
equal Less h = absurd cc
equal Equal h = refl
equal Greater h = absurd cc

-- what isn't greater, and isn't equal, is less
less_from : (o r : Ordering) → r ≡ ordering_reverse o → is_lt r ≡ false → (o ≡ Equal → ⊥) → o ≡ Less
less_from Less r back not_above apart = refl
less_from Equal r back not_above apart = absurd (apart refl)
less_from Greater r back not_above apart = absurd (let e : is_lt r ≡ true = ap is_lt back in cc)

then_last : (x y : Ordering) → ordering_then x y ≡ Equal → y ≡ Equal
then_last Less y h = absurd cc
then_last Equal y h = h
then_last Greater y h = absurd cc

-- the first of two comparisons
then_first : (x y : Ordering) → is_lt (ordering_then x y) ≡ false → is_lt x ≡ false
then_first Less y h = h
then_first Equal y h = refl
then_first Greater y h = refl

below_is : (o r : Ordering) → r ≡ ordering_reverse o → is_le o ≡ not (is_lt r)
below_is Less r back = rw back refl
below_is Equal r back = rw back refl
below_is Greater r back = rw back refl

-- a comparison by two tests
between : (o : Ordering) (b c : Bool) → is_lt o ≡ not b → is_le o ≡ c → is_eq o ≡ (b && c)
between Less true c h g = absurd cc
between Less false c h g = refl
between Equal true c h g = g
between Equal false c h g = absurd cc
between Greater true c h g = g
between Greater false c h g = refl

-- ---- a run has each place once

Distinct : List ℕ → Type 0
Distinct xs = (i j : ℕ) → i < length xs → j < length xs → get_or xs i 0 ≡ get_or xs j 0 → i ≡ j

distinct_range : (n : ℕ) → Distinct (range_with_len 0 n)
unfolding Distinct
distinct_range n i j below under same =
    let long = length-range_with_len 0 n in
    let at_i : get_or (range_with_len 0 n) i 0 ≡ 0 + i = get_or-range_with_len 0 n i 0 (omega arith) in
    let at_j : get_or (range_with_len 0 n) j 0 ≡ 0 + j = get_or-range_with_len 0 n j 0 (omega arith) in
    omega arith

-- where an element was before two changed places
abbrev before_swap : ℕ → ℕ → ℕ → ℕ
before_swap a b i = cond (eqb i a) b (cond (eqb i b) a i)

moved : (f g : ℕ → ℕ) (a b i : ℕ) → Swapped f g a b → g i ≡ f (before_swap a b i)
moved f g a b i h =
    elim (eqb i a) as (λ t. eqb i a ≡ t → g i ≡ f (cond t b (cond (eqb i b) a i))) [
      | true ↦ λ e. let same : i ≡ a = grind (arith, nat_tests) in ap g same ∙ h.0
      | false ↦ λ e. elim (eqb i b) as (λ t. eqb i b ≡ t → g i ≡ f (cond t a i)) [
        | true ↦ λ e'. let same : i ≡ b = grind (arith, nat_tests) in ap g same ∙ h.1
        | false ↦ λ e'. h.2 i (grind (arith, nat_tests)) (grind (arith, nat_tests))
      ] refl
    ] refl

swap_once : (a b i j : ℕ) → before_swap a b i ≡ before_swap a b j → i ≡ j
swap_once a b i j h = grind (arith, nat_tests)

swap_within : (a b i n : ℕ) → a < n → b < n → i < n → before_swap a b i < n
swap_within a b i n h g l = grind (arith, nat_tests)

distinct_swap : (xs : List ℕ) (a b : ℕ) → a < length xs → b < length xs → Distinct xs → Distinct (swap xs a b)
unfolding Distinct
distinct_swap xs a b h g once i j below under same =
    let long : length (swap xs a b) ≡ length xs = length_permutation xs (swap xs a b) (IsPermutation-swap xs (swap xs a b) a b h g refl) in
    let swapped = swapped_from_swap xs (swap xs a b) a b 0 h g refl in
    let at_i = moved (λ k. get_or xs k 0) (λ k. get_or (swap xs a b) k 0) a b i swapped in
    let at_j = moved (λ k. get_or xs k 0) (λ k. get_or (swap xs a b) k 0) a b j swapped in
    let i_in : i < length xs = omega arith in
    let j_in : j < length xs = omega arith in
    swap_once a b i j (once (before_swap a b i) (before_swap a b j) (swap_within a b i (length xs) h g i_in) (swap_within a b j (length xs) h g j_in) (sym at_i ∙ same ∙ at_j))

distinct_run : (n : ℕ) (run : List ℕ) → IsPermutation (range_with_len 0 n) run → Distinct run
distinct_run n run moves = IsPermutation-keeps (range_with_len 0 n) Distinct (distinct_range n) (λ l i j h g once. distinct_swap l i j h g once) run moves

module _ (L F : ℕ → List ℕ) where
  pub place_total : IsTotalOrder (place_cmp L F)
  place_total = then_total (on_total L nat_list_cmp_total) (then_total (on_total F nat_list_cmp_total) nat_cmp_total)

  place_exact : (a b : ℕ) → place_cmp L F a b ≡ Equal → a ≡ b
  place_exact a b h =
      nat_cmp-IsAntisymmetric a b
      (then_last (text_cmp (F a) (F b)) (nat_cmp a b) (then_last (text_cmp (L a) (L b)) (ordering_then (text_cmp (F a) (F b)) (nat_cmp a b)) h))

  module _ (n : ℕ) (run : List ℕ) (is_run : IsNameRun L F n run) where
    run_length : length run ≡ n
    run_length = length_permutation (range_with_len 0 n) run is_run.all_places ∙ length-range_with_len 0 n

    -- each place is one of the n
    run_within : (k d : ℕ) → k < length run → get_or run k d < n
    run_within =
        let long = length-range_with_len 0 n in
        All-permutation (λ p. p < n) (range_with_len 0 n) run is_run.all_places
        (λ k d below. let at : get_or (range_with_len 0 n) k d ≡ 0 + k = get_or-range_with_len 0 n k d (omega arith) in omega arith)

    -- no place comes before an earlier one
    far : (i j d : ℕ) → i ≤ j → j < length run → is_lt (place_cmp L F (get_or run j d) (get_or run i d)) ≡ false
    far i j d ordered below = sorted_far (λ (x y : ℕ). is_lt (place_cmp L F x y)) (ranks_by place_total (λ (x : ℕ). x)) run is_run.in_order i j d ordered below

    names_rise : (i j d : ℕ) → i ≤ j → j < length run → is_lt (text_cmp (L (get_or run j d)) (L (get_or run i d))) ≡ false
    names_rise i j d ordered below = then_first _ _ (far i j d ordered below)

    -- and an earlier one is less
    rises : (i j : ℕ) → i < j → j < length run → place_cmp L F (get_or run i 0) (get_or run j 0) ≡ Less
    unfolding Distinct
    rises i j ordered below =
        less_from _ (place_cmp L F (get_or run j 0) (get_or run i 0)) (place_total.antisymm (get_or run j 0) (get_or run i 0)) (far i j 0 (omega arith) below)
        (λ e. let same : i ≡ j = distinct_run n run is_run.all_places i j (omega arith) below (place_exact (get_or run i 0) (get_or run j 0) e) in omega arith)

    -- the binary searches
    pub parted_lt : (last : List ℕ) → IsPartitionedBy (λ p. is_lt (text_cmp (L p) last)) run
    parted_lt last i j d ordered below passes =
        elim (is_lt (text_cmp (L (get_or run i d)) last)) as (λ b. is_lt (text_cmp (L (get_or run i d)) last) ≡ b → b ≡ true) [
          | true ↦ λ e. refl
          | false ↦ λ e.
              let fails : is_lt (text_cmp (L (get_or run j d)) last) ≡ false = text_ranks.chain (L (get_or run j d)) (L (get_or run i d)) last (names_rise i j d ordered below) e in
              absurd cc
        ] refl

    pub parted_le : (last : List ℕ) → IsPartitionedBy (λ p. is_le (text_cmp (L p) last)) run
    parted_le last i j d ordered below passes =
        let flip : (p : ℕ) → is_le (text_cmp (L p) last) ≡ not (is_lt (text_cmp last (L p))) = λ p. below_is (text_cmp (L p) last) (text_cmp last (L p)) (nat_list_cmp_total.antisymm last (L p)) in
        let not_above : not (is_lt (text_cmp last (L (get_or run j d)))) ≡ true = sym (flip (get_or run j d)) ∙ passes in
        flip (get_or run i d)
        ∙ elim (is_lt (text_cmp last (L (get_or run i d)))) as (λ b. is_lt (text_cmp last (L (get_or run i d))) ≡ b → not b ≡ true) [
          | false ↦ λ e. refl
          | true ↦ λ e.
              elim (is_lt (text_cmp last (L (get_or run j d)))) as (λ b. is_lt (text_cmp last (L (get_or run j d))) ≡ b → not b ≡ true → false ≡ true) [
                | true ↦ λ f g. g
                | false ↦ λ f g.
                    let fails : is_lt (text_cmp last (L (get_or run i d))) ≡ false = text_ranks.chain last (L (get_or run j d)) (L (get_or run i d)) f (names_rise i j d ordered below) in
                    absurd cc
              ] refl not_above
        ] refl

    module _ (last : List ℕ) (from to : ℕ) (low : IsPartitionPoint (λ p. is_lt (text_cmp (L p) last) ≡ true) (λ p. is_lt (text_cmp (L p) last) ≡ false) run from) (high : IsPartitionPoint (λ p. is_le (text_cmp (L p) last) ≡ true) (λ p. is_le (text_cmp (L p) last) ≡ false) run to) where
      lt_at : (k d : ℕ) → k < length run → is_lt (text_cmp (L (get_or run k d)) last) ≡ not (nat_le from k)
      lt_at k d below =
          elim (nat_le from k) as (λ b. nat_le from k ≡ b → is_lt (text_cmp (L (get_or run k d)) last) ≡ not b) [
            | true ↦ λ e. low.1 k d (grind (arith, nat_tests)) below
            | false ↦ λ e. low.0 k d (omega arith) (grind (arith, nat_tests))
          ] refl

      le_at : (k d : ℕ) → k < length run → is_le (text_cmp (L (get_or run k d)) last) ≡ nat_lt k to
      le_at k d below =
          elim (nat_lt k to) as (λ b. nat_lt k to ≡ b → is_le (text_cmp (L (get_or run k d)) last) ≡ b) [
            | true ↦ λ e. high.0 k d (omega arith) (grind (arith, nat_tests))
            | false ↦ λ e. high.1 k d (grind (arith, nat_tests)) below
          ] refl

      -- the last name stands from one place up to the other
      eq_at : (k d : ℕ) → k < length run → is_eq (text_cmp (L (get_or run k d)) last) ≡ (nat_le from k && nat_lt k to)
      eq_at k d below = between _ (nat_le from k) (nat_lt k to) (lt_at k d below) (le_at k d below)

      -- so many places have it
      pub run_count : to ≤ length run → length (filter (λ p. is_eq (text_cmp (L p) last)) (range_with_len 0 n)) ≡ to - from
      run_count within =
          sym (count-permutation (λ p. is_eq (text_cmp (L p) last)) (range_with_len 0 n) run is_run.all_places)
          ∙ count-between (λ p. is_eq (text_cmp (L p) last)) run from to within (λ k d below. eq_at k d below)

      name_at : (k : ℕ) → k < length run → from ≤ k → k < to → L (get_or run k 0) ≡ last
      name_at k below above under =
          let here : (nat_le from k && nat_lt k to) ≡ true = grind (arith, nat_tests) in
          text_exact _ _ (equal _ (eq_at k 0 below ∙ here))

      -- places of the name, against the one at m
      order_at : (m k : ℕ) → from ≤ m → m < to → to ≤ length run → from ≤ k → k < to
          → is_lt (ordering_then (text_cmp (F (get_or run k 0)) (F (get_or run m 0))) (nat_cmp (get_or run k 0) (get_or run m 0))) ≡ nat_lt k m
      order_at m k low_m high_m within low_k high_k =
          let same : text_cmp (L (get_or run k 0)) (L (get_or run m 0)) ≡ Equal =
          ap (λ (l : List ℕ). text_cmp l (L (get_or run m 0))) (name_at k (omega arith) low_k high_k ∙ sym (name_at m (omega arith) low_m high_m)) ∙ tied_itself nat_list_cmp_total (L (get_or run m 0)) in
          let whole : place_cmp L F (get_or run k 0) (get_or run m 0) ≡ ordering_then (text_cmp (F (get_or run k 0)) (F (get_or run m 0))) (nat_cmp (get_or run k 0) (get_or run m 0)) =
          ap (λ r. ordering_then r (ordering_then (text_cmp (F (get_or run k 0)) (F (get_or run m 0))) (nat_cmp (get_or run k 0) (get_or run m 0)))) same in
          ap is_lt (sym whole)
          ∙ elim (nat_lt k m) as (λ b. nat_lt k m ≡ b → is_lt (place_cmp L F (get_or run k 0) (get_or run m 0)) ≡ b) [
            | true ↦ λ e. ap is_lt (rises k m (grind (arith, nat_tests)) (omega arith))
            | false ↦ λ e. far m k 0 (grind (arith, nat_tests)) (omega arith)
          ] refl

      -- so many of them come before the one at m
      pub run_before : (m : ℕ) → from ≤ m → m < to → to ≤ length run
          → length (filter (λ p. is_eq (text_cmp (L p) last) && is_lt (ordering_then (text_cmp (F p) (F (get_or run m 0))) (nat_cmp p (get_or run m 0)))) (range_with_len 0 n)) ≡ m - from
      run_before m low_m high_m within =
          let here : ℕ → Bool = λ p. is_eq (text_cmp (L p) last) in
          let less : ℕ → Bool = λ p. is_lt (ordering_then (text_cmp (F p) (F (get_or run m 0))) (nat_cmp p (get_or run m 0))) in
          sym (count-permutation (λ p. here p && less p) (range_with_len 0 n) run is_run.all_places)
          ∙ count-between (λ p. here p && less p) run from m (omega arith)
          (λ k d below.
          ap (λ b. b && less (get_or run k d)) (eq_at k d below)
          ∙ elim (nat_le from k && nat_lt k to) as (λ b. (nat_le from k && nat_lt k to) ≡ b → (b && less (get_or run k d)) ≡ (nat_le from k && nat_lt k m)) [
            | true ↦ λ e.
                let from_k : from ≤ k = grind (arith, nat_tests) in
                let k_to : k < to = grind (arith, nat_tests) in
                let inside : nat_le from k ≡ true = grind (arith, nat_tests) in
                ap less (get_or_default run k d 0 below) ∙ order_at m k low_m high_m within from_k k_to ∙ rw inside refl
            | false ↦ λ e. let out : (nat_le from k && nat_lt k m) ≡ false = grind (arith, nat_tests) in sym out
          ] refl)

-- ---- the rows of a district

alike_text : (text : List ℕ) → is_eq (text_cmp text text) ≡ true
alike_text text = ap is_eq (tied_itself nat_list_cmp_total text)

own_district : (home : DistrictKey) (number : ℕ) → is_customer_of home (customer_key home number) ≡ true
own_district home number = grind (arith, nat_tests)

next_places : (a b : ℕ) → nat_cmp (a + 1) (b + 1) ≡ nat_cmp a b
next_places a b = grind (arith, nat_tests)

module _ (rows : List Customer) (home : DistrictKey) (last : List ℕ) where
  -- a test of names, at a place
  named_at : (i : ℕ) (row : Customer) → slice_get rows i ≡ Some row → (number : ℕ) → is_namesake home last (customer_key home number, row) ≡ is_eq (text_cmp (last_at rows i) last)
  named_at i row found number =
      let own : is_customer_of home (customer_key home number) ≡ true = own_district home number in
      rw (own, found) refl

  count_all : length (namesakes_among rows home last) ≡ length (filter (λ p. is_eq (text_cmp (last_at rows p) last)) (range_with_len 0 (length rows)))
  count_all =
      count-numbered (is_namesake home last) (λ p. is_eq (text_cmp (last_at rows p) last)) home 0 rows
      (λ i row found. named_at i row found (0 + i + 1) ∙ ap (λ j. is_eq (text_cmp (last_at rows j) last)) (let e : i ≡ 0 + i = omega arith in e))

  count_before : (p : ℕ) (middle : Customer) → slice_get rows p ≡ Some middle
      → length (filter (λ (other : Keyed). is_before other (customer_key home (p + 1), middle)) (namesakes_among rows home last))
      ≡ length (filter (λ i. is_eq (text_cmp (last_at rows i) last) && is_lt (ordering_then (text_cmp (first_at rows i) (first_at rows p)) (nat_cmp i p))) (range_with_len 0 (length rows)))
  count_before p middle there =
      let before : Keyed → Bool = λ other. is_before other (customer_key home (p + 1), middle) in
      let test : ℕ → Bool = λ i. is_eq (text_cmp (last_at rows i) last) && is_lt (ordering_then (text_cmp (first_at rows i) (first_at rows p)) (nat_cmp i p)) in
      ap length (filter-filter (is_namesake home last) before (numbered home 1 rows))
      ∙ count-numbered (λ c. is_namesake home last c && before c) test home 0 rows
      (λ i row found.
      let e : 0 + i ≡ i = omega arith in
      let first_i : row.first ≡ first_at rows i = sym (ap first_of found) in
      let first_p : middle.first ≡ first_at rows p = sym (ap first_of there) in
      let compared : is_lt (ordering_then (text_cmp row.first middle.first) (nat_cmp (i + 1) (p + 1))) ≡ is_lt (ordering_then (text_cmp (first_at rows i) (first_at rows p)) (nat_cmp i p)) =
      λ j. is_lt (ordering_then (text_cmp (first_i j) (first_p j)) (next_places i p j)) in
      let at_i : (is_namesake home last (customer_key home (i + 1), row) && before (customer_key home (i + 1), row)) ≡ test i =
      λ j. named_at i row found (i + 1) j && compared j in
      ap (λ k. is_namesake home last (customer_key home (k + 1), row) && before (customer_key home (k + 1), row)) e ∙ at_i ∙ ap test (sym e))

  module _ (run : List ℕ) (is_run : IsNameRun (last_at rows) (first_at rows) (length rows) run) (from to : ℕ)
      (low : IsPartitionPoint (λ p. is_lt (text_cmp (last_at rows p) last) ≡ true) (λ p. is_lt (text_cmp (last_at rows p) last) ≡ false) run from)
      (high : IsPartitionPoint (λ p. is_le (text_cmp (last_at rows p) last) ≡ true) (λ p. is_le (text_cmp (last_at rows p) last) ≡ false) run to)
      (within : to ≤ length run) where
    many : length (namesakes_among rows home last) ≡ to - from
    many = count_all ∙ run_count (last_at rows) (first_at rows) (length rows) run is_run last from to low high within

    -- nobody has the name
    pub no_namesakes : to ≤ from → namesakes_among rows home last ≡ []
    no_namesakes none = nil_from_length _ (let e : length (namesakes_among rows home last) ≡ 0 = omega (arith, many) in e)

    -- the middle of the part of the run
    pub the_middle : (m : ℕ) → from < to → m ≡ from + (to - from - 1) / 2 → IsMiddleAmong rows home last (get_or run m 0 + 1)
    the_middle m some is =
        let low_m : from ≤ m = omega arith in
        let high_m : m < to = omega arith in
        let below : get_or run m 0 < length rows = run_within (last_at rows) (first_at rows) (length rows) run is_run m 0 (omega arith) in
        elim (slice_get rows (get_or run m 0)) as (λ r. slice_get rows (get_or run m 0) ≡ r → IsMiddleAmong rows home last (get_or run m 0 + 1)) [
          | None ↦ λ none.
              let there : is_some (slice_get rows (get_or run m 0)) ≡ nat_lt (get_or run m 0) (length rows) = some_below rows (get_or run m 0) in
              let not_there : is_some (slice_get rows (get_or run m 0)) ≡ false = ap is_some none in
              absurd (grind (arith, nat_tests))
          | Some row ↦ λ there.
              let e : 0 + get_or run m 0 ≡ get_or run m 0 = omega arith in
              let held = subst (λ p. Contains (numbered home 1 rows) (customer_key home (p + 1), row)) e (contains-numbered home 0 rows (get_or run m 0) row there) in
              let name : last_at rows (get_or run m 0) ≡ last = name_at (last_at rows) (first_at rows) (length rows) run is_run last from to low high m (omega arith) low_m high_m in
              let passes : is_namesake home last (customer_key home (get_or run m 0 + 1), row) ≡ true =
              named_at (get_or run m 0) row there (get_or run m 0 + 1) ∙ ap (λ l. is_eq (text_cmp l last)) name ∙ alike_text last in
              let before = count_before (get_or run m 0) row there ∙ run_before (last_at rows) (first_at rows) (length rows) run is_run last from to low high m low_m high_m within in (
                row,
                record {
                  is_one = contains-filter (is_namesake home last) (numbered home 1 rows) (customer_key home (get_or run m 0 + 1), row) passes held.0 held.1 held.2;
                  half_before = eq-eqb _ _ (before ∙ (let half : m - from ≡ (length (namesakes_among rows home last) - 1) / 2 = omega (arith, many) in half));
                },
              )
        ] refl
