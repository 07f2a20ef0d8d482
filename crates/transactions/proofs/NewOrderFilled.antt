-- Lines that are put at their numbers, one after another, are there in order.
use Rattle.std.proofs.Common.{◌≡◌, ◌≤◌, ◌<◌, ◌+◌, ◌-◌, ◌==◌, ℕ, zero, suc, false, cond, List, [], ◌∷◌, ◌++◌, length, map, set, replicate, Option, Some, None, refl, sym, ap, ◌∙◌, arith}
use Rattle.std.specs.Prelude.{find}
use Rattle.std.specs.List.{AllByRecursion, cons_option, filter_map, range_with_len}
use Rattle.std.proofs.lemmas.Bool.Decides.{nat_tests}
use Rattle.std.proofs.lemmas.List.Elements.{All-from_recursion, recursion_from_All}
use Rattle.tickets.proofs.Apart.{by_bool}
use Rattle.transactions.specs.declared.new_order.LineSold.{LineSold}
use Rattle.transactions.specs.declared.new_order.StockTaken.{StockTaken}
use Rattle.transactions.specs.declared.new_order.StockTaken.TheVariants.{NoItem, OutOfRange, Taken}
use Rattle.transactions.specs.NewOrder.{all_sold, in_order}
use Rattle.transactions.specs.NewOrderStock.{AreNumbered, filled}
use Rattle.transactions.proofs.EachOne.{each_of_first, each_of_second}

-- ---- one after another, the last first

pub filled_both : (first second : List LineSold) (places : List (Option LineSold)) → filled (first ++ second) places ≡ filled first (filled second places)
filled_both [] second places = refl
filled_both (line ∷ first) second places = ap (λ p. set p (line.number - 1) (Some line)) (filled_both first second places)

pub filled-length : (sold : List LineSold) (places : List (Option LineSold)) → length (filled sold places) ≡ length places
filled-length [] places = refl
filled-length (line ∷ sold) places = length_set (filled sold places) (line.number - 1) (Some line) ∙ filled-length sold places
  where
    length_set : {X : Type 0} (xs : List X) (i : ℕ) (x : X) → length (set xs i x) ≡ length xs
    length_set [] i x = refl
    length_set (y ∷ xs) zero x = refl
    length_set (y ∷ xs) (suc i) x = ap (λ n. suc n) (length_set xs i x)

-- the lines that one more action sold
abbrev pub sold_by : StockTaken → List LineSold
sold_by (Taken sold) = sold
sold_by _ = []

pub all_sold-more : (found : List StockTaken) (one : StockTaken) → all_sold (found ++ one ∷ []) ≡ all_sold found ++ sold_by one
all_sold-more [] NoItem = refl
all_sold-more [] OutOfRange = refl
all_sold-more [] (Taken sold) = append_none sold
  where
    append_none : {X : Type 0} (xs : List X) → xs ++ [] ≡ xs
    append_none [] = refl
    append_none (x ∷ xs) = ap (λ ys. x ∷ ys) (append_none xs)
all_sold-more (NoItem ∷ found) one = all_sold-more found one
all_sold-more (OutOfRange ∷ found) one = all_sold-more found one
all_sold-more (Taken sold ∷ found) one = ap (λ rest. sold ++ rest) (all_sold-more found one) ∙ append_three sold (all_sold found) (sold_by one)
  where
    append_three : {X : Type 0} (xs ys zs : List X) → xs ++ (ys ++ zs) ≡ (xs ++ ys) ++ zs
    append_three [] ys zs = refl
    append_three (x ∷ xs) ys zs = ap (λ rest. x ∷ rest) (append_three xs ys zs)

-- ---- their numbers

IsNumbered : ℕ → LineSold → Type 0
IsNumbered count line = (1 ≤ line.number) × (line.number ≤ count)

pub numbered_first : (count : ℕ) (first second : List LineSold) → AreNumbered count (first ++ second) → AreNumbered count first
unfolding IsNumbered
numbered_first count first second all =
    All-from_recursion (IsNumbered count) first (each_of_first (IsNumbered count) first second (recursion_from_All (IsNumbered count) (first ++ second) all))

pub numbered_second : (count : ℕ) (first second : List LineSold) → AreNumbered count (first ++ second) → AreNumbered count second
unfolding IsNumbered
numbered_second count first second all =
    All-from_recursion (IsNumbered count) second (each_of_second (IsNumbered count) first second (recursion_from_All (IsNumbered count) (first ++ second) all))

-- ---- each at its number

module _ (at : ℕ → Option LineSold) (number : ℕ) (one : Option LineSold) where
  -- the places of numbers above stay
  stay : (low count : ℕ) → number < low → map at (range_with_len low count) ≡ map (λ k. cond (number == k) one (at k)) (range_with_len low count)
  stay low zero below = refl
  stay low (suc count) below =
      let apart : (number == low) ≡ false = grind (arith, nat_tests, below) in
      let rest = stay (low + 1) count (omega (arith, below)) in
      λ i. cond (sym apart i) one (at low) ∷ rest i

  set_at : (low count : ℕ) → low ≤ number → set (map at (range_with_len low count)) (number - low) one ≡ map (λ k. cond (number == k) one (at k)) (range_with_len low count)
  set_at low zero above = refl
  set_at low (suc count) above =
      by_bool (number == low) refl
      (λ e.
      let here : number ≡ low = grind (arith, nat_tests, e) in
      let none : number - low ≡ 0 = omega (arith, here) in
      let rest = stay (low + 1) count (omega (arith, here)) in
      ap (λ k. set (map at (range_with_len low (suc count))) k one) none ∙ (λ i. cond (sym e i) one (at low) ∷ rest i))
      (λ e.
      let more : number - low ≡ suc (number - (low + 1)) = grind (arith, nat_tests, e, above) in
      let later : low + 1 ≤ number = grind (arith, nat_tests, e, above) in
      let rest = set_at (low + 1) count later in
      ap (λ k. set (map at (range_with_len low (suc count))) k one) more ∙ (λ i. cond (sym e i) one (at low) ∷ rest i))

empty : (low count : ℕ) → replicate count None ≡ map (λ (k : ℕ). let none : Option LineSold = None in none) (range_with_len low count)
empty low zero = refl
empty low (suc count) = ap (λ rest. None ∷ rest) (empty (low + 1) count)

each_at : (count : ℕ) (sold : List LineSold) → AllByRecursion (IsNumbered count) sold
    → filled sold (replicate count None) ≡ map (λ number. find (λ (line : LineSold). line.number == number) sold) (range_with_len 1 count)
unfolding IsNumbered
each_at count [] numbered = empty 1 count
each_at count (line ∷ sold) numbered =
    ap (λ places. set places (line.number - 1) (Some line)) (each_at count sold numbered.1)
    ∙ set_at (λ number. find (λ (line : LineSold). line.number == number) sold) line.number (Some line) 1 count numbered.0.0

those_there : {X : Type 0} (at : ℕ → Option X) (numbers : List ℕ) → filter_map (λ place. place) (map at numbers) ≡ filter_map at numbers
those_there at [] = refl
those_there at (number ∷ numbers) = ap (cons_option (at number)) (those_there at numbers)

pub in_order-filled : (count : ℕ) (sold : List LineSold) → AreNumbered count sold → filter_map (λ place. place) (filled sold (replicate count None)) ≡ in_order count sold
unfolding IsNumbered
in_order-filled count sold numbered =
    ap (filter_map (λ place. place)) (each_at count sold (recursion_from_All (IsNumbered count) sold numbered))
    ∙ those_there (λ number. find (λ (line : LineSold). line.number == number) sold) (range_with_len 1 count)
