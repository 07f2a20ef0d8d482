-- The first condition that tables break, from the report on each condition.
use Rattle.std.proofs.Common.{◌≡◌, ◌≢◌, ◌⊎◌, inl, inr, ℕ, zero, suc, ◌+◌, ◌-◌, ◌<◌, ◌↔◌, Bool, true, false, IsTrue, List, [], ◌∷◌, length, get_or, refl, sym, ap, subst, ◌∙◌, arith}
use Rattle.schema.specs.Database.{Database}
use Rattle.consistency.specs.Conditions.{conditions, Report, AreExact}
use Rattle.schema.specs.Consistency.{Consistent}
use Rattle.consistency.specs.Broken.{HoldsAmong, Meets, IsAskedFor, BreaksFirst}

-- the report on the condition at an index
reported : (all : List (Database → Type 0)) (t : Database) (answers : List Bool) (k : ℕ) (d : Bool) → Report all t answers → k < length answers → IsTrue (get_or answers k d) ↔ HoldsAmong all k t
reported [] t [] k d h low = absurd (omega arith)
reported [] t (a ∷ answers) k d h low = absurd h
reported (c ∷ all) t [] k d h low = absurd h
reported (c ∷ all) t (a ∷ answers) zero d h low = h.0
reported (c ∷ all) t (a ∷ answers) (suc k) d h low = reported all t answers k d h.1 (omega arith)

-- the conditions at these first places hold, but for the one that is not asked for
abbrev pub HoldBelow : Database → ℕ → Type 0
HoldBelow t place = (k : ℕ) → k < place → k ≢ 10 → HoldsAmong conditions k t

pub none_below : (t : Database) → HoldBelow t 0
none_below t k low other = absurd (omega arith)

-- one place more, whose condition holds, or is not asked for
pub one_place_more : (t : Database) (answers : List Bool) (place : ℕ) → AreExact t answers → place < length answers
    → ((get_or answers place false ≡ false) × (place ≡ 10)) ⊎ (get_or answers place false ≡ true)
    → HoldBelow t place → HoldBelow t (place + 1)
one_place_more t answers place exact low found below k up other =
    by_last place k (HoldsAmong conditions k t) (omega arith)
    (λ less. below k less other)
    (λ is. elim found as (λ _. HoldsAmong conditions k t) [
      | inl passed ↦ let not : ⊥ = other (is ∙ passed.1) in absurd not
      | inr holds ↦ subst (λ n. HoldsAmong conditions n t) (sym is) ((reported conditions t answers place false exact low).0 holds)
    ])
  where
    by_last : (n m : ℕ) (G : Type 0) → m < n + 1 → (m < n → G) → (m ≡ n → G) → G
    by_last zero zero G up less last = last refl
    by_last zero (suc m) G up less last = absurd (omega arith)
    by_last (suc n) zero G up less last = less (omega arith)
    by_last (suc n) (suc m) G up less last = by_last n m G (omega arith) (λ l. less (omega arith)) (λ e. last (ap suc e))

-- a condition at an index is the condition with the number after the index
meets_at : (t : Database) (n place : ℕ) → n ≡ place + 1 → HoldsAmong conditions place t → Meets t n
meets_at t n place is holds = let at : place ≡ n - 1 = omega arith in subst (λ k. HoldsAmong conditions k t) at holds

-- the conditions that are asked for hold below this place
pub met_below : (t : Database) (place : ℕ) → HoldBelow t place → (n : ℕ) → n < place + 1 → IsAskedFor n → Meets t n
met_below t place below n low asked = below (n - 1) (let some = asked.0 in omega arith) (λ is. let other = asked.1.1 in let some = asked.0 in absurd (other (omega arith)))

pub all_met : (t : Database) → HoldBelow t 12 → Consistent t
all_met t below = record {
  warehouses_sum_districts = below 0 (omega arith) (λ e. absurd (omega (arith, e)));
  next_orders_follow = below 1 (omega arith) (λ e. absurd (omega (arith, e)));
  new_orders_have_no_gap = below 2 (omega arith) (λ e. absurd (omega (arith, e)));
  districts_count_lines = below 3 (omega arith) (λ e. absurd (omega (arith, e)));
  new_orders_have_no_carrier = below 4 (omega arith) (λ e. absurd (omega (arith, e)));
  orders_count_lines = below 5 (omega arith) (λ e. absurd (omega (arith, e)));
  lines_come_with_orders = below 6 (omega arith) (λ e. absurd (omega (arith, e)));
  warehouses_sum_payments = below 7 (omega arith) (λ e. absurd (omega (arith, e)));
  districts_sum_payments = below 8 (omega arith) (λ e. absurd (omega (arith, e)));
  balances_are_owed = below 9 (omega arith) (λ e. absurd (omega (arith, e)));
  balances_are_paid = below 11 (omega arith) (λ e. absurd (omega (arith, e)));
}

pub first_broken_at : (t : Database) (answers : List Bool) (place : ℕ) → AreExact t answers → place < length answers → place < 12
    → get_or answers place false ≡ false → (place ≡ 10 → ⊥) → HoldBelow t place → BreaksFirst t (place + 1)
first_broken_at t answers place exact low some broken asked below = (
  (omega arith, (omega arith, λ is. asked (omega arith))),
  (
    (λ meets.
        let at : place + 1 - 1 ≡ place = omega arith in
        let holds : HoldsAmong conditions place t = subst (λ k. HoldsAmong conditions k t) at meets in
        let so : get_or answers place false ≡ true = (reported conditions t answers place false exact low).1 holds in
        absurd cc),
    λ m lower asked. met_below t place below m lower asked,
  ),
)

pub twelve : (t : Database) (answers : List Bool) → AreExact t answers → length answers ≡ 12
twelve t answers exact = as_many conditions t answers exact
  where
    as_many : (all : List (Database → Type 0)) (u : Database) (bs : List Bool) → Report all u bs → length bs ≡ length all
    as_many [] u [] h = refl
    as_many [] u (b ∷ bs) h = absurd h
    as_many (c ∷ all) u [] h = absurd h
    as_many (c ∷ all) u (b ∷ bs) h = ap suc (as_many all u bs h.1)
