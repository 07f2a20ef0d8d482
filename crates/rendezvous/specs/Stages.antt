-- How far each place of a round is, and what a seat at the table of a meeting knows.
use Rattle.std.specs.Prelude.{◌≡◌, ◌⊎◌, ℕ, List, Option, Bool, false, true}
use Rattle.std.specs.Coded.{Coded, code_by, coded_bool, coded_list, coded_option, coded_ℕ, coded×, coded⊎}
use base.Stored.{coded_unit}
use mathlib.Core.Logic.{inl, inr}
use mathlib.Core.Path.{refl}

-- How far a place is: its slot lies empty at home, it has its slot, it gave its result home, or it took all results.
pub data Stage (R : Type 0) : Type 0 where
  waits : Stage R
  sits : Stage R
  gave : R → Stage R
  took : R → List R → Stage R

-- whether the report of this place was the last of its round
abbrev pub is_last : {R : Type 0} → Stage R → Bool
is_last waits = false
is_last sits = false
is_last (gave own) = false
is_last (took own results) = true

-- What a seat knows: what its round is about, the number of the round, how many places the round has, and how far those places of it are
-- that are the seat's, one after another from a number on. It also says whether the seat may convene the next round.
pub record RoundView (T R : Type 0) : Type 0 where
  pub topic : Option T
  pub round : ℕ
  pub size : ℕ
  pub from : ℕ
  pub stages : List (Stage R)
  pub convenes : Bool

module _ {R : Type 0} where
  abbrev split : Stage R → (Unit {0} ⊎ Unit {0}) ⊎ (R ⊎ (R × List R))
  split waits = inl (inl tt)
  split sits = inl (inr tt)
  split (gave own) = inr (inl own)
  split (took own results) = inr (inr (own, results))

  abbrev join : (Unit {0} ⊎ Unit {0}) ⊎ (R ⊎ (R × List R)) → Stage R
  join (inl (inl _)) = waits
  join (inl (inr _)) = sits
  join (inr (inl own)) = gave own
  join (inr (inr both)) = took both.0 both.1

  pub join-split : (x : Stage R) → join (split x) ≡ x
  join-split waits = refl
  join-split sits = refl
  join-split (gave own) = refl
  join-split (took own results) = refl

  abbrev pub coded_stage : Coded R → Coded (Stage R)
  coded_stage c = code_by ((Unit {0} ⊎ Unit {0}) ⊎ (R ⊎ (R × List R))) (coded⊎ (coded⊎ coded_unit coded_unit) (coded⊎ c (coded× c (coded_list c)))) split join join-split

module _ {T R : Type 0} where
  abbrev pub coded_round_view : Coded T → Coded R → Coded (RoundView T R)
  coded_round_view t c = code_by (Option T × (ℕ × (ℕ × (ℕ × (List (Stage R) × Bool))))) (coded× (coded_option t) (coded× coded_ℕ (coded× coded_ℕ (coded× coded_ℕ (coded× (coded_list (coded_stage c)) coded_bool))))) (λ (k : RoundView T R). (k.topic, (k.round, (k.size, (k.from, (k.stages, k.convenes)))))) (λ b. record { topic = b.0; round = b.1.0; size = b.1.1.0; from = b.1.1.1.0; stages = b.1.1.1.1.0; convenes = b.1.1.1.1.1 }) (λ _. refl)
