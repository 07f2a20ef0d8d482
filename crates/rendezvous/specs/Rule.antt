-- The rule of a meeting's table: its count word, the results at home, and the views of all seats.
use Rattle.std.specs.Prelude.{◌≡◌, ◌≢◌, ℕ, zero, suc, ◌+◌, ◌<◌, List, [], ◌∷◌, ◌++◌, map, length, replicate, drop, Option, Some, None, true, false, slice_set, slice_get}
use mathlib.Core.Option.{some, none}
use mathlib.Core.Option as found
use lib.ListN.{get_elem?}
use Rattle.atomic_table.specs.Table.{State, Me}
use Rattle.rendezvous.specs.Stages.{RoundView, Stage, waits, sits, gave, took}

module _ {R : Type 0} where
  -- the place has not reported
  abbrev pub IsOpen : Stage R → Type 0
  IsOpen waits = Unit {0}
  IsOpen sits = Unit {0}
  IsOpen (gave own) = ⊥
  IsOpen (took own results) = ⊥

  -- what a place has reported
  abbrev pub reported_at : Stage R → Option R
  reported_at waits = None
  reported_at sits = None
  reported_at (gave own) = Some own
  reported_at (took own results) = Some own

  -- how many places have not reported
  abbrev pub awaited : List (Stage R) → ℕ
  awaited [] = 0
  awaited (waits ∷ xs) = suc (awaited xs)
  awaited (sits ∷ xs) = suc (awaited xs)
  awaited (gave own ∷ xs) = awaited xs
  awaited (took own results ∷ xs) = awaited xs

  -- how many places took all results
  abbrev pub takers : List (Stage R) → ℕ
  takers [] = 0
  takers (waits ∷ xs) = takers xs
  takers (sits ∷ xs) = takers xs
  takers (gave own ∷ xs) = takers xs
  takers (took own results ∷ xs) = suc (takers xs)

  -- what lies in the slot of a place, if that is at home, while one has not reported
  abbrev pub home : Stage R → found.Option (Option R)
  home waits = some None
  home sits = none
  home (gave own) = some (Some own)
  home (took own results) = none

  -- what lies at home of a round while so many of its places have not reported
  abbrev pub homes_at : ℕ → List (Stage R) → List (found.Option (Option R))
  homes_at zero xs = map (λ _. none) xs
  homes_at (suc n) xs = map home xs

  -- the slots of places that the round does not have lie empty at home
  abbrev pub homes_spare : ℕ → List (found.Option (Option R))
  homes_spare n = replicate n (some None)

  -- the first place of a view
  abbrev pub first_one : List (Stage R) → List (Stage R)
  first_one [] = []
  first_one (x ∷ xs) = x ∷ []

  -- these results, in the slots from this one on
  abbrev pub in_slots : ℕ → List R → List (ℕ × Option R)
  in_slots k [] = []
  in_slots k (r ∷ rs) = (k, Some r) ∷ in_slots (suc k) rs

  -- so many empty slots, from this one on
  abbrev pub empty_slots : ℕ → ℕ → List (ℕ × Option R)
  empty_slots k zero = []
  empty_slots k (suc n) = (k, None) ∷ empty_slots (suc k) n

  -- what a place has reported suits what its round is about
  abbrev pub SuitsAt : (ℕ → R → Type 0) → ℕ → Stage R → Type 0
  SuitsAt suits number waits = Unit {0}
  SuitsAt suits number sits = Unit {0}
  SuitsAt suits number (gave own) = suits number own
  SuitsAt suits number (took own results) = suits number own

  -- Of a round that is over: each place has reported, exactly one took all results, and it took what all have reported.
  pub record IsFinished (stages : List (Stage R)) : Type 0 where
    pub none_left : awaited stages ≡ 0
    pub one_taker : 0 < length stages → takers stages ≡ 1
    pub results : (number : ℕ) (own : R) (results : List R) → get_elem? stages number ≡ some (took own results) → map reported_at stages ≡ map Some results

  -- the places of a round, by its number: of those that are over, and of the present one after them
  abbrev pub round_of : List (List (Stage R)) → List (Stage R) → ℕ → List (Stage R)
  round_of [] now zero = now
  round_of [] now (suc n) = []
  round_of (over ∷ past) now zero = over
  round_of (over ∷ past) now (suc n) = round_of past now n

-- The rounds of a meeting: those that are over, and the present one with what it is about.
pub record Rounds (T R : Type 0) : Type 0 where
  pub past : List (List (Stage R))
  pub now : List (Stage R)
  pub topic : Option T

-- Who has what: the seat that has each open place of the present round, and the seat that may convene the next one.
pub record Owners : Type 0 where
  pub places : ℕ → ℕ
  pub next : ℕ

module _ {T R : Type 0} where
  -- What a view says is so. An open place of it belongs to no other seat and is of the present round; what has been reported stays so for ever. One seat
  -- may convene the next round, once no place of the present one is open.
  pub record Fits (rounds : Rounds T R) (owners : Owners) (id : ℕ) (v : RoundView T R) : Type 0 where
    pub known : (i : ℕ) (x : Stage R) → get_elem? v.stages i ≡ some x → get_elem? (round_of rounds.past rounds.now v.round) (v.from + i) ≡ some x
    pub owned : (i : ℕ) (x : Stage R) → get_elem? v.stages i ≡ some x → IsOpen x → (owners.places (v.from + i) ≡ id) × (v.round ≡ length rounds.past) × (v.topic ≡ rounds.topic)
    pub size : 0 < length v.stages → length (round_of rounds.past rounds.now v.round) ≡ v.size
    pub convener : v.convenes ≡ true → (owners.next ≡ id) × (awaited rounds.now ≡ 0) × (v.round ≡ length rounds.past) × (length rounds.now ≡ v.size)

  -- The count word is the number of places of the present round that have not reported. While it is not 0, the results at home are those of
  -- the places that have; at 0 none is at home, and one place has taken all of them. Each result suits what the round is about. The rounds
  -- before are over.
  pub record Meets (suits : T → ℕ → R → Type 0) (s : State (Option R) (RoundView T R)) : Type 0 where
    pub rounds : Rounds T R
    pub owners : Owners
    pub spare : ℕ
    pub count : s.words ≡ awaited rounds.now ∷ []
    pub homes : s.homes ≡ homes_at (awaited rounds.now) rounds.now ++ homes_spare spare
    pub finished : (n : ℕ) (stages : List (Stage R)) → get_elem? rounds.past n ≡ some stages → IsFinished stages
    pub one_taker : awaited rounds.now ≡ 0 → 0 < length rounds.now → takers rounds.now ≡ 1
    pub no_taker : 0 < awaited rounds.now → takers rounds.now ≡ 0
    pub results : (number : ℕ) (own : R) (results : List R) → get_elem? rounds.now number ≡ some (took own results) → map reported_at rounds.now ≡ map Some results
    pub suit : (topic : T) → rounds.topic ≡ Some topic → (number : ℕ) (x : Stage R) → get_elem? rounds.now number ≡ some x → SuitsAt (suits topic) number x
    pub fits : (id : ℕ) (v : RoundView T R) → get_elem? s.views id ≡ some v → Fits rounds owners id v

  -- the view of who may convene a round, before the first or after a round of so many places
  abbrev pub convening : Option T → ℕ → ℕ → ℕ → RoundView T R
  convening topic round size from = record { topic = topic; round = round; size = size; from = from; stages = []; convenes = true }

  -- the view of who has these places of a round, from a number on
  abbrev pub having : Option T → ℕ → ℕ → ℕ → List (Stage R) → RoundView T R
  having topic round size from stages = record { topic = topic; round = round; size = size; from = from; stages = stages; convenes = false }

  -- before the first round
  abbrev pub at_first : RoundView T R
  at_first = convening None 0 0 0

  -- a view of no place
  abbrev pub nowhere : RoundView T R
  nowhere = having None 0 0 0 []

  -- the view with its place i as far as this
  abbrev pub at_stage : RoundView T R → ℕ → Stage R → RoundView T R
  at_stage v i x = record v { stages = slice_set v.stages i x }

  -- the same of who may convene the next round
  abbrev pub at_last : RoundView T R → ℕ → Stage R → RoundView T R
  at_last v i x = record v { stages = slice_set v.stages i x; convenes = true }

  -- the first place of a view
  abbrev pub first_of : RoundView T R → RoundView T R
  first_of v = having v.topic v.round v.size v.from (first_one v.stages)

  -- the view without its first place
  abbrev pub others : RoundView T R → RoundView T R
  others v = record v { from = suc v.from; stages = drop 1 v.stages }

  -- the view with the places of another, which come after its own
  abbrev pub both : RoundView T R → RoundView T R → RoundView T R
  both v w = record v { stages = v.stages ++ w.stages }

  -- the view has all places of its round
  abbrev pub IsWhole : RoundView T R → Type 0
  IsWhole v = (v.from ≡ 0) × (length v.stages ≡ v.size)

  -- who may convene has convened a round of so many places about this, and has all places
  abbrev pub IsConvened : Option T → ℕ → Me (Option R) (RoundView T R) → Me (Option R) (RoundView T R) → Type 0
  IsConvened topic places before after = after ≡ (having topic (suc before.0.round) places 0 (replicate places waits), [])

  -- place i of the view has its slot now
  abbrev pub IsSeated : ℕ → Me (Option R) (RoundView T R) → Me (Option R) (RoundView T R) → Type 0
  IsSeated i before after = after ≡ (at_stage before.0 i sits, (before.0.from + i, None) ∷ before.1)

  -- Place i of the view reported, where so many were found that had not. It is not the last, and its result is at home; or it is the last,
  -- has all results in its hand, and may convene the next round.
  pub record IsReported (suits : T → ℕ → R → Type 0) (i : ℕ) (own : R) (v : RoundView T R) (count : ℕ) (after : Me (Option R) (RoundView T R)) : Type 0 where
    pub not_last : count ≢ 1 → after ≡ (at_stage v i (gave own), [])
    pub last : count ≡ 1 → (results : List R) × (after ≡ (at_last v i (took own results), in_slots 0 results)) × (length results ≡ v.size) × (slice_get results (v.from + i) ≡ Some own)
        × (IsWhole v → map reported_at (slice_set v.stages i (gave own)) ≡ map Some results)
        × ((topic : T) → v.topic ≡ Some topic → (number : ℕ) (r : R) → slice_get results number ≡ Some r → suits topic number r)
    pub counted : IsWhole v → count ≡ awaited v.stages

  abbrev pub Reports : (T → ℕ → R → Type 0) → ℕ → Me (Option R) (RoundView T R) → ℕ → Me (Option R) (RoundView T R) → Type 0
  Reports suits i before count after = (slot : ℕ) (own : R) → before.1 ≡ (slot, Some own) ∷ [] → IsReported suits i own before.0 count after

  -- where all have reported, one place has taken all results, and what it took is what all have reported
  abbrev pub IsSettled : Me (Option R) (RoundView T R) → Me (Option R) (RoundView T R) → Type 0
  IsSettled before after = (after ≡ before) × (awaited before.0.stages ≡ 0 → takers before.0.stages ≡ 1)
      × ((number : ℕ) (own : R) (results : List R) → get_elem? before.0.stages number ≡ some (took own results) → map reported_at before.0.stages ≡ map Some results)
