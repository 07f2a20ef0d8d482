-- What the slots at the desk await and have met, with one of them apart.
use Rattle.std.proofs.Common.{◌≡◌, ℕ, ◌+◌, ◌<◌, ◌≤◌, ◌==◌, zero, suc, true, List, [], ◌∷◌, ◌++◌, length, Option, Some, None, refl, sym, ap, subst, cond, arith}
use Rattle.std.specs.Prelude.{map, replicate, slice_set}
use Rattle.std.specs.List.{slice_get, sum_by}
use Rattle.std.proofs.lemmas.List.{set-set}
use Rattle.std.proofs.lemmas.List.Sums.{sum_by-append, sum_by-cons}
use Rattle.std.proofs.lemmas.Map.Views.{exact_unsigned_eq}
use Rattle.partitions.specs.Parts.{SharedTables}
use Rattle.rendezvous.specs.Awaited.{awaited_from}
use Rattle.world.specs.declared.desk.Active.{Active}
use Rattle.world.specs.declared.desk.Active.TheVariants as active
use Rattle.world.specs.declared.flight.Item.{Item}
use Rattle.world.specs.declared.world.Parts.{Parts}
use Rattle.world.specs.Flights.{Token, Acting, Committing, Ending, InFlight, join, parts, part_item, part_met}
use Rattle.world.specs.Following.{putting, with_active}
use Rattle.world.specs.Sound.{ActiveTransactions, IsSoundActive, AreSoundActive, awaited, awaited_by_all, flight, reported_to, reported_to_all}
use Rattle.world.proofs.Joins.{IsSame, same-refl, same-trans, same-is, same-join, same-middle, parts-append}
use Rattle.world.proofs.Balances.{fly, fly_same, fly_last, in_inbox, in_outbox, in_meeting, items_put}
use Rattle.world.proofs.Tokens.{by_bool}

-- ---- lists

-- what is put at a place is there
pub got_set : {X : Type 0} (xs : List X) (k : ℕ) (x : X) → k < length xs → slice_get (slice_set xs k x) k ≡ Some x
got_set [] k x below = absurd (omega (arith, below))
got_set (y ∷ xs) zero x below = refl
got_set (y ∷ xs) (suc k) x below = got_set xs k x (omega (arith, below))

-- ---- weights by slot

-- a token weighs as its slot does
abbrev pub weigh_slots : (ℕ → ℕ) → Token → ℕ
weigh_slots g (Acting slot place) = g slot
weigh_slots g (Committing slot) = g slot
weigh_slots g (Ending slot) = g slot

-- one for a token of this slot, and none for one of another
abbrev pub of_slot : ℕ → ℕ → ℕ
of_slot slot n = cond (slot == n) 1 0

pub acting_weigh : (g : ℕ → ℕ) (slot : ℕ) → g slot ≡ 0 → (ns : List ℕ) → sum_by (weigh_slots g) (map (Acting slot) ns) ≡ 0
acting_weigh g slot none [] = refl
acting_weigh g slot none (n ∷ ns) =
    omega (arith, sum_by-cons (weigh_slots g) (Acting slot n) (map (Acting slot) ns), none, acting_weigh g slot none ns)

ending_weigh : (g : ℕ → ℕ) (slot : ℕ) → g slot ≡ 0 → (n : ℕ) → sum_by (weigh_slots g) (replicate n (Ending slot)) ≡ 0
ending_weigh g slot none zero = refl
ending_weigh g slot none (suc n) =
    omega (arith, sum_by-cons (weigh_slots g) (Ending slot) (replicate n (Ending slot)), none, ending_weigh g slot none n)

module _ {J : Type 0} where
  -- what a slot of no weight awaits weighs nothing
  awaited_weighs : (g : ℕ → ℕ) (slot : ℕ) (a : Option (Active J)) → g slot ≡ 0 → sum_by (weigh_slots g) (awaited slot a) ≡ 0
  awaited_weighs g slot None none = refl
  awaited_weighs g slot (Some (active.Acting first places)) none = acting_weigh g slot none (awaited_from first places)
  awaited_weighs g slot (Some active.Committing) none = omega (arith, sum_by-cons (weigh_slots g) (Committing slot) [], none)
  awaited_weighs g slot (Some (active.Ending left)) none = ending_weigh g slot none left

  -- ---- one slot apart

  -- the slots with this one free
  abbrev pub without : ℕ → List (Option (Active J)) → List (Option (Active J))
  without slot slots = slice_set slots slot None

  -- what all await is what one awaits and the others do
  pub awaited_apart : (weight : Token → ℕ) (n slot : ℕ) (slots : List (Option (Active J))) (a : Option (Active J)) → slice_get slots slot ≡ Some a
      → sum_by weight (awaited_by_all n slots) ≡ sum_by weight (awaited (n + slot) a) + sum_by weight (awaited_by_all n (without slot slots))
  awaited_apart weight n slot [] a is = absurd (cc)
  awaited_apart weight n zero (b ∷ slots) a is =
      let same : b ≡ a = cc in
      let here : n ≡ n + 0 = omega arith in
      omega (arith, sum_by-append weight (awaited n b) (awaited_by_all (suc n) slots), ap (λ (o : Option (Active J)). sum_by weight (awaited n o)) same, ap (λ m. sum_by weight (awaited m a)) here)
  awaited_apart weight n (suc slot) (b ∷ slots) a is =
      let later : suc n + slot ≡ n + suc slot = omega arith in
      omega (
        arith,
        sum_by-append weight (awaited n b) (awaited_by_all (suc n) slots),
        sum_by-append weight (awaited n b) (awaited_by_all (suc n) (without slot slots)),
        awaited_apart weight (suc n) slot slots a is,
        ap (λ m. sum_by weight (awaited m a)) later,
      )

  -- so it is of the first slot on
  pub awaited_of : (weight : Token → ℕ) (slot : ℕ) (slots : List (Option (Active J))) (a : Option (Active J)) → slice_get slots slot ≡ Some a
      → sum_by weight (awaited_by_all 0 slots) ≡ sum_by weight (awaited slot a) + sum_by weight (awaited_by_all 0 (without slot slots))
  awaited_of weight slot slots a is =
      let here : 0 + slot ≡ slot = omega arith in
      subst (λ m. sum_by weight (awaited_by_all 0 slots) ≡ sum_by weight (awaited m a) + sum_by weight (awaited_by_all 0 (without slot slots))) here (awaited_apart weight 0 slot slots a is)

  -- what all await once one of them awaits something else
  pub awaited_then : (weight : Token → ℕ) (slot : ℕ) (slots : List (Option (Active J))) (a : Option (Active J)) → slot < length slots
      → sum_by weight (awaited_by_all 0 (slice_set slots slot a)) ≡ sum_by weight (awaited slot a) + sum_by weight (awaited_by_all 0 (without slot slots))
  awaited_then weight slot slots a below =
      subst (λ (l : List (Option (Active J))). sum_by weight (awaited_by_all 0 (slice_set slots slot a)) ≡ sum_by weight (awaited slot a) + sum_by weight (awaited_by_all 0 l)) (set-set slots slot a None)
      (awaited_of weight slot (slice_set slots slot a) a (got_set slots slot a below))

  -- where the slot is the only one that weighs, the others await nothing that does
  others_weigh : (g : ℕ → ℕ) (n slot : ℕ) (slots : List (Option (Active J))) → ((m : ℕ) → (m ≡ n + slot → ⊥) → g m ≡ 0) → sum_by (weigh_slots g) (awaited_by_all n (without slot slots)) ≡ 0
  others_weigh g n slot [] none = refl
  others_weigh g n zero (b ∷ slots) none = later (suc n) slots (λ m above. none m (λ same. omega (arith, same, above)))
    where
      later : (k : ℕ) (slots : List (Option (Active J))) → ((m : ℕ) → k ≤ m → g m ≡ 0) → sum_by (weigh_slots g) (awaited_by_all k slots) ≡ 0
      later k [] none = refl
      later k (b ∷ slots) none =
          omega (
            arith,
            sum_by-append (weigh_slots g) (awaited k b) (awaited_by_all (suc k) slots),
            awaited_weighs g k b (none k (omega arith)),
            later (suc k) slots (λ m above. none m (omega (arith, above))),
          )
  others_weigh g n (suc slot) (b ∷ slots) none =
      omega (
        arith,
        sum_by-append (weigh_slots g) (awaited n b) (awaited_by_all (suc n) (without slot slots)),
        awaited_weighs g n b (none n (λ same. omega (arith, same))),
        others_weigh g (suc n) slot slots (λ m other. none m (λ same. other (omega (arith, same)))),
      )

  -- none of this slot is awaited by the others
  pub none_of_slot : (slot : ℕ) (slots : List (Option (Active J))) → sum_by (weigh_slots (of_slot slot)) (awaited_by_all 0 (without slot slots)) ≡ 0
  none_of_slot slot slots = others_weigh (of_slot slot) 0 slot slots (λ m other. by_bool (slot == m) (λ same. absurd (other (omega (arith, same_of slot m same)))) (λ different. ap {B = ℕ} (λ b. cond b 1 0) different))
    where
      same_of : (slot m : ℕ) → (slot == m) ≡ true → slot ≡ m
      same_of slot m same = exact_unsigned_eq slot m same

  -- ---- what has met

  -- what all have met is what one has and the others have
  pub met_apart : (slot : ℕ) (slots : List (Option (Active J))) (a : Option (Active J)) → slice_get slots slot ≡ Some a
      → IsSame (parts part_met (reported_to_all slots)) (join (parts part_met (reported_to a)) (parts part_met (reported_to_all (without slot slots))))
  met_apart slot [] a is = absurd (cc)
  met_apart zero (b ∷ slots) a is =
      let same : b ≡ a = cc in
      subst (λ (o : Option (Active J)). IsSame (parts part_met (reported_to b ++ reported_to_all slots)) (join (parts part_met (reported_to o)) (parts part_met (reported_to_all slots)))) same
      (same-is _ _ (parts-append part_met (reported_to b) (reported_to_all slots)))
  met_apart (suc slot) (b ∷ slots) a is =
      let first = parts part_met (reported_to b) in
      let own = parts part_met (reported_to a) in
      let all = parts part_met (reported_to_all slots) in
      let rest = parts part_met (reported_to_all (without slot slots)) in
      subst (λ p. IsSame p (join own (parts part_met (reported_to b ++ reported_to_all (without slot slots))))) (sym (parts-append part_met (reported_to b) (reported_to_all slots)))
      (subst (λ p. IsSame (join first all) (join own p)) (sym (parts-append part_met (reported_to b) (reported_to_all (without slot slots))))
      (same-trans (join first all) (join first (join own rest)) (join own (join first rest))
      (same-join first first all (join own rest) (same-refl first) (met_apart slot slots a is))
      (same-middle first own rest)))

  -- ---- all that is in flight

  -- but for what the transaction in a slot has met
  abbrev pub lots : ℕ → Parts J → InFlight
  lots slot w = flight (with_active slot None w)

  pub flight_apart : (w : Parts J) (slot : ℕ) (a : Option (Active J)) → slice_get w.desk.active slot ≡ Some a → IsSame (flight w) (join (parts part_met (reported_to a)) (lots slot w))
  flight_apart w slot a is =
      let own = parts part_met (reported_to a) in
      let rest = parts part_met (reported_to_all (without slot w.desk.active)) in
      same-trans (flight w) (fly (in_inbox w) (in_outbox w) (join own rest)) (join own (lots slot w))
      (fly_same (in_inbox w) (in_inbox w) (in_outbox w) (in_outbox w) (in_meeting w) (join own rest) (same-refl (in_inbox w)) (same-refl (in_outbox w)) (met_apart slot w.desk.active a is))
      (fly_last own (in_inbox w) (in_outbox w) rest)

  -- once items are put and the transaction in the slot has come so far
  pub flight_then : (w : Parts J) (items : List (Item J)) (slot : ℕ) (a : Option (Active J)) → slot < length w.desk.active
      → IsSame (flight (putting items slot a w)) (join (parts part_met (reported_to a)) (join (parts part_item items) (lots slot w)))
  flight_then w items slot a below =
      let own = parts part_met (reported_to a) in
      let next : Parts J = putting items slot a w in
      let free : lots slot next ≡ flight (record (with_active slot None w) { outbox = w.outbox ++ items }) =
      ap (λ (l : List (Option (Active J))). fly (in_inbox w) (parts part_item (w.outbox ++ items)) (parts part_met (reported_to_all l))) (set-set w.desk.active slot a None) in
      same-trans (flight next) (join own (lots slot next)) (join own (join (parts part_item items) (lots slot w)))
      (flight_apart next slot a (got_set w.desk.active slot a below))
      (same-join own own (lots slot next) (join (parts part_item items) (lots slot w)) (same-refl own)
      (subst (λ p. IsSame p (join (parts part_item items) (lots slot w))) (sym free) (items_put (with_active slot None w) items)))

  -- where the transaction in the slot has come so far, and nothing else changed
  pub flight_with : (w : Parts J) (slot : ℕ) (a : Option (Active J)) → slot < length w.desk.active → IsSame (flight (with_active slot a w)) (join (parts part_met (reported_to a)) (lots slot w))
  flight_with w slot a below =
      let next : Parts J = with_active slot a w in
      let free : lots slot next ≡ lots slot w = ap (λ (l : List (Option (Active J))). fly (in_inbox w) (in_outbox w) (parts part_met (reported_to_all l))) (set-set w.desk.active slot a None) in
      subst (λ p. IsSame (flight next) (join (parts part_met (reported_to a)) p)) free (flight_apart next slot a (got_set w.desk.active slot a below))

  -- ---- soundness of one slot, and of all

  pub sound_at : (shared : SharedTables) (at : ActiveTransactions) (n slot : ℕ) (slots : List (Option (Active J))) (a : Option (Active J)) → AreSoundActive shared at n slots → slice_get slots slot ≡ Some a
      → IsSoundActive shared (n + slot) (at (n + slot)) a
  sound_at shared at n slot [] a h is = absurd (cc)
  sound_at shared at n zero (b ∷ slots) a h is =
      let same : b ≡ a = cc in
      let here : n ≡ n + 0 = omega arith in
      subst (λ m. IsSoundActive shared m (at m) a) here (subst (λ (o : Option (Active J)). IsSoundActive shared n (at n) o) same h.0)
  sound_at shared at n (suc slot) (b ∷ slots) a h is =
      let later : suc n + slot ≡ n + suc slot = omega arith in
      subst (λ m. IsSoundActive shared m (at m) a) later (sound_at shared at (suc n) slot slots a h.1 is)

  pub sound_in : (shared : SharedTables) (at : ActiveTransactions) (slot : ℕ) (slots : List (Option (Active J))) (a : Option (Active J)) → AreSoundActive shared at 0 slots → slice_get slots slot ≡ Some a
      → IsSoundActive shared slot (at slot) a
  sound_in shared at slot slots a h is =
      let here : 0 + slot ≡ slot = omega arith in
      subst (λ m. IsSoundActive shared m (at m) a) here (sound_at shared at 0 slot slots a h is)

  -- all but one are as they were
  sound_from : (shared : SharedTables) (at bt : ActiveTransactions) (n : ℕ) (slots : List (Option (Active J))) → ((m : ℕ) → n ≤ m → at m ≡ bt m) → AreSoundActive shared at n slots → AreSoundActive shared bt n slots
  sound_from shared at bt n [] same h = tt
  sound_from shared at bt n (a ∷ slots) same h = (
    subst (λ u. IsSoundActive shared n u a) (same n (omega arith)) h.0,
    sound_from shared at bt (suc n) slots (λ m above. same m (omega (arith, above))) h.1,
  )

  sound_but : (shared : SharedTables) (at bt : ActiveTransactions) (n slot : ℕ) (slots : List (Option (Active J))) (a : Option (Active J)) → ((m : ℕ) → (m ≡ n + slot → ⊥) → at m ≡ bt m)
      → AreSoundActive shared at n slots → IsSoundActive shared (n + slot) (bt (n + slot)) a → AreSoundActive shared bt n (slice_set slots slot a)
  sound_but shared at bt n slot [] a same h own = tt
  sound_but shared at bt n zero (b ∷ slots) a same h own =
      let here : n + 0 ≡ n = omega arith in (
        subst (λ m. IsSoundActive shared m (bt m) a) here own,
        sound_from shared at bt (suc n) slots (λ m above. same m (λ is. omega (arith, is, above))) h.1,
      )
  sound_but shared at bt n (suc slot) (b ∷ slots) a same h own =
      let later : n + suc slot ≡ suc n + slot = omega arith in (
        subst (λ u. IsSoundActive shared n u b) (same n (λ is. omega (arith, is))) h.0,
        sound_but shared at bt (suc n) slot slots a (λ m other. same m (λ is. other (omega (arith, is)))) h.1 (subst (λ m. IsSoundActive shared m (bt m) a) later own),
      )

  pub sound_then : (shared : SharedTables) (at bt : ActiveTransactions) (slot : ℕ) (slots : List (Option (Active J))) (a : Option (Active J)) → ((m : ℕ) → (m ≡ slot → ⊥) → at m ≡ bt m)
      → AreSoundActive shared at 0 slots → IsSoundActive shared slot (bt slot) a → AreSoundActive shared bt 0 (slice_set slots slot a)
  sound_then shared at bt slot slots a same h own =
      let here : slot ≡ 0 + slot = omega arith in
      sound_but shared at bt 0 slot slots a (λ m other. same m (λ is. other (omega (arith, is)))) h (subst (λ m. IsSoundActive shared m (bt m) a) here own)
