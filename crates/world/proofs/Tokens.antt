-- What follows about the active transactions from the tokens in flight.
use Rattle.std.proofs.Common.{◌≡◌, ℕ, ◌+◌, ◌-◌, ◌≤◌, ◌==◌, zero, suc, Bool, true, false, List, [], ◌∷◌, Option, Some, None, replicate, refl, sym, ◌∙◌, ap, subst, cond, arith}
use Rattle.std.specs.Prelude.{map}
use Rattle.std.specs.List.{sum_by, slice_get}
use Rattle.std.proofs.lemmas.List.Sums.{sum_by-append, sum_by-cons}
use Rattle.std.proofs.lemmas.Bool.{eq-eqb}
use Rattle.std.proofs.lemmas.Map.Views.{exact_unsigned_eq}
use Rattle.rendezvous.specs.Awaited.{awaited_from}
use Rattle.world.specs.declared.desk.Active.{Active}
use Rattle.world.specs.declared.desk.Active.TheVariants as active
use Rattle.world.specs.declared.flight.Report.{Report}
use Rattle.world.specs.Flights.{Token, Acting, Committing, Ending}
use Rattle.world.specs.Sound.{WeighAlike, awaited, awaited_by_all}

-- the test is false
abbrev pub IsFalse : Bool → Type 0
IsFalse true = ⊥
IsFalse false = Unit {0}

-- by both answers of a test
pub by_bool : {G : Type 0} (b : Bool) → (b ≡ true → G) → (b ≡ false → G) → G
by_bool true holds fails = holds refl
by_bool false holds fails = fails refl

-- a number is the same as itself, and no other
pub is_itself : (n : ℕ) → (n == n) ≡ true
is_itself n = eq-eqb n n refl

pub is_other : (slot n : ℕ) → (n ≡ slot → ⊥) → (slot == n) ≡ false
is_other slot n other = by_bool (slot == n) (λ same. absurd (other (sym (exact_unsigned_eq slot n same)))) (λ differs. differs)

-- ---- weights

abbrev pub weigh_acting : ℕ → ℕ → Token → ℕ
weigh_acting slot place (Acting s p) = cond (slot == s) (cond (place == p) 1 0) 0
weigh_acting slot place (Committing s) = 0
weigh_acting slot place (Ending s) = 0

abbrev pub weigh_committing : ℕ → Token → ℕ
weigh_committing slot (Acting s p) = 0
weigh_committing slot (Committing s) = cond (slot == s) 1 0
weigh_committing slot (Ending s) = 0

abbrev pub weigh_ending : ℕ → Token → ℕ
weigh_ending slot (Acting s p) = 0
weigh_ending slot (Committing s) = 0
weigh_ending slot (Ending s) = cond (slot == s) 1 0

-- a token of anything but an action
abbrev pub weigh_other : Token → ℕ
weigh_other (Acting s p) = 0
weigh_other (Committing s) = 1
weigh_other (Ending s) = 1

pub one_weighs : (n : ℕ) → cond {A = ℕ} (n == n) 1 0 ≡ 1
one_weighs n = ap {B = ℕ} (λ b. cond b 1 0) (is_itself n)

pub acting_weighs : (slot place : ℕ) → weigh_acting slot place (Acting slot place) ≡ 1
acting_weighs slot place = ap {B = ℕ} (λ b. cond b (cond (place == place) 1 0) 0) (is_itself slot) ∙ one_weighs place

pub no_acting : (weight : Token → ℕ) (slot : ℕ) → ((n : ℕ) → weight (Acting slot n) ≡ 0) → (ns : List ℕ) → sum_by weight (map (Acting slot) ns) ≡ 0
no_acting weight slot none [] = refl
no_acting weight slot none (n ∷ ns) = omega (arith, sum_by-cons weight (Acting slot n) (map (Acting slot) ns), none n, no_acting weight slot none ns)

no_ending : (weight : Token → ℕ) (slot : ℕ) → weight (Ending slot) ≡ 0 → (n : ℕ) → sum_by weight (replicate n (Ending slot)) ≡ 0
no_ending weight slot none zero = refl
no_ending weight slot none (suc n) = omega (arith, sum_by-cons weight (Ending slot) (replicate n (Ending slot)), none, no_ending weight slot none n)

-- ---- what is awaited while a token is in flight

-- a token in flight weighs among those that are awaited
pub is_awaited : (weight : Token → ℕ) (t : Token) (ts awaited : List Token) → weight t ≡ 1 → WeighAlike (t ∷ ts) awaited → 1 ≤ sum_by weight awaited
is_awaited weight t ts awaited one h = omega (arith, h weight, sum_by-cons weight t ts, one)

-- a place whose action is awaited is one that has not reported
pub waiting_slot : {R : Type 0} (slot place n : ℕ) (xs : List (Option R)) → 1 ≤ sum_by (weigh_acting slot place) (map (Acting slot) (awaited_from n xs))
    → (k : ℕ) × ((place ≡ n + k) × (slice_get xs k ≡ Some None))
waiting_slot slot place n [] some = absurd (omega (arith, some))
waiting_slot slot place n (None ∷ xs) some =
    by_bool (place == n)
    (λ same. (0, (exact_unsigned_eq place n same ∙ omega arith, refl)))
    (λ other. let weightless : weigh_acting slot place (Acting slot n) ≡ 0 =
    ap {B = ℕ} (λ b. cond b (cond (place == n) 1 0) 0) (is_itself slot) ∙ ap {B = ℕ} (λ b. cond b 1 0) other in
    let later : 1 ≤ sum_by (weigh_acting slot place) (map (Acting slot) (awaited_from (n + 1) xs)) =
    omega (arith, some, sum_by-cons (weigh_acting slot place) (Acting slot n) (map (Acting slot) (awaited_from (n + 1) xs)), weightless) in
    let r = waiting_slot slot place (n + 1) xs later in
    (suc r.0, (omega (arith, r.1.0), r.1.1)))
waiting_slot slot place n (Some u ∷ xs) some =
    let r = waiting_slot slot place (n + 1) xs some in
    (suc r.0, (omega (arith, r.1.0), r.1.1))

module _ {J : Type 0} where
  -- ---- whose tokens they are

  -- Where only what the transaction in one slot awaits weighs anything, it is that one's.
  pub of_one : (weight : Token → ℕ) (slot n : ℕ) (slots : List (Option (Active J)))
      → ((m : ℕ) (a : Option (Active J)) → (m ≡ slot → ⊥) → sum_by weight (awaited m a) ≡ 0) → 1 ≤ sum_by weight (awaited_by_all n slots)
      → (a : Option (Active J)) × ((k : ℕ) × ((slot ≡ n + k) × ((slice_get slots k ≡ Some a) × (1 ≤ sum_by weight (awaited slot a)))))
  of_one weight slot n [] none some = absurd (omega (arith, some))
  of_one weight slot n (a ∷ slots) none some =
      by_bool (slot == n)
      (λ same. let here : slot ≡ n = exact_unsigned_eq slot n same in
      let later : sum_by weight (awaited_by_all (suc n) slots) ≡ 0 = nothing_later (suc n) slots (omega (arith, here)) in
      let own : 1 ≤ sum_by weight (awaited n a) = omega (arith, some, sum_by-append weight (awaited n a) (awaited_by_all (suc n) slots), later) in
      (a, (0, (omega (arith, here), (refl, subst (λ m. 1 ≤ sum_by weight (awaited m a)) (sym here) own)))))
      (λ other. let apart : n ≡ slot → ⊥ = λ is. subst (λ b. IsFalse b) (sym other ∙ ap (λ m. slot == m) is ∙ is_itself slot) tt in
      let r = of_one weight slot (suc n) slots none (omega (arith, some, sum_by-append weight (awaited n a) (awaited_by_all (suc n) slots), none n a apart)) in
      (r.0, (suc r.1.0, (omega (arith, r.1.1.0), r.1.1.1))))
    where
      nothing_later : (m : ℕ) (slots : List (Option (Active J))) → slot + 1 ≤ m → sum_by weight (awaited_by_all m slots) ≡ 0
      nothing_later m [] above = refl
      nothing_later m (b ∷ slots) above =
          omega (
            arith,
            sum_by-append weight (awaited m b) (awaited_by_all (suc m) slots),
            none m b (λ is. omega (arith, is, above)),
            nothing_later (suc m) slots (omega (arith, above)),
          )

  -- ---- an action, a commit, an ending

  acting_elsewhere : (slot place m : ℕ) (a : Option (Active J)) → (m ≡ slot → ⊥) → sum_by (weigh_acting slot place) (awaited m a) ≡ 0
  acting_elsewhere slot place m None other = refl
  acting_elsewhere slot place m (Some (active.Acting first places)) other =
      no_acting (weigh_acting slot place) m (λ n. ap {B = ℕ} (λ b. cond b (cond (place == n) 1 0) 0) (is_other slot m other)) (awaited_from first places)
  acting_elsewhere slot place m (Some active.Committing) other = refl
  acting_elsewhere slot place m (Some (active.Ending left)) other = no_ending (weigh_acting slot place) m refl left

  commit_elsewhere : (slot m : ℕ) (a : Option (Active J)) → (m ≡ slot → ⊥) → sum_by (weigh_committing slot) (awaited m a) ≡ 0
  commit_elsewhere slot m None other = refl
  commit_elsewhere slot m (Some (active.Acting first places)) other = no_acting (weigh_committing slot) m (λ n. refl) (awaited_from first places)
  commit_elsewhere slot m (Some active.Committing) other =
      omega (arith, sum_by-cons (weigh_committing slot) (Committing m) [], ap {B = ℕ} (λ b. cond b 1 0) (is_other slot m other))
  commit_elsewhere slot m (Some (active.Ending left)) other = no_ending (weigh_committing slot) m refl left

  ending_elsewhere : (slot m : ℕ) (a : Option (Active J)) → (m ≡ slot → ⊥) → sum_by (weigh_ending slot) (awaited m a) ≡ 0
  ending_elsewhere slot m None other = refl
  ending_elsewhere slot m (Some (active.Acting first places)) other = no_acting (weigh_ending slot) m (λ n. refl) (awaited_from first places)
  ending_elsewhere slot m (Some active.Committing) other = refl
  ending_elsewhere slot m (Some (active.Ending left)) other = no_ending (weigh_ending slot) m (ap {B = ℕ} (λ b. cond b 1 0) (is_other slot m other)) left

  acting_one : (slot place : ℕ) (a : Option (Active J)) → 1 ≤ sum_by (weigh_acting slot place) (awaited slot a)
      → (first : ℕ) × ((slots : List (Option (Report J))) × ((a ≡ Some (active.Acting first slots)) × ((first ≤ place) × (slice_get slots (place - first) ≡ Some None))))
  acting_one slot place None some = absurd (omega (arith, some))
  acting_one slot place (Some (active.Acting first slots)) some =
      let r = waiting_slot slot place first slots some in
      let here : r.0 ≡ place - first = omega (arith, r.1.0) in
      (first, (slots, (refl, (omega (arith, r.1.0), subst (λ k. slice_get slots k ≡ Some None) here r.1.1))))
  acting_one slot place (Some active.Committing) some = absurd (omega (arith, some))
  acting_one slot place (Some (active.Ending left)) some = absurd (omega (arith, some, no_ending (weigh_acting slot place) slot refl left))

  commit_one : (slot : ℕ) (a : Option (Active J)) → 1 ≤ sum_by (weigh_committing slot) (awaited slot a) → a ≡ Some active.Committing
  commit_one slot None some = absurd (omega (arith, some))
  commit_one slot (Some (active.Acting first slots)) some = absurd (omega (arith, some, no_acting (weigh_committing slot) slot (λ n. refl) (awaited_from first slots)))
  commit_one slot (Some active.Committing) some = refl
  commit_one slot (Some (active.Ending left)) some = absurd (omega (arith, some, no_ending (weigh_committing slot) slot refl left))

  ending_one : (slot : ℕ) (a : Option (Active J)) → 1 ≤ sum_by (weigh_ending slot) (awaited slot a) → (left : ℕ) × ((a ≡ Some (active.Ending left)) × (1 ≤ left))
  ending_one slot None some = absurd (omega (arith, some))
  ending_one slot (Some (active.Acting first slots)) some = absurd (omega (arith, some, no_acting (weigh_ending slot) slot (λ n. refl) (awaited_from first slots)))
  ending_one slot (Some active.Committing) some = absurd (omega (arith, some))
  ending_one slot (Some (active.Ending zero)) some = absurd (omega (arith, some))
  ending_one slot (Some (active.Ending (suc left))) some = (suc left, (refl, omega arith))

  -- the slot's number is its place in the list
  in_slot : (slot k : ℕ) (slots : List (Option (Active J))) (a : Option (Active J)) → slot ≡ 0 + k → slice_get slots k ≡ Some a → slice_get slots slot ≡ Some a
  in_slot slot k slots a is there = let same : k ≡ slot = omega (arith, is) in subst (λ n. slice_get slots n ≡ Some a) same there

  pub acting_in_flight : (slot place : ℕ) (slots : List (Option (Active J))) → 1 ≤ sum_by (weigh_acting slot place) (awaited_by_all 0 slots)
      → (first : ℕ) × ((reports : List (Option (Report J))) × ((slice_get slots slot ≡ Some (Some (active.Acting first reports))) × ((first ≤ place) × (slice_get reports (place - first) ≡ Some None))))
  acting_in_flight slot place slots some =
      let r = of_one (weigh_acting slot place) slot 0 slots (acting_elsewhere slot place) some in
      let one = acting_one slot place r.0 r.1.1.1.1 in
      (one.0, (one.1.0, (in_slot slot r.1.0 slots r.0 r.1.1.0 r.1.1.1.0 ∙ ap (λ (a : Option (Active J)). Some a) one.1.1.0, one.1.1.1)))

  pub commit_in_flight : (slot : ℕ) (slots : List (Option (Active J))) → 1 ≤ sum_by (weigh_committing slot) (awaited_by_all 0 slots) → slice_get slots slot ≡ Some (Some active.Committing)
  commit_in_flight slot slots some =
      let r = of_one (weigh_committing slot) slot 0 slots (commit_elsewhere slot) some in
      in_slot slot r.1.0 slots r.0 r.1.1.0 r.1.1.1.0 ∙ ap (λ (a : Option (Active J)). Some a) (commit_one slot r.0 r.1.1.1.1)

  pub ending_in_flight : (slot : ℕ) (slots : List (Option (Active J))) → 1 ≤ sum_by (weigh_ending slot) (awaited_by_all 0 slots)
      → (left : ℕ) × ((slice_get slots slot ≡ Some (Some (active.Ending left))) × (1 ≤ left))
  ending_in_flight slot slots some =
      let r = of_one (weigh_ending slot) slot 0 slots (ending_elsewhere slot) some in
      let one = ending_one slot r.0 r.1.1.1.1 in
      (one.0, (in_slot slot r.1.0 slots r.0 r.1.1.0 r.1.1.1.0 ∙ ap (λ (a : Option (Active J)). Some a) one.1.0, one.1.1))
