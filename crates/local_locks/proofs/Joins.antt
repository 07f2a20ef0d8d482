-- The ruling on a want for the group at one place, and on several wants.
use Rattle.std.proofs.Common.{◌≡◌, ◌⊎◌, ℕ, zero, suc, ◌+◌, ◌<◌, ◌≤◌, Bool, true, false, List, [], ◌∷◌, ◌++◌, length, get_or, take, ltb, refl, sym, ap, subst, ◌∙◌, ⊎_elim, arith}
use Rattle.std.specs.Prelude.{Contains, if◌then◌else◌}
use Rattle.std.specs.List.{flat_map}
use Rattle.std.proofs.lemmas.List.{get_or-map}
use Rattle.std.proofs.lemmas.List.Elements.{All-contains, Contains-append_cases, Contains-append_left, Contains-append_right}
use Rattle.groups.specs.declared.group_wants.Mode.{Mode}
use Rattle.groups.specs.declared.wants.Want.{Want}
use Rattle.wait_die.specs.declared.deciding.Holder.{Holder}
use Rattle.wait_die.specs.declared.deciding.Decision.TheVariants as decision
use Rattle.wait_die.specs.Verdicts.{IsVerdict}
use Rattle.local_locks.specs.declared.rulings.Ruling.{Ruling}
use Rattle.local_locks.specs.declared.rulings.Ruling.TheVariants.{Free, Waits, Dies}
use Rattle.local_locks.specs.Locks.{LockView, conflicting, is_taken}
use Rattle.local_locks.specs.Rulings.{Spot, spot, conflicting_at, Stops, FirstNotYounger, IsRuling, joined, spots_of}
use Rattle.local_locks.proofs.Spots.{joined_walked}
use Rattle.local_locks.proofs.Members.{contains_none, contains_one, contains_itself, some_of}

-- ---- one place

pub at_place : (locks : List LockView) (mode : Mode) (number : ℕ) (lock : LockView) → number < length locks → lock ≡ get_or locks number lock → conflicting_at locks mode number ≡ conflicting mode lock
at_place locks mode number lock here is = get_or-map (conflicting mode) locks number lock [] here ∙ ap (conflicting mode) (sym is)

stops_here : (locks : List LockView) (number : ℕ) (mode : Mode) (holder : Holder) → Contains (conflicting_at locks mode number) holder → Stops locks (spot number mode ∷ []) number holder
stops_here locks number mode holder c = record { mode = mode; wants = contains_itself (spot number mode); holds = c }

-- a holder that conflicts with a want for one place is at that place
stopped_there : (locks : List LockView) (number other : ℕ) (mode : Mode) (holder : Holder) → Stops locks (spot number mode ∷ []) other holder → (number ≡ other) × Contains (conflicting_at locks mode number) holder
stopped_there locks number other mode holder s =
    let same : spot number mode ≡ spot other s.mode = contains_one (spot number mode) (spot other s.mode) s.wants in
    let P : Spot → Type 0 = λ t. Contains (conflicting_at locks t.mode t.number) holder in
    (ap (λ (t : Spot). t.number) same, subst P (sym same) s.holds)

pub waits_there : (age : ℕ) (locks : List LockView) (number : ℕ) (mode : Mode) → IsVerdict age (conflicting_at locks mode number) decision.Waits → IsRuling age locks (spot number mode ∷ []) Waits
waits_there age locks number mode v =
    let holders = conflicting_at locks mode number in
    let one = some_of holders v.0 in
    record {
      some = (number, one.0, stops_here locks number mode one.0 one.1);
      younger = λ other holder s. All-contains (λ (h : Holder). age < h.age) holders holder v.1 (stopped_there locks number other mode holder s).1;
    }

pub dies_there : (age : ℕ) (locks : List LockView) (number : ℕ) (mode : Mode) (oldest : ℕ) → IsVerdict age (conflicting_at locks mode number) (decision.Dies oldest) → IsRuling age locks (spot number mode ∷ []) (Dies number oldest)
dies_there age locks number mode oldest v =
    let holders = conflicting_at locks mode number in
    let named = v.0.0 in
    record {
      some = (named.1, stops_here locks number mode named.1 (named.0, named.2, named.3), named.4);
      older = v.1;
      first = λ other holder s not_younger. omega (arith, (stopped_there locks number other mode holder s).0);
      oldest_there = λ holder s. All-contains (λ (h : Holder). oldest ≤ h.age) holders holder v.0.1 (stopped_there locks number number mode holder s).1;
    }

-- ---- more places

left : (locks : List LockView) (xs ys : List Spot) (number : ℕ) (holder : Holder) → Stops locks xs number holder → Stops locks (xs ++ ys) number holder
left locks xs ys number holder s = record { mode = s.mode; wants = Contains-append_left xs ys (spot number s.mode) s.wants; holds = s.holds }

right : (locks : List LockView) (xs ys : List Spot) (number : ℕ) (holder : Holder) → Stops locks ys number holder → Stops locks (xs ++ ys) number holder
right locks xs ys number holder s = record { mode = s.mode; wants = Contains-append_right xs ys (spot number s.mode) s.wants; holds = s.holds }

either : {P : Type 0} (locks : List LockView) (xs ys : List Spot) (number : ℕ) (holder : Holder) → Stops locks (xs ++ ys) number holder → (Stops locks xs number holder → P) → (Stops locks ys number holder → P) → P
either locks xs ys number holder s first second =
    ⊎_elim
    (λ (c : Contains xs (spot number s.mode)). first (record { mode = s.mode; wants = c; holds = s.holds }))
    (λ (c : Contains ys (spot number s.mode)). second (record { mode = s.mode; wants = c; holds = s.holds }))
    (Contains-append_cases xs ys (spot number s.mode) s.wants)

-- at a place all holders are in the way of a want, or none is
all_or_none : (locks : List LockView) (one two : Mode) (number : ℕ) (a b : Holder) → Contains (conflicting_at locks one number) a → Contains (conflicting_at locks two number) b → Contains (conflicting_at locks one number) b
all_or_none [] one two number a b c d = contains_none a c
all_or_none (lock ∷ locks) one two zero a b c d =
    by_tests (is_taken one lock.ticket_box.mode (length lock.holders)) (is_taken two lock.ticket_box.mode (length lock.holders)) lock.holders c d
  where
    by_tests : (s t : Bool) (holders : List Holder) → Contains (if s then holders else []) a → Contains (if t then holders else []) b → Contains (if s then holders else []) b
    by_tests true true holders c d = d
    by_tests true false holders c d = contains_none b d
    by_tests false t holders c d = contains_none a c
all_or_none (lock ∷ locks) one two (suc number) a b c d = all_or_none locks one two number a b c d

stops_too : (locks : List LockView) (xs ys : List Spot) (number : ℕ) (a b : Holder) → Stops locks xs number a → Stops locks ys number b → Stops locks xs number b
stops_too locks xs ys number a b s t = record { mode = s.mode; wants = s.wants; holds = all_or_none locks s.mode t.mode number a b s.holds t.holds }

by_age : {P : Type 0} (a b : ℕ) → (a ≤ b → P) → (b < a → P) → P
by_age a b first second = ⊎_elim first second (le_or_lt a b)
  where
    le_or_lt : (a b : ℕ) → (a ≤ b) ⊎ (b < a)
    le_or_lt a b = grind arith

-- the place of the first comes before that of the second, or is the same
dies_of_first : (age : ℕ) (locks : List LockView) (xs ys : List Spot) (n o m p : ℕ) → n ≤ m → FirstNotYounger age locks xs n o → FirstNotYounger age locks ys m p → FirstNotYounger age locks (xs ++ ys) n o
dies_of_first age locks xs ys n o m p before a b = record {
  some = (a.some.0, left locks xs ys n a.some.0 a.some.1, a.some.2);
  older = a.older;
  first = λ other holder s not_younger. either locks xs ys other holder s (λ t. a.first other holder t not_younger) (λ t. omega (arith, before, b.first other holder t not_younger));
  oldest_there = λ holder s. either locks xs ys n holder s (λ t. a.oldest_there holder t) (λ t. by_age holder.age age
      (λ not_younger. let same : m ≡ n = omega (arith, before, b.first n holder t not_younger) in a.oldest_there holder (stops_too locks xs ys n a.some.0 holder a.some.1 t))
      (λ younger. omega (arith, a.older, younger)));
}

-- the place of the second comes before that of the first
dies_of_second : (age : ℕ) (locks : List LockView) (xs ys : List Spot) (n o m p : ℕ) → m < n → FirstNotYounger age locks xs n o → FirstNotYounger age locks ys m p → FirstNotYounger age locks (xs ++ ys) m p
dies_of_second age locks xs ys n o m p before a b = record {
  some = (b.some.0, right locks xs ys m b.some.0 b.some.1, b.some.2);
  older = b.older;
  first = λ other holder s not_younger. either locks xs ys other holder s (λ t. omega (arith, before, a.first other holder t not_younger)) (λ t. b.first other holder t not_younger);
  oldest_there = λ holder s. either locks xs ys m holder s (λ t. by_age holder.age age
      (λ not_younger. absurd (omega (arith, before, a.first m holder t not_younger)))
      (λ younger. omega (arith, b.older, younger))) (λ t. b.oldest_there holder t);
}

-- none of the one in the way is not younger
dies_beside : (age : ℕ) (locks : List LockView) (xs ys : List Spot) (n o : ℕ) → FirstNotYounger age locks xs n o → ((number : ℕ) (holder : Holder) → Stops locks ys number holder → age < holder.age) → FirstNotYounger age locks (xs ++ ys) n o
dies_beside age locks xs ys n o a young = record {
  some = (a.some.0, left locks xs ys n a.some.0 a.some.1, a.some.2);
  older = a.older;
  first = λ other holder s not_younger. either locks xs ys other holder s (λ t. a.first other holder t not_younger) (λ t. absurd (omega (arith, young other holder t, not_younger)));
  oldest_there = λ holder s. either locks xs ys n holder s (λ t. a.oldest_there holder t) (λ t. omega (arith, a.older, young n holder t));
}

dies_after : (age : ℕ) (locks : List LockView) (xs ys : List Spot) (n o : ℕ) → ((number : ℕ) (holder : Holder) → Stops locks xs number holder → age < holder.age) → FirstNotYounger age locks ys n o → FirstNotYounger age locks (xs ++ ys) n o
dies_after age locks xs ys n o young b = record {
  some = (b.some.0, right locks xs ys n b.some.0 b.some.1, b.some.2);
  older = b.older;
  first = λ other holder s not_younger. either locks xs ys other holder s (λ t. absurd (omega (arith, young other holder t, not_younger))) (λ t. b.first other holder t not_younger);
  oldest_there = λ holder s. either locks xs ys n holder s (λ t. omega (arith, b.older, young n holder t)) (λ t. b.oldest_there holder t);
}

dies_of_either : (age : ℕ) (locks : List LockView) (xs ys : List Spot) (n o m p : ℕ) (test : Bool) → (test ≡ true → m < n) → (test ≡ false → n ≤ m) → FirstNotYounger age locks xs n o → FirstNotYounger age locks ys m p
    → IsRuling age locks (xs ++ ys) (if test then Dies m p else Dies n o)
dies_of_either age locks xs ys n o m p true is isnt a b = dies_of_second age locks xs ys n o m p (is refl) a b
dies_of_either age locks xs ys n o m p false is isnt a b = dies_of_first age locks xs ys n o m p (isnt refl) a b

pub both : (age : ℕ) (locks : List LockView) (xs ys : List Spot) (r s : Ruling) → IsRuling age locks xs r → IsRuling age locks ys s → IsRuling age locks (xs ++ ys) (joined r s)
both age locks xs ys Free Free a b = λ number holder s. either locks xs ys number holder s (a number holder) (b number holder)
both age locks xs ys Free Waits a b = record {
  some = (b.some.0, b.some.1, right locks xs ys b.some.0 b.some.1 b.some.2);
  younger = λ number holder s. either locks xs ys number holder s (λ t. absurd (a number holder t)) (b.younger number holder);
}
both age locks xs ys Free (Dies m p) a b = dies_after age locks xs ys m p (λ number holder t. absurd (a number holder t)) b
both age locks xs ys Waits Free a b = record {
  some = (a.some.0, a.some.1, left locks xs ys a.some.0 a.some.1 a.some.2);
  younger = λ number holder s. either locks xs ys number holder s (a.younger number holder) (λ t. absurd (b number holder t));
}
both age locks xs ys Waits Waits a b = record {
  some = (b.some.0, b.some.1, right locks xs ys b.some.0 b.some.1 b.some.2);
  younger = λ number holder s. either locks xs ys number holder s (a.younger number holder) (b.younger number holder);
}
both age locks xs ys Waits (Dies m p) a b = dies_after age locks xs ys m p a.younger b
both age locks xs ys (Dies n o) Free a b = dies_beside age locks xs ys n o a (λ number holder t. absurd (b number holder t))
both age locks xs ys (Dies n o) Waits a b = dies_beside age locks xs ys n o a b.younger
both age locks xs ys (Dies n o) (Dies m p) a b =
    dies_of_either age locks xs ys n o m p (ltb m n) (λ is. ltb_true m n is) (λ isnt. ltb_false m n isnt) a b
  where
    ltb_true : (m n : ℕ) → ltb m n ≡ true → m < n
    ltb_true m n is = grind arith

    ltb_false : (m n : ℕ) → ltb m n ≡ false → n ≤ m
    ltb_false m n isnt = grind arith

-- nothing is wanted
pub free_of_none : (age : ℕ) (locks : List LockView) → IsRuling age locks [] Free
free_of_none age locks = λ number holder s. contains_none (spot number s.mode) s.wants

-- ---- a walk over all that is wanted

pub walked : (age : ℕ) (locks : List LockView) (wants : List Want) (i : ℕ) (d : Want) (r s : Ruling) → i < length wants → IsRuling age locks (flat_map spots_of (take i wants)) r → IsRuling age locks (spots_of (get_or wants i d)) s
    → IsRuling age locks (flat_map spots_of (take (i + 1) wants)) (joined r s)
walked age locks wants i d r s small before here =
    let P : List Spot → Type 0 = λ wanted. IsRuling age locks wanted (joined r s) in
    subst P (sym (joined_walked spots_of wants i d small)) (both age locks (flat_map spots_of (take i wants)) (spots_of (get_or wants i d)) r s before here)
