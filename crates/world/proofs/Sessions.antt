-- The sessions at the desk, as one of them asks or is answered.
use Rattle.std.proofs.Common.{◌≡◌, ◌≢◌, ℕ, ◌+◌, ◌==◌, zero, suc, true, false, List, [], ◌∷◌, length, Option, Some, refl, sym, ◌∙◌, ap, subst, cond, arith}
use Rattle.std.specs.Prelude.{count_by, slice_set}
use Rattle.std.specs.List.{slice_get, sum_by}
use Rattle.std.proofs.lemmas.List.Sums.{sum_by-cons}
use Rattle.std.proofs.lemmas.Bool.{eq-eqb}
use Rattle.std.proofs.lemmas.Map.Views.{exact_unsigned_eq}
use Rattle.rows.specs.declared.limits.TheConstants.{SESSIONS}
use Rattle.history.specs.History.{UnansweredTransaction, is_of}
use Rattle.world.specs.declared.desk.SessionDesk.{SessionDesk}
use Rattle.world.specs.Sound.{IsSessionOf, is_here}
use Rattle.world.proofs.Tokens.{IsFalse, by_bool}

-- ---- an element in place of another

get_set : {X : Type 0} (xs : List X) (i : ℕ) (x y : X) → slice_get xs i ≡ Some x → slice_get (slice_set xs i y) i ≡ Some y
get_set [] i x y is = absurd (cc)
get_set (z ∷ xs) zero x y is = refl
get_set (z ∷ xs) (suc i) x y is = get_set xs i x y is

pub get_other : {X : Type 0} (xs : List X) (i k : ℕ) (y : X) → k ≢ i → slice_get (slice_set xs i y) k ≡ slice_get xs k
get_other [] i k y other = refl
get_other (z ∷ xs) zero zero y other = absurd (other refl)
get_other (z ∷ xs) zero (suc k) y other = refl
get_other (z ∷ xs) (suc i) zero y other = refl
get_other (z ∷ xs) (suc i) (suc k) y other = get_other xs i k y (λ same. other (ap suc same))

pub sum_set : {X : Type 0} (f : X → ℕ) (xs : List X) (i : ℕ) (x y : X) → slice_get xs i ≡ Some x → sum_by f (slice_set xs i y) + f x ≡ sum_by f xs + f y
sum_set f [] i x y is = absurd (cc)
sum_set f (z ∷ xs) zero x y is =
    let same : z ≡ x = cc in
    omega (arith, sum_by-cons f y xs, sum_by-cons f z xs, ap {B = ℕ} f same)
sum_set f (z ∷ xs) (suc i) x y is = omega (arith, sum_by-cons f z (slice_set xs i y), sum_by-cons f z xs, sum_set f xs i x y is)

-- what is found at a place is one thing
found_once : {X : Type 0} (o : Option X) (x y : X) → o ≡ Some x → o ≡ Some y → x ≡ y
found_once o x y a b = cc

-- ---- one session's transaction

is_of_own : (u : UnansweredTransaction) (number : ℕ) → u.session ≡ number → cond {A = ℕ} (is_of number u) 1 0 ≡ 1
is_of_own u number same = ap {B = ℕ} (λ b. cond b 1 0) (eq-eqb u.session number same)

is_of_other : (u : UnansweredTransaction) (number : ℕ) → u.session ≢ number → cond {A = ℕ} (is_of number u) 1 0 ≡ 0
is_of_other u number other =
    by_bool (u.session == number)
    (λ same. absurd (other (exact_unsigned_eq u.session number same)))
    (λ differs. ap {B = ℕ} (λ b. cond b 1 0) differs)

module _ {J : Type 0} where
  abbrev pub AreAlone : List (SessionDesk J) → List UnansweredTransaction → Type 0
  AreAlone sessions pending =
      (number : ℕ) (session : SessionDesk J) → slice_get sessions number ≡ Some session → count_by (is_of number) pending + cond (is_here session) 1 0 ≡ 1

  abbrev pub AreMany : List (SessionDesk J) → List UnansweredTransaction → Type 0
  AreMany sessions pending = length pending + count_by is_here sessions ≡ SESSIONS

  abbrev pub AreInPlace : List (SessionDesk J) → Type 0
  AreInPlace sessions = (number : ℕ) (session : SessionDesk J) → slice_get sessions number ≡ Some session → IsSessionOf number session

  -- every session but one is unchanged
  by_session : (P : ℕ → SessionDesk J → Type 0) (sessions : List (SessionDesk J)) (place : ℕ) (old new : SessionDesk J) → slice_get sessions place ≡ Some old
      → P place new → ((number : ℕ) (session : SessionDesk J) → number ≢ place → slice_get sessions number ≡ Some session → P number session)
      → (number : ℕ) (session : SessionDesk J) → slice_get (slice_set sessions place new) number ≡ Some session → P number session
  by_session P sessions place old new is here others number session there =
      by_bool (number == place)
      (λ same.
      let at : number ≡ place = exact_unsigned_eq number place same in
      let found : new ≡ session = found_once (slice_get (slice_set sessions place new) place) new session (get_set sessions place old new is) (subst (λ k. slice_get (slice_set sessions place new) k ≡ Some session) at there) in
      subst (λ k. P k session) (sym at) (subst (λ s. P place s) found here))
      (λ differs.
      let other : number ≢ place = λ at. absurd (subst (λ b. IsFalse b) (sym differs ∙ eq-eqb number place at) tt) in
      others number session other (sym (get_other sessions place number new other) ∙ there))

  -- a session is answered: its pass is here again, and its transaction is not in flight any more
  module _ (sessions : List (SessionDesk J)) (u : UnansweredTransaction) (pending : List UnansweredTransaction) (old new : SessionDesk J) (place : ℕ)
      (is : slice_get sessions place ≡ Some old) (whose : u.session ≡ place) (here : is_here new ≡ true) (alone : AreAlone sessions (u ∷ pending)) (many : AreMany sessions (u ∷ pending)) where
    was : (count_by (is_of place) pending ≡ 0) × (cond {A = ℕ} (is_here old) 1 0 ≡ 0)
    was =
        let one = alone place old is in
        let first = sum_by-cons (λ x. cond (is_of place x) 1 0) u pending in
        (omega (arith, one, first, is_of_own u place whose), omega (arith, one, first, is_of_own u place whose))

    pub answered_alone : AreAlone (slice_set sessions place new) pending
    answered_alone =
        by_session (λ number session. count_by (is_of number) pending + cond (is_here session) 1 0 ≡ 1) sessions place old new is
        (omega (arith, was.0, ap {B = ℕ} (λ b. cond b 1 0) here))
        (λ number session other there.
        omega (arith, alone number session there, sum_by-cons (λ x. cond (is_of number x) 1 0) u pending, is_of_other u number (λ same. other (sym same ∙ whose))))

    pub answered_many : AreMany (slice_set sessions place new) pending
    answered_many = omega (arith, many, was.1, ap {B = ℕ} (λ b. cond b 1 0) here, sum_set (λ s. cond (is_here s) 1 0) sessions place old new is)

  -- a session asks: its pass goes, and its transaction is in flight
  module _ (sessions : List (SessionDesk J)) (u : UnansweredTransaction) (pending : List UnansweredTransaction) (old new : SessionDesk J) (place : ℕ)
      (is : slice_get sessions place ≡ Some old) (whose : u.session ≡ place) (here : is_here old ≡ true) (away : is_here new ≡ false) (alone : AreAlone sessions pending) (many : AreMany sessions pending) where
    pub asks_first : count_by (is_of place) pending ≡ 0
    asks_first = omega (arith, alone place old is, ap {B = ℕ} (λ b. cond b 1 0) here)

    pub asked_alone : AreAlone (slice_set sessions place new) (u ∷ pending)
    asked_alone =
        by_session (λ number session. count_by (is_of number) (u ∷ pending) + cond (is_here session) 1 0 ≡ 1) sessions place old new is
        (omega (arith, asks_first, is_of_own u place whose, sum_by-cons (λ x. cond (is_of place x) 1 0) u pending, ap {B = ℕ} (λ b. cond b 1 0) away))
        (λ number session other there.
        omega (arith, alone number session there, sum_by-cons (λ x. cond (is_of number x) 1 0) u pending, is_of_other u number (λ same. other (sym same ∙ whose))))

    pub asked_many : AreMany (slice_set sessions place new) (u ∷ pending)
    asked_many =
        omega (arith, many, ap {B = ℕ} (λ b. cond b 1 0) here, ap {B = ℕ} (λ b. cond b 1 0) away, sum_set (λ s. cond (is_here s) 1 0) sessions place old new is)

  pub still_in_place : (sessions : List (SessionDesk J)) (place : ℕ) (old new : SessionDesk J) → slice_get sessions place ≡ Some old → IsSessionOf place new → AreInPlace sessions → AreInPlace (slice_set sessions place new)
  still_in_place sessions place old new is fit all =
      by_session IsSessionOf sessions place old new is fit (λ number session other there. all number session there)
