-- What each event does to the record of the transactions.
use Rattle.std.proofs.Common.{◌≡◌, ◌≢◌, ℕ, ◌+◌, ◌<◌, ◌≤◌, List, [], ◌∷◌, ◌++◌, length, get_or, Option, Some, None, Result, Ok, Err, zero, suc, refl, sym, ◌∙◌, ap, subst, arith, ⊎_elim, length-append, add-zero, zero-add}
use Rattle.std.specs.Prelude.{Bool, true, false, if◌then◌else◌, ◌==◌, ◌&&◌, IsTrue, map, count_by, is_none, cond}
use Rattle.std.specs.List.{All, slice_get, sum_by, filter}
use Rattle.std.specs.List.Sorted.{IsPermutation}
use Rattle.std.proofs.lemmas.List.Sorted.{All-permutation, sum_by-IsPermutation}
use Rattle.std.proofs.lemmas.List.Elements.{All-cons, All-head, All-tail, All-nil, All-weaker, All-map, All-push, filter-append}
use Rattle.std.proofs.lemmas.List.{length-map}
use Rattle.std.proofs.lemmas.List.Sums.{sum_by-cons, sum_by_push, get_or-le-sum_by, length-filter}
use Rattle.std.proofs.lemmas.Bool.{eq-eqb, ne_eqb, eqb-true}
use Rattle.std.proofs.lemmas.Bool.Decides.{eqb_tells}
use Rattle.std.proofs.lemmas.Option.{slice_get_within}
use Rattle.requests.specs.declared.request.Request.{Request}
use Rattle.requests.specs.declared.refusal.Refusal.{Refusal}
use Rattle.commit_log.specs.declared.entry.Entry.{Entry}
use Rattle.history.specs.declared.event.EventAnswer.TheVariants.{Answered}
use Rattle.history.specs.History.{Transaction, Acknowledgement, UnansweredTransaction, InOrder, Precedes, AgesFrom, AreUnanswered, AreOfDifferentSessions, HasEntries, IsAnswerOf, IsRecorded, holds, is_open, is_of, first_of, unanswered, unanswered_of, with_entry, with_answer, opened}
use Rattle.history.specs.Fits.{IsLoggedBelow, Recorded}
use Rattle.history.specs.Laws.{new_one, with_place, IsAnswerTo}

-- ---- tests, lists and counts

by_bool : {P : Type 0} (b : Bool) → (b ≡ true → P) → (b ≡ false → P) → P
by_bool true yes' no' = yes' refl
by_bool false yes' no' = no' refl

not_counted : (b : Bool) → cond b 1 0 ≤ 0 → b ≡ false
not_counted true h = absurd (omega arith)
not_counted false h = refl

-- no element passes where none is counted
none_pass : {X : Type 0} (p : X → Bool) (xs : List X) → count_by p xs ≡ 0 → All (λ x. p x ≡ false) xs
none_pass p xs none = λ k d here. not_counted (p (get_or xs k d)) (omega (arith, none, get_or-le-sum_by (λ x. cond (p x) 1 0) xs k d here))

and_parts : (a b : Bool) → (a && b) ≡ true → (a ≡ true) × (b ≡ true)
and_parts true b h = (refl, h)
and_parts false b h = absurd (cc)

and_false : (b : Bool) → (b && false) ≡ false
and_false true = refl
and_false false = refl

and_true : (b : Bool) → (b && true) ≡ b
and_true true = refl
and_true false = refl

true_and_false : (b : Bool) → b ≡ true → b ≡ false → ⊥
true_and_false b p q = cc

none_is : {A : Type 0} (o : Option A) → is_none o ≡ true → o ≡ None
none_is None h = refl
none_is (Some x) h = absurd (cc)

differ : (q p : ℕ) → q < p → q ≡ p → ⊥
differ q p lt e = omega arith

filter_yes : {X : Type 0} (q : X → Bool) (x : X) (xs : List X) → q x ≡ true → filter q (x ∷ xs) ≡ x ∷ filter q xs
filter_yes q x xs h = ap (λ (b : Bool). if b then x ∷ filter q xs else filter q xs) h

filter_no : {X : Type 0} (q : X → Bool) (x : X) (xs : List X) → q x ≡ false → filter q (x ∷ xs) ≡ filter q xs
filter_no q x xs h = ap (λ (b : Bool). if b then x ∷ filter q xs else filter q xs) h

empty_is : {X : Type 0} (xs : List X) → length xs ≡ 0 → xs ≡ []
empty_is [] h = refl
empty_is (x ∷ xs) h = absurd (omega (arith, h))

-- nothing is kept where nothing is counted
filter_none : {X : Type 0} (q : X → Bool) (xs : List X) → count_by q xs ≡ 0 → filter q xs ≡ []
filter_none q xs none = empty_is (filter q xs) (length-filter q xs ∙ none)

All-filter : {X : Type 0} (P : X → Type 0) (q : X → Bool) (xs : List X) → All P (filter q xs) → All (λ x. IsTrue (q x) → P x) xs
All-filter P q [] h = All-nil (λ x. IsTrue (q x) → P x)
All-filter P q (x ∷ xs) h = by_bool (q x)
    (λ passes. let here = subst (All P) (filter_yes q x xs passes) h in All-cons (λ x. IsTrue (q x) → P x) x xs (λ _. All-head P x (filter q xs) here) (All-filter P q xs (All-tail P x (filter q xs) here)))
    (λ fails. All-cons (λ x. IsTrue (q x) → P x) x xs (λ passes. absurd (true_and_false (q x) passes fails)) (All-filter P q xs (subst (All P) (filter_no q x xs fails) h)))

All-of_map : {X Y : Type 0} (P : Y → Type 0) (f : X → Y) (xs : List X) → All P (map f xs) → All (λ x. P (f x)) xs
All-of_map P f [] h = All-nil (λ x. P (f x))
All-of_map P f (x ∷ xs) h = All-cons (λ x. P (f x)) x xs (All-head P (f x) (map f xs) h) (All-of_map P f xs (All-tail P (f x) (map f xs) h))

-- ---- open transactions

open_is : (session : ℕ) (t : Transaction) → IsTrue (is_open session t) → (t.session ≡ session) × (t.recorded ≡ None)
open_is session t h = let parts = and_parts (t.session == session) (is_none t.recorded) h in (eqb-true t.session session parts.0, none_is t.recorded parts.1)

-- the only transaction of its session is the one recorded of it
the_one : (ts : List Transaction) (u : UnansweredTransaction) (rest : List UnansweredTransaction) → AreUnanswered (u ∷ rest) ts → AreOfDifferentSessions (u ∷ rest)
    → (filter (is_of u.session) rest ≡ []) × ((unanswered_of u.session ts ≡ u ∷ []) × ((count_by (is_open u.session) ts ≡ 1) × (All (λ t. IsTrue (is_open u.session t) → unanswered t ≡ u) ts)))
the_one ts u rest recorded apart =
    let s = u.session in
    let here : is_of s u ≡ true = eq-eqb s s refl in
    let alone : count_by (is_of s) rest ≡ 0 = omega (arith, apart s, sum_by-cons (λ x. cond (is_of s x) 1 0) u rest, ap {B = ℕ} (λ (b : Bool). cond b 1 0) here) in
    let none = filter_none (is_of s) rest alone in
    let is : unanswered_of s ts ≡ u ∷ [] = recorded s ∙ filter_yes (is_of s) u rest here ∙ ap (λ l. u ∷ l) none in
    let same : All (λ x. x ≡ u) (unanswered_of s ts) = subst (All (λ x. x ≡ u)) (sym is) (All-cons (λ x. x ≡ u) u [] refl (All-nil (λ x. x ≡ u))) in (
      none,
      (
        is,
        (
          sym (length-filter (is_open s) ts) ∙ sym (length-map (filter (is_open s) ts) unanswered) ∙ ap (λ (l : List UnansweredTransaction). length l) is,
          All-filter (λ t. unanswered t ≡ u) (is_open s) ts (All-of_map (λ x. x ≡ u) unanswered (filter (is_open s) ts) same),
        ),
      ),
    )

first_none : (es : List ℕ) → first_of es ≡ None → es ≡ []
first_none [] h = refl
first_none (p ∷ es) h = absurd (cc)

some_of : Option ℕ → ℕ
some_of None = 0
some_of (Some p) = p

first_some : (log : List Entry) (t : Transaction) (es : List ℕ) (place : ℕ) → HasEntries log t es → first_of es ≡ Some place → es ≡ place ∷ []
unfolding some_of
first_some log t [] place h e = absurd (cc)
first_some log t (p ∷ []) place h e = ap (λ q. q ∷ []) (ap some_of e)
first_some log t (p ∷ q ∷ es) place h e = absurd h

-- ---- ages

AgesFrom-push : (n : ℕ) (ts : List Transaction) (t : Transaction) → AgesFrom n ts → t.age ≡ n + length ts → AgesFrom n (ts ++ t ∷ [])
AgesFrom-push n [] t h e = (e ∙ add-zero n, tt)
AgesFrom-push n (x ∷ ts) t h e = (h.0, AgesFrom-push (n + 1) ts t h.1 (omega (arith, e)))

AgesFrom-map : (n : ℕ) (f : Transaction → Transaction) → ((t : Transaction) → (f t).age ≡ t.age) → (ts : List Transaction) → AgesFrom n ts → AgesFrom n (map f ts)
AgesFrom-map n f same [] h = tt
AgesFrom-map n f same (t ∷ ts) h = (same t ∙ h.0, AgesFrom-map (n + 1) f same ts h.1)

-- ---- nothing is noted

later : (n : ℕ) (ts : List Transaction) → All (λ t. t.submitted < n) ts → All (λ t. t.submitted < n + 1) ts
later n ts h = All-weaker (λ (t : Transaction). t.submitted < n) (λ (t : Transaction). t.submitted < n + 1) (λ t before. omega (arith, before)) ts h

pub Recorded-quiet : (log : List Entry) (n : ℕ) (ts : List Transaction) (admitted : ℕ) (pending : List UnansweredTransaction) → Recorded log n ts admitted pending → Recorded log (n + 1) ts admitted pending
Recorded-quiet log n ts admitted pending h = record {
  whole = h.whole;
  order = h.order;
  ages = h.ages;
  count = h.count;
  unanswered = h.unanswered;
  apart = h.apart;
  submitted = later n ts h.submitted;
}

-- ---- another order of those without an answer

all_equal : {X : Type 0} (a : X) (xs : List X) → All (λ x. x ≡ a) xs → length xs ≡ 1 → xs ≡ a ∷ []
all_equal a [] h e = absurd (omega (arith, e))
all_equal a (x ∷ []) h e = ap (λ y. y ∷ []) (All-head (λ x. x ≡ a) x [] h)
all_equal a (x ∷ y ∷ xs) h e = absurd (omega (arith, e))

All-filter_passes : {X : Type 0} (P : X → Type 0) (q : X → Bool) (xs : List X) → All (λ x. IsTrue (q x) → P x) xs → All P (filter q xs)
All-filter_passes P q [] h = All-nil P
All-filter_passes P q (x ∷ xs) h =
    let rest = All-filter_passes P q xs (All-tail (λ x. IsTrue (q x) → P x) x xs h) in
    by_bool (q x)
    (λ passes. subst (All P) (sym (filter_yes q x xs passes)) (All-cons P x (filter q xs) (All-head (λ x. IsTrue (q x) → P x) x xs h passes) rest))
    (λ fails. subst (All P) (sym (filter_no q x xs fails)) rest)

-- where at most one passes, another order gives the same
same_filter : {X : Type 0} (q : X → Bool) (xs ys fs : List X) → IsPermutation xs ys → filter q xs ≡ fs → length fs < 2 → filter q ys ≡ fs
same_filter q xs ys [] moved is few = filter_none q ys (sum_by-IsPermutation (λ x. cond (q x) 1 0) xs ys moved ∙ sym (length-filter q xs) ∙ ap length is)
same_filter q xs ys (a ∷ []) moved is few =
    let one : All (λ x. x ≡ a) (filter q xs) = subst (All (λ x. x ≡ a)) (sym is) (All-cons (λ x. x ≡ a) a [] refl (All-nil (λ x. x ≡ a))) in
    all_equal a (filter q ys) (All-filter_passes (λ x. x ≡ a) q ys (All-permutation (λ x. IsTrue (q x) → x ≡ a) xs ys moved (All-filter (λ x. x ≡ a) q xs one)))
    (length-filter q ys ∙ sum_by-IsPermutation (λ x. cond (q x) 1 0) xs ys moved ∙ sym (length-filter q xs) ∙ ap length is)
same_filter q xs ys (a ∷ b ∷ fs) moved is few = absurd (omega (arith, few))

pub Recorded-order : (log : List Entry) (n : ℕ) (ts : List Transaction) (admitted : ℕ) (pending other : List UnansweredTransaction) → IsPermutation pending other → Recorded log n ts admitted pending → Recorded log n ts admitted other
Recorded-order log n ts admitted pending other moved h = record {
  whole = h.whole;
  order = h.order;
  ages = h.ages;
  count = h.count;
  unanswered = λ s. h.unanswered s ∙ sym (same_filter (is_of s) pending other (filter (is_of s) pending) moved refl (omega (arith, length-filter (is_of s) pending, h.apart s)));
  apart = λ s. omega (arith, h.apart s, sum_by-IsPermutation (λ x. cond (is_of s x) 1 0) pending other moved);
  submitted = h.submitted;
}

-- ---- a transaction is admitted

before_none : (recorded : Option Acknowledgement) (entries : List ℕ) (b : Transaction) → b.entries ≡ [] → InOrder recorded entries b
before_none None entries b none = tt
before_none (Some recorded) entries b none = λ later'. λ k d here. subst (λ ys. All (λ y. get_or entries k d < y) ys) (sym none) (All-nil (λ y. get_or entries k d < y))

pub Recorded-admit : (log : List Entry) (n : ℕ) (ts : List Transaction) (admitted : ℕ) (pending : List UnansweredTransaction) (session number : ℕ) (request : Request)
    → count_by (is_of session) pending ≡ 0 → Recorded log n ts admitted pending
    → Recorded log (n + 1) (ts ++ opened admitted session number request n ∷ []) (admitted + 1) (new_one admitted session number request ∷ pending)
Recorded-admit log n ts admitted pending session number request none h =
    let t : Transaction = opened admitted session number request n in
    let u : UnansweredTransaction = new_one admitted session number request in
    let here_is : (session == session) ≡ true = eq-eqb session session refl in
    record {
      whole = record {
        entries = All-push (λ t. HasEntries log t t.entries) ts t h.whole.entries tt;
        recorded = All-push (λ t. IsRecorded t.entries t.recorded) ts t h.whole.recorded tt;
        once = λ place here. omega (arith, h.whole.once place here, sum_by_push (holds place) ts t);
      };
      order = All-push (λ a. All (λ b. InOrder a.recorded a.entries b) (ts ++ t ∷ [])) ts t
          (λ k d here. let a = get_or ts k d in All-push (λ b. InOrder a.recorded a.entries b) ts t (h.order k d here) (before_none a.recorded a.entries t refl))
          (λ k d here. tt);
      ages = AgesFrom-push 0 ts t h.ages (h.count ∙ sym (zero-add (length ts)));
      count = omega (arith, h.count, length-append ts (t ∷ []));
      unanswered = λ s. ⊎_elim
          (λ (same : ((session == s) ≡ true) × (session ≡ s)).
          let R : ℕ → Type 0 = λ x. unanswered_of x (ts ++ t ∷ []) ≡ filter (is_of x) (u ∷ pending) in
          let opens : is_open session t ≡ true = and_true (session == session) ∙ here_is in
          let empty : filter (is_of session) pending ≡ [] = filter_none (is_of session) pending none in
          let no_open : filter (is_open session) ts ≡ [] = empty_is (filter (is_open session) ts) (sym (length-map (filter (is_open session) ts) unanswered) ∙ ap (λ (l : List UnansweredTransaction). length l) (h.unanswered session ∙ empty)) in
          subst R same.1
          (ap (λ l. map unanswered l) (filter-append (is_open session) ts (t ∷ []) ∙ ap (λ l. l ++ filter (is_open session) (t ∷ [])) no_open ∙ filter_yes (is_open session) t [] opens)
          ∙ sym (filter_yes (is_of session) u pending here_is ∙ ap (λ l. u ∷ l) empty)))
          (λ (other : ((session == s) ≡ false) × (session ≢ s)).
          let closed : is_open s t ≡ false = and_true (session == s) ∙ other.0 in
          ap (λ l. map unanswered l) (filter-append (is_open s) ts (t ∷ []) ∙ ap (λ l. filter (is_open s) ts ++ l) (filter_no (is_open s) t [] closed) ∙ append_nil (filter (is_open s) ts))
          ∙ h.unanswered s ∙ sym (filter_no (is_of s) u pending other.0))
          (eqb_tells session s);
      apart = λ s. ⊎_elim
          (λ (same : ((session == s) ≡ true) × (session ≡ s)).
          let R : ℕ → Type 0 = λ x. count_by (is_of x) (u ∷ pending) < 2 in
          subst R same.1 (omega (arith, none, sum_by-cons (λ x. cond (is_of session x) 1 0) u pending, at_most_one (session == session))))
          (λ (other : ((session == s) ≡ false) × (session ≢ s)).
          omega (arith, h.apart s, sum_by-cons (λ x. cond (is_of s x) 1 0) u pending, ap {B = ℕ} (λ (b : Bool). cond b 1 0) other.0))
          (eqb_tells session s);
      submitted = All-push (λ (t : Transaction). t.submitted < n + 1) ts t (later n ts h.submitted) (omega arith);
    }
  where
    append_nil : {X : Type 0} (xs : List X) → xs ++ [] ≡ xs
    append_nil [] = refl
    append_nil (x ∷ xs) = ap (λ l. x ∷ l) (append_nil xs)

    at_most_one : (b : Bool) → cond b 1 0 < 2
    at_most_one true = omega arith
    at_most_one false = omega arith

-- ---- a transaction gets its entry

sum_none : {X : Type 0} (f : X → ℕ) (xs : List X) → All (λ x. f x ≡ 0) xs → sum_by f xs ≡ 0
sum_none f [] h = refl
sum_none f (x ∷ xs) h = sum_by-cons f x xs ∙ (λ i. All-head (λ x. f x ≡ 0) x xs h i + sum_none f xs (All-tail (λ x. f x ≡ 0) x xs h) i)

pub slice_get-last : (log : List Entry) (entry : Entry) → slice_get (log ++ entry ∷ []) (length log) ≡ Some entry
slice_get-last [] entry = refl
slice_get-last (x ∷ log) entry = slice_get-last log entry

pub slice_get-front : (log more : List Entry) (place : ℕ) (entry : Entry) → slice_get log place ≡ Some entry → slice_get (log ++ more) place ≡ Some entry
slice_get-front [] more place entry h = absurd (cc)
slice_get-front (x ∷ log) more zero entry h = h
slice_get-front (x ∷ log) more (suc place) entry h = slice_get-front log more place entry h

HasEntries-more : (log more : List Entry) (t : Transaction) (es : List ℕ) → HasEntries log t es → HasEntries (log ++ more) t es
HasEntries-more log more t [] h = tt
HasEntries-more log more t (place ∷ []) h = (h.0, (slice_get-front log more place h.0 h.1.0, h.1.1))
HasEntries-more log more t (place ∷ other ∷ places) h = h

-- the places of a transaction's entries are in the log
entries_below : (log : List Entry) (t : Transaction) (es : List ℕ) → HasEntries log t es → All (λ p. p < length log) es
entries_below log t [] h = All-nil (λ p. p < length log)
entries_below log t (place ∷ []) h = All-cons (λ p. p < length log) place [] (slice_get_within log place h.0 h.1.0) (All-nil (λ p. p < length log))
entries_below log t (place ∷ other ∷ places) h = absurd h

count_none : (p : ℕ) (es : List ℕ) → All (λ q. q < p) es → count_by (λ q. q == p) es ≡ 0
count_none p [] h = refl
count_none p (q ∷ es) h = sum_by-cons (λ q. cond (q == p) 1 0) q es ∙ (λ i. cond (ne_eqb q p (λ e. differ q p (All-head (λ q. q < p) q es h) e) i) 1 0 + count_none p es (All-tail (λ q. q < p) q es h) i)

nothing : (b c : Bool) → c ≡ false → ◌≡◌ {A = ℕ} (cond b (cond c 1 0) 0) 0
nothing true c e = ap {B = ℕ} (λ (v : Bool). cond v 1 0) e
nothing false c e = refl

holds-one : (place p : ℕ) (b : Bool) (es : List ℕ) → count_by (λ q. q == place) (if b then es ++ p ∷ [] else es) ≡ count_by (λ q. q == place) es + cond b (cond (p == place) 1 0) 0
holds-one place p true es = sum_by_push (λ q. cond (q == place) 1 0) es p
holds-one place p false es = sym (add-zero _)

holds-all : (session place p : ℕ) (ts : List Transaction) → sum_by (holds place) (map (with_entry session p) ts) ≡ sum_by (holds place) ts + cond (p == place) (count_by (is_open session) ts) 0
holds-all session place p [] = by_bool (p == place) (λ e. omega (arith, ap {B = ℕ} (λ (b : Bool). cond b 0 0) e)) (λ e. omega (arith, ap {B = ℕ} (λ (b : Bool). cond b 0 0) e))
holds-all session place p (t ∷ ts) =
    let one = holds-one place p (is_open session t) t.entries in
    let more = holds-all session place p ts in
    let left = sum_by-cons (holds place) (with_entry session p t) (map (with_entry session p) ts) in
    let right = sum_by-cons (holds place) t ts in
    let count = sum_by-cons (λ t. cond (is_open session t) 1 0) t ts in
    by_bool (p == place)
    (λ e. omega (arith, one, more, left, right, count, ap {B = ℕ} (λ b. cond b (count_by (is_open session) ts) 0) e, ap {B = ℕ} (λ b. cond b (count_by (is_open session) (t ∷ ts)) 0) e, ap {B = ℕ} (λ b. cond (is_open session t) (cond b 1 0) 0) e))
    (λ e. omega (arith, one, more, left, right, ap {B = ℕ} (λ b. cond b (count_by (is_open session) ts) 0) e, ap {B = ℕ} (λ b. cond b (count_by (is_open session) (t ∷ ts)) 0) e, nothing (is_open session t) (p == place) e))

before_more : (session p : ℕ) (recorded : Option Acknowledgement) (es : List ℕ) (b : Transaction) → All (λ x. x < p) es → InOrder recorded es b → InOrder recorded es (with_entry session p b)
before_more session p None es b below h = tt
before_more session p (Some recorded) es b below h = λ later'. λ k d here. by_bool (is_open session b)
    (λ open'. subst (λ ys. All (λ y. get_or es k d < y) ys) (sym (ap (λ (v : Bool). if v then b.entries ++ p ∷ [] else b.entries) open')) (All-push (λ y. get_or es k d < y) b.entries p (h later' k d here) (below k d here)))
    (λ closed. subst (λ ys. All (λ y. get_or es k d < y) ys) (sym (ap (λ (v : Bool). if v then b.entries ++ p ∷ [] else b.entries) closed)) (h later' k d here))

-- an entry of one session does not change the record of the others
other_entry : (session p s : ℕ) → session ≢ s → (ts : List Transaction) → unanswered_of s (map (with_entry session p) ts) ≡ unanswered_of s ts
other_entry session p s apart [] = refl
other_entry session p s apart (t ∷ ts) =
    let f = with_entry session p in
    let rest = other_entry session p s apart ts in
    by_bool (is_open s t)
    (λ open'.
    let closed : is_open session t ≡ false = by_bool (is_open session t) (λ both. absurd (apart (sym (open_is session t both).0 ∙ (open_is s t open').0))) (λ no'. no') in
    let kept : unanswered (f t) ≡ unanswered t = ap (λ (b : Bool). unanswered (record t { entries = if b then t.entries ++ p ∷ [] else t.entries })) closed in
    ap (map unanswered) (filter_yes (is_open s) (f t) (map f ts) open') ∙ (λ i. kept i ∷ rest i) ∙ sym (ap (map unanswered) (filter_yes (is_open s) t ts open')))
    (λ closed. ap (map unanswered) (filter_no (is_open s) (f t) (map f ts) closed) ∙ rest ∙ sym (ap (map unanswered) (filter_no (is_open s) t ts closed)))

-- and is the one of its own
own_entry : (session p : ℕ) (ts : List Transaction) → All (λ t. IsTrue (is_open session t) → t.entries ≡ []) ts
    → unanswered_of session (map (with_entry session p) ts) ≡ map (with_place p) (unanswered_of session ts)
own_entry session p [] h = refl
own_entry session p (t ∷ ts) h =
    let f = with_entry session p in
    let P : Transaction → Type 0 = λ t. IsTrue (is_open session t) → t.entries ≡ [] in
    let rest = own_entry session p ts (All-tail P t ts h) in
    by_bool (is_open session t)
    (λ open'.
    let given : unanswered (f t) ≡ with_place p (unanswered t) =
    ap (λ (b : Bool). unanswered (record t { entries = if b then t.entries ++ p ∷ [] else t.entries })) open'
    ∙ ap (λ (es : List ℕ). unanswered (record t { entries = es ++ p ∷ [] })) (All-head P t ts h open') in
    ap (map unanswered) (filter_yes (is_open session) (f t) (map f ts) open') ∙ (λ i. given i ∷ rest i)
    ∙ sym (ap (λ l. map (with_place p) (map unanswered l)) (filter_yes (is_open session) t ts open')))
    (λ closed. ap (map unanswered) (filter_no (is_open session) (f t) (map f ts) closed) ∙ rest
    ∙ sym (ap (λ l. map (with_place p) (map unanswered l)) (filter_no (is_open session) t ts closed)))

pub Recorded-entry : (log : List Entry) (n : ℕ) (ts : List Transaction) (admitted : ℕ) (u : UnansweredTransaction) (pending : List UnansweredTransaction) (entry : Entry)
    → entry.session ≡ u.session → entry.number ≡ u.number → entry.request ≡ u.request → u.entry ≡ None → Recorded log n ts admitted (u ∷ pending)
    → Recorded (log ++ entry ∷ []) (n + 1) (map (with_entry u.session (length log)) ts) admitted (with_place (length log) u ∷ pending)
Recorded-entry log n ts admitted u pending entry session_is number_is request_is none h =
    let s = u.session in
    let p = length log in
    let more = log ++ entry ∷ [] in
    let f = with_entry s p in
    let v = with_place p u in
    let one = the_one ts u pending h.unanswered h.apart in
    let is_u = one.1.1.1 in
    let here : is_of s u ≡ true = eq-eqb s s refl in
    let empty : All (λ t. IsTrue (is_open s t) → t.entries ≡ []) ts = λ k d in' open'. first_none (get_or ts k d).entries (ap (λ (x : UnansweredTransaction). x.entry) (is_u k d in' open') ∙ none) in
    let given : (t : Transaction) → is_open s t ≡ true → t.entries ≡ [] → (f t).entries ≡ p ∷ [] = λ t open' no_entry. ap (λ (v : Bool). if v then t.entries ++ p ∷ [] else t.entries) open' ∙ ap (λ es. es ++ p ∷ []) no_entry in
    let kept : (t : Transaction) → is_open s t ≡ false → (f t).entries ≡ t.entries = λ t closed. ap (λ (v : Bool). if v then t.entries ++ p ∷ [] else t.entries) closed in
    let last = slice_get-last log entry in
    record {
      whole = record {
        entries = All-map (λ t. HasEntries more t t.entries) f ts (λ k d in'. let t = get_or ts k d in by_bool (is_open s t)
            (λ open'. let is = is_u k d in' open' in
            subst (λ es. HasEntries more t es) (sym (given t open' (empty k d in' open')))
            (entry, (last, (session_is ∙ sym (open_is s t open').0, (number_is ∙ sym (ap (λ (x : UnansweredTransaction). x.number) is), request_is ∙ sym (ap (λ (x : UnansweredTransaction). x.request) is))))))
            (λ closed. subst (λ es. HasEntries more t es) (sym (kept t closed)) (HasEntries-more log (entry ∷ []) t t.entries (h.whole.entries k d in'))));
        recorded = All-map (λ t. IsRecorded t.entries t.recorded) f ts (λ k d in'. let t = get_or ts k d in by_bool (is_open s t)
            (λ open'. subst (λ recorded. IsRecorded (f t).entries recorded) (sym (open_is s t open').1) tt)
            (λ closed. subst (λ es. IsRecorded es t.recorded) (sym (kept t closed)) (h.whole.recorded k d in')));
        once = λ place below. ⊎_elim
            (λ (same : ((p == place) ≡ true) × (p ≡ place)).
            let nowhere : sum_by (holds p) ts ≡ 0 = sum_none (holds p) ts (λ k d in'. count_none p (get_or ts k d).entries (entries_below log (get_or ts k d) (get_or ts k d).entries (h.whole.entries k d in'))) in
            let R : ℕ → Type 0 = λ q. sum_by (holds q) (map f ts) ≡ 1 in
            subst R same.1 (holds-all s p p ts ∙ ap {B = ℕ} (λ b. sum_by (holds p) ts + cond b (count_by (is_open s) ts) 0) (eq-eqb p p refl) ∙ omega (arith, nowhere, one.1.1.0)))
            (λ (other : ((p == place) ≡ false) × (p ≢ place)).
            holds-all s place p ts ∙ ap {B = ℕ} (λ b. sum_by (holds place) ts + cond b (count_by (is_open s) ts) 0) other.0 ∙ add-zero _ ∙ h.whole.once place (omega (arith, below, other.1, length-append log (entry ∷ []))))
            (eqb_tells p place);
      };
      order = All-map (λ a. All (λ b. InOrder a.recorded a.entries b) (map f ts)) f ts (λ k d in'. let a = get_or ts k d in by_bool (is_open s a)
          (λ open'. subst (λ recorded. All (λ b. InOrder recorded (f a).entries b) (map f ts)) (sym (open_is s a open').1) (λ j e at. tt))
          (λ closed. subst (λ es. All (λ b. InOrder a.recorded es b) (map f ts)) (sym (kept a closed)) (All-map (λ b. InOrder a.recorded a.entries b) f ts (λ j e at. before_more s p a.recorded a.entries (get_or ts j e) (entries_below log a a.entries (h.whole.entries k d in')) (h.order k d in' j e at)))));
      ages = AgesFrom-map 0 f (λ t. refl) ts h.ages;
      count = h.count ∙ sym (length-map ts f);
      unanswered = λ x. ⊎_elim
          (λ (same : ((s == x) ≡ true) × (s ≡ x)).
          let R : ℕ → Type 0 = λ x. unanswered_of x (map f ts) ≡ filter (is_of x) (v ∷ pending) in
          subst R same.1 (own_entry s p ts empty ∙ ap (map (with_place p)) one.1.0 ∙ sym (filter_yes (is_of s) v pending here ∙ ap (λ l. v ∷ l) one.0)))
          (λ (other : ((s == x) ≡ false) × (s ≢ x)).
          other_entry s p x other.1 ts ∙ h.unanswered x ∙ filter_no (is_of x) u pending other.0 ∙ sym (filter_no (is_of x) v pending other.0))
          (eqb_tells s x);
      apart = λ x. omega (arith, h.apart x, sum_by-cons (λ y. cond (is_of x y) 1 0) u pending, sum_by-cons (λ y. cond (is_of x y) 1 0) v pending);
      submitted = All-map (λ (t : Transaction). t.submitted < n + 1) f ts (later n ts h.submitted);
    }

-- ---- a transaction is answered

sum_by-map_same : {X : Type 0} (q : X → ℕ) (f : X → X) → ((x : X) → q (f x) ≡ q x) → (xs : List X) → sum_by q (map f xs) ≡ sum_by q xs
sum_by-map_same q f same [] = refl
sum_by-map_same q f same (x ∷ xs) = sum_by-cons q (f x) (map f xs) ∙ (λ i. same x i + sum_by-map_same q f same xs i) ∙ sym (sum_by-cons q x xs)

same_order : (recorded : Option Acknowledgement) (es : List ℕ) (b c : Transaction) → c.submitted ≡ b.submitted → c.entries ≡ b.entries → InOrder recorded es b → InOrder recorded es c
same_order None es b c s e h = tt
same_order (Some recorded) es b c s e h = λ later'. subst (λ ys. Precedes es ys) (sym e) (h (subst (λ n. recorded.at < n) s later'))

-- the answer that is recorded now
recorded_now : ℕ → Result ℕ Refusal → Option Acknowledgement
recorded_now at answer = Some (record { at = at; answer = answer })

-- an answer leaves the open transactions of other sessions
other_open : (session x n : ℕ) (answer : Result ℕ Refusal) → session ≢ x → (t : Transaction) → is_open x (with_answer session n answer t) ≡ is_open x t
unfolding recorded_now
other_open session x n answer apart t = by_bool (is_open session t)
    (λ open'. let not_x : (t.session == x) ≡ false = ne_eqb t.session x (λ e. apart (sym (open_is session t open').0 ∙ e)) in ap (λ (b : Bool). b && is_none (if is_open session t then recorded_now n answer else t.recorded)) not_x ∙ sym (ap (λ (b : Bool). b && is_none t.recorded) not_x))
    (λ closed. ap (λ (b : Bool). (t.session == x) && is_none (if b then recorded_now n answer else t.recorded)) closed)

-- and closes the session's own
closed_one : (session n : ℕ) (answer : Result ℕ Refusal) (t : Transaction) → is_open session (with_answer session n answer t) ≡ false
unfolding recorded_now
closed_one session n answer t = by_bool (is_open session t)
    (λ open'. ap (λ (b : Bool). (t.session == session) && is_none (if b then recorded_now n answer else t.recorded)) open' ∙ and_false (t.session == session))
    (λ closed. ap (λ (b : Bool). (t.session == session) && is_none (if b then recorded_now n answer else t.recorded)) closed ∙ closed)

other_answer : (session x n : ℕ) (answer : Result ℕ Refusal) → session ≢ x → (ts : List Transaction) → unanswered_of x (map (with_answer session n answer) ts) ≡ unanswered_of x ts
other_answer session x n answer apart [] = refl
other_answer session x n answer apart (t ∷ ts) =
    let g = with_answer session n answer in
    let rest = other_answer session x n answer apart ts in
    let same = other_open session x n answer apart t in
    by_bool (is_open x t)
    (λ open'. ap (map unanswered) (filter_yes (is_open x) (g t) (map g ts) (same ∙ open')) ∙ ap (λ l. unanswered t ∷ l) rest ∙ sym (ap (map unanswered) (filter_yes (is_open x) t ts open')))
    (λ closed. ap (map unanswered) (filter_no (is_open x) (g t) (map g ts) (same ∙ closed)) ∙ rest ∙ sym (ap (map unanswered) (filter_no (is_open x) t ts closed)))

own_answer : (session n : ℕ) (answer : Result ℕ Refusal) (ts : List Transaction) → unanswered_of session (map (with_answer session n answer) ts) ≡ []
own_answer session n answer [] = refl
own_answer session n answer (t ∷ ts) =
    let g = with_answer session n answer in
    ap (map unanswered) (filter_no (is_open session) (g t) (map g ts) (closed_one session n answer t)) ∙ own_answer session n answer ts

answered_so : (log : List Entry) (t : Transaction) (u : UnansweredTransaction) (answer : Result ℕ Refusal) → HasEntries log t t.entries → first_of t.entries ≡ u.entry → IsAnswerTo u answer → IsAnswerOf t.entries answer
answered_so log t u (Ok place) has is h = first_some log t t.entries place has (is ∙ h)
answered_so log t u (Err refusal) has is h = first_none t.entries (is ∙ h)

-- where the only open transaction of a session has an entry, that is in the log
open_entry : (log : List Entry) (u : UnansweredTransaction) (place : ℕ) (ts : List Transaction) → All (λ t. HasEntries log t t.entries) ts → unanswered_of u.session ts ≡ u ∷ []
    → u.entry ≡ Some place → place < length log
open_entry log u place [] has is at = absurd cc
open_entry log u place (t ∷ ts) has is at =
    let s = u.session in
    by_bool (is_open s t)
    (λ open'.
    let first : unanswered t ∷ map unanswered (filter (is_open s) ts) ≡ u ∷ [] = ap (map unanswered) (sym (filter_yes (is_open s) t ts open')) ∙ is in
    let same : unanswered t ≡ u = cc in
    let own = All-head (λ t. HasEntries log t t.entries) t ts has in
    let only : t.entries ≡ place ∷ [] = first_some log t t.entries place own (ap (λ (x : UnansweredTransaction). x.entry) same ∙ at) in
    All-head (λ p. p < length log) place [] (subst (All (λ p. p < length log)) only (entries_below log t t.entries own)))
    (λ closed. open_entry log u place ts (All-tail (λ t. HasEntries log t t.entries) t ts has) (ap (map unanswered) (sym (filter_no (is_open s) t ts closed)) ∙ is) at)

-- an answer to an open transaction names no place that the log lacks
pub answer_below : (log : List Entry) (n : ℕ) (ts : List Transaction) (admitted : ℕ) (u : UnansweredTransaction) (pending : List UnansweredTransaction) (session number : ℕ) (answer : Result ℕ Refusal)
    → IsAnswerTo u answer → Recorded log n ts admitted (u ∷ pending) → IsLoggedBelow (length log) (Answered session number answer)
answer_below log n ts admitted u pending session number (Ok place) is h =
    open_entry log u place ts h.whole.entries (the_one ts u pending h.unanswered h.apart).1.0 is
answer_below log n ts admitted u pending session number (Err refusal) is h = tt

pub Recorded-answer : (log : List Entry) (n : ℕ) (ts : List Transaction) (admitted : ℕ) (u : UnansweredTransaction) (pending : List UnansweredTransaction) (answer : Result ℕ Refusal)
    → IsAnswerTo u answer → Recorded log n ts admitted (u ∷ pending)
    → Recorded log (n + 1) (map (with_answer u.session n answer) ts) admitted pending
unfolding recorded_now
Recorded-answer log n ts admitted u pending answer answers h =
    let s = u.session in
    let g = with_answer s n answer in
    let one = the_one ts u pending h.unanswered h.apart in
    let is_u = one.1.1.1 in
    record {
      whole = record {
        entries = All-map (λ t. HasEntries log t t.entries) g ts h.whole.entries;
        recorded = All-map (λ t. IsRecorded t.entries t.recorded) g ts (λ k d in'. let t = get_or ts k d in by_bool (is_open s t)
            (λ open'. subst (λ recorded. IsRecorded t.entries recorded) (sym (ap (λ (b : Bool). if b then recorded_now n answer else t.recorded) open')) (answered_so log t u answer (h.whole.entries k d in') (ap (λ (x : UnansweredTransaction). x.entry) (is_u k d in' open')) answers))
            (λ closed. subst (λ recorded. IsRecorded t.entries recorded) (sym (ap (λ (b : Bool). if b then recorded_now n answer else t.recorded) closed)) (h.whole.recorded k d in')));
        once = λ place below. sum_by-map_same (holds place) g (λ t. refl) ts ∙ h.whole.once place below;
      };
      order = All-map (λ a. All (λ b. InOrder a.recorded a.entries b) (map g ts)) g ts (λ k d in'. let a = get_or ts k d in by_bool (is_open s a)
          (λ open'. subst (λ recorded. All (λ b. InOrder recorded a.entries b) (map g ts)) (sym (ap (λ (b : Bool). if b then recorded_now n answer else a.recorded) open')) (All-map (λ b. InOrder (recorded_now n answer) a.entries b) g ts (λ j e at later'. absurd (omega (arith, later', h.submitted j e at)))))
          (λ closed. subst (λ recorded. All (λ b. InOrder recorded a.entries b) (map g ts)) (sym (ap (λ (b : Bool). if b then recorded_now n answer else a.recorded) closed)) (All-map (λ b. InOrder a.recorded a.entries b) g ts (λ j e at. same_order a.recorded a.entries (get_or ts j e) (g (get_or ts j e)) refl refl (h.order k d in' j e at)))));
      ages = AgesFrom-map 0 g (λ t. refl) ts h.ages;
      count = h.count ∙ sym (length-map ts g);
      unanswered = λ x. ⊎_elim
          (λ (same : ((s == x) ≡ true) × (s ≡ x)).
          let R : ℕ → Type 0 = λ x. unanswered_of x (map g ts) ≡ filter (is_of x) pending in
          subst R same.1 (own_answer s n answer ts ∙ sym one.0))
          (λ (other : ((s == x) ≡ false) × (s ≢ x)).
          other_answer s x n answer other.1 ts ∙ h.unanswered x ∙ filter_no (is_of x) u pending other.0)
          (eqb_tells s x);
      apart = λ x. omega (arith, h.apart x, sum_by-cons (λ y. cond (is_of x y) 1 0) u pending);
      submitted = All-map (λ (t : Transaction). t.submitted < n + 1) g ts (later n ts h.submitted);
    }
