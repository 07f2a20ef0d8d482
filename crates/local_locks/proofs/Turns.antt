-- Whose turn it is, after one more of the waiting actions was looked at.
use Rattle.std.proofs.Common.{◌≡◌, ◌≢◌, ◌⊎◌, ℕ, ◌+◌, ◌<◌, Bool, true, false, List, [], ◌∷◌, ◌++◌, Option, Some, None, length, get_or, take, eqb, ltb, ◌||◌, ◌&&◌, inl, inr, refl, sym, ap, subst, ◌∙◌, ⊎_elim, arith}
use Rattle.std.specs.Prelude.{All, MatchOption, if◌then◌else◌}
use Rattle.std.specs.List.{flat_map}
use Rattle.std.proofs.lemmas.List.{take_more, length-take-le, length-append, get_or_append_left}
use Rattle.std.proofs.Math.Seq.{get_or-append_seam}
use Rattle.std.proofs.lemmas.List.Elements.{All-push, All-weaker}
use Rattle.wait_die.specs.declared.deciding.Holder.{Holder}
use Rattle.local_locks.specs.declared.rulings.Ruling.{Ruling}
use Rattle.local_locks.specs.declared.rulings.Ruling.TheVariants.{Free, Waits, Dies}
use Rattle.local_locks.specs.declared.waiting.Next.{Next}
use Rattle.local_locks.specs.Asking.{IsBefore}
use Rattle.local_locks.specs.Locks.{LockView, WaiterView}
use Rattle.local_locks.specs.Rulings.{IsRuling, spots_of}
use Rattle.local_locks.specs.Turns.{StaysParked, StaysIfBefore, IsNext, is_before, chosen, sooner}

-- ---- the order of turns

before_itself : (a : Holder) → IsBefore a a → ⊥
before_itself a before = ⊎_elim (λ (older : a.age < a.age). omega (arith, older)) (λ (same : (a.age ≡ a.age) × (a.place < a.place)). omega (arith, same.1)) before

before_both : (a b c : Holder) → IsBefore a b → IsBefore b c → IsBefore a c
before_both a b c first second =
    ⊎_elim
    (λ (older : a.age < b.age). ⊎_elim (λ (h : b.age < c.age). inl (omega (arith, older, h))) (λ (h : (b.age ≡ c.age) × (b.place < c.place)). inl (omega (arith, older, h.0))) second)
    (λ (same : (a.age ≡ b.age) × (a.place < b.place)).
    ⊎_elim (λ (h : b.age < c.age). inl (omega (arith, same.0, h))) (λ (h : (b.age ≡ c.age) × (b.place < c.place)). inr (omega (arith, same.0, h.0), omega (arith, same.1, h.1))) second)
    first

records_before : (a b : Holder) → is_before a b ≡ true → IsBefore a b
records_before a b is = before_by a.age b.age a.place b.place is
  where
    before_by : (m n p q : ℕ) → (ltb m n || (eqb m n && ltb p q)) ≡ true → (m < n) ⊎ ((m ≡ n) × (p < q))
    before_by m n p q is = grind arith

records_not_before : (a b : Holder) → is_before a b ≡ false → IsBefore a b → ⊥
records_not_before a b isnt before =
    ⊎_elim (λ (older : a.age < b.age). older_not a.age b.age a.place b.place isnt older) (λ (same : (a.age ≡ b.age) × (a.place < b.place)). same_not a.age b.age a.place b.place isnt same.0 same.1) before
  where
    older_not : (m n p q : ℕ) → (ltb m n || (eqb m n && ltb p q)) ≡ false → m < n → ⊥
    older_not m n p q isnt older = grind arith

    same_not : (m n p q : ℕ) → (ltb m n || (eqb m n && ltb p q)) ≡ false → m ≡ n → p < q → ⊥
    same_not m n p q isnt same lesser = grind arith

-- ---- one more of the waiting actions

-- the action found before one more was looked at
still_next : (locks : List LockView) (xs : List WaiterView) (p : WaiterView) (next : Next) → IsNext locks xs next → StaysIfBefore locks next.by p → IsNext locks (xs ++ p ∷ []) next
still_next locks xs p next is last = record {
  inside = omega (arith, is.inside, length-append xs (p ∷ []));
  by = λ d. ap (λ (q : WaiterView). q.by) (same d) ∙ is.by d;
  said = λ d. subst (λ (q : WaiterView). IsRuling next.by.age locks (flat_map spots_of q.wants) next.ruling) (sym (same d)) (is.said d);
  over = is.over;
  first = All-push (StaysIfBefore locks next.by) xs p is.first last;
}
  where
    same : (d : WaiterView) → get_or (xs ++ p ∷ []) next.index d ≡ get_or xs next.index d
    same d = get_or_append_left xs (p ∷ []) d next.index is.inside

-- the one that was looked at last
last_next : (locks : List LockView) (xs : List WaiterView) (p : WaiterView) (next : Next) → next.index ≡ length xs → next.by ≡ p.by → IsRuling p.by.age locks (flat_map spots_of p.wants) next.ruling → next.ruling ≢ Waits
    → All (StaysIfBefore locks p.by) xs → IsNext locks (xs ++ p ∷ []) next
last_next locks xs p next at by said over first = record {
  inside = omega (arith, at, length-append xs (p ∷ []));
  by = λ d. ap (λ (q : WaiterView). q.by) (there d) ∙ sym by;
  said = λ d. subst (λ (q : WaiterView). IsRuling next.by.age locks (flat_map spots_of q.wants) next.ruling) (sym (there d)) (subst (λ (h : Holder). IsRuling h.age locks (flat_map spots_of p.wants) next.ruling) (sym by) said);
  over = over;
  first = subst (λ (h : Holder). All (StaysIfBefore locks h) (xs ++ p ∷ [])) (sym by) (All-push (StaysIfBefore locks p.by) xs p first (λ before. absurd (before_itself p.by before)));
}
  where
    there : (d : WaiterView) → get_or (xs ++ p ∷ []) next.index d ≡ p
    there d = ap (λ n. get_or (xs ++ p ∷ []) n d) at ∙ get_or-append_seam xs p [] d

abbrev IsFound : List LockView → List WaiterView → Option Next → Type 0
IsFound locks xs found = MatchOption found (All (StaysParked locks) xs) (IsNext locks xs)

-- it needn't wait
over_pushed : (locks : List LockView) (xs : List WaiterView) (p : WaiterView) (this : Next) → this.index ≡ length xs → this.by ≡ p.by → IsRuling p.by.age locks (flat_map spots_of p.wants) this.ruling → this.ruling ≢ Waits
    → (other : Next) → IsNext locks xs other → (test : Bool) → is_before this.by other.by ≡ test → IsFound locks (xs ++ p ∷ []) (if test then Some this else Some other)
over_pushed locks xs p this at by said over other is true before =
    let first : IsBefore p.by other.by = subst (λ (h : Holder). IsBefore h other.by) by (records_before this.by other.by before) in
    last_next locks xs p this at by said over
    (All-weaker (StaysIfBefore locks other.by) (StaysIfBefore locks p.by) (λ q stays sooner. stays (before_both q.by p.by other.by sooner first)) xs is.first)
over_pushed locks xs p this at by said over other is false before =
    still_next locks xs p other is (λ sooner. absurd (records_not_before this.by other.by before (subst (λ (h : Holder). IsBefore h other.by) (sym by) sooner)))

pushed_by : (locks : List LockView) (xs : List WaiterView) (p : WaiterView) (found : Option Next) (this : Next) (ruling : Ruling) → this.ruling ≡ ruling → IsFound locks xs found → this.index ≡ length xs → this.by ≡ p.by
    → IsRuling p.by.age locks (flat_map spots_of p.wants) ruling → IsFound locks (xs ++ p ∷ []) (chosen found this ruling)
pushed_by locks xs p None this Waits same found at by said = All-push (StaysParked locks) xs p found said
pushed_by locks xs p (Some other) this Waits same found at by said = still_next locks xs p other found (λ _. said)
pushed_by locks xs p None this Free same found at by said =
    last_next locks xs p this at by (subst (λ r. IsRuling p.by.age locks (flat_map spots_of p.wants) r) (sym same) said) (λ waits. free_waits (sym same ∙ waits))
    (All-weaker (StaysParked locks) (StaysIfBefore locks p.by) (λ q stays _. stays) xs found)
  where
    free_waits : Free ≡ Waits → ⊥
    free_waits e = cc
pushed_by locks xs p None this (Dies n o) same found at by said =
    last_next locks xs p this at by (subst (λ r. IsRuling p.by.age locks (flat_map spots_of p.wants) r) (sym same) said) (λ waits. dies_waits (sym same ∙ waits))
    (All-weaker (StaysParked locks) (StaysIfBefore locks p.by) (λ q stays _. stays) xs found)
  where
    dies_waits : Dies n o ≡ Waits → ⊥
    dies_waits e = cc
pushed_by locks xs p (Some other) this Free same found at by said =
    over_pushed locks xs p this at by (subst (λ r. IsRuling p.by.age locks (flat_map spots_of p.wants) r) (sym same) said) (λ waits. free_waits (sym same ∙ waits)) other found (is_before this.by other.by) refl
  where
    free_waits : Free ≡ Waits → ⊥
    free_waits e = cc
pushed_by locks xs p (Some other) this (Dies n o) same found at by said =
    over_pushed locks xs p this at by (subst (λ r. IsRuling p.by.age locks (flat_map spots_of p.wants) r) (sym same) said) (λ waits. dies_waits (sym same ∙ waits)) other found (is_before this.by other.by) refl
  where
    dies_waits : Dies n o ≡ Waits → ⊥
    dies_waits e = cc

pub next_walked : (locks : List LockView) (xs : List WaiterView) (i : ℕ) (p : WaiterView) (found : Option Next) (this : Next) → i < length xs → p ≡ get_or xs i p → IsFound locks (take i xs) found → this.index ≡ i → this.by ≡ p.by
    → IsRuling p.by.age locks (flat_map spots_of p.wants) this.ruling → IsFound locks (take (i + 1) xs) (sooner found this)
next_walked locks xs i p found this small is so_far at by said =
    let more : take (i + 1) xs ≡ take i xs ++ p ∷ [] = take_more xs i p small ∙ ap (λ (q : WaiterView). take i xs ++ q ∷ []) (sym is) in
    let long : length (take i xs) ≡ i = length-take-le i xs (omega (arith, small)) in
    subst (λ (ys : List WaiterView). IsFound locks ys (sooner found this)) (sym more) (pushed_by locks (take i xs) p found this this.ruling refl so_far (at ∙ sym long) by said)
