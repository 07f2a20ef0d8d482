-- The ages of the active transactions, as one of them goes on and as one is admitted.
use Rattle.std.proofs.Common.{◌≡◌, ◌⊎◌, inl, inr, ℕ, ◌+◌, ◌<◌, ◌==◌, List, Option, Some, None, sym, ◌∙◌, ap, subst, cond, arith}
use Rattle.std.specs.Prelude.{replicate, slice_set, zero, suc}
use Rattle.std.specs.List.{slice_get}
use Rattle.std.proofs.lemmas.Map.Views.{exact_unsigned_eq}
use Rattle.world.specs.declared.desk.Active.{Active}
use Rattle.world.specs.Sound.{ActiveTransactions, HaveTheirAges, ActiveTransaction}
use Rattle.world.proofs.ActiveTransactions.{transaction_on}
use Rattle.world.proofs.Reported.{put_at}
use Rattle.world.proofs.Tokens.{by_bool}

module _ {J : Type 0} where
  -- the transaction in the slot has come as far as it likes, and is as old as it was
  pub ages_on : (at : ActiveTransactions) (admitted slot : ℕ) (slots : List (Option (Active J))) (u : ActiveTransaction) → ((x : Active J) → slice_get slots slot ≡ Some (Some x) → u.age ≡ (at slot).age)
      → HaveTheirAges at admitted slots → HaveTheirAges (transaction_on at slot u) admitted slots
  ages_on at admitted slot slots u same h = record {
    before = λ m a is. omega (arith, still m a is, h.before m a is);
    apart = λ m n a b is there alike. h.apart m n a b is there (sym (still m a is) ∙ alike ∙ still n b there);
  }
    where
      still : (m : ℕ) (a : Active J) → slice_get slots m ≡ Some (Some a) → (transaction_on at slot u m).age ≡ (at m).age
      still m a is =
          by_bool (slot == m)
          (λ here.
          let own : slot ≡ m = exact_unsigned_eq slot m here in
          ap {B = ℕ} (λ b. (cond b u (at m)).age) here ∙ same a (subst (λ n. slice_get slots n ≡ Some (Some a)) (sym own) is) ∙ ap (λ n. (at n).age) own)
          (λ other. ap {B = ℕ} (λ b. (cond b u (at m)).age) other)

  -- where the transaction in the slot goes on, or is over
  pub ages_then : (at : ActiveTransactions) (admitted slot : ℕ) (slots : List (Option (Active J))) (a : Option (Active J)) (x : Active J) → slice_get slots slot ≡ Some (Some x)
      → HaveTheirAges at admitted slots → HaveTheirAges at admitted (slice_set slots slot a)
  ages_then at admitted slot slots a x there h = record {
    before = λ m b is. let was = stood m b is in h.before m was.0 was.1;
    apart = λ m n b c is other alike. let was = stood m b is in let one = stood n c other in h.apart m n was.0 one.0 was.1 one.1 alike;
  }
    where
      stood : (m : ℕ) (b : Active J) → slice_get (slice_set slots slot a) m ≡ Some (Some b) → (y : Active J) × (slice_get slots m ≡ Some (Some y))
      stood m b is = by (put_at slots slot m a (Some b) is)
        where
          by : ((m ≡ slot) × (a ≡ Some b)) ⊎ (slice_get slots m ≡ Some (Some b)) → (y : Active J) × (slice_get slots m ≡ Some (Some y))
          by (inl put) = (x, subst (λ n. slice_get slots n ≡ Some (Some x)) (sym put.0) there)
          by (inr is) = (b, is)

  -- one more transaction is admitted, with the next age
  pub ages_admitted : (at : ActiveTransactions) (admitted slot : ℕ) (slots : List (Option (Active J))) (begun : Active J) → (at slot).age ≡ admitted
      → HaveTheirAges at admitted slots → HaveTheirAges at (admitted + 1) (slice_set slots slot (Some begun))
  ages_admitted at admitted slot slots begun age h = record {
    before = λ m b is. first m b (put_at slots slot m (Some begun) (Some b) is);
    apart = λ m n b c is other alike. both m n b c alike (put_at slots slot m (Some begun) (Some b) is) (put_at slots slot n (Some begun) (Some c) other);
  }
    where
      At : ℕ → Active J → Type 0
      At m b = ((m ≡ slot) × (Some begun ≡ Some b)) ⊎ (slice_get slots m ≡ Some (Some b))

      first : (m : ℕ) (b : Active J) → At m b → (at m).age < admitted + 1
      first m b (inl put) = omega (arith, age, ap (λ n. (at n).age) put.0)
      first m b (inr is) = omega (arith, h.before m b is)

      both : (m n : ℕ) (b c : Active J) → (at m).age ≡ (at n).age → At m b → At n c → m ≡ n
      both m n b c alike (inl put) (inl other) = put.0 ∙ sym other.0
      both m n b c alike (inl put) (inr is) = absurd (omega (arith, alike, age, ap (λ k. (at k).age) put.0, h.before n c is))
      both m n b c alike (inr is) (inl put) = absurd (omega (arith, alike, age, ap (λ k. (at k).age) put.0, h.before m b is))
      both m n b c alike (inr is) (inr other) = h.apart m n b c is other alike

  -- where no slot is taken
  none_there : (n m : ℕ) (a : Active J) → slice_get (replicate n None) m ≡ Some (Some a) → ⊥
  none_there zero m a is = absurd (cc)
  none_there (suc n) zero a is = absurd (cc)
  none_there (suc n) (suc m) a is = none_there n m a is

  pub no_ages : (at : ActiveTransactions) (admitted n : ℕ) → HaveTheirAges {J = J} at admitted (replicate n None)
  no_ages at admitted n = record { before = λ m a is. absurd (none_there n m a is); apart = λ m k a b is there alike. absurd (none_there n m a is) }
