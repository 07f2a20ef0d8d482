-- The result of an audit of all desks so far.
use Rattle.std.proofs.Common.{◌≡◌, ℕ, ◌+◌, ◌<◌, Bool, true, false, List, length, subst, below_more}
use Rattle.std.specs.Prelude.{IsTrue, ◌&&◌}
use Rattle.queues.specs.Desks.{DeskView}

-- both are true
pub both_true : (a b : Bool) → IsTrue (a && b) → IsTrue a × IsTrue b
both_true true true h = (h, h)
both_true true false h = absurd cc
both_true false b h = absurd cc

module _ {T : Type 0} (P : List (DeskView T) → ℕ → ℕ → Type 0) (desks now : List (DeskView T)) where
  -- of one taker and the senders below a number it is known, and of the next sender too, of desks that stayed as they were
  pub one_more_sender : (taker sender : ℕ) → now ≡ desks → ((k : ℕ) → k < sender → P desks taker k) → P now taker sender → (k : ℕ) → k < sender + 1 → P desks taker k
  one_more_sender taker sender same before next = below_more (λ k. P desks taker k) sender before (subst (λ (l : List (DeskView T)). P l taker sender) same next)

  -- of the takers below a number and all senders it is known, and of the next taker too
  pub one_more_taker : (taker : ℕ) → now ≡ desks → ((t s : ℕ) → t < taker → s < length desks → P desks t s) → ((s : ℕ) → s < length now → P now taker s) → (t s : ℕ) → t < taker + 1 → s < length desks → P desks t s
  one_more_taker taker same before next t s low =
      below_more (λ (t : ℕ). (s : ℕ) → s < length desks → P desks t s) taker (λ t low s. before t s low) (subst (λ (l : List (DeskView T)). (s : ℕ) → s < length l → P l taker s) same next) t low s
