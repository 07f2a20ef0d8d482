-- Takers, senders and desks that are made one by one.
use Rattle.std.proofs.Common.{◌≡◌, ◌≢◌, ℕ, zero, suc, ◌+◌, ◌<◌, ◌≤◌, List, [], ◌∷◌, length, set, refl, sym, ap, ◌∙◌, ⊎_elim, arith}
use Rattle.std.specs.Prelude.{Some, slice_get, replicate}
use Rattle.atomic_table.specs.Seated.{TableId}
use Rattle.queues.specs.Ends.{SenderView, TakerView, sending, taking}
use Rattle.queues.specs.Desks.{AreSendersOf, IsDeskOf, put_by, at_desk, new_desk}
use Rattle.queues.proofs.Lists.{at_set}

module _ {T : Type 0} where
  -- new senders have put nothing
  nothing_put : (senders : List (SenderView T)) (n : ℕ) → length senders ≡ n → ((k : ℕ) (s : SenderView T) → slice_get senders k ≡ Some s → s.put ≡ []) → put_by senders ≡ replicate n []
  nothing_put [] zero long each = refl
  nothing_put [] (suc n) long each = absurd (omega (arith, long))
  nothing_put (x ∷ xs) zero long each = absurd (omega (arith, long))
  nothing_put (x ∷ xs) (suc n) long each = λ i. each 0 x refl i ∷ nothing_put xs n (omega (arith, long)) (λ k s e. each (suc k) s e) i

  -- a new sender of each inbox, with the taker of the inbox of that number, are a desk
  pub new_is_desk : (inboxes : ℕ) (inbox : ℕ → TableId) (number : ℕ) (senders : List (SenderView T)) (taker : TakerView T) → number < inboxes → AreSendersOf inboxes inbox number senders → taker ≡ taking (inbox number) inboxes [] → IsDeskOf inboxes inbox number senders taker
  new_is_desk inboxes inbox number senders taker low are is = record {
    has_inbox = low;
    count = are.count;
    to_each = λ k s e. (ap (λ (x : SenderView T). x.inbox) (are.each k s e), ap (λ (x : SenderView T). x.number) (are.each k s e));
    own = (ap (λ (x : TakerView T). x.inbox) is, ap (λ (x : TakerView T). x.senders) is);
  }

  -- which has put and got nothing
  pub new_desk_is : (inboxes : ℕ) (inbox : ℕ → TableId) (number : ℕ) (senders : List (SenderView T)) (taker : TakerView T) → AreSendersOf inboxes inbox number senders → taker ≡ taking (inbox number) inboxes [] → at_desk number (put_by senders) taker.got ≡ new_desk inboxes number
  new_desk_is inboxes inbox number senders taker are is =
      let none = nothing_put senders inboxes are.count (λ k s e. ap (λ (x : SenderView T). x.put) (are.each k s e)) in
      let nothing = ap (λ (x : TakerView T). x.got) is in
      λ i. at_desk number (none i) (nothing i)

  -- where the takers up to a place have one sender more, and this one has too, those up to the next place have
  pub done_set : (inbox : ℕ → TableId) (n k : ℕ) (takers : List (TakerView T)) (after : TakerView T) → ((j : ℕ) (t : TakerView T) → slice_get takers j ≡ Some t → j < k → t ≡ taking (inbox j) n []) → after ≡ taking (inbox k) n []
      → (j : ℕ) (t : TakerView T) → slice_get (set takers k after) j ≡ Some t → j < k + 1 → t ≡ taking (inbox j) n []
  done_set inbox n k takers after done is j t e low =
      ⊎_elim (λ (x : (j ≡ k) × (after ≡ t)). sym x.1 ∙ is ∙ ap (λ i. taking (inbox i) n []) (sym x.0)) (λ (x : (j ≢ k) × (slice_get takers j ≡ Some t)). let other = x.0 in done j t x.1 (omega arith)) (at_set takers k j after t e)

  -- those after the place stay as they were
  pub left_set : (inbox : ℕ → TableId) (n k : ℕ) (takers : List (TakerView T)) (after : TakerView T) → ((j : ℕ) (t : TakerView T) → slice_get takers j ≡ Some t → k ≤ j → t ≡ taking (inbox j) n [])
      → (j : ℕ) (t : TakerView T) → slice_get (set takers k after) j ≡ Some t → k + 1 ≤ j → t ≡ taking (inbox j) n []
  left_set inbox n k takers after left j t e high =
      ⊎_elim (λ (x : (j ≡ k) × (after ≡ t)). let same = x.0 in absurd (omega arith)) (λ (x : (j ≢ k) × (slice_get takers j ≡ Some t)). left j t x.1 (omega arith)) (at_set takers k j after t e)

  -- the taker at a place after one sender was made of its inbox, and that sender
  pub taker_after : (inbox : TableId) (number : ℕ) (t after : TakerView T) → t ≡ taking inbox number [] → after ≡ taking t.inbox (t.senders + 1) t.got → after ≡ taking inbox (number + 1) []
  taker_after inbox number t after is made = made ∙ ap (λ (x : TakerView T). taking x.inbox (x.senders + 1) x.got) is

  pub sender_made : (inbox : TableId) (number : ℕ) (t : TakerView T) (s : SenderView T) → t ≡ taking inbox number [] → s ≡ sending t.inbox t.senders [] → s ≡ sending inbox number []
  sender_made inbox number t s is made = made ∙ ap (λ (x : TakerView T). sending x.inbox x.senders []) is
