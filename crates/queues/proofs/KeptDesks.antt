-- What a desk's senders have put, and that a desk stays one.
use Rattle.std.proofs.Common.{◌≡◌, ◌≢◌, ℕ, zero, suc, List, [], ◌∷◌, ◌++◌, set, sym, ap, ◌∙◌, ⊎_elim, length-set}
use Rattle.std.specs.Prelude.{Some, Ok, Err, Result, OnOk, slice_get, slice_index_or}
use Rattle.std.proofs.lemmas.List.{map-set}
use Rattle.std.proofs.lemmas.Option.{none-some, same_Some}
use Rattle.atomic_table.specs.Seated.{TableId}
use Rattle.queues.specs.declared.sent.Sent.{Sent}
use Rattle.queues.specs.Ends.{SenderView, TakerView, sending}
use Rattle.queues.specs.Order.{of}
use Rattle.queues.proofs.Lists.{at_set}
use Rattle.queues.specs.Desks.{DeskView, at_desk, put_by, put_to, with_put, IsDeskOf}

module _ {T : Type 0} where
  -- what the sender of this inbox has put
  pub put_by_at : (senders : List (SenderView T)) (k : ℕ) (s : SenderView T) → slice_get senders k ≡ Some s → slice_index_or (put_by senders) k [] ≡ s.put
  put_by_at [] k s e = absurd (none-some s e)
  put_by_at (x ∷ xs) zero s e = ap (λ (y : SenderView T). y.put) (same_Some x s e)
  put_by_at (x ∷ xs) (suc k) s e = put_by_at xs k s e

  -- the sender of one inbox has put a message more
  pub put_by_set : (senders : List (SenderView T)) (k : ℕ) (s after : SenderView T) (message : T) → slice_get senders k ≡ Some s → after.put ≡ s.put ++ message ∷ []
      → put_by (set senders k after) ≡ set (put_by senders) k (slice_index_or (put_by senders) k [] ++ message ∷ [])
  put_by_set senders k s after message at more =
      map-set (λ (y : SenderView T). y.put) senders k after ∙ ap (λ l. set (put_by senders) k l) (more ∙ ap (λ l. l ++ message ∷ []) (sym (put_by_at senders k s at)))

  -- a desk stays one where a sender stays at its inbox and keeps its number
  pub is_desk_set : (inboxes : ℕ) (inbox : ℕ → TableId) (number : ℕ) (senders : List (SenderView T)) (taker : TakerView T) (k : ℕ) (s after : SenderView T) → IsDeskOf inboxes inbox number senders taker → slice_get senders k ≡ Some s
      → after.inbox ≡ s.inbox → after.number ≡ s.number → IsDeskOf inboxes inbox number (set senders k after) taker
  is_desk_set inboxes inbox number senders taker k s after desk at same_inbox same_number = record {
    has_inbox = desk.has_inbox;
    count = length-set senders k after ∙ desk.count;
    to_each = λ j u e.
        ⊎_elim (λ (t : (j ≡ k) × (after ≡ u)). (
          ap (λ (y : SenderView T). y.inbox) (sym t.1) ∙ same_inbox ∙ (desk.to_each k s at).0 ∙ ap inbox (sym t.0),
          ap (λ (y : SenderView T). y.number) (sym t.1) ∙ same_number ∙ (desk.to_each k s at).1,
        )) (λ (t : (j ≢ k) × (slice_get senders j ≡ Some u)). desk.to_each j u t.1) (at_set senders k j after u e);
    own = desk.own;
  }

  -- where one of its senders has put a message, so has a desk
  pub put_more : {E : Type 0} (r : Result (Unit {0}) E) (number : ℕ) (senders : List (SenderView T)) (taker : TakerView T) (k : ℕ) (s after : SenderView T) (message : T) (now : DeskView T)
      → slice_get senders k ≡ Some s → at_desk number (put_by senders) taker.got ≡ now → OnOk r (after ≡ sending s.inbox s.number (s.put ++ message ∷ [])) → OnOk r (at_desk number (put_by (set senders k after)) taker.got ≡ with_put now k message)
  put_more (Ok x) number senders taker k s after message now at is put =
      ap (λ p. at_desk number p taker.got) (put_by_set senders k s after message at (ap (λ (y : SenderView T). y.put) put)) ∙ ap (λ (d : DeskView T). with_put d k message) is
  put_more (Err e) number senders taker k s after message now at is put = tt

  -- what a taker learns of a sender's messages it learns of the desk that has the sender
  pub audited : (inboxes : ℕ) (inbox : ℕ → TableId) (number : ℕ) (senders : List (SenderView T)) (taker : TakerView T) (k : ℕ) (s : SenderView T) (got : List (Sent T)) (mine other : DeskView T) (rest : List T → List T)
      → IsDeskOf inboxes inbox number senders taker → slice_get senders k ≡ Some s → at_desk number (put_by senders) taker.got ≡ other → k ≡ mine.number → got ≡ mine.got → s.put ≡ rest (of s.number got)
      → put_to other mine.number ≡ rest (of other.number mine.got)
  audited inboxes inbox number senders taker k s got mine other rest desk at is_other here same_got is_put =
      let same_number : s.number ≡ other.number = (desk.to_each k s at).1 ∙ ap (λ (d : DeskView T). d.number) is_other in
      ap (λ (d : DeskView T). put_to d mine.number) (sym is_other)
      ∙ ap (λ n. slice_index_or (put_by senders) n []) (sym here)
      ∙ put_by_at senders k s at
      ∙ is_put
      ∙ ap (λ n. rest (of n got)) same_number
      ∙ ap (λ l. rest (of other.number l)) same_got
