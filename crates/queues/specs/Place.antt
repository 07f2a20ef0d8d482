-- The invariants of a sender and of a taker at their place at the queue.
use Rattle.std.specs.Prelude.{◌≡◌, ℕ, Option}
use Rattle.crossbeam_queue.specs.declared.array_queue.Doing.{Doing}
use Rattle.crossbeam_queue.specs.declared.array_queue.Slotted.{Slotted}
use Rattle.crossbeam_queue.specs.Passes.{Pass, view, IsPassOf}
use Rattle.queues.specs.declared.sent.Sent.{Sent}
use Rattle.queues.specs.declared.rule.View.{View}
use Rattle.queues.specs.Ends.{SenderView, TakerView, sending, taking}
use Rattle.queues.specs.Rule.{sender_view, taker_view}

module _ {T : Type 0} where
  -- the view of a sender with this number at this place
  abbrev pub sending_at : ℕ → Pass (Sent T) (View T) → SenderView T
  sending_at number place = sending place.table_id number (view place).put

  -- the view of a taker at this place that has made so many senders
  abbrev pub taking_at : ℕ → Pass (Sent T) (View T) → TakerView T
  taking_at senders place = taking place.table_id senders (view place).got

module _ {T Q A : Type 0} where
  -- the place is at this queue, and is that of a sender with this number
  pub record IsSenderAt (queue : Slotted (Option (Sent T)) (Doing (Sent T) (View T)) Q A) (number : ℕ) (place : Pass (Sent T) (View T)) : Type 0 where
    pub at_queue : IsPassOf queue place
    pub knows : view place ≡ sender_view number (view place).put

  -- the place is at this queue, and is that of a taker that has made so many senders
  pub record IsTakerAt (queue : Slotted (Option (Sent T)) (Doing (Sent T) (View T)) Q A) (senders : ℕ) (place : Pass (Sent T) (View T)) : Type 0 where
    pub at_queue : IsPassOf queue place
    pub knows : view place ≡ taker_view senders (view place).got
