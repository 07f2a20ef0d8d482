-- The rule of an inbox's queue, over its contents and the views of all places.
use Rattle.std.specs.Prelude.{◌≡◌, ℕ, ◌<◌, ◌≤◌, true, false, List, [], ◌∷◌, ◌++◌}
use mathlib.Core.Option.{some}
use lib.ListN.{get_elem?}
use Rattle.queues.specs.declared.sent.Sent.{Sent}
use Rattle.queues.specs.declared.rule.View.{View}
use Rattle.queues.specs.Order.{of}

-- What has come about at an inbox. The place of its taker; the number of senders that were made, and the place of
-- each by its number; the messages put by all of them; and those taken.
pub record InboxHistory (T : Type 0) : Type 0 where
  pub taker : ℕ
  pub senders : ℕ
  pub seat : ℕ → ℕ
  pub all : List (Sent T)
  pub got : List (Sent T)

module _ {T : Type 0} where
  -- the view of a sender with this number that has put these messages
  abbrev pub sender_view : ℕ → List T → View T
  sender_view number put = record { sends = true; number = number; put = put; takes = false; senders = 0; got = [] }

  -- the view of a taker that has made so many senders and got these messages
  abbrev pub taker_view : ℕ → List (Sent T) → View T
  taker_view senders got = record { sends = false; number = 0; put = []; takes = true; senders = senders; got = got }

  -- the view of a taker that has absorbed a sender
  abbrev pub both_views : View T → View T → View T
  both_views taker sender = record { sends = true; number = sender.number; put = sender.put; takes = true; senders = taker.senders; got = taker.got }

  -- the view of a place that another place absorbed
  abbrev pub spent_view : View T
  spent_view = record { sends = false; number = 0; put = []; takes = false; senders = 0; got = [] }

  -- the view of the sender after it put a message
  abbrev pub view_after_put : View T → T → View T
  view_after_put v message = sender_view v.number (v.put ++ message ∷ [])

  -- the view of the taker after it got a message
  abbrev pub view_after_take : View T → Sent T → View T
  view_after_take v sent = taker_view v.senders (v.got ++ sent ∷ [])

  -- these together
  abbrev pub inbox_history : ℕ → ℕ → (ℕ → ℕ) → List (Sent T) → List (Sent T) → InboxHistory T
  inbox_history taker senders seat all got = record { taker = taker; senders = senders; seat = seat; all = all; got = got }

  -- the view of one place, after this has come about
  pub record IsInOrder (h : InboxHistory T) (place : ℕ) (v : View T) : Type 0 where
    pub as_sender : v.sends ≡ true → (v.number < h.senders) × (h.seat v.number ≡ place) × (v.put ≡ of v.number h.all)
    pub as_taker : v.takes ≡ true → (place ≡ h.taker) × (v.senders ≡ h.senders) × (v.got ≡ h.got)

  -- All messages put are in one order: those got come first, and those in the queue are the rest. Each sender has put
  -- the messages with its number, and no message has a number that was not given out.
  pub record AreInOrder (standing : List (Sent T)) (views : List (View T)) : Type 0 where
    pub taker : ℕ
    pub senders : ℕ
    pub seat : ℕ → ℕ
    pub all : List (Sent T)
    pub got : List (Sent T)
    pub one_order : all ≡ got ++ standing
    pub no_other : (number : ℕ) → senders ≤ number → of number all ≡ []
    pub each : (place : ℕ) (v : View T) → get_elem? views place ≡ some v → IsInOrder (inbox_history taker senders seat all got) place v

  -- The messages got from the sender of this view, followed by its messages in the queue, are those that it put. Its
  -- number was given out, and no message has a number that was not.
  pub record IsCompared (v : View T) (standing : List (Sent T)) : Type 0 where
    pub put : v.put ≡ of v.number v.got ++ of v.number standing
    pub given_out : v.number < v.senders
    pub no_other : (number : ℕ) → v.senders ≤ number → of number (v.got ++ standing) ≡ []
