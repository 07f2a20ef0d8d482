-- The views that contracts have of a sender and of a taker.
use Rattle.std.specs.Prelude.{ℕ, List, [], ◌∷◌, ◌++◌}
use Rattle.atomic_table.specs.Seated.{TableId}
use Rattle.queues.specs.declared.sent.Sent.{Sent}

-- the inbox it puts into, its number, and the messages that it has put, in order
pub record SenderView (T : Type 0) : Type 0 where
  pub inbox : TableId
  pub number : ℕ
  pub put : List T

-- the inbox it takes from, the number of the inbox's senders, and the messages that it got, in order
pub record TakerView (T : Type 0) : Type 0 where
  pub inbox : TableId
  pub senders : ℕ
  pub got : List (Sent T)

module _ {T : Type 0} where
  -- a sender of this inbox
  abbrev pub sending : TableId → ℕ → List T → SenderView T
  sending inbox number put = record { inbox = inbox; number = number; put = put }

  -- the taker of this inbox
  abbrev pub taking : TableId → ℕ → List (Sent T) → TakerView T
  taking inbox senders got = record { inbox = inbox; senders = senders; got = got }

  -- the sender after it put a message
  abbrev pub after_put : SenderView T → T → SenderView T
  after_put sender message = sending sender.inbox sender.number (sender.put ++ message ∷ [])

  -- the taker after it got a message
  abbrev pub after_take : TakerView T → Sent T → TakerView T
  after_take taker sent = taking taker.inbox taker.senders (taker.got ++ sent ∷ [])
