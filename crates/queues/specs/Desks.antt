-- The views that contracts have of a desk, and of the inboxes that several desks share.
use Rattle.std.specs.Prelude.{◌≡◌, ℕ, ◌<◌, List, [], ◌∷◌, ◌++◌, length, map, replicate, Some, slice_get, slice_set, slice_index_or}
use Rattle.atomic_table.specs.Seated.{TableId}
use Rattle.queues.specs.declared.sent.Sent.{Sent}
use Rattle.queues.specs.Ends.{SenderView, TakerView, sending, taking}
use Rattle.queues.specs.NoInbox.{no_inbox}

-- the desk's number, the messages that it has put into each inbox, in order, and those that it got from its own
pub record DeskView (T : Type 0) : Type 0 where
  pub number : ℕ
  pub put : List (List T)
  pub got : List (Sent T)

module _ {T : Type 0} where
  abbrev pub at_desk : ℕ → List (List T) → List (Sent T) → DeskView T
  at_desk number put got = record { number = number; put = put; got = got }

  -- the desk with this number, among so many inboxes, that has put and got nothing
  abbrev pub new_desk : ℕ → ℕ → DeskView T
  new_desk inboxes number = at_desk number (replicate inboxes []) []

  -- the messages that a desk has put into the inbox with this number
  abbrev pub put_to : DeskView T → ℕ → List T
  put_to desk to = slice_index_or desk.put to []

  -- the desk after it put a message into the inbox with this number
  abbrev pub with_put : DeskView T → ℕ → T → DeskView T
  with_put desk to message = at_desk desk.number (slice_set desk.put to (put_to desk to ++ message ∷ [])) desk.got

  -- the desk after it got a message
  abbrev pub with_got : DeskView T → Sent T → DeskView T
  with_got desk sent = at_desk desk.number desk.put (desk.got ++ sent ∷ [])

  -- the messages that these senders have put
  abbrev pub put_by : List (SenderView T) → List (List T)
  put_by senders = map (λ s. s.put) senders

  -- a desk has a sender of each inbox and takes from its own inbox; all its senders have its number
  pub record IsDeskOf (inboxes : ℕ) (inbox : ℕ → TableId) (number : ℕ) (senders : List (SenderView T)) (taker : TakerView T) : Type 0 where
    pub has_inbox : number < inboxes
    pub count : length senders ≡ inboxes
    pub to_each : (k : ℕ) (s : SenderView T) → slice_get senders k ≡ Some s → (s.inbox ≡ inbox k) × (s.number ≡ number)
    pub own : (taker.inbox ≡ inbox number) × (taker.senders ≡ inboxes)

  -- the takers of all inboxes of these names; each has so many senders, and got nothing
  pub record AreTakersOf (inboxes : ℕ) (inbox : ℕ → TableId) (senders : ℕ) (takers : List (TakerView T)) : Type 0 where
    pub count : length takers ≡ inboxes
    pub each : (k : ℕ) (t : TakerView T) → slice_get takers k ≡ Some t → t ≡ taking (inbox k) senders []

  -- a new sender of each inbox of these names, all with this number
  pub record AreSendersOf (inboxes : ℕ) (inbox : ℕ → TableId) (number : ℕ) (senders : List (SenderView T)) : Type 0 where
    pub count : length senders ≡ inboxes
    pub each : (k : ℕ) (s : SenderView T) → slice_get senders k ≡ Some s → s ≡ sending (inbox k) number []

  -- the inbox of each of these takers
  abbrev pub inbox_of : List (TakerView T) → ℕ → TableId
  inbox_of takers k = slice_index_or (map (λ t. t.inbox) takers) k no_inbox
