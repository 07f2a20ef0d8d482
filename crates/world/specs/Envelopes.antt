-- The content of inboxes and outboxes: which parts belong to transactions, and which to moves.
use Rattle.std.specs.Prelude.{◌≡◌, ℕ, ◌<◌, ◌≤◌, ◌==◌, Bool, true, false, if◌then◌else◌, List, [], ◌∷◌, map, length}
use Rattle.std.specs.List.{filter, flat_map}
use Rattle.transactions.specs.Works.{home_of, home_of_claims, home_of_request}
use Rattle.range_moves.specs.Placements.{PlacementsView, route_of}
use Rattle.range_moves.specs.Traffic.{Dispatch, MessageToSlice}
use Rattle.world.specs.declared.flight.Item.{Item}
use Rattle.world.specs.declared.flight.Item.TheVariants as item
use Rattle.world.specs.declared.flight.Envelope.{Envelope}
use Rattle.world.specs.declared.flight.Load.{Load}
use Rattle.world.specs.declared.flight.Load.TheVariants.{Work, Move}
use Rattle.world.specs.declared.flight.Message.{Message}
use Rattle.world.specs.declared.flight.Message.TheVariants.{Start, Act, Settle, Undo}
use Rattle.world.specs.declared.flight.Outgoing.{Outgoing}
use Rattle.world.specs.declared.flight.Outgoing.TheVariants as outgoing

-- ---- the home of a message

module _ {J : Type 0} where
  -- The warehouse by which a message finds its executor. The start of a transaction goes to its request's warehouse.
  abbrev pub home_of_message : Message J → ℕ
  home_of_message (Start flow works) = home_of_request flow.transaction.request
  home_of_message (Act act) = home_of act.work
  home_of_message (Settle slot claims) = home_of_claims claims
  home_of_message (Undo slot claims) = home_of_claims claims

  -- A message that gives claims back has at least one.
  abbrev pub HasHome : Message J → Type 0
  HasHome (Start flow works) = Unit {0}
  HasHome (Act act) = Unit {0}
  HasHome (Settle slot claims) = 1 ≤ length claims
  HasHome (Undo slot claims) = 1 ≤ length claims

  -- A pushed message has a home.
  abbrev pub HasHomeIn : Item J → Type 0
  HasHomeIn (item.Push message) = HasHome message
  HasHomeIn (item.Report report) = Unit {0}
  HasHomeIn (item.Ended slot) = Unit {0}
  HasHomeIn (item.Commit commit) = Unit {0}
  HasHomeIn (item.Reply recorded) = Unit {0}

  -- The message is processed in the warehouse's slice. All are, but the start of a transaction.
  abbrev pub is_for_slice : Message J → Bool
  is_for_slice (Start flow works) = false
  is_for_slice (Act act) = true
  is_for_slice (Settle slot claims) = true
  is_for_slice (Undo slot claims) = true

  -- The message's home is this warehouse.
  abbrev pub is_at_home : ℕ → Message J → Bool
  is_at_home w_id message = home_of_message message == w_id

  -- ---- envelopes

  abbrev pub envelope : ℕ → Load J → Envelope J
  envelope to load = record { to = to; load = load }

  -- The message of a load, if it is one.
  abbrev pub messages_of : Load J → List (Message J)
  messages_of (Work message) = message ∷ []
  messages_of (Move moving) = []

  abbrev pub messages_in : List (Envelope J) → List (Message J)
  messages_in envelopes = flat_map (λ (l : Envelope J). messages_of l.load) envelopes

  -- A message for a slice, on its way to an executor.
  abbrev pub goes : ℕ → Message J → List MessageToSlice
  goes to (Start flow works) = []
  goes to (Act act) = record { to = to; w_id = home_of act.work } ∷ []
  goes to (Settle slot claims) = record { to = to; w_id = home_of_claims claims } ∷ []
  goes to (Undo slot claims) = record { to = to; w_id = home_of_claims claims } ∷ []

  abbrev pub going_of : ℕ → Load J → List MessageToSlice
  going_of to (Work message) = goes to message
  going_of to (Move moving) = []

  abbrev pub going_in : List (Envelope J) → List MessageToSlice
  going_in envelopes = flat_map (λ (l : Envelope J). going_of l.to l.load) envelopes

  -- What a move sends, on its way to an executor.
  abbrev pub sent_of : ℕ → Load J → List Dispatch
  sent_of to (Work message) = []
  sent_of to (Move moving) = record { to = to; what = moving } ∷ []

  abbrev pub sent_in : List (Envelope J) → List Dispatch
  sent_in envelopes = flat_map (λ (l : Envelope J). sent_of l.to l.load) envelopes

  -- ---- outboxes

  -- The item of an outbox entry that belongs to a transaction, as it was put.
  abbrev pub items_of : Outgoing J → List (Item J)
  items_of (outgoing.Envelope l) = map item.Push (messages_of l.load)
  items_of (outgoing.Item i) = i ∷ []
  items_of outgoing.Arrived = []

  abbrev pub items_in : List (Outgoing J) → List (Item J)
  items_in posts = flat_map items_of posts

  abbrev pub envelopes_of : Outgoing J → List (Envelope J)
  envelopes_of (outgoing.Envelope l) = l ∷ []
  envelopes_of (outgoing.Item i) = []
  envelopes_of outgoing.Arrived = []

  abbrev pub envelopes_out : List (Outgoing J) → List (Envelope J)
  envelopes_out posts = flat_map envelopes_of posts

  abbrev pub arrived_of : Outgoing J → ℕ
  arrived_of (outgoing.Envelope l) = 0
  arrived_of (outgoing.Item i) = 0
  arrived_of outgoing.Arrived = 1

  -- An item as it is stored in an outbox: a push gets the executor to which messages for its home are routed.
  abbrev pub outgoing_by : PlacementsView → Item J → Outgoing J
  outgoing_by h (item.Push message) = outgoing.Envelope (envelope (route_of h (home_of_message message)) (Work message))
  outgoing_by h (item.Report report) = outgoing.Item (item.Report report)
  outgoing_by h (item.Ended slot) = outgoing.Item (item.Ended slot)
  outgoing_by h (item.Commit commit) = outgoing.Item (item.Commit commit)
  outgoing_by h (item.Reply recorded) = outgoing.Item (item.Reply recorded)

  -- The item is no push.
  abbrev pub IsNoPush : Item J → Type 0
  IsNoPush (item.Push message) = ⊥
  IsNoPush (item.Report report) = Unit {0}
  IsNoPush (item.Ended slot) = Unit {0}
  IsNoPush (item.Commit commit) = Unit {0}
  IsNoPush (item.Reply recorded) = Unit {0}

  -- An envelope goes to one of this many executors, and no item is a push: pushes are envelopes.
  abbrev pub IsOutgoing : ℕ → Outgoing J → Type 0
  IsOutgoing executors (outgoing.Envelope l) = l.to < executors
  IsOutgoing executors (outgoing.Item i) = IsNoPush i
  IsOutgoing executors outgoing.Arrived = Unit {0}

  -- The envelope goes to this executor.
  abbrev pub IsTo : ℕ → Envelope J → Type 0
  IsTo executor l = l.to ≡ executor

  -- The messages parked for the slice of this warehouse, and the others, each in their order.
  abbrev pub parked_for : ℕ → List (Message J) → List (Message J)
  parked_for w_id messages = filter (is_at_home w_id) messages

  abbrev pub parked_else : ℕ → List (Message J) → List (Message J)
  parked_else w_id messages = filter (λ (m : Message J). if is_at_home w_id m then false else true) messages

  -- Messages that an executor sends to itself.
  abbrev pub to_itself : ℕ → List (Message J) → List (Outgoing J)
  to_itself executor messages = map (λ (m : Message J). outgoing.Envelope (envelope executor (Work m))) messages
