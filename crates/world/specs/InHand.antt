-- What holds of a world while an executor has taken an envelope or an outbox entry and not processed it yet.
use Rattle.std.specs.Prelude.{◌≡◌, ℕ, List, ◌∷◌, slice_set}
use Rattle.partitions.specs.Parts.{SharedTables}
use Rattle.range_moves.specs.Placements.{AreKept}
use Rattle.world.specs.declared.flight.Envelope.{Envelope}
use Rattle.world.specs.declared.flight.Load.{Load}
use Rattle.world.specs.declared.flight.Outgoing.{Outgoing}
use Rattle.world.specs.declared.world.Core.{Core}
use Rattle.world.specs.Envelopes.{envelope}
use Rattle.world.specs.Queues.{queue_of}
use Rattle.world.specs.Together.{IsSound}

module _ {J : Type 0} where
  -- `whole` was sound, its placements satisfied `AreKept`, and this envelope was first in the executor's inbox. `left` is
  -- `whole` without it.
  pub record EnvelopeInHand (shared : SharedTables) (executor : ℕ) (load : Load J) (left : Core J) : Type 0 where
    pub whole : Core J
    pub sound : IsSound shared whole
    pub kept : AreKept whole.placements
    pub rest : List (Envelope J)
    pub first : queue_of executor whole.inboxes ≡ envelope executor load ∷ rest
    pub left_is : left ≡ record whole { inboxes = slice_set whole.inboxes executor rest }

  -- `whole` was sound, its placements satisfied `AreKept`, and this entry was first in the executor's outbox. `left` is `whole`
  -- without it.
  pub record OutgoingInHand (shared : SharedTables) (executor : ℕ) (p : Outgoing J) (left : Core J) : Type 0 where
    pub whole : Core J
    pub sound : IsSound shared whole
    pub kept : AreKept whole.placements
    pub rest : List (Outgoing J)
    pub first : queue_of executor whole.outboxes ≡ p ∷ rest
    pub left_is : left ≡ record whole { outboxes = slice_set whole.outboxes executor rest }
