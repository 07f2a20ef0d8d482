-- The messages of one sender, among those of all.
use Rattle.std.specs.Prelude.{ℕ, List, [], ◌∷◌, ◌==◌, if◌then◌else◌}
use Rattle.queues.specs.declared.sent.Sent.{Sent}

module _ {T : Type 0} where
  -- the messages of the sender with this number, in order
  abbrev pub of : ℕ → List (Sent T) → List T
  of number [] = []
  of number (s ∷ rest) = if s.sender == number then s.message ∷ of number rest else of number rest

  -- a message with the number of its sender
  abbrev pub sent : ℕ → T → Sent T
  sent number message = record { sender = number; message = message }
