-- The result of an audit of all desks.
use Rattle.std.specs.Prelude.{◌≡◌, ℕ, List, ◌++◌, Some, slice_get}
use Rattle.queues.specs.Order.{of}
use Rattle.queues.specs.Desks.{DeskView, put_to}

module _ {T : Type 0} where
  -- what `mine` got from `other` is a beginning of what `other` has put into its inbox
  abbrev pub GotBeginning : DeskView T → DeskView T → Type 0
  GotBeginning mine other = (rest : List T) × (put_to other mine.number ≡ of other.number mine.got ++ rest)

  -- what `mine` got from `other` is everything that `other` has put into its inbox
  abbrev pub GotWhole : DeskView T → DeskView T → Type 0
  GotWhole mine other = put_to other mine.number ≡ of other.number mine.got

  -- the same for the desks at these places
  abbrev pub PairInOrder : List (DeskView T) → ℕ → ℕ → Type 0
  PairInOrder desks taker sender = (mine other : DeskView T) → slice_get desks taker ≡ Some mine → slice_get desks sender ≡ Some other → GotBeginning mine other

  abbrev pub PairWhole : List (DeskView T) → ℕ → ℕ → Type 0
  PairWhole desks taker sender = (mine other : DeskView T) → slice_get desks taker ≡ Some mine → slice_get desks sender ≡ Some other → GotWhole mine other

  -- each of these desks got a beginning of what each has put into its inbox, in order
  abbrev pub GotInOrder : List (DeskView T) → Type 0
  GotInOrder desks = (taker sender : ℕ) → PairInOrder desks taker sender

  -- each of these desks got all that each has put into its inbox, in order
  abbrev pub GotAll : List (DeskView T) → Type 0
  GotAll desks = (taker sender : ℕ) → PairWhole desks taker sender
