-- The view of a seat in contracts.
use Rattle.std.specs.Prelude.{◌≡◌, ℕ}
use Rattle.atomic_table.specs.Seated.{TableId}

-- an agreement's identity, and the number of shares with which it was opened
pub record Agreement : Type 0 where
  pub table : TableId
  pub count : ℕ

-- the seat's agreement, its value, which is the agreement's if the seat has a share, and its share
pub record SeatView (V : Type 0) : Type 0 where
  pub agreement : Agreement
  pub value : V
  pub share : ℕ

module _ {V : Type 0} where
  -- a seat of this agreement with this value and this share
  abbrev pub seat_view : Agreement → V → ℕ → SeatView V
  seat_view agreement value share = record { agreement = agreement; value = value; share = share }

  -- the same seat with another share
  abbrev pub with_share : SeatView V → ℕ → SeatView V
  with_share t share = seat_view t.agreement t.value share

  -- the same seat with another value
  abbrev pub with_value : SeatView V → V → SeatView V
  with_value t value = seat_view t.agreement value t.share

  -- a seat of this agreement that has no share: its value means nothing
  abbrev pub IsSpent : Agreement → SeatView V → Type 0
  IsSpent agreement t = (t.agreement ≡ agreement) × (t.share ≡ 0)
