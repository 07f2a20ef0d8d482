-- What is kept of the seat of a meeting of which one owner has all places.
use Rattle.std.specs.Prelude.{◌≡◌, ◌^◌, ◌<◌, ℕ, List, [], length, map, Option, Some, None}
use Rattle.atomic_table.specs.Seated.{TableId}
use Rattle.atomic_table.specs.declared.shared.Seat.{Seat}
use Rattle.rendezvous.specs.Stages.{RoundView, Stage, waits, gave}
use Rattle.rendezvous.specs.Rule.{reported_at}
use Rattle.rendezvous.specs.Seats.{IsAt}
use Rattle.rendezvous.specs.Meetings.{HasResults, IsConvener}

module _ {R : Type 0} where
  -- how far a place is that has no slot, if it has reported this
  abbrev pub stage_from : Option R → Stage R
  stage_from None = waits
  stage_from (Some own) = gave own

  -- what each place has reported, if it has, while there is a round
  abbrev pub reports_of : {A : Type 0} → Option A → (A → List (Stage R)) → List (Option R)
  reports_of None stages = []
  reports_of (Some round) stages = map reported_at (stages round)

module _ {T R : Type 0} where
  -- the seat has all places of a round of so many and no slot, at this table of so many slots
  pub record HasRound (table : TableId) (most places : ℕ) (seat : Seat (Option R) (RoundView T R)) : Type 0 where
    pub at : IsAt table seat
    pub slots : table.slots ≡ most
    pub fits_word : places < 2 ^ 64
    pub no_slot : seat.me.1 ≡ []
    pub from : seat.me.0.from ≡ 0
    pub size : seat.me.0.size ≡ places
    pub long : length seat.me.0.stages ≡ places
    pub calm : seat.me.0.stages ≡ map stage_from (map reported_at seat.me.0.stages)

  -- the seat may convene a round at this table of so many slots
  pub record MayConvene (table : TableId) (most : ℕ) (seat : Seat (Option R) (RoundView T R)) : Type 0 where
    pub at : IsAt table seat
    pub slots : table.slots ≡ most
    pub convener : IsConvener seat

  -- the seat may convene a round at this table of so many slots, and has so many results, from a place on
  pub record HasRoundResults (table : TableId) (most next left : ℕ) (seat : Seat (Option R) (RoundView T R)) : Type 0 where
    pub at : IsAt table seat
    pub slots : table.slots ≡ most
    pub results : HasResults next left seat
