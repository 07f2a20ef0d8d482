-- A seat's place at the table, and the view of the seat.
use Rattle.std.specs.Prelude.{◌≡◌, ◌<◌, []}
use Rattle.atomic_table.specs.Seated.{TableId}
use Rattle.atomic_table.specs.declared.shared.Seat.{Seat}
use Rattle.agreement.specs.declared.rule.View.{View}
use Rattle.agreement.specs.SeatView.{SeatView}

module _ {V : Type 0} where
  -- the place is at this table, has taken no slot of it, and its agreement has some shares
  pub record IsPlaceAt (table : TableId) (place : Seat (Unit {0}) (View V)) : Type 0 where
    pub at_table : place.table_id ≡ table
    pub some_word : 0 < table.words
    pub no_slot : place.me.1 ≡ []
    pub some_share : 0 < place.me.0.count

  -- the view of a seat at this place
  abbrev pub recorded_at : Seat (Unit {0}) (View V) → SeatView V
  recorded_at place = record {
    agreement = record { table = place.table_id; count = place.me.0.count };
    value = place.me.0.value;
    share = place.me.0.share;
  }
