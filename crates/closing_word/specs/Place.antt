-- The table of a closing word, and the places at it.
use Rattle.std.specs.Prelude.{◌≡◌, ◌<◌, []}
use Rattle.atomic_table.specs.Seated.{TableId}
use Rattle.atomic_table.specs.declared.shared.Seat.{Seat}
use Rattle.closing_word.specs.declared.rule.View.{View}

-- the table has a word and no slots
pub record IsWithWord (table : TableId) : Type 0 where
  pub some_word : 0 < table.words

-- the place is at this table, which has a word, and has taken no slot of it
pub record IsPlaceAt (table : TableId) (place : Seat (Unit {0}) View) : Type 0 where
  pub at_table : place.table_id ≡ table
  pub some_word : 0 < table.words
  pub no_slot : place.me.1 ≡ []
