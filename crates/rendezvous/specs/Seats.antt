-- What is kept of a seat at the table of a meeting.
use Rattle.std.specs.Prelude.{◌≡◌, ◌<◌, Option}
use Rattle.atomic_table.specs.Seated.{TableId}
use Rattle.atomic_table.specs.declared.shared.Seat.{Seat}
use Rattle.rendezvous.specs.Stages.{RoundView}

-- the seat is at this table, which has a word
pub record IsAt {T R : Type 0} (table : TableId) (seat : Seat (Option R) (RoundView T R)) : Type 0 where
  pub at_table : seat.table_id ≡ table
  pub some_word : 0 < table.words
