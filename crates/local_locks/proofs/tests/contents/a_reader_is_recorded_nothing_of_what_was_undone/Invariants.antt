-- There is one warehouse, and the names are those of the seats that the test opens.
use Rattle.std.specs.Prelude.{slice_index_or}
use Rattle.tickets.specs.Openings.{opened}
use Rattle.tickets.specs.Places.{place_of}
use Rattle.tickets.specs.Unset.{no_table, nothing}
use Rattle.local_locks.proofs.tests.contents.a_reader_is_recorded_nothing_of_what_was_undone.Given as goal

abbrev pub ghosts-undone : goal.ghosts-undone
ghosts-undone g a = record {
  warehouses = 1;
  committed = λ group. (slice_index_or a.openings.items (place_of group) (opened no_table no_table nothing)).committed;
  work = λ group. (slice_index_or a.openings.items (place_of group) (opened no_table no_table nothing)).work;
}
