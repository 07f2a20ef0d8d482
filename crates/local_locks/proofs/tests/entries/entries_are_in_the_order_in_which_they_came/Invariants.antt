-- There is one warehouse, and the names are those of the seats that the test opens.
use Rattle.std.specs.Prelude.{slice_index_or}
use Rattle.tickets.specs.Openings.{opened}
use Rattle.tickets.specs.Places.{place_of}
use Rattle.tickets.specs.Unset.{no_table, nothing}
use Rattle.local_locks.proofs.tests.entries.entries_are_in_the_order_in_which_they_came.Given as goal

abbrev pub ghosts-run_of_entries : goal.ghosts-run_of_entries
ghosts-run_of_entries g a = record {
  warehouses = 1;
  committed = λ group. (slice_index_or a.openings.items (place_of group) (opened no_table no_table nothing)).committed;
  work = λ group. (slice_index_or a.openings.items (place_of group) (opened no_table no_table nothing)).work;
}
