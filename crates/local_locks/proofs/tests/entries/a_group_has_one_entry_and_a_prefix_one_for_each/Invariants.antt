-- There is one warehouse, and the names are those of the seats that the test opens.
use Rattle.std.specs.Prelude.{slice_index_or}
use Rattle.tickets.specs.Openings.{opened}
use Rattle.tickets.specs.Places.{place_of}
use Rattle.tickets.specs.Unset.{no_table, nothing}
use Rattle.local_locks.proofs.tests.entries.a_group_has_one_entry_and_a_prefix_one_for_each.Given as goal

abbrev pub ghosts-one_group_and_a_prefix : goal.ghosts-one_group_and_a_prefix
ghosts-one_group_and_a_prefix g a = record {
  warehouses = 1;
  committed = λ group. (slice_index_or a.openings.items (place_of group) (opened no_table no_table nothing)).committed;
  work = λ group. (slice_index_or a.openings.items (place_of group) (opened no_table no_table nothing)).work;
}
