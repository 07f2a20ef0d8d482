-- The type parameter identifies the seats that the test opens.
use Rattle.std.specs.Prelude.{slice_index_or}
use Rattle.tickets.specs.Openings.{opened}
use Rattle.tickets.specs.Places.{place_of}
use Rattle.tickets.specs.Unset.{no_table, nothing}
use Rattle.joint_tests.proofs.tests.slice.a_row_is_put_and_undone.Given as goal

abbrev pub ghosts-put_and_undone : goal.ghosts-put_and_undone
ghosts-put_and_undone g a = record {
  warehouses = a.tables.scale.warehouses;
  committed = λ group. (slice_index_or a.openings.items (place_of group) (opened no_table no_table nothing)).committed;
  work = λ group. (slice_index_or a.openings.items (place_of group) (opened no_table no_table nothing)).work;
}
