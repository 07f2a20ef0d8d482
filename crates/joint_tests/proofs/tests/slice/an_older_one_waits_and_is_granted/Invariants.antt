-- The type parameter identifies the seats that the test opens.
use Rattle.std.specs.Prelude.{slice_index_or}
use Rattle.tickets.specs.Openings.{opened}
use Rattle.tickets.specs.Places.{place_of}
use Rattle.tickets.specs.Unset.{no_table, nothing}
use Rattle.joint_tests.proofs.tests.slice.an_older_one_waits_and_is_granted.Given as goal

abbrev pub ghosts-waited_and_granted : goal.ghosts-waited_and_granted
ghosts-waited_and_granted g a = record {
  warehouses = a.tables.scale.warehouses;
  committed = λ group. (slice_index_or a.openings.items (place_of group) (opened no_table no_table nothing)).committed;
  work = λ group. (slice_index_or a.openings.items (place_of group) (opened no_table no_table nothing)).work;
}
