-- The world is opened over the tables, with the agreements that were made for its log and its groups.
use Rattle.std.specs.Prelude.{slice_index_or}
use Rattle.commit_log.specs.LogTables.{table_of}
use Rattle.tickets.specs.Openings.{opened}
use Rattle.tickets.specs.Places.{place_of}
use Rattle.tickets.specs.Unset.{no_table, nothing}
use Rattle.world_tests.proofs.tests.worlds.a_world_runs_a_payment.Given as goal

abbrev pub ghosts-by_world-J-LogNames : goal.ghosts-by_world-J-LogNames
ghosts-by_world-J-LogNames g a = record {
  opening = a.tables;
  most = a.opening.log.most;
  length = a.opening.log.length;
  mine = table_of a.opening.log.mine;
  asks = table_of a.opening.log.asks;
}

abbrev pub ghosts-by_world-J-GroupNames : goal.ghosts-by_world-J-GroupNames
ghosts-by_world-J-GroupNames g a = record {
  warehouses = a.tables.scale.warehouses;
  committed = λ group. (slice_index_or a.opening.groups.items (place_of group) (opened no_table no_table nothing)).committed;
  work = λ group. (slice_index_or a.opening.groups.items (place_of group) (opened no_table no_table nothing)).work;
}
