-- The world is opened over the tables, with the agreements that were made for its log and its groups.
use Rattle.std.specs.Prelude.{slice_index_or}
use Rattle.commit_log.specs.LogTables.{table_of}
use Rattle.tickets.specs.Openings.{opened}
use Rattle.tickets.specs.Places.{place_of}
use Rattle.tickets.specs.Unset.{no_table, nothing}
use Rattle.world.proofs.simulating.simulate.Given as goal

abbrev pub ghosts-simulate_from-J-LogNames : goal.ghosts-simulate_from-J-LogNames
ghosts-simulate_from-J-LogNames a = record {
  opening = a.tables;
  most = a.opening.log.most;
  length = a.opening.log.length;
  mine = table_of a.opening.log.mine;
  asks = table_of a.opening.log.asks;
}

abbrev pub ghosts-simulate_from-J-GroupNames : goal.ghosts-simulate_from-J-GroupNames
ghosts-simulate_from-J-GroupNames a = record {
  warehouses = a.tables.scale.warehouses;
  committed = λ group. (slice_index_or a.opening.groups.items (place_of group) (opened no_table no_table nothing)).committed;
  work = λ group. (slice_index_or a.opening.groups.items (place_of group) (opened no_table no_table nothing)).work;
}
