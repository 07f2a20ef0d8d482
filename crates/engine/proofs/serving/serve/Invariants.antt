-- The engine is opened for the scripts, with the tables and the agreements of the opening.
use Rattle.std.specs.Prelude.{slice_index_or}
use Rattle.commit_log.specs.LogTables.{table_of}
use Rattle.tickets.specs.Openings.{opened}
use Rattle.tickets.specs.Places.{place_of}
use Rattle.tickets.specs.Unset.{no_table, nothing}
use Rattle.engine.proofs.serving.serve.Given as goal

abbrev pub ghosts-serve_from-J-LogNames : goal.ghosts-serve_from-J-LogNames
ghosts-serve_from-J-LogNames g a = record {
  opening = a.opening.tables;
  most = a.opening.log.most;
  length = a.opening.log.length;
  mine = table_of a.opening.log.mine;
  asks = table_of a.opening.log.asks;
}

abbrev pub ghosts-serve_from-J-GroupNames : goal.ghosts-serve_from-J-GroupNames
ghosts-serve_from-J-GroupNames g a = record {
  warehouses = a.opening.tables.scale.warehouses;
  committed = λ group. (slice_index_or a.opening.groups.items (place_of group) (opened no_table no_table nothing)).committed;
  work = λ group. (slice_index_or a.opening.groups.items (place_of group) (opened no_table no_table nothing)).work;
}

abbrev pub ghosts-serve_from-J-ServeNames : goal.ghosts-serve_from-J-ServeNames
ghosts-serve_from-J-ServeNames g a = record { scripts = a.options.now.scripts.now; closing = a.opening.closing }
