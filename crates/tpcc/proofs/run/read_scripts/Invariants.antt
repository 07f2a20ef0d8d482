-- So many scripts are read, and the other sources are as they were.
use Rattle.std.proofs.Common.{◌≡◌, length, map, take, drop}
use Rattle.std.specs.List.{AllZip}
use Rattle.terminals.specs.Script.{IsScript}
use Rattle.files.specs.Place.{Gives}
use Rattle.tpcc.proofs.run.read_scripts.Given as goal

abbrev pub invariant-loop-session : goal.invariant-loop-session
invariant-loop-session g l = record {
  count : length l.scripts.items ≡ l.session;
  read : AllZip (λ source script. Gives source (IsScript script)) (map g.S.Input.remaining (take l.session l.fn.sources)) l.scripts.items;
  others : drop l.session l.sources ≡ drop l.session l.fn.sources;
}
