-- The scripts of so many sessions are in their files, and the other files are left.
use Rattle.std.proofs.Common.{◌≡◌, take, drop}
use Rattle.tpcc.specs.Script.{NamesScripts}
use Rattle.tpcc.proofs.script.write_scripts.Given as goal

abbrev pub invariant-loop-session : goal.invariant-loop-session
invariant-loop-session g l = record {
  left : l.files.items ≡ drop l.session l.fn.files.items;
  named : NamesScripts g.T.Write.contents l.workload 0 (take l.session l.fn.files.items) (g.N.OutputFiles.named l.fn.output_files) (g.N.OutputFiles.named l.output_files);
}
