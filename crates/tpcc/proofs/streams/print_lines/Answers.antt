use Rattle.std.proofs.Common.{◌≡◌, List, ℕ, Some, map}
use Rattle.files.specs.Sending.{Begins}
use Rattle.files.proofs.Sent.{begins_none, on_any_err}
use Rattle.tpcc.specs.Edges.{lines_text}
use Rattle.tpcc.proofs.streams.print_lines.Goals as goal

pub returns-in_err-text-clause-begun : goal.returns-in_err-text-clause-begun
returns-in_err-text-clause-begun g c =
    let sink = g.A.Write.contents c.args.sink.now in
    let none : (text : g.row.L.Denot → List ℕ) → ((line : g.row.L.Denot) → g.L.Display.output line ≡ Some (text line)) → Begins sink sink (lines_text (map text c.args.lines.now)) =
    λ text known. begins_none sink (lines_text (map text c.args.lines.now)) in
    on_any_err c.from_residual.result none
