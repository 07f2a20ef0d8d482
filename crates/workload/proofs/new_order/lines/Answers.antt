use Rattle.std.proofs.Common.{◌≡◌, ◌-◌, ◌≤◌, ◌++◌, ◌∷◌, [], nat_eq, sym, ap, ◌∙◌, arith}
use Rattle.std.specs.Prelude.{◌&&◌, List}
use Rattle.std.proofs.lemmas.List.{append_assoc, append-nil}
use Rattle.rand_pcg.specs.Lcg.{Lcg}
use Rattle.requests.specs.declared.new_order.OrderedLine.{OrderedLine}
use Rattle.workload.specs.NewOrders.{line_drawn, lines_drawn}
use Rattle.workload.proofs.Lines.{lines-first, lines-none}
use Rattle.workload.proofs.new_order.lines.Goals as goal
use Rattle.workload.proofs.new_order.lines.Goals.{then-rolls_back, else-rolls_back}

pub loop-left-preserved : goal.loop-left-preserved
loop-left-preserved c =
    let place = c.loop-left.left - 1 in
    let some : 1 ≤ c.loop-left.left = omega arith in
    let terminal = c.args.terminal.now in
    let back = c.args.rolls_back in
    let before = c.loop-left.draws in
    let after = c.line.new.draws in
    let unused : c.if-rolls_back.unused ≡ (back && nat_eq place 0) =
    elim c.if-rolls_back.branch [ then-rolls_back w ↦ rw w.if-rolls_back.true w.unused-is | else-rolls_back w ↦ rw w.if-rolls_back.false (w.unused-is ∙ w.if-rolls_back.false) ] in
    let drawn : (c.line.result, after) ≡ line_drawn terminal (back && nat_eq place 0) before = c.line.ensures ∙ ap (λ u. line_drawn terminal u before) unused in
    let first = lines-first terminal back c.loop-left.left before c.line.result after some drawn in
    record {
      lines =
          ap (λ xs. xs ++ (lines_drawn terminal back place after).0) c.in_ok-push.ensures.items
          ∙ append_assoc c.loop-left.lines.items (c.line.result ∷ []) (lines_drawn terminal back place after).0
          ∙ ap (λ (p : List OrderedLine × Lcg). c.loop-left.lines.items ++ p.0) (sym first)
          ∙ c.loop-left.invariant.lines;
      generator = ap (λ (p : List OrderedLine × Lcg). p.1) (sym first) ∙ c.loop-left.invariant.generator;
    }

pub returns : goal.returns
returns c =
    let none = lines-none c.args.terminal.now c.args.rolls_back c.loop-left.left c.loop-left.draws (omega arith) in
    let drawn = lines_drawn c.args.terminal.now c.args.rolls_back c.args.count c.args.draws.now in
    let lines : c.new.result ≡ drawn.0 = c.new.ensures ∙ sym (append-nil c.loop-left.lines.items) ∙ ap (λ (p : List OrderedLine × Lcg). c.loop-left.lines.items ++ p.0) (sym none) ∙ c.loop-left.invariant.lines in
    let generator : c.loop-left.draws ≡ drawn.1 = ap (λ (p : List OrderedLine × Lcg). p.1) (sym none) ∙ c.loop-left.invariant.generator in
    let pair : List OrderedLine → Lcg → List OrderedLine × Lcg = λ ls g. (ls, g) in
    ap (λ ls. pair ls c.loop-left.draws) lines ∙ ap (pair drawn.0) generator
