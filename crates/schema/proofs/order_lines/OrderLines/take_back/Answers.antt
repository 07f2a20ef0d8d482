use Rattle.std.proofs.Common.{◌≡◌, ◌+◌, length, ◌∷◌, [], ap, ◌∙◌, length-append, arith}
use Rattle.schema.specs.MapRows.{put_row}
use Rattle.schema.specs.OrderRows.{line_table, line_key}
use Rattle.schema.proofs.LinesPut.{one_line_back, other_lines_there}
use Rattle.schema.proofs.order_lines.OrderLines.take_back.Goals as goal

pub loop-was-preserved : goal.loop-was-preserved
loop-was-preserved c =
    let rest = c.pop.new.self.items in
    let old = line_table c.loop-was.self in
    let new = line_table c.put_back.new.self in
    let one : length c.loop-was.rest.items ≡ length c.pop.new.self.items + 1 = ap length c.in-Some.ensures.items ∙ length-append c.pop.new.self.items (c.in-Some.was ∷ []) in
    let many : c.len.result ≡ length c.pop.new.self.items = omega (arith, c.len.ensures, c.pop.new.self.ok.0) in
    let back = c.put_back.ensures ∙ ap (λ k. put_row old k c.in-Some.was) (c.line_key-key.ensures ∙ ap (λ n. line_key c.args.order (n + 1)) many) in
    record {
      few = omega (arith, c.loop-was.invariant.few);
      there = λ n below. other_lines_there c.args.order (length rest + 1) c.in-Some.was old new n (omega arith) back (c.loop-was.invariant.there n (omega arith));
      same = one_line_back c.args.order rest c.loop-was.rest.items c.in-Some.was old new c.in-Some.ensures.items back ∙ c.loop-was.invariant.same;
    }
