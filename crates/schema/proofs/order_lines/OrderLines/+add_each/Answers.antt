use Rattle.std.proofs.Common.{◌≡◌, ◌+◌, ◌<◌, length, ◌∷◌, [], ap, ◌∙◌, length-append, arith}
use Rattle.std.specs.FinMap.{get, insert}
use Rattle.std.specs.Vec.{vec_len, vec_capacity}
use Rattle.schema.specs.OrderRows.{line_table, line_key, lines_at}
use Rattle.schema.proofs.KeyOrders.{lines_total, lines_exact}
use Rattle.schema.proofs.TableWrites.{undone, there_after}
use Rattle.schema.proofs.LinesPut.{one_more_line, one_more_was, length-lines_at}
use Rattle.schema.proofs.order_lines.OrderLines.+add_each.Goals as goal

pub put_back-requires : goal.put_back-requires
put_back-requires t c =
    there_after lines_total lines_exact (line_table c.args.self.now) (line_table c.put.new.self) (line_table c.add_each.new.self) c.line_key-key.result c.in-Some.row
    c.in_ok-was.ensures.ok c.in-Err.ensures.err

pub returns-in-Ok-push-clause-lines : goal.returns-in-Ok-push-clause-lines
returns-in-Ok-push-clause-lines t c =
    let many : c.len.result ≡ length c.pop.new.self.items = omega (arith, c.len.ensures, c.pop.new.self.ok.0) in
    let at = c.line_key-key.ensures ∙ ap (λ n. line_key c.args.order (n + 1)) many in
    one_more_line c.args.order c.pop.new.self.items c.args.rows.now.items c.in-Some.row (line_table c.args.self.now) (line_table c.put.new.self) (line_table c.add_each.new.self)
    c.in-Some.ensures.items (c.in_ok-was.ensures.ok ∙ ap (λ k. insert (line_table c.args.self.now) k c.in-Some.row) at) c.in-Ok.ensures.lines

pub returns-in-Ok-push-clause-were : goal.returns-in-Ok-push-clause-were
returns-in-Ok-push-clause-were t c =
    let many : c.len.result ≡ length c.pop.new.self.items = omega (arith, c.len.ensures, c.pop.new.self.ok.0) in
    let at = c.line_key-key.ensures ∙ ap (λ n. line_key c.args.order (n + 1)) many in
    one_more_was c.args.order c.pop.new.self.items c.args.rows.now.items c.in-Some.row (line_table c.args.self.now) (line_table c.put.new.self)
    c.args.were.now.items c.add_each.new.were.items c.push.new.self.items c.in_ok-was.was'
    c.in-Some.ensures.items (c.in_ok-was.ensures.ok ∙ ap (λ k. insert (line_table c.args.self.now) k c.in-Some.row) at)
    (c.in_ok-was.ensures.was ∙ ap (get (line_table c.args.self.now)) at) c.in-Ok.ensures.were c.in-Ok-push.ensures.items

pub returns-in-Err-push-clause-err : goal.returns-in-Err-push-clause-err
returns-in-Err-push-clause-err t c =
    let were = lines_at (line_table c.put.new.self) c.args.order 1 (length c.pop.new.self.items) in
    let many : length c.add_each.new.were.items ≡ length c.args.were.now.items + length c.pop.new.self.items =
    ap length c.in-Ok.ensures.were ∙ length-append c.args.were.now.items were ∙ ap (λ n. length c.args.were.now.items + n) (length-lines_at (line_table c.put.new.self) c.args.order 1 (length c.pop.new.self.items)) in
    let one : length c.args.rows.now.items ≡ length c.pop.new.self.items + 1 = ap length c.in-Some.ensures.items ∙ length-append c.pop.new.self.items (c.in-Some.row ∷ []) in
    let room : vec_len c.add_each.new.were < vec_capacity c.add_each.new.were = omega (arith, c.requires.room, c.in-Ok.ensures.room) in
    let clash = c.in-Err-push.ensures.succeeds room in
    absurd cc

pub returns-in-Err-clause-err : goal.returns-in-Err-clause-err
returns-in-Err-clause-err t c =
    undone lines_total lines_exact (line_table c.args.self.now) (line_table c.put.new.self) (line_table c.add_each.new.self) (line_table c.put_back.new.self)
    c.line_key-key.result c.in-Some.row c.in_ok-was.was' c.in_ok-was.ensures.ok c.in-Err.ensures.err c.in_ok-was.ensures.was c.put_back.ensures
