use Rattle.std.proofs.Common.{◌≡◌, ◌&&◌, ℕ, Bool, nat_lt, ap, subst, ◌∙◌, arith}
use Rattle.files.specs.FieldRead.{FieldsView, fields_view, field_read, whole_read}
use Rattle.dataset.specs.Formats.{line_count}
use Rattle.dataset.proofs.LinesTaken.{lines-next, lines-none, lines-taken}
use Rattle.dataset.proofs.lines.take_all.Goals.{then-ascend, else-ascend}
use Rattle.dataset.proofs.lines.take_all.Goals as goal

pub loop-init : goal.loop-init
loop-init c = lines-none c.args.order c.args.loader.now c.args.fields.now

pub loop-preserved : goal.loop-preserved
loop-preserved c =
    let last = c.loop.last in
    let number = c.whole-number.result in
    let is_number = subst (λ (m : ℕ). ◌≡◌ {A = ℕ × FieldsView} (number, fields_view c.whole-number.new.self) (field_read (whole_read 1 m) 1 (fields_view c.loop.fields)))
    c.most_lines.ensures c.whole-number.ensures.field in
    let ascended : c.if-ascend.ascend ≡ (c.loop.ascend && nat_lt last number) = elim c.if-ascend.branch [
      | then-ascend w ↦
          let new = w.ascend-is in
          let old = w.if-ascend.true in
          let both = ap (λ (b : Bool). b && nat_lt last number) w.if-ascend.true in
          cc
      | else-ascend w ↦
          let new = w.ascend-is in
          let old = w.if-ascend.false in
          let both = ap (λ (b : Bool). b && nat_lt last number) w.if-ascend.false in
          cc
    ] in
    lines-next c.args.order c.loop.counter last number c.loop.ascend c.if-ascend.ascend c.take_row-row.result c.insert.new.self c.args.loader.now c.loop.loader c.args.fields.now c.loop.fields c.whole-number.new.self c.take_row-row.new.fields
    c.loop.invariant is_number c.take_row-row.ensures c.in_ok-insert.ensures.ok ascended

pub returns : goal.returns
returns c =
    let count : c.loop.counter ≡ c.line_count-end.result = omega (arith, c.loop-test.false, c.loop.auto.counter-end) in
    lines-taken c.args.order c.loop.counter c.loop.last c.loop.ascend c.args.loader.now c.loop.loader c.args.fields.now c.loop.fields c.loop.invariant
    (count ∙ c.line_count-end.ensures ∙ ap (line_count c.args.loader.now.format) c.left.ensures)
