use Rattle.std.proofs.Common.{◌+◌, length, arith}
use Rattle.files.proofs.Lines.{IsCutSoFar, so_far_start, so_far_byte, so_far_comma, so_far_ends, so_far_mark, so_far_plain_run, so_far_open}
use Rattle.files.proofs.line.cut_line.Goals.{In-Some, in-Plain, in-Comma+in_ok-add-in-Comma}
use Rattle.files.proofs.line.cut_line.Goals as goal

-- up to the mark
so_far : (c : In-Some) → IsCutSoFar c.args.bytes.now c.loop-to.spans.items c.loop-to.from c.in-Some.to
so_far c = so_far_mark c.args.bytes.now c.loop-to.spans.items c.loop-to.from c.loop-to.at c.in-Some.to c.loop-to.invariant.1 c.in-Some.ensures.next

pub loop-to-init : goal.loop-to-init
loop-to-init c = (c.new-marks.ensures c.args.bytes.now, so_far_start c.args.bytes.now c.clear.new.self.items c.clear.ensures.items)

pub loop-to-preserved : goal.loop-to-preserved
loop-to-preserved c =
    let before = so_far (goal.at.loop-to-preserved c).In-Some in
    let marked = c.mark_of.ensures in
    let inside = c.in-Some.ensures.next.inside in
    let behind : IsCutSoFar c.args.bytes.now c.match-mark_of.spans.items c.match-mark_of.from (c.in-Some.to + 1) =
    elim c.match-mark_of.branch [
      | in-Plain w ↦
          rw (w.spans-is, w.from-is) (so_far_byte c.args.bytes.now c.loop-to.spans.items c.loop-to.from c.in-Some.to before inside (rw w.in-Plain.is at marked))
      | in-Comma+in_ok-add-in-Comma w ↦
          rw (w.spans-is, w.from-is, w.in_ok-add-in-Comma.ensures) (so_far_comma c.args.bytes.now c.loop-to.spans.items c.loop-to.from c.in-Some.to before inside (rw w.in-Comma.is at marked))
    ] in
    (c.in-Some.ensures.reports, behind)

pub returns-in-LineEnd : goal.returns-in-LineEnd
returns-in-LineEnd c =
    let before = so_far (goal.at.returns-in-LineEnd c).In-Some in
    rw c.in_ok-add-in-LineEnd.ensures (so_far_ends c.args.bytes.now c.loop-to.spans.items c.loop-to.from c.in-Some.to c.requires before c.in-Some.ensures.next.inside (rw c.in-LineEnd.is at c.mark_of.ensures))

pub returns : goal.returns
returns c =
    let reports = c.loop-to.invariant.0 in
    let low = reports.low in
    let high = reports.high in
    let end = length c.args.bytes.now in
    let whole = so_far_plain_run c.args.bytes.now c.loop-to.spans.items c.loop-to.from c.loop-to.at end c.loop-to.invariant.1 (omega arith) (omega arith) c.in_default.ensures.next in
    so_far_open c.args.bytes.now c.loop-to.spans.items c.loop-to.from end c.requires whole (omega arith)
