use Rattle.std.proofs.Common.{◌+◌, ◌<◌, None, length, slice_index_or, arith}
use Rattle.schema.specs.OrderRows.{line_table}
use Rattle.partitions.proofs.Undelivered.{index_any, dated_back_none, dated_back_more, dated_back_all}
use Rattle.partitions.proofs.delivery_rows.put_moments_back.Goals as goal

pub loop-place-init : goal.loop-place-init
loop-place-init c = dated_back_none c.args.order c.args.moments (line_table c.args.lines.now)

pub loop-place-preserved : goal.loop-place-preserved
loop-place-preserved c =
    let long : c.loop-place.place < length c.args.moments = omega (arith, c.requires.most_lines, c.loop-place-test.true) in
    dated_back_more c.args.order c.args.moments c.loop-place.place (slice_index_or c.args.moments c.loop-place.place c.index-moments-place.result) c.line_key.result (line_table c.args.lines.now) (line_table c.loop-place.lines) (line_table c.set_delivery.new.self)
    (index_any c.args.moments c.loop-place.place c.index-moments-place.result None long) c.line_key.ensures c.loop-place.invariant c.set_delivery.ensures

pub returns : goal.returns
returns c =
    dated_back_all c.args.order c.args.moments (c.loop-place.place + 1) (line_table c.args.lines.now) (line_table c.loop-place.lines) (omega arith) c.requires.numbered c.loop-place.invariant
