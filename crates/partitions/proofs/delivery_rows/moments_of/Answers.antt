use Rattle.std.proofs.Common.{None, replicate, slice_index_or, sym, ap, ◌∙◌}
use Rattle.rows.specs.declared.limits.TheConstants.{MOST_LINES}
use Rattle.schema.specs.OrderRows.{line_table}
use Rattle.partitions.proofs.MomentsRead.{written, all_written}
use Rattle.partitions.proofs.delivery_rows.moments_of.Goals as goal

pub returns-clause-each : goal.returns-clause-each
returns-clause-each c = λ n few.
    ap (λ r. slice_index_or (written r c.loop-key.moments) n None) (sym c.in-None.ensures.steps.0)
    ∙ ap (λ m. slice_index_or m n None) c.loop-key.invariant.read
    ∙ ap (λ r. slice_index_or (written r (replicate MOST_LINES None)) n None) (c.into_iter-key-iterator.ensures.into_iter_gives ∙ c.of_order-key-items.ensures.rows)
    ∙ all_written c.args.order (line_table c.args.lines.now) n few
