use Rattle.std.proofs.Common.{[], ◌∷◌, None, refl}
use Rattle.files.specs.Columns.{Spelt}
use Rattle.files.specs.FieldRead.{fields_view}
use Rattle.terminals.proofs.ColumnsTaken.{once_more, spelt_is}
use Rattle.terminals.proofs.log_records.pass_over_rest.Goals as goal

pub loop-preserved : goal.loop-preserved
loop-preserved c = (
  λ known none. c.loop.invariant.0 known (c.word.ensures.taken none).0,
  once_more c.loop.counter (Spelt (λ word. None) ∷ []) (fields_view c.args.fields.now) (fields_view c.loop.fields) (fields_view c.word.new.self) c.loop.invariant.1
      (spelt_is (λ word. None) c.word.result.now None c.loop.fields c.word.new.self c.word.new.self c.word.ensures.field refl refl),
)
