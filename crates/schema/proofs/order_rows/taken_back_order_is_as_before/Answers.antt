use Rattle.schema.proofs.LinesPut.{taken_back}
use Rattle.schema.proofs.order_rows.taken_back_order_is_as_before.Goals as goal

pub returns : goal.returns
returns c = taken_back
