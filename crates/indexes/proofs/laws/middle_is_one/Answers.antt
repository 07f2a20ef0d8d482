use Rattle.schema.specs.Scale.{customer_key}
use Rattle.indexes.specs.Namesakes.{namesakes}
use Rattle.indexes.proofs.Middles.{one}
use Rattle.indexes.proofs.laws.middle_is_one.Goals as goal

pub returns : goal.returns
returns c = λ t home last a b h g. one (namesakes t.customers home last) (customer_key home a, h.0) (customer_key home b, g.0) h.1 g.1
