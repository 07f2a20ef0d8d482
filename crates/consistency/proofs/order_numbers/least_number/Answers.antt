use Rattle.std.proofs.Common.{rules, tests, sym, refl, ◌∙◌}
use Rattle.std.proofs.lemmas.Iterator.Adapters.{option_map_id}
use Rattle.std.proofs.lemmas.Iterator.{YieldsList-from_map}
use Rattle.std.proofs.lemmas.Iterator.Consumers.{YieldsList-at, YieldsList-from_rest, min_from_yields_List}
use Rattle.consistency.proofs.order_numbers.least_number.Goals as goal

pub returns : goal.returns
returns g c =
    sym (option_map_id _)
    ∙ min_from_yields_List _ _ c.min.ensures.ran
    (YieldsList-from_map _ (λ row. row.0.o_id) (YieldsList-at c.map.ensures.source (YieldsList-from_rest c.args.rows refl)) c.map.ensures.closure (λ x r q k. search (rules, tests)))
