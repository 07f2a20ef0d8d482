use Rattle.std.proofs.Common.{refl, ◌∙◌, ap}
use Rattle.csv.specs.Reading.{Reached, strip_bom}
use Rattle.csv.specs.declared.parser.State.TheVariants as state
use Rattle.std.specs.Prelude.{option_map}
use Rattle.files.proofs.records.Records.new.Goals as goal

pub returns-clause-none_read : goal.returns-clause-none_read
unfolding Reached
returns-clause-none_read g c = λ text known.
    record { left = strip_bom text; source = c.new.ensures.unread ∙ ap (option_map strip_bom) known; after = state.StartRecord; is_between = λ t. refl; reached = (refl, refl) }
