use Rattle.std.proofs.Common.{◌∙◌}
use Rattle.std.proofs.lemmas.List.Elements.{filter_agree}
use Rattle.std.proofs.lemmas.Result.{on_ok_weaker, IfOk-weaker}
use Rattle.schema.proofs.OrderSpans.{before_warehouse, from_warehouse}
use Rattle.partitions.proofs.splits.BTreeMapOrderKeyByWarehouse.split_off_from.Goals as goal

pub returns-clause-from : goal.returns-clause-from
returns-clause-from g c =
    IfOk-weaker c.split_off.result _ _ (λ later e. e ∙ filter_agree _ _ (λ e. from_warehouse c.args.warehouse e.0) c.args.self.now.entries) c.split_off.ensures.from

pub returns-clause-below : goal.returns-clause-below
returns-clause-below g c =
    on_ok_weaker c.split_off.result (λ e. e ∙ filter_agree _ _ (λ e. before_warehouse c.args.warehouse e.0) c.args.self.now.entries) c.split_off.ensures.below
