use Rattle.std.proofs.Common.{◌++◌, List, [], ◌∷◌, sym, ap, ◌∙◌}
use Rattle.requests.specs.declared.group.Group.TheVariants.{District, Orders}
use Rattle.groups.specs.declared.group_wants.GroupWant.{GroupWant}
use Rattle.groups.specs.Modes.{shared}
use Rattle.groups.proofs.StockGroups.{one_more_group_want, group_wants_from}
use Rattle.groups.proofs.stock_level.group_wants.Goals as goal

pub loop-residue-preserved : goal.loop-residue-preserved
loop-residue-preserved c =
    let home = c.args.asked.now.home in
    let first : List GroupWant → List GroupWant = λ rest. shared (District home.w_id home.d_id) ∷ shared (Orders home.w_id home.d_id) ∷ rest in
    c.in_ok-push-3.ensures.items
    ∙ ap (λ group_wants. group_wants ++ c.shared-in-loop-residue.result ∷ []) c.loop-residue.invariant
    ∙ ap (λ group_want. first (group_wants_from home.w_id 0 c.loop-residue.residue) ++ group_want ∷ []) c.shared-in-loop-residue.ensures
    ∙ ap first (sym (one_more_group_want home.w_id c.loop-residue.residue))
