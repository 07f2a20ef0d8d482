use Rattle.std.proofs.Common.{◌≡◌, true, false, not, is_some, ap, ◌∙◌}
use Rattle.std.specs.FinMap.{from_entries}
use Rattle.rows.specs.Keys.{order_cmp}
use Rattle.partitions.proofs.Returned.{NewTable, gone, stands_again}
use Rattle.partitions.proofs.new_order_rows.NewOrderRows.take_back_order.Goals as goal
use Rattle.partitions.proofs.new_order_rows.NewOrderRows.take_back_order.Goals.{then-is_none, else-is_none}

pub returns-clause-new_order : goal.returns-clause-new_order
returns-clause-new_order c =
    let key = c.args.key in
    let was = c.args.replaced.new_order in
    let old : NewTable = from_entries {R = order_cmp} c.args.self.now in
    elim c.if-is_none.branch [
      | then-is_none w ↦
          let none : is_some was ≡ false = c.is_none.ensures ∙ ap not w.if-is_none.true in
          ap (λ es. from_entries es) w.self-is ∙ w.remove.ensures ∙ gone old key was none
      | else-is_none w ↦
          let some : is_some was ≡ true = c.is_none.ensures ∙ ap not w.if-is_none.false in
          ap (λ es. from_entries es) w.self-is ∙ stands_again old key was c.requires.new_order some
    ]
