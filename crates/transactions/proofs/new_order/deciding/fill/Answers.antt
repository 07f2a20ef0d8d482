use Rattle.std.proofs.Common.{[], ◌∷◌, length, sym, ap, subst, ◌∙◌}
use Rattle.transactions.specs.NewOrderStock.{AreNumbered, filled}
use Rattle.transactions.proofs.NewOrderFilled.{filled_both, filled-length, numbered_first}
use Rattle.transactions.proofs.new_order.deciding.fill.Goals as goal

pub loop-line-preserved : goal.loop-line-preserved
loop-line-preserved c =
    let line = c.in-Some.line in
    let rest = c.pop.new.self.items in
    let made = c.in-Some.ensures.items in
    record {
      numbers = subst (λ n. AreNumbered n rest) (sym (filled-length (line ∷ []) c.loop-line.places))
          (numbered_first (length c.loop-line.places) rest (line ∷ []) (subst (AreNumbered (length c.loop-line.places)) made c.loop-line.invariant.numbers));
      same = sym (filled_both rest (line ∷ []) c.loop-line.places) ∙ ap (λ sold. filled sold c.loop-line.places) (sym made) ∙ c.loop-line.invariant.same;
    }
