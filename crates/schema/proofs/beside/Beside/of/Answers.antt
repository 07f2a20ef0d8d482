use Rattle.std.proofs.Common.{◌≡◌, ◌∷◌, IsTrue, sym, ap, subst, ◌∙◌}
use Rattle.std.specs.Cmp.{tied_itself}
use Rattle.std.specs.FinMap as map
use Rattle.std.specs.List.Sorted.{IsStrictlySortedBy}
use Rattle.std.specs.Map.{keys_of}
use Rattle.std.specs.Ordering.{is_le, ordering_reverse}
use Rattle.std.specs.declared.cmp.Ordering.TheVariants.{Less}
use Rattle.std.proofs.lemmas.Map.Keys.{sorted_tail}
use Rattle.rows.specs.Keys.{order_cmp}
use Rattle.schema.specs.RowsLeft.{rows_left}
use Rattle.schema.proofs.KeyOrders.{orders_total}
use Rattle.schema.proofs.RowsLeft.{passed_first, before_le, find_behind, find_before}
use Rattle.schema.proofs.beside.Beside.of.Goals as goal
use Rattle.schema.proofs.beside.Beside.of.Goals.{In-Some}
use Rattle.schema.proofs.beside.Beside.of.Given.{Over}

-- the current row is before the others
stands : (g : Over) (c : In-Some g) → rows_left c.loop-self.self-inside.first c.loop-self.self-inside.others ≡ (c.in-Some.at, c.in-Some.row.now) ∷ c.loop-self.self-inside.others
stands g c = ap (λ first. rows_left first c.loop-self.self-inside.others) c.in-Some.is

sorted : (g : Over) (c : In-Some g) → IsStrictlySortedBy order_cmp (keys_of ((c.in-Some.at, c.in-Some.row.now) ∷ c.loop-self.self-inside.others))
sorted g c = subst (λ rows. IsStrictlySortedBy order_cmp (keys_of rows)) (stands g c) c.loop-self.invariant.sorted

pub loop-self-preserved : goal.loop-self-preserved
loop-self-preserved g c =
    let here = (goal.at.loop-self-preserved g c).In-Some in
    let others = c.loop-self.self-inside.others in
    let less : order_cmp c.in-Some.at c.args.key ≡ Less = sym c.cmp.ensures ∙ c.in-Less.is in
    let after = passed_first others c.next-self-inside.result c.next-self-inside.new.self c.next-self-inside.ensures.steps in
    record {
      sorted = subst (λ rows. IsStrictlySortedBy order_cmp (keys_of rows)) (sym after) (sorted_tail order_cmp c.in-Some.at (keys_of others) (sorted g here));
      left = λ q from.
          ap (map.find order_cmp q) after ∙ sym (find_behind orders_total q (c.in-Some.at, c.in-Some.row.now) others (before_le orders_total c.in-Some.at c.args.key q less from))
          ∙ sym (ap (map.find order_cmp q) (stands g here)) ∙ c.loop-self.invariant.left q from;
    }

pub returns-in-Greater-clause-found : goal.returns-in-Greater-clause-found
returns-in-Greater-clause-found g c =
    let here = (goal.at.returns-in-Greater-clause-found g c).In-Some in
    let key = c.args.key in
    let itself : IsTrue (is_le (order_cmp key key)) = ap is_le (tied_itself orders_total key) in
    let before : order_cmp key c.in-Some.at ≡ Less = orders_total.antisymm key c.in-Some.at ∙ ap ordering_reverse (sym c.cmp.ensures ∙ c.in-Greater.is) in
    sym (sym (c.loop-self.invariant.left key itself)
    ∙ ap (map.find order_cmp key) (stands g here) ∙ find_before orders_total key (c.in-Some.at, c.in-Some.row.now) c.loop-self.self-inside.others before (sorted g here))
