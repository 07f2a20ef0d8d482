use Rattle.std.proofs.Common.{◌≡◌, Bool, true, false, Option, None, Some, not, is_some, length, refl, sym, ap, ◌∙◌, arith}
use Rattle.std.proofs.lemmas.Bool.{false≢true}
use Rattle.schema.specs.PackedLines.{all_lines}
use Rattle.schema.proofs.PackedLines.{kept_as_many, kept_one_more, kept_replaced}
use Rattle.schema.proofs.order_lines.OrderLines.put.Goals as goal

pub invariant_of-self : goal.invariant_of-self
invariant_of-self c =
    kept_as_many c.self.inside.orders.entries c.put.new.orders.entries c.self.inside.count c.self.invariant c.put.ensures.ordered c.put.ensures.numbered
    (ap (λ es. length (all_lines es)) c.in_err-was.ensures.err)

pub invariant_of-self-then-is_none : goal.invariant_of-self-then-is_none
invariant_of-self-then-is_none c =
    kept_one_more c.self.inside.orders.entries c.put.new.orders.entries c.self.inside.count c.self.invariant c.put.ensures.ordered c.put.ensures.numbered c.args.key c.args.row c.in_ok-was.ensures.ok
    (sym c.in_ok-was.ensures.was ∙ none c.in_ok-was.was' c.is_none.result c.is_none.ensures c.if-is_none.true) (omega arith)
  where
    none : {X : Type 0} (r : Option X) (b : Bool) → is_some r ≡ not b → b ≡ true → r ≡ None
    none None b e h = refl
    none (Some x) b e h = absurd (false≢true (sym (e ∙ ap not h)))

pub invariant_of-self-else-is_none : goal.invariant_of-self-else-is_none
invariant_of-self-else-is_none c =
    kept_replaced c.self.inside.orders.entries c.put.new.orders.entries c.self.inside.count c.self.invariant c.put.ensures.ordered c.put.ensures.numbered c.args.key c.args.row c.in_ok-was.ensures.ok
    (ap is_some (sym c.in_ok-was.ensures.was) ∙ some c.in_ok-was.was' c.is_none.result c.is_none.ensures c.if-is_none.false)
  where
    some : {X : Type 0} (r : Option X) (b : Bool) → is_some r ≡ not b → b ≡ false → is_some r ≡ true
    some r b e h = e ∙ ap not h
