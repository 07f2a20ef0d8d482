use Rattle.std.proofs.Common.{◌≡◌, ◌≤◌, ℕ, List, ◌++◌, [], ◌∷◌, length, get_or, sym, ap, ◌∙◌, arith}
use Rattle.std.proofs.lemmas.List.{get_or_default, nil_from_length}
use Rattle.std.proofs.lemmas.Slice.{first_rest}
use Rattle.std.specs.List.{between}
use Rattle.rows.specs.declared.keys.OrderKey.{OrderKey}
use Rattle.rows.specs.declared.keys.OrderLineKey.{OrderLineKey}
use Rattle.rows.specs.declared.records.OrderLine.{OrderLine}
use Rattle.schema.specs.OrderRows.{line_key}
use Rattle.schema.specs.PackedLines.{all_lines, with_keys}
use Rattle.schema.proofs.order_lines.LinesIterator.next.Goals as goal

-- the first line of an order in flight
first_line : (order : OrderKey) (lines : List (ℕ × OrderLine)) (later all : List (OrderLineKey × OrderLine)) (a d : ℕ × OrderLine) (key : OrderLineKey) → 1 ≤ length lines
    → key ≡ line_key order (get_or lines 0 a).0 → with_keys order lines ++ later ≡ all
    → all ≡ (key, (get_or lines 0 d).1) ∷ (with_keys order (between 1 (length lines) lines) ++ later)
first_line order lines later all a d key some is held =
    sym held ∙ ap (λ ls. with_keys order ls ++ later) (first_rest lines d some)
    ∙ ap (λ k. (k, (get_or lines 0 d).1) ∷ (with_keys order (between 1 (length lines) lines) ++ later))
    (sym (is ∙ ap (λ (l : ℕ × OrderLine). line_key order l.0) (get_or_default lines 0 a d some)))

pub returns-in-len1-up-clause-steps : goal.returns-in-len1-up-clause-steps
returns-in-len1-up-clause-steps c =
    first_line c.loop-self.self-inside.order c.loop-self.self-inside.lines.now (all_lines c.loop-self.self-inside.orders) c.args.self.now
    c.index-number-0.result c.index-row-0.result c.line_key.result c.in-len1-up.len_at_least c.line_key.ensures c.loop-self.invariant

pub returns-in-len1-up-clause-goes : goal.returns-in-len1-up-clause-goes
returns-in-len1-up-clause-goes c =
    let steps = ap length (first_line c.loop-self.self-inside.order c.loop-self.self-inside.lines.now (all_lines c.loop-self.self-inside.orders) c.args.self.now
    c.index-number-0.result c.index-row-0.result c.line_key.result c.in-len1-up.len_at_least c.line_key.ensures c.loop-self.invariant) in
    record { on = λ _. (tt, tt, omega (arith, steps)); keeps = tt; rests = λ _. tt }

pub returns-in_err-order-clause-steps : goal.returns-in_err-order-clause-steps
returns-in_err-order-clause-steps c =
    let order = c.loop-self.self-inside.order in
    let none : c.loop-self.self-inside.lines.now ≡ [] = nil_from_length c.loop-self.self-inside.lines.now (omega (arith, c.in_default.len_below)) in
    rw c.from_residual.ensures (
      sym c.loop-self.invariant ∙ ap (λ ls. with_keys order ls ++ all_lines c.loop-self.self-inside.orders) none ∙ ap all_lines c.in_err-order.ensures.steps.0,
      ap (λ ls. with_keys order ls ++ all_lines c.next.new.self) none ∙ ap all_lines c.in_err-order.ensures.steps.1,
    )

pub loop-self-smaller : goal.loop-self-smaller
loop-self-smaller c = omega (arith, ap length c.in_ok-order.ensures.steps)

pub loop-self-preserved : goal.loop-self-preserved
loop-self-preserved c =
    let none : c.loop-self.self-inside.lines.now ≡ [] = nil_from_length c.loop-self.self-inside.lines.now (omega (arith, c.in_default.len_below)) in
    ap (λ ls. with_keys c.in_ok-order.order.now ls ++ all_lines c.next.new.self) c.as_slice-self-inside.ensures.rows
    ∙ sym (ap all_lines c.in_ok-order.ensures.steps)
    ∙ sym (ap (λ ls. with_keys c.loop-self.self-inside.order ls ++ all_lines c.loop-self.self-inside.orders) none) ∙ c.loop-self.invariant
