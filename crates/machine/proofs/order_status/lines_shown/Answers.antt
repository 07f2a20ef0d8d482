use Rattle.std.proofs.Common.{◌≡◌, ◌++◌, List, [], ◌∷◌, map, sym, ap, ◌∙◌}
use Rattle.std.proofs.lemmas.List.{append-nil, append_assoc}
use Rattle.rows.specs.declared.keys.OrderLineKey.{OrderLineKey}
use Rattle.rows.specs.declared.records.OrderLine.{OrderLine}
use Rattle.requests.specs.declared.order_status.StatusLine.{StatusLine}
use Rattle.machine.specs.OrderStatus as spec
use Rattle.machine.proofs.order_status.lines_shown.Goals as goal

abbrev shown : List (OrderLineKey × OrderLine) → List StatusLine
shown rows = map (λ line. spec.status_line line.1) rows

pub loop-row-init : goal.loop-row-init
loop-row-init g c =
    ap (λ lines. lines ++ shown c.into_iter-row-iterator.result) c.new-lines.ensures.items
    ∙ ap shown (c.into_iter-row-iterator.ensures.into_iter_gives ∙ c.lines_of-row-items.ensures.rows)

pub loop-row-preserved : goal.loop-row-preserved
loop-row-preserved g c =
    let left : c.loop-row.row-iterator ≡ (c.in-Some.field-0-0, c.in-Some.row.now) ∷ c.next.new.self = c.in-Some.ensures.steps in
    ap (λ lines. lines ++ shown c.next.new.self) c.in_ok-push.ensures.items
    ∙ append_assoc c.loop-row.lines.items (c.status_line.result ∷ []) (shown c.next.new.self)
    ∙ ap (λ line. c.loop-row.lines.items ++ line ∷ shown c.next.new.self) c.status_line.ensures
    ∙ ap (λ rows. c.loop-row.lines.items ++ shown rows) (sym left)
    ∙ c.loop-row.invariant

pub returns : goal.returns
returns g c =
    c.new.ensures ∙ sym (append-nil c.loop-row.lines.items)
    ∙ ap (λ rows. c.loop-row.lines.items ++ shown rows) (sym c.in-None.ensures.steps.0)
    ∙ c.loop-row.invariant
