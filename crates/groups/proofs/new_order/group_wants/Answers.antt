use Rattle.std.proofs.Common.{◌≡◌, ◌++◌, List, [], ◌∷◌, get_or, take, take_all, sym, ap, ◌∙◌}
use Rattle.requests.specs.declared.group.Group.{Group}
use Rattle.requests.specs.declared.new_order.OrderedLine.{OrderedLine}
use Rattle.groups.specs.declared.group_wants.GroupWant.{GroupWant}
use Rattle.groups.specs.Modes.{exclusively}
use Rattle.groups.specs.NewOrder.{group_of_supply}
use Rattle.groups.proofs.NewOrderGroups.{is_wanted_group, group_wants_after, no_group_want_more, one_group_want_more}
use Rattle.groups.proofs.new_order.group_wants.Goals as goal
use Rattle.groups.proofs.new_order.group_wants.Goals.{then-not-is_wanted_group+in_ok-push-4, else-not-is_wanted_group}

abbrev default : OrderedLine
default = record { i_id = 0; supply_w_id = 0; quantity = 0 }

pub loop-line-preserved : goal.loop-line-preserved
loop-line-preserved c =
    let home = c.args.order.now.home in
    let lines = c.as_slice-line-items.result.now in
    let i = c.loop-line.line-index in
    let before : List GroupWant = group_wants_after home.w_id home.d_id (take i lines) in
    let own : Group = group_of_supply (get_or lines i default) in
    let answer : c.is_wanted_group.result ≡ is_wanted_group own before =
    c.is_wanted_group.ensures
    ∙ ap (is_wanted_group c.group_of_supply-group.result) (c.as_slice.ensures.value ∙ c.loop-line.invariant)
    ∙ ap (λ group. is_wanted_group group before) c.group_of_supply-group.ensures in
    elim c.if-not-is_wanted_group.branch [
      | then-not-is_wanted_group+in_ok-push-4 w ↦
          ap (λ (group_wants : _). group_wants.items) w.group_wants-is
          ∙ w.in_ok-push-4.ensures.items
          ∙ ap (λ group_wants. group_wants ++ w.exclusively-then-not-is_wanted_group.result ∷ []) c.loop-line.invariant
          ∙ ap (λ group_want. before ++ group_want ∷ []) (w.exclusively-then-not-is_wanted_group.ensures ∙ ap exclusively c.group_of_supply-group.ensures)
          ∙ sym (one_group_want_more home.w_id home.d_id lines i default c.loop-line-test.true (sym answer ∙ w.if-not-is_wanted_group.true))
      | else-not-is_wanted_group w ↦
          ap (λ (group_wants : _). group_wants.items) w.group_wants-is
          ∙ c.loop-line.invariant
          ∙ sym (no_group_want_more home.w_id home.d_id lines i default c.loop-line-test.true (sym answer ∙ w.if-not-is_wanted_group.false))
    ]

pub returns : goal.returns
returns c =
    let home = c.args.order.now.home in
    let lines = c.as_slice-line-items.result.now in
    let all : take c.loop-line.line-index lines ≡ c.args.order.now.lines =
    take_all c.loop-line.line-index lines c.loop-line-test.false ∙ c.as_slice-line-items.ensures in
    c.in_ok-push-5.ensures.items
    ∙ ap (λ group_wants. group_wants ++ c.exclusively-2.result ∷ []) (c.loop-line.invariant ∙ ap (group_wants_after home.w_id home.d_id) all)
    ∙ ap (λ group_want. group_wants_after home.w_id home.d_id c.args.order.now.lines ++ group_want ∷ []) c.exclusively-2.ensures
