use Rattle.std.proofs.Common.{◌≡◌, ◌+◌, ◌++◌, [], ◌∷◌, Bool, cond, get_or, map, take, sym, ap, ◌∙◌}
use Rattle.std.specs.List.{list_any}
use Rattle.std.proofs.lemmas.List.{map_more}
use Rattle.requests.specs.declared.group.Group.{Group}
use Rattle.requests.specs.declared.new_order.OrderedLine.{OrderedLine}
use Rattle.groups.specs.Groups.{is_same}
use Rattle.groups.specs.NewOrder.{firsts, group_of_supply, supplies_of}
use Rattle.groups.proofs.Firsts.{firsts_more}
use Rattle.transactions.proofs.new_order.phases.supplies.Goals as goal
use Rattle.transactions.proofs.new_order.phases.supplies.Goals.{then-not-is_among+in_ok-push, else-not-is_among}

abbrev default : OrderedLine
default = record { i_id = 0; supply_w_id = 0; quantity = 0 }

pub loop-line-preserved : goal.loop-line-preserved
loop-line-preserved c =
    let lines = c.args.lines.now in
    let i = c.loop-line.line-index in
    let before = supplies_of (take i lines) in
    let own : Group = group_of_supply (get_or lines i default) in
    let among : Bool = list_any (λ group. is_same group own) before in
    let more : supplies_of (take (i + 1) lines) ≡ cond among before (before ++ own ∷ []) =
    ap firsts (map_more group_of_supply lines i default c.loop-line-test.true) ∙ firsts_more (map group_of_supply (take i lines)) own in
    let answer : c.is_among.result ≡ among =
    c.is_among.ensures ∙ (λ j. list_any (λ group. is_same group (c.supply_of-group.ensures j)) ((c.deref.ensures.value ∙ c.loop-line.invariant) j)) in
    elim c.if-not-is_among.branch [
      | then-not-is_among+in_ok-push w ↦
          ap (λ (groups : _). groups.items) w.groups-is
          ∙ w.in_ok-push.ensures.items
          ∙ (λ j. c.loop-line.invariant j ++ c.supply_of-group.ensures j ∷ [])
          ∙ sym (more ∙ ap (λ b. cond b before (before ++ own ∷ [])) (sym answer ∙ w.if-not-is_among.true))
      | else-not-is_among w ↦
          ap (λ (groups : _). groups.items) w.groups-is
          ∙ c.loop-line.invariant
          ∙ sym (more ∙ ap (λ b. cond b before (before ++ own ∷ [])) (sym answer ∙ w.if-not-is_among.false))
    ]
