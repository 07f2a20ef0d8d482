use Rattle.std.proofs.Common.{◌≤◌, ◌<◌, ◌++◌, length, take, flat_map, get_or, sym, ap, ◌∙◌}
use Rattle.std.proofs.lemmas.List.{append-nil, append_assoc, get_or_default, take_all}
use Rattle.terminals.specs.LockChanges.{age_fields}
use Rattle.terminals.proofs.FieldsOfEach.{fields-more}
use Rattle.terminals.proofs.lock_changes.put_ages.Goals as goal

pub loop-age-init : goal.loop-age-init
loop-age-init c = sym (append-nil c.args.row.now)

pub loop-age-preserved : goal.loop-age-preserved
loop-age-preserved c =
    let i = c.loop-age.age-index in
    let row = c.args.row.now in
    let one = get_or c.args.ages.now i 0 in
    let before = flat_map age_fields (take i c.args.ages.now) in
    let there : i < length c.args.ages.now = c.loop-age-test.true in
    let next = fields-more age_fields i c.args.ages.now one there (get_or_default c.args.ages.now i 0 one there) in
    c.in_ok-put_age.ensures ∙ ap (λ l. l ++ age_fields one) c.loop-age.invariant ∙ append_assoc row before (age_fields one) ∙ ap (λ l. row ++ l) (sym next)

pub returns : goal.returns
returns c =
    let done : length c.args.ages.now ≤ c.loop-age.age-index = c.loop-age-test.false in
    c.loop-age.invariant ∙ ap (λ l. c.args.row.now ++ flat_map age_fields l) (take_all c.loop-age.age-index c.args.ages.now done)
