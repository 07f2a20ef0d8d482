use Rattle.std.proofs.Common.{◌∷◌, [], map, sym, ap, subst, ◌∙◌}
use Rattle.std.proofs.lemmas.List.{map-append}
use Rattle.std.specs.List.{AllByRecursion}
use Rattle.std.specs.Map.{values_of}
use Rattle.schema.specs.Entries.{entry}
use Rattle.dataset.proofs.EntriesGiven.{given-all}
use Rattle.dataset.proofs.Keys.{all-append}
use Rattle.dataset.proofs.ranges.read_values.Goals as goal

pub loop-row-preserved : goal.loop-row-preserved
loop-row-preserved g c =
    let key = c.in-Some.field-0-0 in
    let row = c.in-Some.row in
    let before = map entry c.loop-row.yielded in
    let read = all-append g.T.Columns.in_range (values_of before) (row.now ∷ []) c.loop-row.invariant (c.read.ensures, tt) in
    subst (AllByRecursion g.T.Columns.in_range) (sym (ap values_of (map-append entry c.loop-row.yielded ((key, row) ∷ [])) ∙ map-append (λ e. e.1) before ((key, row.now) ∷ []))) read

pub returns : goal.returns
returns g c left gives =
    let all = ap left (sym c.into_iter-row-iterator.ensures.into_iter_gives) ∙ given-all left gives c.into_iter-row-iterator.result c.loop-row.yielded c.loop-row.row-iterator c.next.new.self c.loop-row.yielded_by c.in-None.ensures.steps in
    subst (λ es. AllByRecursion g.T.Columns.in_range (values_of es)) (sym all) c.loop-row.invariant
