use Rattle.std.proofs.Common.{◌≡◌, [], ◌++◌, IfOk, map, ap, subst, sym, ◌∙◌, arith}
use Rattle.std.proofs.lemmas.List.{append-nil}
use Rattle.partitions.specs.Parts.{ArePartsOf, whole_of}
use Rattle.slices.specs.SliceView.{part_in}
use Rattle.slices.proofs.Joined.{parts_of_slices}
use Rattle.slices.proofs.Opened.{none_left}
use Rattle.slices.proofs.cutting.whole.Goals as goal

pub whole-requires : goal.whole-requires
whole-requires g c =
    let parts = c.loop-slice.parts.items in
    let none : c.loop-slice.slice-iterator.rest.items ≡ [] = none_left c.loop-slice.slice-iterator.rest.items (let long = c.loop-slice.slice-iterator.rest.ok in omega (arith, c.in-None.ensures.steps.0, long)) in
    let all = sym (append-nil parts) ∙ sym (ap (λ l. parts ++ map part_in l) none) ∙ c.loop-slice.invariant.parts in
    subst (ArePartsOf c.args.catalog) (sym all) (parts_of_slices c.args.catalog c.args.slices.items c.requires)

pub returns : goal.returns
returns g c =
    let parts = c.loop-slice.parts.items in
    let none : c.loop-slice.slice-iterator.rest.items ≡ [] = none_left c.loop-slice.slice-iterator.rest.items (let long = c.loop-slice.slice-iterator.rest.ok in omega (arith, c.in-None.ensures.steps.0, long)) in
    let all = sym (append-nil parts) ∙ sym (ap (λ l. parts ++ map part_in l) none) ∙ c.loop-slice.invariant.parts in
    subst (λ ps. IfOk c.whole.result (λ tables. tables ≡ whole_of c.args.catalog ps)) all c.whole.ensures
