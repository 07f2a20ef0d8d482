use Rattle.std.proofs.Common.{◌≡◌, ◌+◌, ◌-◌, ◌*◌, take, drop, ap, ◌∙◌, arith}
use Rattle.partitions.specs.Splits.{chunk}
use Rattle.partitions.proofs.LastFirst.{pushed}
use Rattle.partitions.proofs.Chunks.{split_off_chunk, rest_left, first_chunk}
use Rattle.partitions.proofs.splits.split.Goals as goal
use Rattle.partitions.proofs.splits.split.Goals.{then-parts-gt1, else-parts-gt1}

pub loop-place-preserved : goal.loop-place-preserved
loop-place-preserved g c =
    let each = c.args.each in
    let rows = c.args.rows.items in
    let place = c.loop-place.place in
    let next : place ≡ place - 1 + 1 = omega (arith, c.loop-place-test.true) in
    let off = c.in_ok-split_off.ensures in
    record {
      below = omega (arith, c.loop-place.invariant.below);
      split = pushed (place - 1 + 1) (place + 1) c.args.parts _ _ _ (omega arith) c.in_ok-push.ensures.items c.loop-place.invariant.split
          (off.tail ∙ ap (λ l. drop (place * each) l) c.loop-place.invariant.rest ∙ split_off_chunk each rows place ∙ ap (λ n. chunk each n rows) next);
      rest = off.items ∙ ap (take (place * each)) c.loop-place.invariant.rest ∙ rest_left each rows place ∙ ap (λ n. take (n * each) rows) next;
    }

pub returns : goal.returns
returns g c =
    let each = c.args.each in
    let rows = c.args.rows.items in
    let zero : c.loop-place.place ≡ 0 = omega (arith, c.loop-place-test.false) in
    let left : c.loop-place.rest.items ≡ chunk each 0 rows = c.loop-place.invariant.rest ∙ ap (λ n. take ((n + 1) * each) rows) zero ∙ first_chunk each rows in
    let same : c.if-parts-gt1.rest.items ≡ c.loop-place.rest.items = elim c.if-parts-gt1.branch [ then-parts-gt1 w ↦ ap (λ v. v.items) w.rest-is ∙ w.shrink_to_fit.ensures.items | else-parts-gt1 w ↦ ap (λ v. v.items) w.rest-is ] in
    pushed 0 (c.loop-place.place + 1) c.args.parts _ _ _ (omega arith) c.in_ok-push-2.ensures.items c.loop-place.invariant.split (same ∙ left)
