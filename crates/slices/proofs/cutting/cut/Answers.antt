use Rattle.std.proofs.Common.{◌≡◌, ◌+◌, ◌*◌, length, ◌++◌, take, drop, map, ap, subst, sym, ◌∙◌, arith, length-append}
use Rattle.std.specs.Prelude.{reverse}
use Rattle.std.proofs.lemmas.List.{append-nil}
use Rattle.partitions.specs.Parts.{Part, part_of, parts_of}
use Rattle.partitions.proofs.PartLaws.{length-parts_of}
use Rattle.slices.specs.Openings.{AreHomeBoxesOf}
use Rattle.slices.specs.SliceView.{at_rest}
use Rattle.slices.proofs.Cuts.{next_part, one_slice_more}
use Rattle.slices.proofs.HomeBoxes.{AreFirstBoxes, first_boxes, last_boxes}
use Rattle.slices.proofs.cutting.cut.Goals as goal

pub loop-partition-init : goal.loop-partition-init
loop-partition-init g c =
    let t = c.args.tables in
    let parts : c.in_ok-catalog.parts.items ≡ parts_of t = c.in_ok-catalog.ensures.parts in
    let none = c.in_ok-slices.ensures.items in
    let many : length c.in_ok-catalog.parts.items ≡ t.scale.warehouses = ap length parts ∙ length-parts_of t in
    record {
      so_far = ap (λ s. map at_rest c.in_ok-catalog.parts.items ++ reverse s) none ∙ append-nil (map at_rest c.in_ok-catalog.parts.items) ∙ ap (map at_rest) parts;
      boxes = record { all_there = c.requires.boxes.all_there ∙ omega (arith, many); each = c.requires.boxes.each };
    }

pub open-requires-clause-warehouses : goal.open-requires-clause-warehouses
open-requires-clause-warehouses g c =
    let t = c.args.tables in
    let next : c.in-Some.partition ≡ part_of t (length c.pop.new.self.items + 1) = next_part t c.loop-partition.parts.items c.pop.new.self.items c.in-Some.partition c.loop-partition.slices.items c.loop-partition.invariant.so_far c.in-Some.ensures.items in
    c.requires.warehouses ∙ sym (ap (λ (p : Part). p.tables.scale.warehouses) next)

pub open-requires-clause-boxes : goal.open-requires-clause-boxes
open-requires-clause-boxes g c =
    let t = c.args.tables in
    let left = length c.pop.new.self.items in
    let many : c.len-in-Some.result ≡ left = let long = c.pop.new.self.ok in omega (arith, c.len-in-Some.ensures, long) in
    let next : c.in-Some.partition ≡ part_of t (left + 1) = next_part t c.loop-partition.parts.items c.pop.new.self.items c.in-Some.partition c.loop-partition.slices.items c.loop-partition.invariant.so_far c.in-Some.ensures.items in
    let boxes : AreFirstBoxes t (left + 1) c.loop-partition.boxes.items =
    subst (λ n. AreFirstBoxes t n c.loop-partition.boxes.items) (ap length c.in-Some.ensures.items ∙ length-append c.pop.new.self.items _) c.loop-partition.invariant.boxes in
    subst (λ p. AreHomeBoxesOf p c.in_ok-own.own.items) (sym next) (subst (AreHomeBoxesOf (part_of t (left + 1))) (sym (c.in_ok-own.ensures.tail ∙ ap (λ n. drop (n * 105) c.loop-partition.boxes.items) many)) (last_boxes t left c.loop-partition.boxes.items boxes))

pub loop-partition-preserved : goal.loop-partition-preserved
loop-partition-preserved g c =
    let t = c.args.tables in
    let left = length c.pop.new.self.items in
    let many : c.len-in-Some.result ≡ left = let long = c.pop.new.self.ok in omega (arith, c.len-in-Some.ensures, long) in
    let boxes : AreFirstBoxes t (left + 1) c.loop-partition.boxes.items =
    subst (λ n. AreFirstBoxes t n c.loop-partition.boxes.items) (ap length c.in-Some.ensures.items ∙ length-append c.pop.new.self.items _) c.loop-partition.invariant.boxes in
    record {
      so_far = one_slice_more t c.loop-partition.parts.items c.pop.new.self.items c.in-Some.partition c.loop-partition.slices.items c.push.new.self.items c.in_ok-open.field-0 c.loop-partition.invariant.so_far c.in-Some.ensures.items
          c.in_ok-open.ensures c.in_ok-push.ensures.items;
      boxes = subst (AreFirstBoxes t left) (sym (c.in_ok-own.ensures.items ∙ ap (λ n. take (n * 105) c.loop-partition.boxes.items) many)) (first_boxes t left c.loop-partition.boxes.items boxes);
    }
