use Rattle.std.proofs.Common.{◌≡◌, ◌<◌, List, [], ◌∷◌, ◌++◌, length, map, take, ap, subst, sym, ◌∙◌, arith}
use Rattle.std.specs.Prelude.{IfOk}
use Rattle.std.proofs.lemmas.List.{map-append, take_all, take_more}
use Rattle.partitions.specs.Parts.{ArePartsOf, Part, whole_of}
use Rattle.slices.specs.SliceView.{part_in}
use Rattle.slices.proofs.Joined.{parts_of_slices}
use Rattle.world.specs.Shards.{part_of, slice_of}
use Rattle.world.proofs.ShardView.{parts_of_shards}
use Rattle.world.proofs.shards.copy_whole.Goals as goal

pub loop-shard-preserved : goal.loop-shard-preserved
loop-shard-preserved g c =
    let shards = c.args.shards.now in
    let at = c.loop-shard.shard-index in
    let one = c.in_ok-try_clone.field-0 in
    let below : at < length shards = c.loop-shard-test.true in
    let same : part_of c.shard-item.result ≡ one = sym (c.in_ok-try_clone.ensures ∙ c.partition.ensures.rows ∙ ap part_in c.slice.ensures.slice) in
    c.in_ok-push.ensures.items ∙ ap (λ (ps : List Part). ps ++ one ∷ []) c.loop-shard.invariant
    ∙ ap (λ (p : Part). map part_of (take at shards) ++ p ∷ []) (sym same)
    ∙ sym (map-append part_of (take at shards) (c.shard-item.result ∷ []))
    ∙ ap (map part_of) (sym (take_more shards at c.shard-item.result below ∙ ap (λ s. take at shards ++ s ∷ []) (sym c.shard-item.is)))

pub whole-requires : goal.whole-requires
whole-requires g c =
    let shards = c.args.shards.now in
    let all = c.loop-shard.invariant ∙ ap (map part_of) (take_all c.loop-shard.shard-index shards (omega (arith, c.loop-shard-test.false))) ∙ parts_of_shards shards in
    subst (λ shared. ArePartsOf shared c.loop-shard.parts.items) (sym c.in_ok-share.ensures) (subst (ArePartsOf c.args.catalog.now) (sym all) (parts_of_slices c.args.catalog.now (map slice_of shards) c.requires))

pub returns : goal.returns
returns g c =
    let shards = c.args.shards.now in
    let all = c.loop-shard.invariant ∙ ap (map part_of) (take_all c.loop-shard.shard-index shards (omega (arith, c.loop-shard-test.false))) ∙ parts_of_shards shards in
    subst (λ ps. IfOk c.whole.result (λ tables. tables ≡ whole_of c.args.catalog.now ps)) all (subst (λ shared. IfOk c.whole.result (λ tables. tables ≡ whole_of shared c.loop-shard.parts.items)) c.in_ok-share.ensures c.whole.ensures)
