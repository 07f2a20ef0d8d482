use Rattle.std.proofs.Common.{rules, ◌≡◌, [], ◌++◌, map, ap, sym, ◌∙◌, arith}
use Rattle.std.proofs.lemmas.List.{append-nil}
use Rattle.slices.proofs.Opened.{none_left}
use Rattle.world.specs.Shards.{slice_of}
use Rattle.world.proofs.shards.into_slices.Goals as goal

pub loop-shard-init : goal.loop-shard-init
loop-shard-init g c =
    let shards = c.into_iter-shard-iterator.result.rest.items in
    let rest : shards ≡ c.args.shards.items = search rules in
    record {
      can_next = tt;
      finite = tt;
      slices = ap (λ l. l ++ map slice_of shards) c.in_ok-slices.ensures.items ∙ ap (map slice_of) rest;
    }

pub returns : goal.returns
returns g c =
    let slices = c.loop-shard.slices.items in
    let rest = c.loop-shard.shard-iterator.rest.items in
    let none : rest ≡ [] = none_left rest (let long = c.loop-shard.shard-iterator.rest.ok in omega (arith, c.in-None.ensures.steps.0, long)) in
    sym (append-nil slices) ∙ sym (ap (λ l. slices ++ map slice_of l) none) ∙ c.loop-shard.invariant.slices
