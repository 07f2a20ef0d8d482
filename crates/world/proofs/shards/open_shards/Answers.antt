use Rattle.std.proofs.Common.{rules, ◌≡◌, List, [], ◌∷◌, ◌++◌, map, ap, subst, sym, ◌∙◌, arith, append_assoc}
use Rattle.std.specs.Prelude.{All}
use Rattle.std.proofs.lemmas.List.{append-nil}
use Rattle.std.proofs.lemmas.List.Elements.{All-append, All-cons, All-nil, All-tail}
use Rattle.slices.proofs.Opened.{none_left}
use Rattle.world.specs.Shards.{IsShardOf, NobodyWaitsIn, shard_of}
use Rattle.world.proofs.shards.open_shards.Goals as goal

-- one more shard is made
one_more : {X Y : Type 0} (f : X → Y) (all rest next : List X) (made new : List Y) (x : X) (y : Y) → made ++ map f rest ≡ map f all → rest ≡ x ∷ next → new ≡ made ++ y ∷ [] → y ≡ f x → new ++ map f next ≡ map f all
one_more f all rest next made new x y so_far listed put is =
    ap (λ ys. ys ++ map f next) put ∙ ap (λ v. (made ++ v ∷ []) ++ map f next) is ∙ append_assoc made (f x ∷ []) (map f next) ∙ sym (ap (λ xs. made ++ map f xs) listed) ∙ so_far

pub loop-slice-preserved : goal.loop-slice-preserved
loop-slice-preserved g c =
    let rest : c.loop-slice.slice-iterator.rest.items ≡ c.in-Some.slice ∷ c.next.new.self.rest.items = search rules in
    let warehouses = g.J.GroupNames.warehouses in
    let shard = c.new-shard.result in
    record {
      can_next = tt;
      finite = tt;
      shards = one_more shard_of c.args.slices.items c.loop-slice.slice-iterator.rest.items c.next.new.self.rest.items c.loop-slice.shards.items c.push.new.self.items c.in-Some.slice shard
          c.loop-slice.invariant.shards rest c.in_ok-push.ensures.items c.new-shard.ensures;
      fine = subst (All (IsShardOf warehouses)) (sym c.in_ok-push.ensures.items)
          (All-append (IsShardOf warehouses) c.loop-slice.shards.items (shard ∷ []) c.loop-slice.invariant.fine (All-cons (IsShardOf warehouses) shard [] c.slice.ensures.shard (All-nil (IsShardOf warehouses))));
      none = All-tail NobodyWaitsIn c.in-Some.slice c.next.new.self.rest.items (subst (All NobodyWaitsIn) rest c.loop-slice.invariant.none);
    }

pub returns-clause-made : goal.returns-clause-made
returns-clause-made g c =
    let shards = c.loop-slice.shards.items in
    let rest = c.loop-slice.slice-iterator.rest.items in
    let none : rest ≡ [] = none_left rest (let long = c.loop-slice.slice-iterator.rest.ok in omega (arith, c.in-None.ensures.steps.0, long)) in
    sym (append-nil shards) ∙ sym (ap (λ l. shards ++ map shard_of l) none) ∙ c.loop-slice.invariant.shards

pub returns-clause-shards : goal.returns-clause-shards
returns-clause-shards g c = c.loop-slice.invariant.fine
