use Rattle.std.proofs.Common.{◌-◌, ◌≤◌, List, [], ◌∷◌, ◌++◌, refl, sym, ap, subst, ◌∙◌, arith}
use Rattle.std.specs.Prelude.{All}
use Rattle.transactions.specs.Shards.{OneTurn, ShardView}
use Rattle.world.specs.declared.flight.Carried.{Carried}
use Rattle.world.specs.declared.world.Parts.{Parts}
use Rattle.world.specs.Events.{TakesTurn, report_of}
use Rattle.world.specs.Shards.{IsShardOf}
use Rattle.world.proofs.Placed.{found_there, place_within, placed, shards_set}
use Rattle.world.proofs.Turning.{all_turned, one_turn_more, set_again, turn_catalog, turn_room, turn_slices, turn_smaller}
use Rattle.world.proofs.world.Parts.take_turns.Given as given
use Rattle.world.proofs.world.Parts.take_turns.Goals as goal
use Rattle.world.proofs.world.Parts.take_turns.Goals.{After-index_mut, After-put_report}

-- the warehouse is one of the scale
last : (g : given.Over) (c : After-index_mut g) → c.args.home ≤ c.loop-turned.self.catalog.scale.warehouses
last g c = omega (arith, c.requires.warehouses, ap (λ s. s.scale.warehouses) c.loop-turned.invariant.catalog)

-- one turn was taken
turn : (g : given.Over) (c : After-put_report g) → TakesTurn c.args.home c.in-Some.turned c.loop-turned.self c.put_report.new.self
turn g c =
    let t = c.in-Some.turned in
    placed c.loop-turned.self c.loop-turned.invariant.slices c.args.home c.requires.home (omega (arith, c.requires.warehouses, ap (λ s. s.scale.warehouses) c.loop-turned.invariant.catalog)) c.index_mut.result.now c.index_mut.ensures.value
    c.args.home refl c.turn.new.self _ (report_of t.by.place t.carried t.ran ∷ []) (λ was now. OneTurn was t now) c.put_report.new.self refl c.put_report.ensures c.in-Some.ensures.turn

pub loop-turned-smaller : goal.loop-turned-smaller
loop-turned-smaller g c =
    let one = turn g (goal.at.loop-turned-smaller g c).After-put_report in
    turn_smaller c.loop-turned.self c.put_report.new.self c.loop-turned.invariant.slices c.args.home c.in-Some.turned one

pub loop-turned-preserved : goal.loop-turned-preserved
loop-turned-preserved g c =
    let at = goal.at.loop-turned-preserved g c in
    let one = turn g at.After-put_report in
    let before = c.loop-turned.self in
    let after = c.put_report.new.self in
    let below = place_within before c.loop-turned.invariant.slices c.args.home c.requires.home (last g at.After-index_mut) in
    record {
      home = refl;
      catalog = turn_catalog before after c.loop-turned.invariant.slices c.args.home c.in-Some.turned one ∙ c.loop-turned.invariant.catalog;
      slices = turn_slices before after c.loop-turned.invariant.slices c.args.home c.in-Some.turned one;
      shards = subst (λ (w : Parts g.row.J.Denot). All (IsShardOf g.J.GroupNames.warehouses) w.shards.items) (sym c.put_report.ensures)
          (shards_set g.J.GroupNames.warehouses before.shards.items (c.args.home - 1) c.turn.new.self c.index.result.now below c.loop-turned.invariant.shards c.index.ensures c.slice.ensures.shard);
      room = turn_room before after c.loop-turned.invariant.slices c.args.home c.in-Some.turned one below c.loop-turned.invariant.room;
      follow = (
        c.loop-turned.invariant.follow.0 ++ c.in-Some.turned ∷ [],
        one_turn_more c.args.home c.loop-turned.invariant.follow.0 c.in-Some.turned c.args.self.now before after c.loop-turned.invariant.follow.1 one,
      );
    }

pub returns-clause-turns : goal.returns-clause-turns
returns-clause-turns g c =
    let up = last g (goal.at.returns-clause-turns g c).After-index_mut in
    let mid = c.loop-turned.self in
    let are = c.loop-turned.invariant.slices in
    let there = found_there mid are c.args.home c.requires.home up c.index_mut.result.now c.index_mut.ensures.value in
    all_turned c.args.home c.args.self.now mid c.loop-turned.invariant.follow.0 c.loop-turned.invariant.follow.1 c.index_mut.result.now c.turn.new.self there c.in_default.ensures.same c.in_default.ensures.none
    (place_within mid are c.args.home c.requires.home up) _ refl

pub returns-clause-shards : goal.returns-clause-shards
returns-clause-shards g c =
    let up = last g (goal.at.returns-clause-shards g c).After-index_mut in
    let mid = c.loop-turned.self in
    let are = c.loop-turned.invariant.slices in
    let there = found_there mid are c.args.home c.requires.home up c.index_mut.result.now c.index_mut.ensures.value in
    let same = set_again c.args.home c.args.self.now mid c.loop-turned.invariant.follow.0 c.loop-turned.invariant.follow.1 c.index_mut.result.now c.turn.new.self there c.in_default.ensures.same c.in_default.ensures.none
    (place_within mid are c.args.home c.requires.home up) in
    subst (λ (l : List (ShardView (Carried g.row.J.Denot))). All (IsShardOf g.J.GroupNames.warehouses) l) (sym same) c.loop-turned.invariant.shards
