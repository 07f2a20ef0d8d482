use Rattle.std.proofs.Common.{◌-◌, ◌≤◌, sym, subst, refl, ◌∙◌, arith}
use Rattle.std.specs.Prelude.{All}
use Rattle.transactions.specs.declared.shard.Acted.{Acted}
use Rattle.transactions.specs.declared.shard.Acted.TheVariants as acted
use Rattle.transactions.specs.Shards.{ActsAs, ShardView}
use Rattle.transactions.specs.Works.{CanDo, home_of}
use Rattle.world.specs.declared.flight.Carried.{Carried}
use Rattle.world.specs.Events.{carried_by, holder_of, put_for}
use Rattle.world.specs.declared.world.Parts.{Parts}
use Rattle.world.specs.Shards.{IsShardOf}
use Rattle.world.proofs.Parted.{work_within}
use Rattle.world.proofs.Placed.{home_there, place_within, placed, placed_alone, shared_there, shards_set}
use Rattle.world.proofs.world.Parts.ask.Given as given
use Rattle.world.proofs.world.Parts.ask.Goals as goal
use Rattle.world.proofs.world.Parts.ask.Goals.{After-home-home}

-- the warehouse is one of the scale
within : (g : given.Over) (c : After-home-home g) → (1 ≤ c.home-home.result) × (c.home-home.result ≤ c.args.self.now.catalog.scale.warehouses)
within g c = work_within c.args.self.now.catalog c.args.act.work c.home-home.result c.home-home.ensures c.requires.can

pub overflow_sub-home : goal.overflow_sub-home
overflow_sub-home g c = (within g (goal.at.overflow_sub-home g c).After-home-home).0

pub overflow_sub-home-2 : goal.overflow_sub-home-2
overflow_sub-home-2 g c = (within g (goal.at.overflow_sub-home-2 g c).After-home-home).0

pub index_mut-requires : goal.index_mut-requires
index_mut-requires g c =
    let own = within g (goal.at.index_mut-requires g c).After-home-home in
    omega (arith, place_within c.args.self.now c.requires.slices c.home-home.result own.0 own.1, c.args.self.now.shards.ok)

pub index-requires : goal.index-requires
index-requires g c =
    let own = within g (goal.at.index-requires g c).After-home-home in
    omega (arith, place_within c.args.self.now c.requires.slices c.home-home.result own.0 own.1, c.args.self.now.shards.ok)

pub try_action-acted-requires-clause-can : goal.try_action-acted-requires-clause-can
try_action-acted-requires-clause-can g c =
    let own = within g (goal.at.try_action-acted-requires-clause-can g c).After-home-home in
    subst (λ s. CanDo s c.args.act.work) (sym (shared_there c.args.self.now c.requires.slices c.home-home.result own.0 own.1 c.index_mut.result.now c.index_mut.ensures.value)) c.requires.can

pub try_action-acted-requires-clause-home : goal.try_action-acted-requires-clause-home
try_action-acted-requires-clause-home g c =
    let own = within g (goal.at.try_action-acted-requires-clause-home g c).After-home-home in
    sym c.home-home.ensures ∙ sym (home_there c.args.self.now c.requires.slices c.home-home.result own.0 own.1 c.index_mut.result.now c.index_mut.ensures.value)

pub returns-in-Ran-clause-asks : goal.returns-in-Ran-clause-asks
returns-in-Ran-clause-asks g c =
    let own = within g (goal.at.returns-in-Ran-clause-asks g c).After-home-home in
    let old = c.args.self.now in
    let act = c.args.act in
    let recorded = acted.Ran c.in-Ran.ran c.in-Ran.carried in
    let Of : ShardView (Carried g.row.J.Denot) → ShardView (Carried g.row.J.Denot) → Type 0 = λ was now. ActsAs (holder_of act) act.work (carried_by act) was recorded now in
    let happened : Of c.index_mut.result.now c.try_action-acted.new.self =
    subst (λ (a : Acted g.row.J.Denot (Carried g.row.J.Denot)). ActsAs (holder_of act) act.work (carried_by act) c.index_mut.result.now a c.try_action-acted.new.self) c.in-Ran.is c.try_action-acted.ensures in
    (recorded, placed old c.requires.slices c.home-home.result own.0 own.1 c.index_mut.result.now c.index_mut.ensures.value (home_of act.work) c.home-home.ensures c.try_action-acted.new.self _ (put_for act.place recorded) Of c.put_report.new.self refl c.put_report.ensures happened)

pub returns-in-Waits-clause-asks : goal.returns-in-Waits-clause-asks
returns-in-Waits-clause-asks g c =
    let own = within g (goal.at.returns-in-Waits-clause-asks g c).After-home-home in
    let old = c.args.self.now in
    let act = c.args.act in
    let Of : ShardView (Carried g.row.J.Denot) → ShardView (Carried g.row.J.Denot) → Type 0 = λ was now. ActsAs {J = g.row.J.Denot} (holder_of act) act.work (carried_by act) was acted.Waits now in
    let happened : Of c.index_mut.result.now c.try_action-acted.new.self =
    subst (λ (a : Acted g.row.J.Denot (Carried g.row.J.Denot)). ActsAs (holder_of act) act.work (carried_by act) c.index_mut.result.now a c.try_action-acted.new.self) c.in-Waits.is c.try_action-acted.ensures in
    (acted.Waits, placed_alone old c.requires.slices c.home-home.result own.0 own.1 c.index_mut.result.now c.index_mut.ensures.value (home_of act.work) c.home-home.ensures c.try_action-acted.new.self _ Of refl happened)

pub returns-in-Ran-clause-shards : goal.returns-in-Ran-clause-shards
returns-in-Ran-clause-shards g c =
    let own = within g (goal.at.returns-in-Ran-clause-shards g c).After-home-home in
    let old = c.args.self.now in
    subst (λ (w : Parts g.row.J.Denot). All (IsShardOf g.J.GroupNames.warehouses) w.shards.items) (sym c.put_report.ensures)
    (shards_set g.J.GroupNames.warehouses old.shards.items (c.home-home.result - 1) c.try_action-acted.new.self c.index.result.now (place_within old c.requires.slices c.home-home.result own.0 own.1) c.requires.shards c.index.ensures c.slice.ensures.shard)

pub returns-in-Waits-clause-shards : goal.returns-in-Waits-clause-shards
returns-in-Waits-clause-shards g c =
    let own = within g (goal.at.returns-in-Waits-clause-shards g c).After-home-home in
    let old = c.args.self.now in
    shards_set g.J.GroupNames.warehouses old.shards.items (c.home-home.result - 1) c.try_action-acted.new.self c.index.result.now (place_within old c.requires.slices c.home-home.result own.0 own.1) c.requires.shards c.index.ensures c.slice.ensures.shard
