use Rattle.std.proofs.Common.{◌≡◌, List, sym, ◌∙◌, ap, subst, arith, map}
use Rattle.world.specs.Shards.{slice_of}
use Rattle.world.specs.declared.flight.Carried.{Carried}
use Rattle.transactions.specs.Shards.{ShardView}
use Rattle.partitions.specs.Parts.{shared_of}
use Rattle.slices.specs.SliceView.{joined}
use Rattle.world.specs.declared.world.Core.{Core}
use Rattle.world.specs.Slots.{count_active}
use Rattle.world.specs.Together.{together}
use Rattle.world.specs.Worlds.{Fits, count_busy, tables_now}
use Rattle.world.proofs.NeverStuck.{rests_idle}
use Rattle.world.proofs.Quiet.{idle_tables}
use Rattle.world.proofs.world.World.gather.Goals as goal

pub returns-in-Ok-clause-tables : goal.returns-in-Ok-clause-tables
returns-in-Ok-clause-tables g c opening history f =
    let w = (together c.self.inside.core) in
    let idle : count_busy c.self.inside.core ≡ 0 = c.is_idle.ensures.0 c.if-not-is_idle.false in
    let none : count_active w.desk.active ≡ 0 = omega (arith, idle) in
    c.in-Ok.ensures ∙ ap (λ (l : List (ShardView (Carried g.row.J.Denot))). (joined w.catalog (map slice_of l)).tables) c.deref.ensures.value
    ∙ idle_tables (shared_of g.J.LogNames.opening) w c.self.invariant.0.all none opening history (subst (λ (v : Core g.row.J.Denot). Fits opening history (together v)) (sym c.self.view_is) f)
    ∙ ap (λ (v : Core g.row.J.Denot). tables_now opening v.parts.log) c.self.view_is

pub returns-then-not-is_idle-clause-at_rest : goal.returns-then-not-is_idle-clause-at_rest
returns-then-not-is_idle-clause-at_rest g c = rests_idle (shared_of g.J.LogNames.opening) c.self.inside.core c.args.self.now c.self.view_is c.self.invariant.0
