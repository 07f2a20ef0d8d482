use Rattle.std.proofs.Common.{List, refl, sym, ap, subst, ◌∙◌}
use Rattle.groups.specs.declared.wants.Want.{Want}
use Rattle.partitions.specs.Parts.{shared_of}
use Rattle.local_locks.specs.GroupWants.{CanAsk}
use Rattle.slices.specs.Asked.{GrantsIn}
use Rattle.transactions.specs.Shards.{RunsAs, ShardView, shard_view}
use Rattle.transactions.specs.Works.{CanDo}
use Rattle.transactions.proofs.Shards.{runs_granted}
use Rattle.transactions.proofs.Wanted.{can_ask, granted_for}
use Rattle.transactions.proofs.shard.Shard.act_at_once.Goals as goal

pub ask_at_once-requires : goal.ask_at_once-requires
ask_at_once-requires g c =
    let slice = c.self.inside.slice in
    let at = c.self.view_is in
    subst (λ (ws : List Want). CanAsk g.J.GroupNames.warehouses slice.home ws) (sym (c.deref.ensures.value ∙ c.in-Ok.ensures))
    (can_ask g.J.GroupNames.warehouses slice.tables slice.home c.args.work c.self.invariant.warehouses_are
    (subst (λ (s : ShardView g.row.T.Denot). CanDo (shared_of s.slice.tables) c.args.work) (sym at) c.requires.can)
    (c.requires.home ∙ ap (λ (s : ShardView g.row.T.Denot). s.slice.home) (sym at)))

pub run_under-requires-clause-granted : goal.run_under-requires-clause-granted
run_under-requires-clause-granted g c =
    let slice = c.self.inside.slice in
    let grants = subst (λ (ws : List Want). GrantsIn c.args.by ws slice c.in-Some.claims.items c.ask_at_once.new.self) (c.deref.ensures.value ∙ c.in-Ok.ensures) c.in-Some.ensures.granted in
    granted_for c.args.by c.args.work slice c.ask_at_once.new.self c.in-Some.claims.items grants

pub returns-clause-ran : goal.returns-clause-ran
returns-clause-ran g c =
    let slice = c.self.inside.slice in
    let parked = c.self.inside.parked.items in
    let grants = subst (λ (ws : List Want). GrantsIn c.args.by ws slice c.in-Some.claims.items c.ask_at_once.new.self) (c.deref.ensures.value ∙ c.in-Ok.ensures) c.in-Some.ensures.granted in
    subst (λ (s : ShardView g.row.T.Denot). RunsAs c.args.by c.args.work s c.run_under.result (shard_view c.run_under.new.slice parked)) c.self.view_is
    (runs_granted c.args.by c.args.work (shard_view slice parked) parked refl c.run_under.result c.in-Some.claims.items c.ask_at_once.new.self c.run_under.new.slice grants c.in-Some.ensures.waiters
    c.in-Some.ensures.kept c.run_under.ensures.done c.run_under.ensures.kept)
