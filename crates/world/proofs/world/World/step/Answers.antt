use Rattle.std.proofs.Common.{◌≡◌, ◌∙◌, subst}
use Rattle.partitions.specs.Parts.{shared_of}
use Rattle.world.specs.declared.world.Core.{Core}
use Rattle.world.specs.Worlds.{AdvancesBy, AllDieOfOlder, AnswersWhoAsked, IsBusyExactly, IsFullExactly, NoneDiesAlone, RecordsOfOlder}
use Rattle.world.specs.Changes.{ChangesOnly}
use Rattle.world.specs.Happening.{Happens}
use Rattle.world.proofs.Alone.{none_dies}
use Rattle.world.proofs.NeverStuck.{is_owned, never_stuck}
use Rattle.world.proofs.Busy.{busy_exactly, full_exactly}
use Rattle.world.proofs.WhoAsked.{answers_who_asked}
use Rattle.world.proofs.Deaths.{records_of_older}
use Rattle.world.proofs.Dying.{die_of_older}
use Rattle.world.proofs.Answered.{nothing_exactly}
use Rattle.world.proofs.Changed.{changes_only}
use Rattle.world.proofs.Schedules.{executors_stay, log_limit_stays}
use Rattle.world.proofs.world.World.step.Goals as goal

pub returns-clause-advances : goal.returns-clause-advances
returns-clause-advances g c =
    subst (λ (old : Core g.row.J.Denot). AdvancesBy c.args.event.now c.happen.result old c.happen.new.self) c.self.view_is c.happen.ensures.advances

pub returns-clause-changes : goal.returns-clause-changes
returns-clause-changes g c =
    subst (λ (old : Core g.row.J.Denot). ChangesOnly c.args.event.now c.happen.result old c.happen.new.self) c.self.view_is
    (changes_only (shared_of g.J.LogNames.opening) c.args.event.now c.self.inside.core c.happen.new.self c.happen.result c.are_kept.ensures c.self.invariant.0 c.happen.ensures.happens)

pub returns-clause-nothing : goal.returns-clause-nothing
returns-clause-nothing g c =
    nothing_exactly c.args.event.now c.args.self.now c.happen.new.self c.happen.result
    (subst (λ (old : Core g.row.J.Denot). Happens c.args.event.now old c.happen.result c.happen.new.self) c.self.view_is c.happen.ensures.happens)

pub returns-clause-busy : goal.returns-clause-busy
returns-clause-busy g c =
    subst (λ (old : Core g.row.J.Denot). IsBusyExactly c.args.event.now old c.happen.result) c.self.view_is
    (busy_exactly (shared_of g.J.LogNames.opening) c.args.event.now c.self.inside.core c.happen.new.self c.happen.result c.self.invariant.0 c.happen.ensures.happens)

pub returns-clause-full : goal.returns-clause-full
returns-clause-full g c =
    subst (λ (old : Core g.row.J.Denot). IsFullExactly c.args.event.now old c.happen.result) c.self.view_is
    (full_exactly (shared_of g.J.LogNames.opening) c.args.event.now c.self.inside.core c.happen.new.self c.happen.result c.self.invariant.0 c.happen.ensures.happens)

pub returns-clause-asked : goal.returns-clause-asked
returns-clause-asked g c =
    subst (λ (old : Core g.row.J.Denot). AnswersWhoAsked c.args.event.now old c.happen.result) c.self.view_is
    (answers_who_asked (shared_of g.J.LogNames.opening) c.args.event.now c.self.inside.core c.happen.new.self c.happen.result c.self.invariant.0 c.happen.ensures.happens)

pub returns-clause-died : goal.returns-clause-died
returns-clause-died g c =
    subst (λ (old : Core g.row.J.Denot). RecordsOfOlder old c.happen.result) c.self.view_is
    (records_of_older (shared_of g.J.LogNames.opening) c.args.event.now c.self.inside.core c.happen.new.self c.happen.result c.self.invariant.0 c.happen.ensures.happens)

pub returns-clause-dies : goal.returns-clause-dies
returns-clause-dies g c =
    subst (λ (old : Core g.row.J.Denot). AllDieOfOlder c.args.event.now old c.happen.new.self) c.self.view_is
    (die_of_older c.claims_are_of_the_footprint.ensures.once (shared_of g.J.LogNames.opening) c.args.event.now c.self.inside.core c.happen.new.self c.happen.result c.self.invariant.0 c.happen.ensures.sound c.happen.ensures.happens)

pub returns-clause-alone : goal.returns-clause-alone
returns-clause-alone g c =
    subst (λ (old : Core g.row.J.Denot). NoneDiesAlone c.args.event.now old c.happen.new.self) c.self.view_is
    (none_dies c.claims_are_of_the_footprint.ensures.once (shared_of g.J.LogNames.opening) c.args.event.now c.self.inside.core c.happen.new.self c.happen.result c.self.invariant.0 c.happen.ensures.happens)

pub returns-clause-executors : goal.returns-clause-executors
returns-clause-executors g c =
    subst (λ (old : Core g.row.J.Denot). c.happen.new.self.placements.executors ≡ old.placements.executors) c.self.view_is
    (executors_stay c.args.event.now c.self.inside.core c.happen.new.self c.happen.result c.happen.ensures.happens)

pub returns-clause-never_stuck : goal.returns-clause-never_stuck
returns-clause-never_stuck g c = never_stuck (shared_of g.J.LogNames.opening) c.happen.new.self c.happen.ensures.sound

pub returns-clause-owned : goal.returns-clause-owned
returns-clause-owned g c = is_owned (shared_of g.J.LogNames.opening) c.happen.new.self c.happen.ensures.sound

pub invariant_of-self : goal.invariant_of-self
invariant_of-self g c = (
  c.happen.ensures.sound,
  c.self.invariant.1,
  log_limit_stays c.args.event.now c.self.inside.core c.happen.new.self c.happen.result c.happen.ensures.happens ∙ c.self.invariant.2,
)
