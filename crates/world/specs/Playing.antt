-- What happens while a schedule is played in a world.
use Rattle.std.specs.Prelude.{◌≡◌, Bool, List, ◌++◌}
use Rattle.history.specs.History.{Step}
use Rattle.history.specs.Schedules.{Begins, Follows, IsRoundOf, Plays, Round, outputs_of_round, steps_of_round}
use Rattle.history.specs.declared.schedule.Scheduled.{Scheduled}
use Rattle.history.specs.declared.schedule.Output.{Output}
use Rattle.world.specs.declared.world.Core.{Core}
use Rattle.world.specs.Worlds.{ComeAbout, IsIdleExactly}

module _ {J : Type 0} where
  -- The events of the schedule have happened in turn, and these are its outputs.
  abbrev pub PlaysAll : List Scheduled → List Output → Core J → Core J → Type 0
  PlaysAll schedule outputs old new = (steps : List Step) × (Plays old.placements.executors schedule outputs steps × ComeAbout steps old new)

  -- The first events of the schedule have happened in turn, and nothing else.
  abbrev pub PlaysFirst : List Scheduled → Core J → Core J → Type 0
  PlaysFirst schedule old new = (steps : List Step) × (Begins old.placements.executors schedule steps × ComeAbout steps old new)

  -- The events of an item of a schedule have happened in turn, and its outputs are appended to those before.
  abbrev pub PlaysItem : Scheduled → List Output → List Output → Core J → Core J → Type 0
  PlaysItem item before after old new =
      (more : List Output) × ((steps : List Step) × ((after ≡ before ++ more) × (Follows old.placements.executors item more steps × ComeAbout steps old new)))

  -- The events of a round have happened in turn, and its outputs are appended to those before. The flag is whether nothing
  -- could happen in it.
  abbrev pub PlaysRound : Bool → List Output → List Output → Core J → Core J → Type 0
  PlaysRound is_idle before after old new =
      (r : Round) × (IsRoundOf old.placements.executors r
      × ((after ≡ before ++ outputs_of_round r) × (ComeAbout (steps_of_round r) old new × IsIdleExactly is_idle r)))
