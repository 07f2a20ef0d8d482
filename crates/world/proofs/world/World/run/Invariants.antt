use Rattle.std.proofs.Common.{◌≡◌, ◌≤◌, length, take}
use Rattle.std.specs.Prelude.{vec_len, vec_capacity}
use Rattle.world.specs.Together.{together}
use Rattle.world.specs.Worlds.{Advances, HappenInTurn, steps_of}
use Rattle.world.proofs.world.World.run.Given as goal

-- the answers so far are those of the events so far, and there is room for the rest
abbrev pub invariant-loop-event : goal.invariant-loop-event
invariant-loop-event g l = record {
  count : length l.answers.items ≡ l.event-index;
  filled : vec_len l.answers ≡ l.event-index;
  room : length l.events ≤ vec_capacity l.answers;
  happen : HappenInTurn (steps_of (take l.event-index l.events) l.answers.items) l.fn.self l.self;
  advances : Advances (together l.fn.self) (steps_of (take l.event-index l.events) l.answers.items) (together l.self);
}
