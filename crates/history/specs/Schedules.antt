-- The items of schedules, and their outputs.
use Rattle.std.specs.Prelude.{◌≡◌, ◌≤◌, ℕ, ◌+◌, List, [], ◌∷◌, ◌++◌, length}
use Rattle.std.specs.List.{All, flat_map}
use Rattle.history.specs.declared.event.Event.TheVariants as event
use Rattle.history.specs.declared.event.EventAnswer.{EventAnswer}
use Rattle.history.specs.declared.event.EventAnswer.TheVariants.{Took, Sent, Full, Nothing}
use Rattle.history.specs.declared.schedule.Scheduled.{Scheduled}
use Rattle.history.specs.declared.schedule.Scheduled.TheVariants as scheduled
use Rattle.history.specs.declared.schedule.Output.{Output}
use Rattle.history.specs.declared.schedule.Output.TheVariants as output
use Rattle.history.specs.History.{Step, step}

-- ---- rounds

-- the answers of an executor's turn in a round: to its Take and to its Send
pub record Turn : Type 0 where
  pub took : EventAnswer
  pub sent : EventAnswer

-- nothing could happen in the turn
abbrev pub IsIdleTurn : Turn → Type 0
IsIdleTurn t = (t.took ≡ Nothing) × (t.sent ≡ Nothing)

-- a round: one turn of each executor, by executor number
abbrev pub Round : Type 0
Round = List Turn

-- this many executors have their turn in the round
abbrev pub IsRoundOf : ℕ → Round → Type 0
IsRoundOf executors r = length r ≡ executors

-- the two events of each turn, with their answers, from this executor on
abbrev pub steps_from : ℕ → List Turn → List Step
steps_from executor [] = []
steps_from executor (t ∷ turns) = step (event.Take executor) t.took ∷ step (event.Send executor) t.sent ∷ steps_from (executor + 1) turns

-- all events of a round, with their answers
abbrev pub steps_of_round : Round → List Step
steps_of_round r = steps_from 0 r

-- nothing could happen in the round
abbrev pub IsIdle : Round → Type 0
IsIdle r = All IsIdleTurn r

-- something happened in the round
abbrev pub IsBusy : Round → Type 0
IsBusy r = ¬ IsIdle r

-- in a round, an event is printed only if a transaction was logged or answered, or a move was completed
abbrev pub outputs_in_round : EventAnswer → List Output
outputs_in_round Took = []
outputs_in_round Sent = []
outputs_in_round Full = []
outputs_in_round Nothing = []
outputs_in_round answer = output.Event answer ∷ []

-- the outputs of a turn
abbrev pub outputs_of_turn : Turn → List Output
outputs_of_turn t = outputs_in_round t.took ++ outputs_in_round t.sent

-- the outputs of a round
abbrev pub outputs_of_round : Round → List Output
outputs_of_round r = flat_map outputs_of_turn r

-- Rounds end quiet with the first round in which nothing could happen. They end at the limit if something happened in
-- each of 100,000 rounds.
abbrev pub EndAs : List Round → Output → Type 0
EndAs rounds output.Quiet =
    (before : List Round) × ((last : Round) × ((rounds ≡ before ++ last ∷ []) × (All IsBusy before × (IsIdle last × (length rounds ≤ 100000)))))
EndAs rounds output.Limit = All IsBusy rounds × (length rounds ≡ 100000)
EndAs rounds other = ⊥

-- the last output states that rounds ended quiet
abbrev pub EndsQuiet : List Output → Type 0
EndsQuiet outputs = (before : List Output) × (outputs ≡ before ++ output.Quiet ∷ [])

-- ---- schedules

-- The outputs and the events of an item of a schedule with this many executors: an event, which is printed with its
-- answer; or rounds, in each of which every executor has its turn.
abbrev pub Follows : ℕ → Scheduled → List Output → List Step → Type 0
Follows executors (scheduled.Event event) outputs steps = (answer : EventAnswer) × ((outputs ≡ output.Event answer ∷ []) × (steps ≡ step event answer ∷ []))
Follows executors scheduled.Rounds outputs steps =
    (rounds : List Round) × ((ending : Output)
    × ((outputs ≡ flat_map outputs_of_round rounds ++ ending ∷ []) × ((steps ≡ flat_map steps_of_round rounds) × (All (IsRoundOf executors) rounds × EndAs rounds ending))))

-- The outputs and the events of a schedule, item by item.
abbrev pub Plays : ℕ → List Scheduled → List Output → List Step → Type 0
Plays executors [] outputs steps = (outputs ≡ []) × (steps ≡ [])
Plays executors (item ∷ schedule) outputs steps =
    (first : List Output) × ((rest : List Output) × ((begun : List Step) × ((later : List Step)
    × ((outputs ≡ first ++ rest) × ((steps ≡ begun ++ later) × (Follows executors item first begun × Plays executors schedule rest later))))))

-- These events, with their answers, are the first ones of the schedule: followed by some more they are a play of the
-- whole schedule.
abbrev pub Begins : ℕ → List Scheduled → List Step → Type 0
Begins executors schedule steps = (later : List Step) × ((outputs : List Output) × Plays executors schedule outputs (steps ++ later))
