-- The outputs of a schedule name entries of the log if its events do.
use Rattle.std.proofs.Common.{ℕ, ◌+◌, List, [], ◌∷◌, ◌++◌, length, sym, subst}
use Rattle.std.specs.List.{All, flat_map}
use Rattle.std.proofs.lemmas.List.Elements.{All-nil, All-cons, All-head, All-tail, All-append}
use Rattle.std.specs.declared.marker.Brand.{Brand}
use Rattle.schema.specs.Database.{Database}
use Rattle.history.specs.declared.event.Event.TheVariants as event
use Rattle.history.specs.declared.event.EventAnswer.{EventAnswer}
use Rattle.history.specs.declared.event.EventAnswer.TheVariants.{Accepted, Ordered, Took, Sent, Full, Logged, Moved, Answered, Nothing}
use Rattle.history.specs.declared.schedule.Scheduled.{Scheduled}
use Rattle.history.specs.declared.schedule.Scheduled.TheVariants as scheduled
use Rattle.history.specs.declared.schedule.Output.{Output}
use Rattle.history.specs.declared.schedule.Output.TheVariants as output
use Rattle.history.specs.History.{Step, step}
use Rattle.history.specs.Fits.{IsLoggedBelow}
use Rattle.history.specs.Schedules.{Turn, Round, Plays, Follows, EndAs, outputs_in_round, outputs_of_turn, outputs_of_round, steps_from, steps_of_round}
use Rattle.terminals.specs.Outputs.{IsReportedBelow, NameEntries}
use Rattle.world.specs.declared.simulating.Simulation.{Simulation}
use Rattle.world.specs.declared.setup.Setup.{Setup}
use Rattle.world.specs.Openings.{Simulates}

-- of two lists together, what holds of each
of_both : {X : Type 0} (P : X → Type 0) (xs ys : List X) → All P (xs ++ ys) → All P xs × All P ys
of_both P [] ys h = (All-nil P, h)
of_both P (x ∷ xs) ys h =
    let rest = of_both P xs ys (All-tail P x (xs ++ ys) h) in
    (All-cons P x xs (All-head P x (xs ++ ys) h) rest.0, rest.1)

module _ (n : ℕ) where
  abbrev IsStepBelow : Step → Type 0
  IsStepBelow s = IsLoggedBelow n s.answer

  reported_in_round : (answer : EventAnswer) → IsLoggedBelow n answer → All (IsReportedBelow n) (outputs_in_round answer)
  reported_in_round Took h = All-nil (IsReportedBelow n)
  reported_in_round Sent h = All-nil (IsReportedBelow n)
  reported_in_round Full h = All-nil (IsReportedBelow n)
  reported_in_round Nothing h = All-nil (IsReportedBelow n)
  reported_in_round (Accepted age) h = All-cons (IsReportedBelow n) (output.Event (Accepted age)) [] h (All-nil (IsReportedBelow n))
  reported_in_round Ordered h = All-cons (IsReportedBelow n) (output.Event Ordered) [] h (All-nil (IsReportedBelow n))
  reported_in_round (Logged place) h = All-cons (IsReportedBelow n) (output.Event (Logged place)) [] h (All-nil (IsReportedBelow n))
  reported_in_round Moved h = All-cons (IsReportedBelow n) (output.Event Moved) [] h (All-nil (IsReportedBelow n))
  reported_in_round (Answered session number answer) h = All-cons (IsReportedBelow n) (output.Event (Answered session number answer)) [] h (All-nil (IsReportedBelow n))

  reported_of_turns : (executor : ℕ) (turns : List Turn) → All IsStepBelow (steps_from executor turns) → All (IsReportedBelow n) (flat_map outputs_of_turn turns)
  reported_of_turns executor [] h = All-nil (IsReportedBelow n)
  reported_of_turns executor (t ∷ turns) h =
      let take = step (event.Take executor) t.took in
      let send = step (event.Send executor) t.sent in
      let rest = steps_from (executor + 1) turns in
      let later = All-tail IsStepBelow take (send ∷ rest) h in
      All-append (IsReportedBelow n) (outputs_of_turn t) (flat_map outputs_of_turn turns)
      (All-append (IsReportedBelow n) (outputs_in_round t.took) (outputs_in_round t.sent)
      (reported_in_round t.took (All-head IsStepBelow take (send ∷ rest) h)) (reported_in_round t.sent (All-head IsStepBelow send rest later)))
      (reported_of_turns (executor + 1) turns (All-tail IsStepBelow send rest later))

  reported_of_rounds : (rounds : List Round) → All IsStepBelow (flat_map steps_of_round rounds) → All (IsReportedBelow n) (flat_map outputs_of_round rounds)
  reported_of_rounds [] h = All-nil (IsReportedBelow n)
  reported_of_rounds (r ∷ rounds) h =
      let both = of_both IsStepBelow (steps_of_round r) (flat_map steps_of_round rounds) h in
      All-append (IsReportedBelow n) (outputs_of_round r) (flat_map outputs_of_round rounds) (reported_of_turns 0 r both.0) (reported_of_rounds rounds both.1)

  reported_of_ending : (rounds : List Round) (ending : Output) → EndAs rounds ending → IsReportedBelow n ending
  reported_of_ending rounds output.Quiet h = tt
  reported_of_ending rounds output.Limit h = tt
  reported_of_ending rounds (output.Event answer) h = absurd h

  reported_of_item : (executors : ℕ) (item : Scheduled) (outputs : List Output) (steps : List Step) → Follows executors item outputs steps → All IsStepBelow steps → All (IsReportedBelow n) outputs
  reported_of_item executors (scheduled.Event event) outputs steps follows h =
      let answer = follows.0 in
      let one : IsLoggedBelow n answer = All-head IsStepBelow (step event answer) [] (subst (All IsStepBelow) follows.1.1 h) in
      subst (All (IsReportedBelow n)) (sym follows.1.0) (All-cons (IsReportedBelow n) (output.Event answer) [] one (All-nil (IsReportedBelow n)))
  reported_of_item executors scheduled.Rounds outputs steps follows h =
      let rounds = follows.0 in
      let ending = follows.1.0 in
      let rest = follows.1.1 in
      subst (All (IsReportedBelow n)) (sym rest.0) (
      All-append (IsReportedBelow n) (flat_map outputs_of_round rounds) (ending ∷ [])
      (reported_of_rounds rounds (subst (All IsStepBelow) rest.1.0 h))
      (All-cons (IsReportedBelow n) ending [] (reported_of_ending rounds ending rest.1.1.1) (All-nil (IsReportedBelow n)))
      )

  reported_of_all : (executors : ℕ) (schedule : List Scheduled) (outputs : List Output) (steps : List Step) → Plays executors schedule outputs steps → All IsStepBelow steps → All (IsReportedBelow n) outputs
  reported_of_all executors [] outputs steps plays h = subst (All (IsReportedBelow n)) (sym plays.0) (All-nil (IsReportedBelow n))
  reported_of_all executors (item ∷ schedule) outputs steps plays h =
      let first = plays.0 in
      let rest = plays.1.0 in
      let begun = plays.1.1.0 in
      let later = plays.1.1.1.0 in
      let all = plays.1.1.1.1 in
      let both = of_both IsStepBelow begun later (subst (All IsStepBelow) all.1.0 h) in
      subst (All (IsReportedBelow n)) (sym all.0) (
      All-append (IsReportedBelow n) first rest (reported_of_item executors item first begun all.1.1.0 both.0) (reported_of_all executors schedule rest later all.1.1.1 both.1)
      )

-- so do the outputs of a simulation
pub outputs_named : (opening : Database) (setup : Setup) (schedule : List Scheduled) (s : Simulation) → Simulates Brand opening setup schedule s → NameEntries s.log.items s.outputs.items
outputs_named opening setup schedule s simulates =
    reported_of_all (length s.log.items) setup.executors schedule s.outputs.items simulates.steps simulates.plays
    (subst (λ log. All (λ x. IsLoggedBelow (length log) x.answer) simulates.steps) (sym simulates.log) simulates.fits.recorded.named)
