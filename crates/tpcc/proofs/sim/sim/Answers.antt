use Rattle.std.proofs.Common.{◌⊎◌, List, inl, inr, is_some, subst, sym}
use Rattle.std.specs.declared.marker.Brand.{Brand}
use Rattle.std.proofs.lemmas.Result.{err_from_is_err_and, IfErr-weaker, on_err_weaker, on_ok_weaker}
use Rattle.consistency.specs.Broken.{BreaksFirst}
use Rattle.history.specs.declared.schedule.Scheduled.{Scheduled}
use Rattle.world.specs.Openings.{IsFaultOf, Simulates}
use Rattle.tpcc.specs.declared.command_fault.CommandFault.{CommandFault}
use Rattle.tpcc.specs.EarlyEnds.{IsOfGathering, IsOfShowing, IsOfSimulating}
use Rattle.tpcc.specs.Effects.{output_of, source_of}
use Rattle.tpcc.specs.Sim.{IsSimulation, Shows, ShowsSome, setup_of, sim_inputs, sim_outputs}
use Rattle.tpcc.proofs.OutputsNamed.{outputs_named}
use Rattle.tpcc.proofs.SimulationEnds.{of_gathering}
use Rattle.tpcc.proofs.sim.sim.Goals as goal

pub show-requires-clause-entries : goal.show-requires-clause-entries
show-requires-clause-entries g c =
    outputs_named c.in_ok-opening.opening (setup_of c.args.settings.now) c.as_slice.result.now c.in-Ok.simulation c.in-Ok.ensures.simulates

pub returns-in-Err-NotConsistent-clause-fault : goal.returns-in-Err-NotConsistent-clause-fault
returns-in-Err-NotConsistent-clause-fault g c =
    let opening = c.in_ok-opening.opening in
    let breaks : BreaksFirst opening c.in-Err-NotConsistent.number = subst (IsFaultOf opening) c.in-Err-NotConsistent.field-0-is c.in-Err-NotConsistent.ensures.fault in
    inr (inr (inl (opening, c.in_ok-opening.ensures.tables, subst (BreaksFirst opening) (sym c.in-Err-NotConsistent.number-is) breaks)))

pub returns-clause-some : goal.returns-clause-some
returns-clause-some g c =
    let «data» = g.D.Input.remaining c.args.data in
    let source = g.S.Input.remaining c.args.schedule in
    let setup = setup_of c.args.settings.now in
    let schedule = c.in_ok-schedule.schedule.items in
    let simulation = c.in-Ok.simulation in
    let Plays : List Scheduled → Type 0 = λ items. Simulates Brand c.in_ok-opening.opening setup items simulation in
    let is : IsSimulation «data» source setup schedule simulation = record {
      opening = c.in_ok-opening.opening;
      is_dataset = c.in_ok-opening.ensures.tables;
      is_schedule = c.in_ok-schedule.ensures.items;
      simulates = subst Plays c.as_slice.ensures.value c.in-Ok.ensures.simulates;
    } in
    let output = output_of g.A.Write.contents c.args.reported.now c.show.new.reported g.N.OutputFiles.named c.args.output_files.now c.show.new.output_files in
    let Some : List Scheduled → Type 0 = λ items. ShowsSome g.F.Write.contents setup items simulation (sim_outputs c.args.log c.args.picture c.args.tables) output in
    on_err_weaker c.show.result (λ some. inr (schedule, simulation, is, subst Some c.as_slice-2.ensures.value some)) c.show.ensures.some

pub returns-clause-simulates : goal.returns-clause-simulates
returns-clause-simulates g c =
    let «data» = g.D.Input.remaining c.args.data in
    let source = g.S.Input.remaining c.args.schedule in
    let setup = setup_of c.args.settings.now in
    let schedule = c.in_ok-schedule.schedule.items in
    let simulation = c.in-Ok.simulation in
    let Plays : List Scheduled → Type 0 = λ items. Simulates Brand c.in_ok-opening.opening setup items simulation in
    let is : IsSimulation «data» source setup schedule simulation = record {
      opening = c.in_ok-opening.opening;
      is_dataset = c.in_ok-opening.ensures.tables;
      is_schedule = c.in_ok-schedule.ensures.items;
      simulates = subst Plays c.as_slice.ensures.value c.in-Ok.ensures.simulates;
    } in
    let output = output_of g.A.Write.contents c.args.reported.now c.show.new.reported g.N.OutputFiles.named c.args.output_files.now c.show.new.output_files in
    let All : List Scheduled → Type 0 = λ items. Shows g.F.Write.contents setup items simulation (sim_outputs c.args.log c.args.picture c.args.tables) output in
    on_ok_weaker c.show.result (λ all. record {
      schedule = schedule;
      simulation = simulation;
      is_simulation = is;
      shows = subst All c.as_slice-2.ensures.value all;
      no_fault = c.begin.ensures;
    }) c.show.ensures.all

pub returns-clause-fault : goal.returns-clause-fault
returns-clause-fault g c =
    let «data» = g.D.Input.remaining c.args.data in
    let source = g.S.Input.remaining c.args.schedule in
    let setup = setup_of c.args.settings.now in
    let schedule = c.in_ok-schedule.schedule.items in
    let simulation = c.in-Ok.simulation in
    let Plays : List Scheduled → Type 0 = λ items. Simulates Brand c.in_ok-opening.opening setup items simulation in
    let is : IsSimulation «data» source setup schedule simulation = record {
      opening = c.in_ok-opening.opening;
      is_dataset = c.in_ok-opening.ensures.tables;
      is_schedule = c.in_ok-schedule.ensures.items;
      simulates = subst Plays c.as_slice.ensures.value c.in-Ok.ensures.simulates;
    } in
    let asked = is_some c.args.settings.now.tables in
    let inputs = sim_inputs (source_of g.D.Input.remaining g.D.Input.lasts c.args.data) (source_of g.S.Input.remaining g.S.Input.lasts c.args.schedule) in
    let by : (of : CommandFault) → IsOfGathering asked simulation.tables of ⊎ IsOfShowing c.args.settings.now of
    → IsOfSimulating c.args.settings.now inputs of = λ of said. elim said [
      | inl gathering ↦ inr (inr (inl (of_gathering «data» source setup asked schedule simulation is of gathering)))
      | inr showing ↦ inr (inr (inr showing))
    ] in
    IfErr-weaker c.show.result _ _ by c.show.ensures.fault

pub returns-in_err-opening-clause-fault : goal.returns-in_err-opening-clause-fault
returns-in_err-opening-clause-fault g c =
    let p = err_from_is_err_and c.from_residual.result c.from_residual.ensures.1 in
    rw (p.1, p.2) (inl c.in_err-opening.ensures.fault)

pub returns-in_err-schedule-clause-fault : goal.returns-in_err-schedule-clause-fault
returns-in_err-schedule-clause-fault g c =
    let p = err_from_is_err_and c.from_residual-in_err-schedule.result c.from_residual-in_err-schedule.ensures.1 in
    rw (p.1, p.2) (inr (inl ((c.in_ok-opening.opening, c.in_ok-opening.ensures.tables), c.in_err-schedule.ensures.fault)))

pub returns-in-Err-NoMemory-clause-fault : goal.returns-in-Err-NoMemory-clause-fault
returns-in-Err-NoMemory-clause-fault g c = inl tt
