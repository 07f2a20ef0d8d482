use Rattle.std.proofs.Common.{ℕ, ◌++◌, length, refl, sym, subst, ◌∙◌, arith}
use Rattle.std.specs.Prelude.{IfOk}
use Rattle.schema.specs.Database.{Database}
use Rattle.tickets.specs.Openings.{opened}
use Rattle.tickets.specs.Unset.{no_table, nothing}
use Rattle.slices.specs.Openings.{AreOpenedFor}
use Rattle.engine.specs.Outcome.{IsOutcomeOf}
use Rattle.engine.proofs.AtOpening.{agreements_named}
use Rattle.engine.proofs.ByScripts.{outcome_alone}
use Rattle.engine.proofs.serving.serve.Goals as goal

-- the type parameter identifies what was opened for the scripts
pub serve_from-requires-clause-named : goal.serve_from-requires-clause-named
serve_from-requires-clause-named g c = λ κs within.
    let opening = c.in_ok-opened.opened in
    let groups = subst (λ (t : Database). AreOpenedFor t opening.groups.items) (sym c.in_ok-opened.ensures.tables) c.in_ok-opened.ensures.groups in
    record {
      opened = groups;
      tables_are = refl;
      warehouses = refl;
      agreements = agreements_named opening.tables opening.groups.items (opened no_table no_table nothing) groups;
      most_is = refl;
      length_is = refl;
      mine = λ session small. refl;
      asks = λ session small. refl;
      enough = omega (arith, c.in_ok-opened.ensures.sessions);
      scripts_are = refl;
      closing_is = refl;
      closer_is = sym c.in_ok-opened.ensures.closer;
    }

pub returns-clause-scripts : goal.returns-clause-scripts
returns-clause-scripts g c = λ none.
    let opened = c.in_ok-opened.opened in
    let options = c.args.options.now in
    outcome_alone c.args.opening opened.tables options.limits.log opened.log.most options.sessions opened.sessions options.scripts.now c.serve_from.result
    c.in_ok-opened.ensures.tables (c.in_ok-opened.ensures.limit ∙ c.new-log_limit.ensures) (omega (arith, c.in_ok-opened.ensures.sessions)) none c.serve_from.ensures.outcome c.serve_from.ensures.asked
