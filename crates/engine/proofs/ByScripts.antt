-- Where no session asked interactively, what came of it all is the outcome of the scripts.
use Rattle.std.proofs.Common.{◌≡◌, ℕ, ◌+◌, List, [], ◌∷◌, ◌++◌, length, Result, Ok, Err, refl, ap, subst, ◌∙◌, arith}
use Rattle.std.specs.Prelude.{IfOk}
use Rattle.std.proofs.lemmas.List.{append-nil}
use Rattle.schema.specs.Database.{Database}
use Rattle.requests.specs.declared.script.Part.{Part}
use Rattle.engine.specs.Outcome.{IsOutcome}
use Rattle.engine.specs.declared.outcome.Outcome.{Outcome}
use Rattle.engine.specs.declared.outcome.ServeFault.{ServeFault}

nothing : {X : Type 0} (xs : List X) → length xs ≡ 0 → xs ≡ []
nothing [] none = refl
nothing (x ∷ xs) none = absurd (omega arith)

of_scripts : (opening : Database) (most : ℕ) (scripts : List (List Part)) (served : Result Outcome ServeFault)
    → IfOk served (λ outcome. IsOutcome opening most (scripts ++ outcome.asked.items) outcome.log.items outcome.tables outcome.answers.items) → IfOk served (λ outcome. length outcome.asked.items ≡ 0)
    → IfOk served (λ outcome. IsOutcome opening most scripts outcome.log.items outcome.tables outcome.answers.items)
of_scripts opening most scripts (Ok outcome) together none =
    subst (λ (all : List (List Part)). IsOutcome opening most all outcome.log.items outcome.tables outcome.answers.items) (ap (λ (rest : List (List Part)). scripts ++ rest) (nothing outcome.asked.items none) ∙ append-nil scripts) together
of_scripts opening most scripts (Err fault) together none = tt

-- with no interactive session the outcome is that of the scripts
pub outcome_alone : (opening opened : Database) (limit most sessions all : ℕ) (scripts : List (List Part)) (served : Result Outcome ServeFault) → opened ≡ opening → most ≡ limit → all ≡ length scripts + sessions → sessions ≡ 0
    → IfOk served (λ outcome. IsOutcome opened most (scripts ++ outcome.asked.items) outcome.log.items outcome.tables outcome.answers.items) → IfOk served (λ outcome. length scripts + length outcome.asked.items ≡ all)
    → IfOk served (λ outcome. IsOutcome opening limit scripts outcome.log.items outcome.tables outcome.answers.items)
outcome_alone opening opened limit most sessions all scripts (Ok outcome) tables_are limit_is all_is none together many =
    subst (λ (t : Database). IsOutcome t limit scripts outcome.log.items outcome.tables outcome.answers.items) tables_are
    (subst (λ (n : ℕ). IsOutcome opened n scripts outcome.log.items outcome.tables outcome.answers.items) limit_is
    (of_scripts opened most scripts (Ok outcome) together (omega (arith, many, all_is, none))))
outcome_alone opening opened limit most sessions all scripts (Err fault) tables_are limit_is all_is none together many = tt
