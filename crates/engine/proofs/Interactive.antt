-- The answers to a session that asks interactively.
use Rattle.std.proofs.Common.{◌≡◌, ℕ, [], ◌∷◌, ◌++◌, length, Result, Ok, Err, inr, refl, ap, subst, ◌∙◌}
use Rattle.requests.specs.declared.request.Request.{Request}
use Rattle.requests.specs.declared.refusal.Refusal.{Refusal}
use Rattle.requests.specs.Check.{check_of}
use Rattle.commit_log.specs.declared.asking.Asking.{Asking}
use Rattle.commit_log.specs.Asks.{asking}
use Rattle.commit_log.specs.Items.{item}
use Rattle.commit_log.specs.PassView.{PassView}
use Rattle.executor.specs.Answers.{IsRecordedBy}
use Rattle.engine.specs.Rules.{Rules}
use Rattle.engine.specs.Asking.{ReadyView, known_of}
use Rattle.engine.specs.Interactive.{Came}
use Rattle.engine.specs.Outcome.{IsRefusal}
use Rattle.engine.proofs.Answered.{known_below}
use Rattle.engine.proofs.Together.{longer}

module _ (rules : Rules) where
  -- a request was refused
  pub came_refused : (before : ReadyView) (request : Request) (why : Refusal) → IsRefusal rules (known_of before.is_full before.pass.reached) request why → Came rules before request before.pass (Err why)
  came_refused before request why rightly =
      (refl, refl, longer rules (known_of before.is_full before.pass.reached) before.pass.reached request why (known_below before.is_full before.pass.reached) rightly)

  -- the answer to a request that its check accepts
  pub came_recorded : (before : ReadyView) (asks : Asking) (request : Request) (after : PassView) (number : ℕ) (answer : Result ℕ Refusal) → check_of rules.scale request ≡ Ok tt
      → asks ≡ asking number request before.pass.seen before.pass.mine → number ≡ length before.script → IsRecordedBy rules.most asks after answer → Came rules before request after answer
  came_recorded before asks request after number answer accepted asks_is number_is recorded = of_answer answer (subst (λ (a : Asking). IsRecordedBy rules.most a after answer) asks_is recorded)
    where
      of_answer : (one : Result ℕ Refusal) → IsRecordedBy rules.most (asking number request before.pass.seen before.pass.mine) after one → Came rules before request after one
      of_answer (Ok place) h = (accepted, h.0, h.1, h.2, h.3 ∙ ap (λ (n : ℕ). before.pass.mine ++ item place n request h.2 ∷ []) number_is)
      of_answer (Err why) h = (h.0, h.1, inr (accepted, h.2))
