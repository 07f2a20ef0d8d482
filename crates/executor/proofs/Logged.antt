-- A transaction after its append to the log, by the log's answer.
use Rattle.std.proofs.Common.{◌≡◌, ◌≤◌, ◌++◌, ◌∷◌, [], inl, inr, ℕ, Bool, true, false, List, Err, length, refl, sym, ap, ◌∙◌, subst}
use Rattle.std.specs.Prelude.{All, ◌↔◌}
use Rattle.std.proofs.lemmas.List.Elements.{All-weaker}
use Rattle.tickets.specs.Claims.{ClaimView}
use Rattle.commit_log.specs.declared.entry.Entry.{Entry}
use Rattle.commit_log.specs.declared.log_book.AppendFault.{AppendFault}
use Rattle.commit_log.specs.declared.log_book.AppendFault.TheVariants as fault
use Rattle.commit_log.specs.Items.{item}
use Rattle.commit_log.specs.PassView.{after_refusal}
use Rattle.transactions.specs.declared.logging.Logged.{Logged}
use Rattle.transactions.specs.Acting.{AreGivenBy, AreUndoneBy}
use Rattle.transactions.specs.Logged.{Logs, log_and_claims, why_refused}
use Rattle.transactions.proofs.Settling.{given_back}
use Rattle.executor.specs.Answers.{AreGiven, CarriesAnswer, IsGiven, release_view, returns_view, answer_view}
use Rattle.executor.specs.Commits.{Commits, CommitView, entry_committed}
use Rattle.executor.specs.Flows.{IsAskedBy}

-- what a transaction of some age gives back goes back
given_so : (settle : Bool) (age : ℕ) (claims : List ClaimView) → AreGivenBy settle age claims → IsGiven settle claims
given_so true age claims given = given.0
given_so false age claims given = given.0

module _ {J : Type 0} (most : ℕ) (c : CommitView) (old new : List Entry) (logged : Logged J) (after : List (List ClaimView)) where
  -- its answer is the refusal or the place
  pub answers : IsAskedBy c.number c.request c.pass → Logs most (entry_committed c) c.pass (log_and_claims old c.held) logged (log_and_claims new after) → CarriesAnswer most (answer_view c.age c.number logged.pass logged.answer)
  answers asked (inl logs) =
      subst (λ (l : Logged J). CarriesAnswer most (answer_view c.age c.number l.pass l.answer)) (sym logs.2) (record {
        number_is = asked.number_is;
        recorded = (
          subst (λ n. n ≤ length old) asked.seen logs.1,
          refl,
          c.shown,
          ap (λ mine. mine ++ item (length old) c.number c.request c.shown ∷ []) asked.mine
              ∙ sym (λ i. c.pass.asks.mine ++ item (length old) (asked.number_is i) (asked.request_is i) c.shown ∷ []),
        );
      })
  answers asked (inr refused) = subst (λ (l : Logged J). CarriesAnswer most (answer_view c.age c.number l.pass l.answer)) (sym refused.2) (by refused.0 refused.1)
    where
      by : (why : AppendFault) → ((why ≡ fault.LogFull) ↔ (most ≤ length old)) → CarriesAnswer most (answer_view c.age c.number (after_refusal why (length old) c.pass) (Err (why_refused why)))
      by fault.NoMemory full = record { number_is = asked.number_is; recorded = (asked.seen, asked.mine, tt) }
      by fault.LogFull full = record { number_is = asked.number_is; recorded = (asked.seen, asked.mine, full.0 refl) }

  -- its claims go back as the answer requires
  pub gives : All (AreUndoneBy c.age) c.held → Logs most (entry_committed c) c.pass (log_and_claims old c.held) logged (log_and_claims new after) → AreGiven logged.is_settled after
  gives undone logs =
      All-weaker (AreGivenBy logged.is_settled c.age) (IsGiven logged.is_settled) (given_so logged.is_settled c.age) after
      (given_back c.age most (entry_committed c) c.pass (log_and_claims old c.held) (log_and_claims new after) logged logs undone)

  -- and this is the contract of the commit
  pub commits : Logs most (entry_committed c) c.pass (log_and_claims old c.held) logged (log_and_claims new after)
      → Commits most c old (release_view (answer_view c.age c.number logged.pass logged.answer) (returns_view c.slot logged.is_settled after) c.phase_owner) new
  commits (inl logs) =
      inl (logs.0, ((λ i. release_view (answer_view c.age c.number (logs.2 i).pass (logs.2 i).answer) (returns_view c.slot (logs.2 i).is_settled (logs.4 i)) c.phase_owner), logs.3))
  commits (inr refused) =
      inr (
        refused.0,
        (
          refused.1,
          ((λ i. release_view (answer_view c.age c.number (refused.2 i).pass (refused.2 i).answer) (returns_view c.slot (refused.2 i).is_settled (refused.4 i)) c.phase_owner), refused.3),
        ),
      )
