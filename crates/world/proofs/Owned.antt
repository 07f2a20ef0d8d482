-- In an executor's inbox there are envelopes to it alone, and only pushes put any.
use Rattle.std.proofs.Common.{◌≡◌, ◌≢◌, inl, inr, ℕ, ◌<◌, ◌==◌, List, [], length, Option, Some, None, refl, sym, ◌∙◌, ap, subst, ⊎_elim}
use Rattle.std.specs.Prelude.{All, slice_index_or, slice_set}
use Rattle.std.proofs.lemmas.Bool.{eq-eqb}
use Rattle.std.proofs.lemmas.Map.Views.{exact_unsigned_eq}
use Rattle.std.proofs.lemmas.List.{get_or-set_other, get_or-set_same}
use Rattle.requests.specs.declared.refusal.Refusal.{Refusal}
use Rattle.history.specs.declared.event.EventAnswer.{EventAnswer}
use Rattle.transactions.specs.declared.progress.Gathered.{Gathered}
use Rattle.transactions.specs.declared.progress.Gathered.TheVariants.{Next, Finish}
use Rattle.world.specs.declared.flight.Commit.{Commit}
use Rattle.world.specs.declared.flight.Flow.{Flow}
use Rattle.world.specs.declared.flight.Transaction.{Transaction}
use Rattle.world.specs.declared.flight.Report.{Report}
use Rattle.world.specs.declared.flight.Item.{Item}
use Rattle.world.specs.declared.flight.Item.TheVariants as item
use Rattle.world.specs.declared.world.Parts.{Parts}
use Rattle.world.specs.Following.{refusal_of}
use Rattle.world.specs.Events.{Commits, MeetsAs, MeetsUnless, ReportsInto, SendsItem, goes_on}
use Rattle.world.specs.declared.flight.Envelope.{Envelope}
use Rattle.world.specs.Envelopes.{IsNoPush, IsTo}
use Rattle.world.specs.Queues.{queue_of}
use Rattle.world.proofs.Sorting.{carried_both}
use Rattle.world.proofs.Tokens.{IsFalse, by_bool}

module _ {J : Type 0} where
  -- ---- one inbox in place of another

  pub own_put : (inboxes : List (List (Envelope J))) (to : ℕ) (inbox : List (Envelope J)) → to < length inboxes
      → ((executor : ℕ) → All (IsTo executor) (queue_of executor inboxes)) → All (IsTo to) inbox
      → (executor : ℕ) → All (IsTo executor) (queue_of executor (slice_set inboxes to inbox))
  own_put inboxes to inbox below own fine executor =
      by_bool (executor == to)
      (λ same.
      let at : executor ≡ to = exact_unsigned_eq executor to same in
      subst (λ n. All (IsTo n) (slice_index_or (slice_set inboxes to inbox) n [])) (sym at)
      (subst (λ q. All (IsTo to) q) (sym (get_or-set_same inboxes to inbox [] below)) fine))
      (λ differs.
      let other : executor ≢ to = λ at. absurd (subst (λ b. IsFalse b) (sym differs ∙ eq-eqb executor to at) tt) in
      subst (λ q. All (IsTo executor) q) (sym (get_or-set_other inboxes to executor inbox [] other)) (own executor))

  -- ---- what an item changes

  goes_inbox : (t : Transaction J) (g : Gathered) (w : Parts J) → (goes_on t g w).inbox ≡ w.inbox
  goes_inbox t (Next progress) w = refl
  goes_inbox t (Finish shown) w = refl

  unless_inbox : (why : Option Refusal) (reports : List (Report J)) (flow : Flow J) (old new : Parts J) → MeetsUnless why reports flow old new → new.inbox ≡ old.inbox
  unless_inbox (Some why) reports flow old new said = ap (λ (w : Parts J). w.inbox) said
  unless_inbox None reports flow old new said =
      ⊎_elim (λ no_memory. ap (λ (w : Parts J). w.inbox) no_memory) (λ gathered. ap (λ (w : Parts J). w.inbox) gathered.1.1 ∙ goes_inbox _ gathered.0 old) said

  meets_inbox : (reports : List (Report J)) (old new : Parts J) → MeetsAs reports old new → new.inbox ≡ old.inbox
  meets_inbox reports old new said =
      let P : Flow J → Type 0 = λ flow. MeetsUnless (refusal_of None reports) reports flow old new in
      carried_both reports P P (new.inbox ≡ old.inbox) (λ flow one same. unless_inbox (refusal_of None reports) reports flow old new one) said said

  commits_inbox : (log_limit : ℕ) (commit : Commit J) (old new : Parts J) (answer : EventAnswer) → Commits log_limit commit old answer new → new.inbox ≡ old.inbox
  commits_inbox log_limit commit old new answer said = ap (λ (w : Parts J). w.inbox) said.over

  into_inbox : (slot first : ℕ) (slots : List (Option (Report J))) (old new : Parts J) → ReportsInto slot first slots old new → new.inbox ≡ old.inbox
  into_inbox slot first slots old new (inl kept) = ap (λ (w : Parts J). w.inbox) kept.1
  into_inbox slot first slots old new (inr met) = meets_inbox met.0 old new met.1.1

  -- no item that is no push puts a message
  pub sent_inbox : (log_limit : ℕ) (i : Item J) (old new : Parts J) (answer : EventAnswer) → IsNoPush i → SendsItem log_limit i old answer new → new.inbox ≡ old.inbox
  sent_inbox log_limit (item.Push m) old new answer no_push said = absurd no_push
  sent_inbox log_limit (item.Report r) old new answer no_push said = into_inbox r.slot said.1.0 _ old new said.1.1.1.1
  sent_inbox log_limit (item.Ended slot) old new answer no_push said = ap (λ (w : Parts J). w.inbox) said.1.1.1
  sent_inbox log_limit (item.Commit commit) old new answer no_push said = commits_inbox log_limit commit old new answer said
  sent_inbox log_limit (item.Reply recorded) old new answer no_push said = said.1.1.1.1.1.0
