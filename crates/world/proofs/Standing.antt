-- What an event leaves unchanged: the shards, unless a message is taken, and then the inbox.
use Rattle.std.proofs.Common.{◌≡◌, inl, inr, ℕ, Bool, true, false, List, [], ◌∷◌, Option, Some, None, refl, ◌∙◌, ap, ⊎_elim}
use Rattle.requests.specs.declared.request.Request.{Request}
use Rattle.requests.specs.declared.refusal.Refusal.{Refusal}
use Rattle.history.specs.declared.event.EventAnswer.{EventAnswer}
use Rattle.transactions.specs.declared.progress.Gathered.{Gathered}
use Rattle.transactions.specs.declared.progress.Gathered.TheVariants.{Next, Finish}
use Rattle.transactions.specs.declared.shard.Turned.{Turned}
use Rattle.world.specs.declared.desk.SessionDesk.{SessionDesk}
use Rattle.world.specs.declared.flight.Carried.{Carried}
use Rattle.world.specs.declared.flight.Commit.{Commit}
use Rattle.world.specs.declared.flight.Flow.{Flow}
use Rattle.world.specs.declared.flight.Transaction.{Transaction}
use Rattle.world.specs.declared.flight.Message.{Message}
use Rattle.world.specs.declared.flight.Message.TheVariants.{Start, Act, Settle, Undo}
use Rattle.world.specs.declared.flight.Report.{Report}
use Rattle.world.specs.declared.flight.Item.{Item}
use Rattle.world.specs.declared.flight.Item.TheVariants as item
use Rattle.world.specs.declared.world.Parts.{Parts}
use Rattle.world.specs.Following.{refusal_of}
use Rattle.world.specs.Events.{AllTurns, Commits, MeetsAs, MeetsUnless, ReportsInto, SendsItem, TakesMessage, TurnsFollow, goes_on}
use Rattle.world.specs.Happening.{SubmitsAt, SubmitsInto, SubmitsUnless, can_admit, refusal_at, submission}
use Rattle.world.proofs.Sorting.{carried_both}

module _ {J : Type 0} where
  -- ---- an item is sent

  goes_shards : (t : Transaction J) (g : Gathered) (w : Parts J) → (goes_on t g w).shards ≡ w.shards
  goes_shards t (Next progress) w = refl
  goes_shards t (Finish shown) w = refl

  unless_shards : (why : Option Refusal) (reports : List (Report J)) (flow : Flow J) (old new : Parts J) → MeetsUnless why reports flow old new → new.shards ≡ old.shards
  unless_shards (Some why) reports flow old new said = ap (λ (w : Parts J). w.shards) said
  unless_shards None reports flow old new said =
      ⊎_elim (λ no_memory. ap (λ (w : Parts J). w.shards) no_memory) (λ gathered. ap (λ (w : Parts J). w.shards) gathered.1.1 ∙ goes_shards _ gathered.0 old) said

  meets_shards : (reports : List (Report J)) (old new : Parts J) → MeetsAs reports old new → new.shards ≡ old.shards
  meets_shards reports old new said =
      let P : Flow J → Type 0 = λ flow. MeetsUnless (refusal_of None reports) reports flow old new in
      carried_both reports P P (new.shards ≡ old.shards) (λ flow one same. unless_shards (refusal_of None reports) reports flow old new one) said said

  commits_shards : (log_limit : ℕ) (commit : Commit J) (old new : Parts J) (answer : EventAnswer) → Commits log_limit commit old answer new → new.shards ≡ old.shards
  commits_shards log_limit commit old new answer said = ap (λ (w : Parts J). w.shards) said.over

  into_shards : (slot first : ℕ) (slots : List (Option (Report J))) (old new : Parts J) → ReportsInto slot first slots old new → new.shards ≡ old.shards
  into_shards slot first slots old new (inl kept) = ap (λ (w : Parts J). w.shards) kept.1
  into_shards slot first slots old new (inr met) = meets_shards met.0 old new met.1.1

  pub sent_shards : (log_limit : ℕ) (i : Item J) (old new : Parts J) (answer : EventAnswer) → SendsItem log_limit i old answer new → new.shards ≡ old.shards
  sent_shards log_limit (item.Push m) old new answer said = absurd said
  sent_shards log_limit (item.Report r) old new answer said = into_shards r.slot said.1.0 _ old new said.1.1.1.1
  sent_shards log_limit (item.Ended slot) old new answer said = ap (λ (w : Parts J). w.shards) said.1.1.1
  sent_shards log_limit (item.Commit commit) old new answer said = commits_shards log_limit commit old new answer said
  sent_shards log_limit (item.Reply recorded) old new answer said = said.1.1.1.1.0

  -- ---- a request is submitted

  into_submitted : (room can : Bool) (session number : ℕ) (asked : Request) (desk : SessionDesk J) (old new : Parts J) (answer : EventAnswer) → SubmitsInto can (submission room session number asked) desk old answer new → new.shards ≡ old.shards
  into_submitted room false session number asked desk old new answer said = ap (λ (w : Parts J). w.shards) said.1
  into_submitted room true session number asked desk old new answer said =
      ⊎_elim (λ refused. ap (λ (w : Parts J). w.shards) refused.1) (λ admitted. admitted.1.shards) said

  unless_submitted : (room : Bool) (why : Option Refusal) (session number : ℕ) (asked : Request) (desk : SessionDesk J) (old new : Parts J) (answer : EventAnswer) → SubmitsUnless why (submission room session number asked) desk old answer new → new.shards ≡ old.shards
  unless_submitted room (Some why) session number asked desk old new answer said = ap (λ (w : Parts J). w.shards) said.1
  unless_submitted room None session number asked desk old new answer said = into_submitted room (can_admit room old) session number asked desk old new answer said

  pub submitted_shards : (room : Bool) (found : Option (SessionDesk J)) (session number : ℕ) (asked : Request) (old new : Parts J) (answer : EventAnswer) → SubmitsAt (submission room session number asked) found old answer new → new.shards ≡ old.shards
  submitted_shards room None session number asked old new answer said = ap (λ (w : Parts J). w.shards) said.1
  submitted_shards room (Some desk) session number asked old new answer said = unless_submitted room (refusal_at desk asked old) session number asked desk old new answer said

  -- ---- a message is taken

  follow_inbox : (home : ℕ) (turned : List (Turned J (Carried J))) (old new : Parts J) → TurnsFollow home turned old new → new.inbox ≡ old.inbox
  follow_inbox home [] old new same = ap (λ (w : Parts J). w.inbox) same.rest
  follow_inbox home (one ∷ more) old new follow = follow_inbox home more follow.0 new follow.1.1 ∙ ap (λ (w : Parts J). w.inbox) follow.1.0.rest

  turns_inbox : (home : ℕ) (old new : Parts J) → AllTurns home old new → new.inbox ≡ old.inbox
  turns_inbox home old new turns = follow_inbox home turns.turned old new turns.follow

  pub takes_inbox : (m : Message J) (old new : Parts J) → TakesMessage m old new → new.inbox ≡ old.inbox
  takes_inbox (Start flow works) old new said = ap (λ (w : Parts J). w.inbox) said
  takes_inbox (Act act) old new said = turns_inbox _ said.0 new said.1.1 ∙ ap (λ (w : Parts J). w.inbox) said.1.0.1.rest
  takes_inbox (Settle slot claims) old new said = turns_inbox _ said.0 new said.1.1 ∙ ap (λ (w : Parts J). w.inbox) said.1.0.rest
  takes_inbox (Undo slot claims) old new said = turns_inbox _ said.0 new said.1.1 ∙ ap (λ (w : Parts J). w.inbox) said.1.0.rest
