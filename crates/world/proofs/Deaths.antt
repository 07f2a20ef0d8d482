-- The transaction of which a session gets a death as its answer.
use Rattle.std.proofs.Common.{◌≡◌, ℕ, Bool, true, false, Option, Some, None, refl, ap, ◌∙◌, ⊎_elim, arith}
use Rattle.std.specs.Prelude.{Result, Ok, Err}
use Rattle.std.specs.List.{slice_get}
use Rattle.partitions.specs.Parts.{SharedTables}
use Rattle.schema.specs.declared.scale.Scale.{Scale}
use Rattle.requests.specs.declared.group.Group.{Group}
use Rattle.requests.specs.declared.refusal.Refusal.{Refusal}
use Rattle.requests.specs.declared.refusal.Refusal.TheVariants.{Died}
use Rattle.requests.specs.declared.request.Request.{Request}
use Rattle.requests.specs.Check.{check_of}
use Rattle.requests.proofs.Checked.{refused_by_itself}
use Rattle.commit_log.specs.PassView.{PassView}
use Rattle.history.specs.declared.event.Event.{Event}
use Rattle.history.specs.declared.event.Event.TheVariants.{Submit, Order, Take, Send}
use Rattle.history.specs.declared.event.EventAnswer.{EventAnswer}
use Rattle.history.specs.declared.event.EventAnswer.TheVariants.{Answered}
use Rattle.world.specs.declared.desk.SessionDesk.{SessionDesk}
use Rattle.world.specs.declared.world.Core.{Core}
use Rattle.world.specs.declared.world.Parts.{Parts}
use Rattle.world.specs.Together.{IsSound}
use Rattle.world.specs.Happening.{Happens, SubmitsAt, SubmitsInto, SubmitsUnless, begins_at, can_admit, has_room, is_full, refuses, submission}
use Rattle.world.specs.Queues.{queue_of}
use Rattle.world.specs.Worlds.{RecordsOfOlder}
use Rattle.world.proofs.WhoAsked.{ordered_of, sent_first, taken_first}

-- no check answers that a transaction died
never_died : (scale : Scale) (asked : Request) (group : Group) (holder : ℕ) → check_of scale asked ≡ Err (Died group holder) → ⊥
never_died scale asked group holder is = absurd (omega (arith, refused_by_itself scale asked (Died group holder) is))

-- it is answered so
abbrev IsDeath : ℕ → ℕ → Group → ℕ → EventAnswer → Type 0
IsDeath session number group holder answer = answer ≡ Answered session number (Err (Died group holder))

module _ {J : Type 0} (session number : ℕ) (group : Group) (holder : ℕ) where
  -- ---- a submission

  submitted_unless : (room : Bool) (place of : ℕ) (asked : Request) (desk : SessionDesk J) (old new : Parts J) (answer : EventAnswer) (pass : Option PassView) (checked : Result (Unit {0}) Refusal) (full : Bool)
      → check_of old.catalog.scale asked ≡ checked → SubmitsUnless (refuses pass checked full) (submission room place of asked) desk old answer new → IsDeath session number group holder answer → ⊥
  submitted_unless room place of asked desk old new answer None checked full at said is = let e = said.0 in absurd (cc)
  submitted_unless room place of asked desk old new answer (Some pass) (Err why) full at said is =
      let e = said.0 in
      let same : why ≡ Died group holder = cc in
      never_died old.catalog.scale asked group holder (at ∙ ap Err same)
  submitted_unless room place of asked desk old new answer (Some pass) (Ok u) true at said is = let e = said.0 in absurd (cc)
  submitted_unless room place of asked desk old new answer (Some pass) (Ok u) false at said is = into (can_admit room old) said
    where
      into : (can : Bool) → SubmitsInto can (submission room place of asked) desk old answer new → ⊥
      into false said = let e = said.0 in absurd (cc)
      into true said = ⊎_elim (λ refused. let e = refused.0 in cc) (λ admitted. let e = admitted.0 in cc) said

  submitted_at : (room : Bool) (found : Option (SessionDesk J)) (place of : ℕ) (asked : Request) (old new : Parts J) (answer : EventAnswer) → SubmitsAt (submission room place of asked) found old answer new → IsDeath session number group holder answer → ⊥
  submitted_at room None place of asked old new answer said is = let e = said.0 in absurd (cc)
  submitted_at room (Some desk) place of asked old new answer said is =
      submitted_unless room place of asked desk old new answer desk.pass (check_of old.catalog.scale asked) (is_full old.desk.active) refl said is

module _ {J : Type 0} where
  -- whatever the event
  pub records_of_older : (shared : SharedTables) (event : Event) (old new : Core J) (answer : EventAnswer) → IsSound shared old → Happens event old answer new → RecordsOfOlder old answer
  records_of_older shared (Submit place of asked) old new answer h said = λ session number group holder is.
      absurd (submitted_at session number group holder (has_room (begins_at asked old) old) (slice_get old.parts.desk.sessions.items place) place of asked old.parts said.0 answer said.1.0 is)
  records_of_older shared (Order order) old new answer h said = λ session number group holder is.
      absurd (ordered_of session number (Err (Died group holder)) order old new answer said is)
  records_of_older shared (Take executor) old new answer h said = λ session number group holder is.
      absurd (taken_first session number (Err (Died group holder)) executor (queue_of executor old.inboxes) old new answer said is)
  records_of_older shared (Send executor) old new answer h said = λ session number group holder is.
      let one = sent_first session number (Err (Died group holder)) shared old new h executor answer (queue_of executor old.outboxes) refl said is in
      let recorded = one.1.1 in
      (one.0, (one.1.0, record { session_is = recorded.answered.session_is; number_is = recorded.answered.number_is; of_footprint = recorded.older.0; older = recorded.older.1 }))
