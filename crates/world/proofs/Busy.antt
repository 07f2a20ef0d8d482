-- Which submissions find their session waiting for an answer, and which find all slots taken.
use Rattle.std.proofs.Common.{◌≡◌, ◌↔◌, ℕ, ◌<◌, ◌≤◌, Bool, true, false, Option, Some, None, Result, Ok, Err, refl, sym, ◌∙◌, ap, subst, cond, arith, ⊎_elim}
use Rattle.std.specs.Prelude.{IsTrue, count_by, is_some}
use Rattle.std.specs.List.{slice_get}
use Rattle.partitions.specs.Parts.{SharedTables}
use Rattle.requests.specs.declared.request.Request.{Request}
use Rattle.requests.specs.declared.refusal.Refusal.{Refusal}
use Rattle.requests.specs.declared.refusal.Refusal.TheVariants.{Busy, SessionBusy}
use Rattle.requests.specs.Check.{check_of}
use Rattle.requests.proofs.Checked.{refused_by_itself}
use Rattle.commit_log.specs.PassView.{PassView}
use Rattle.history.specs.declared.event.Event.{Event}
use Rattle.history.specs.declared.event.Event.TheVariants.{Submit, Order, Take, Send}
use Rattle.history.specs.declared.event.EventAnswer.{EventAnswer}
use Rattle.history.specs.declared.event.EventAnswer.TheVariants.{Answered}
use Rattle.history.specs.History.{is_of}
use Rattle.world.specs.declared.desk.SessionDesk.{SessionDesk}
use Rattle.world.specs.declared.world.Parts.{Parts}
use Rattle.world.specs.declared.world.Core.{Core}
use Rattle.world.specs.Flights.{nothing}
use Rattle.world.specs.Sound.{IsSoundWith, flight}
use Rattle.world.specs.Together.{IsSound, together}
use Rattle.world.specs.Happening.{Happens, begins_at, has_room, SubmitsAt, SubmitsUnless, SubmitsInto, can_admit, is_full, refuses, submission}
use Rattle.world.specs.Worlds.{FindsNoSlot, IsBusyExactly, IsFullExactly}
use Rattle.world.proofs.Ready.{stands_at}

-- no check answers that a session is waiting, or that all slots are taken
never_busy : (shared : SharedTables) (asked : Request) → check_of shared.scale asked ≡ Err SessionBusy → ⊥
never_busy shared asked is = absurd (omega (arith, refused_by_itself shared.scale asked SessionBusy is))

never_full : (shared : SharedTables) (asked : Request) → check_of shared.scale asked ≡ Err Busy → ⊥
never_full shared asked is = absurd (omega (arith, refused_by_itself shared.scale asked Busy is))

module _ {J : Type 0} where
  -- a session whose pass is at the desk is not refused as busy
  here_not_busy : (room : Bool) (shared : SharedTables) (asked : Request) (pass : PassView) (active : Bool) (session number : ℕ) (desk : SessionDesk J) (old new : Parts J) (answer : EventAnswer)
      → SubmitsUnless (refuses (Some pass) (check_of shared.scale asked) active) (submission room session number asked) desk old answer new → answer ≡ Answered session number (Err SessionBusy) → ⊥
  here_not_busy room shared asked pass active session number desk old new answer said is = by_check (check_of shared.scale asked) active refl said
    where
      into : (can : Bool) → SubmitsInto can (submission room session number asked) desk old answer new → ⊥
      into false said = let e = said.0 in absurd (cc)
      into true said = ⊎_elim (λ refused. let e = refused.0 in cc) (λ admitted. let e = admitted.0 in cc) said

      by_check : (checked : Result (Unit {0}) Refusal) (busy : Bool) → check_of shared.scale asked ≡ checked → SubmitsUnless (refuses (Some pass) checked busy) (submission room session number asked) desk old answer new → ⊥
      by_check (Err why) busy at said =
          let e = said.0 in
          let same : why ≡ SessionBusy = cc in
          never_busy shared asked (at ∙ ap Err same)
      by_check (Ok u) true at said = let e = said.0 in absurd (cc)
      by_check (Ok u) false at said = into (can_admit room old) said

  busy_of : (room : Bool) (shared : SharedTables) (w : Parts J) (h : IsSoundWith shared nothing w) (old new : Parts J) (session number : ℕ) (asked : Request) (answer : EventAnswer) (desk : SessionDesk J) (pass : Option PassView) → desk.pass ≡ pass
      → slice_get w.desk.sessions.items session ≡ Some desk
      → SubmitsUnless (refuses pass (check_of old.catalog.scale asked) (is_full old.desk.active)) (submission room session number asked) desk old answer new
      → (answer ≡ Answered session number (Err SessionBusy)) ↔ (1 ≤ count_by (is_of session) (flight w).pending)
  busy_of room shared w h old new session number asked answer desk None is there said =
      (λ recorded. omega (arith, h.balance.alone session desk there, ap (λ (o : Option PassView). cond {A = ℕ} (is_some o) 1 0) is), λ some. said.0)
  busy_of room shared w h old new session number asked answer desk (Some pass) is there said = (
    λ recorded. absurd (here_not_busy room old.catalog asked pass (is_full old.desk.active) session number desk old new answer said recorded),
    λ some. absurd (omega (arith, some, h.balance.alone session desk there, ap (λ (o : Option PassView). cond {A = ℕ} (is_some o) 1 0) is)),
  )

  -- a session whose pass is at the desk, and whose request the check accepts, is refused with Busy exactly if all slots are taken
  here_full : (room : Bool) (shared : SharedTables) (asked : Request) (pass : PassView) (session number : ℕ) (desk : SessionDesk J) (old new : Parts J) (answer : EventAnswer)
      → (checked : Result (Unit {0}) Refusal) → check_of shared.scale asked ≡ checked → (full : Bool) → SubmitsUnless (refuses (Some pass) checked full) (submission room session number asked) desk old answer new
      → (answer ≡ Answered session number (Err Busy)) ↔ ((checked ≡ Ok tt) × IsTrue full)
  here_full room shared asked pass session number desk old new answer (Err why) at full said = (
    λ is.
        let e = said.0 in
        let same : why ≡ Busy = cc in
        absurd (never_full shared asked (at ∙ ap Err same)),
    λ h. let e = h.0 in absurd (cc),
  )
  here_full room shared asked pass session number desk old new answer (Ok u) at true said = (λ is. (refl, refl), λ h. said.0)
  here_full room shared asked pass session number desk old new answer (Ok u) at false said = (
    λ is. absurd (into (can_admit room old) said is),
    λ h. let e = h.1 in absurd (cc),
  )
    where
      into : (can : Bool) → SubmitsInto can (submission room session number asked) desk old answer new → answer ≡ Answered session number (Err Busy) → ⊥
      into false said is = let e = said.0 in absurd (cc)
      into true said is = ⊎_elim (λ refused. let e = refused.0 in cc) (λ admitted. let e = admitted.0 in cc) said

  full_of : (room : Bool) (shared : SharedTables) (w : Core J) (h : IsSoundWith shared nothing (together w)) (new : Parts J) (session number : ℕ) (asked : Request) (answer : EventAnswer) (desk : SessionDesk J) (pass : Option PassView) → desk.pass ≡ pass
      → slice_get w.parts.desk.sessions.items session ≡ Some desk
      → SubmitsUnless (refuses pass (check_of w.parts.catalog.scale asked) (is_full w.parts.desk.active)) (submission room session number asked) desk w.parts answer new
      → (answer ≡ Answered session number (Err Busy)) ↔ FindsNoSlot session asked w
  full_of room shared w h new session number asked answer desk None is there said = (
    λ recorded. let e = said.0 in absurd (cc),
    λ finds. absurd (omega (arith, finds.none, h.balance.alone session desk there, ap (λ (o : Option PassView). cond {A = ℕ} (is_some o) 1 0) is)),
  )
  full_of room shared w h new session number asked answer desk (Some pass) is there said =
      let exactly = here_full room w.parts.catalog asked pass session number desk w.parts new answer (check_of w.parts.catalog.scale asked) refl (is_full w.parts.desk.active) said in (
        λ recorded.
            let both = exactly.0 recorded in
            record {
              none = omega (arith, h.balance.alone session desk there, ap (λ (o : Option PassView). cond {A = ℕ} (is_some o) 1 0) is);
              accepted = both.0;
              full = both.1;
            },
        λ finds. exactly.1 (finds.accepted, finds.full),
      )

  pub full_exactly : (shared : SharedTables) (event : Event) (old new : Core J) (answer : EventAnswer) → IsSound shared old → Happens event old answer new → IsFullExactly event old answer
  full_exactly shared (Submit session number asked) old new answer h said = λ below.
      let room = has_room (begins_at asked old) old in
      let found = stands_at old.parts.desk.sessions.items session (subst (λ n. session < n) (sym h.all.seats) below) in
      full_of room shared old h.all said.0 session number asked answer found.0 found.0.pass refl found.1
      (subst (λ o. SubmitsAt (submission room session number asked) o old.parts answer said.0) found.1 said.1.0)
  full_exactly shared (Order order) old new answer h said = tt
  full_exactly shared (Take executor) old new answer h said = tt
  full_exactly shared (Send executor) old new answer h said = tt

  pub busy_exactly : (shared : SharedTables) (event : Event) (old new : Core J) (answer : EventAnswer) → IsSound shared old → Happens event old answer new → IsBusyExactly event old answer
  busy_exactly shared (Submit session number asked) old new answer h said = λ below.
      let room = has_room (begins_at asked old) old in
      let found = stands_at old.parts.desk.sessions.items session (subst (λ n. session < n) (sym h.all.seats) below) in
      busy_of room shared (together old) h.all old.parts said.0 session number asked answer found.0 found.0.pass refl found.1
      (subst (λ o. SubmitsAt (submission room session number asked) o old.parts answer said.0) found.1 said.1.0)
  busy_exactly shared (Order order) old new answer h said = tt
  busy_exactly shared (Take executor) old new answer h said = tt
  busy_exactly shared (Send executor) old new answer h said = tt
