-- What an event brings, by the event.
use Rattle.std.proofs.Common.{◌≡◌, ℕ, Bool, true, false, [], ◌∷◌, ◌++◌, Some, None, Ok, sym, subst, ⊎_elim}
use Rattle.std.specs.List.{slice_get}
use Rattle.partitions.specs.Parts.{SharedTables}
use Rattle.requests.specs.declared.request.Request.{Request}
use Rattle.requests.specs.Check.{check_of}
use Rattle.history.specs.declared.event.Event.{Event}
use Rattle.history.specs.declared.event.Event.TheVariants.{Submit}
use Rattle.history.specs.declared.event.EventAnswer.{EventAnswer}
use Rattle.history.specs.declared.event.EventAnswer.TheVariants.{Nothing}
use Rattle.history.specs.History.{step}
use Rattle.history.specs.Laws.{IsQuiet}
use Rattle.world.specs.declared.desk.SessionDesk.{SessionDesk}
use Rattle.world.specs.Parted.{joined_in}
use Rattle.world.specs.declared.world.Parts.{Parts}
use Rattle.world.specs.Flights.{nothing}
use Rattle.world.specs.Sound.{IsSoundWith, flight}
use Rattle.world.specs.Worlds.{Fits, Advances}
use Rattle.world.specs.Happening.{SubmitsInto, StaysAt, refusal_at, is_full, submission}
use Rattle.world.proofs.Fitting.{fits_quiet}
use Rattle.world.proofs.Asking.{not_refused, admits_sound, admits_fits}

module _ {J : Type 0} where
  -- nothing changes, and nothing is reported of a transaction
  pub stays : (old new : Parts J) (event : Event) (recorded answer : EventAnswer) → IsQuiet event recorded → StaysAt recorded old answer new → Advances old (step event answer ∷ []) new
  stays old new event recorded answer quiet said opening history f =
      subst (λ w. Fits opening (history ++ step event answer ∷ []) w) (sym said.1)
      (subst (λ a. Fits opening (history ++ step event a ∷ []) old) (sym said.0)
      (fits_quiet opening history old.log (joined_in old) old.desk.admitted (flight old) event recorded quiet f))

  pub submits_into : (room : Bool) (shared : SharedTables) (old new : Parts J) (h : IsSoundWith shared nothing old) (session number : ℕ) (asked : Request) (desk : SessionDesk J) (answer : EventAnswer)
      → slice_get old.desk.sessions.items session ≡ Some desk → refusal_at desk asked old ≡ None → (can : Bool) → SubmitsInto can (submission room session number asked) desk old answer new
      → IsSoundWith shared nothing new × Advances old (step (Submit session number asked) answer ∷ []) new
  submits_into room shared old new h session number asked desk answer there free false said =
      (subst (λ w. IsSoundWith shared nothing w) (sym said.1) h, stays old new (Submit session number asked) Nothing answer tt said)
  submits_into room shared old new h session number asked desk answer there free true said =
      let clear = not_refused desk.pass (check_of old.catalog.scale asked) (is_full old.desk.active) free in
      let accepted : check_of shared.scale asked ≡ Ok tt = subst (λ (s : SharedTables). check_of s.scale asked ≡ Ok tt) h.shared_is clear in
      ⊎_elim
      (λ refused. (subst (λ w. IsSoundWith shared nothing w) (sym refused.1) h, stays old new (Submit session number asked) _ answer tt refused))
      (λ admitted. (
        admits_sound shared old h session number asked desk there accepted new admitted.1,
        λ opening history f.
            subst (λ a. Fits opening (history ++ step (Submit session number asked) a ∷ []) new) (sym admitted.0)
            (admits_fits shared old h session number asked desk there accepted new admitted.1 opening history f),
      ))
      said
