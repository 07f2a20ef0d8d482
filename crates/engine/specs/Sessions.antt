-- The sessions, by their numbers.
use Rattle.std.specs.Prelude.{◌≡◌, ℕ, ◌+◌, ◌<◌, List, Some}
use Rattle.std.specs.List.{slice_get}
use Rattle.rows.specs.declared.limits.TheConstants.{SESSIONS}
use Rattle.requests.specs.declared.script.Part.{Part}
use Rattle.commit_log.specs.PassView.{PassView, SessionSeatView, new_pass, new_seat}
use Rattle.engine.specs.declared.session.Left.{Left}

-- these are the passes and seats of the sessions from this one on, which have seen, logged and asked nothing
abbrev pub AreNewFrom : ℕ → List (PassView × SessionSeatView) → Type 0
AreNewFrom first lanes = (k : ℕ) → first + k < SESSIONS → slice_get lanes k ≡ Some (new_pass (first + k), new_seat (first + k))

-- what these sessions have asked are, in order, the scripts from this place on
abbrev pub AreAskedFrom : {J : Type 0} → ℕ → List (List Part) → List (Left J) → Type 0
AreAskedFrom first scripts left = (k : ℕ) (one : _) → slice_get left k ≡ Some one → slice_get scripts (first + k) ≡ Some one.session.script
