-- What a submission is answered.
use Rattle.std.proofs.Common.{◌≡◌, ◌<◌, ℕ, List, length, get_or, refl, sym, ap, ◌∙◌, subst, Ok, Some, None}
use Rattle.std.specs.Prelude.{Bool, true, false, ◌&&◌, not, nat_lt, Option, Result, is_some, slice_get}
use Rattle.std.proofs.lemmas.Bool.{lt-leb, lt-ltb}
use Rattle.std.proofs.lemmas.Option.{slice_get_read}
use Rattle.commit_log.specs.PassView.{PassView}
use Rattle.history.specs.declared.event.EventAnswer.{EventAnswer}
use Rattle.requests.specs.Check.{check_of}
use Rattle.requests.specs.declared.refusal.Refusal.{Refusal}
use Rattle.requests.specs.declared.request.Request.{Request}
use Rattle.schema.specs.declared.scale.Scale.{Scale}
use Rattle.world.specs.declared.desk.SessionDesk.{SessionDesk}
use Rattle.world.specs.declared.slots.TheConstants.{MOST_ACTIVE}
use Rattle.world.specs.declared.world.Parts.{Parts}
use Rattle.world.specs.Slots.{count_active}
use Rattle.world.specs.Happening.{CanAsk, SubmitsAt, SubmitsInto, SubmitsUnless, can_admit, is_full, refusal_at, refuses, submission}

-- a list has the element that was read of it
pub found : {X : Type 0} (xs shown : List X) (place : ℕ) (x : X) → shown ≡ xs → place < length shown → x ≡ get_or shown place x → slice_get xs place ≡ Some x
found {X} xs shown place x is inside read = subst (λ (ys : List X). slice_get ys place ≡ Some x) is (slice_get_read shown (length shown) place x refl inside read)

-- a pass that isn't away is there
pub is_there : (pass : Option PassView) (away : Bool) → is_some pass ≡ not away → away ≡ false → is_some pass ≡ true
is_there pass away recorded here = recorded ∙ ap not here

-- nothing speaks against a request whose session's pass is there, that its check accepts, while not as many transactions are
-- active as can be
not_refused : (pass : Option PassView) (checked : Result (Unit {0}) Refusal) (accepted : Unit {0}) (active : Bool)
    → is_some pass ≡ true → checked ≡ Ok accepted → active ≡ false → refuses pass checked active ≡ None
not_refused None checked accepted active there ok idle = absurd (cc)
not_refused (Some pass) checked accepted active there ok idle =
    subst (λ (r : Result (Unit {0}) Refusal). refuses (Some pass) r active ≡ None) (sym ok)
    (subst (λ (b : Bool). refuses (Some pass) (Ok accepted) b ≡ None) (sym idle) refl)

-- there is no room
pub full : (has_room : Bool) (number last : ℕ) → has_room ≡ false → (has_room && nat_lt number last) ≡ false
full has_room number last h = ap (λ b. b && nat_lt number last) h

-- there are both
pub has_both : (has_room : Bool) (number last : ℕ) → has_room ≡ true → number < last → (has_room && nat_lt number last) ≡ true
has_both has_room number last h k = ap (λ b. b && nat_lt number last) h ∙ lt-ltb number last k

module _ {J : Type 0} where
  -- a session whose pass is there can ask
  pub can_ask : (at : Option (SessionDesk J)) (desk : SessionDesk J) → at ≡ Some desk → is_some desk.pass ≡ true → CanAsk at
  can_ask at desk is there = subst (λ (o : Option (SessionDesk J)). CanAsk o) (sym is) there

  -- so the desk does not refuse it
  pub unrefused : (desk : SessionDesk J) (asked : Request) (old : Parts J) (scale : Scale) (accepted : Unit {0})
      → is_some desk.pass ≡ true → scale ≡ old.catalog.scale → Ok accepted ≡ check_of scale asked → count_active old.desk.active < MOST_ACTIVE
      → refusal_at desk asked old ≡ None
  unrefused desk asked old scale accepted there same checked room =
      not_refused desk.pass (check_of old.catalog.scale asked) accepted (is_full old.desk.active) there
      (ap (λ (s : Scale). check_of s asked) (sym same) ∙ sym checked) (lt-leb MOST_ACTIVE (count_active old.desk.active) room)

  -- what is done with a request that is not refused
  pub submits : (has_room : Bool) (at : Option (SessionDesk J)) (desk : SessionDesk J) (session number : ℕ) (asked : Request) (old : Parts J) (answer : EventAnswer) (new : Parts J) (room : Bool)
      → at ≡ Some desk → refusal_at desk asked old ≡ None → can_admit has_room old ≡ room
      → SubmitsInto room (submission has_room session number asked) desk old answer new → SubmitsAt (submission has_room session number asked) at old answer new
  submits has_room at desk session number asked old answer new room is none has into =
      subst (λ (o : Option (SessionDesk J)). SubmitsAt (submission has_room session number asked) o old answer new) (sym is)
      (subst (λ (r : Option Refusal). SubmitsUnless r (submission has_room session number asked) desk old answer new) (sym none)
      (subst (λ (b : Bool). SubmitsInto b (submission has_room session number asked) desk old answer new) (sym has) into))
