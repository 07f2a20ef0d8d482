-- A finished transaction: its answer, and the claims to give back.
use Rattle.std.specs.Prelude.{◌≡◌, ℕ, Bool, true, false, List, [], ◌∷◌, ◌++◌, Err}
use Rattle.requests.specs.declared.refusal.Refusal.{Refusal}
use Rattle.tickets.specs.Claims.{ClaimView}
use Rattle.executor.specs.declared.release.GivenBack.{GivenBack}
use Rattle.executor.specs.declared.release.GivenBack.TheVariants.{Settle, Undo}
use Rattle.executor.specs.AgreedPhases.{PhaseOwnerView}
use Rattle.executor.specs.GivenBackViews.{GivenBackView, given_back_view}
use Rattle.executor.specs.Transactions.{TransactionView}
use Rattle.executor.specs.Answers.{ReleaseView, ReturnsView, release_view, returns_view, answer_view}

-- the claims that go back, settled or undone
abbrev pub giving_of : {J : Type 0} → GivenBack J → GivenBackView
giving_of (Settle s) = s
giving_of (Undo u) = u

-- the claims go back as `settle` has it: settled or undone
abbrev pub IsGivenFor : {J : Type 0} → ℕ → Bool → List ClaimView → GivenBack J → Type 0
IsGivenFor slot settle claims (Settle s) = (settle ≡ true) × (s ≡ given_back_view slot claims)
IsGivenFor slot settle claims (Undo u) = (settle ≡ false) × (u ≡ given_back_view slot claims)

-- the claims of the last action were given back; the others are left
abbrev pub IsGivenBack : {J : Type 0} → ReturnsView → ReturnsView → GivenBack J → Type 0
IsGivenBack old new given = (claims : List ClaimView) × ((old ≡ returns_view new.slot new.settle (new.held ++ claims ∷ [])) × IsGivenFor old.slot old.settle claims given)

-- the transaction is refused for this reason, and what its actions did is undone
abbrev pub refused : PhaseOwnerView → TransactionView → List (List ClaimView) → Refusal → ReleaseView
refused phase_owner t held why = release_view (answer_view t.age t.number t.pass (Err why)) (returns_view t.slot false held) phase_owner
