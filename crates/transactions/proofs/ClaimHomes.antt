-- The warehouse of claims that go back.
use Rattle.std.proofs.Common.{◌≡◌, ◌≤◌, ℕ, List, [], ◌∷◌, length, subst, arith}
use Rattle.std.specs.Prelude.{All, slice_index_or}
use Rattle.groups.specs.Groups.{warehouse_of}
use Rattle.tickets.specs.Claims.{ClaimView}
use Rattle.slices.specs.SliceView.{AreOfOneHome, IsClaimAt}
use Rattle.transactions.specs.Works.{home_of_claims}

-- it is that of the first
pub home_is : (claims : List ClaimView) (home : ℕ) → 1 ≤ length claims → ((d : ClaimView) → home ≡ warehouse_of (slice_index_or claims 0 d).group) → home ≡ home_of_claims claims
home_is [] home some is = absurd (omega (arith, some))
home_is (claim ∷ claims) home some is = is claim

-- and all are on groups of it, where they are on groups of one
pub at_home : (claims : List ClaimView) (home : ℕ) → home_of_claims claims ≡ home → AreOfOneHome claims → All (IsClaimAt home) claims
at_home [] home is none = absurd none
at_home (claim ∷ claims) home is at = subst (λ n. All (IsClaimAt n) (claim ∷ claims)) is at

-- then there is a first
pub some_claims : (claims : List ClaimView) → AreOfOneHome claims → 1 ≤ length claims
some_claims [] none = absurd none
some_claims (claim ∷ claims) at = omega arith
