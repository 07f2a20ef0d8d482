-- What follows from the tests of a check that were passed.
use Rattle.std.proofs.Common.{◌≡◌, true, false, Bool, cond, leb, List, ◌∷◌, Ok, refl}
use Rattle.std.specs.Prelude.{ℕ, Some, find}
use Rattle.std.proofs.lemmas.Bool.{and_parts, leb-true}
use Rattle.rows.specs.Ranged.{is_between}
use Rattle.requests.specs.declared.refusal.Refusal.{Refusal}
use Rattle.requests.specs.Check.{refused_by}
use Rattle.tickets.specs.Places.{IsBetween}

-- a first test that isn't passed
pub not_first : (test : Refusal → Bool) (refusal : Refusal) (rest : List Refusal) → refused_by (find test (refusal ∷ rest)) ≡ Ok tt → (test refusal ≡ false) × (refused_by (find test rest) ≡ Ok tt)
not_first test refusal rest =
    elim (test refusal) as (λ b. refused_by (cond b (Some refusal) (find test rest)) ≡ Ok tt → (b ≡ false) × (refused_by (find test rest) ≡ Ok tt)) [
      | true ↦ λ e. absurd cc
      | false ↦ λ e. (refl, e)
    ]

pub between : (low high number : ℕ) → is_between low high number ≡ true → IsBetween low high number
between low high number is = let parts = and_parts (leb low number) (leb number high) is in (leb-true low number parts.0, leb-true number high parts.1)
