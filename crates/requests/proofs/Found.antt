-- What is found in a list.
use Rattle.std.proofs.Common.{◌≡◌, Bool, true, false, List, [], ◌∷◌, Some, subst, cond}
use Rattle.std.specs.Prelude.{All, find}
use Rattle.std.proofs.lemmas.List.Elements.{All-head, All-tail}

by_test : {X : Type 0} (P : X → Type 0) (test : X → Bool) (xs : List X) (y x : X) (passes : Bool) → P y → (find test xs ≡ Some x → P x)
    → cond passes (Some y) (find test xs) ≡ Some x → P x
by_test P test xs y x true one later is = let same : y ≡ x = cc in subst P same one
by_test P test xs y x false one later is = later is

-- it has what all of the list have
pub found_among : {X : Type 0} (P : X → Type 0) (test : X → Bool) (xs : List X) (x : X) → All P xs → find test xs ≡ Some x → P x
found_among P test [] x all is = absurd (cc)
found_among P test (y ∷ xs) x all is =
    by_test P test xs y x (test y) (All-head P y xs all) (found_among P test xs x (All-tail P y xs all)) is
