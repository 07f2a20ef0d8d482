-- The queues of all executors, and one of them apart.
use Rattle.std.proofs.Common.{◌≡◌, ℕ, ◌<◌, zero, suc, List, [], ◌∷◌, ◌++◌, length, refl, subst, append_assoc, arith}
use Rattle.std.specs.Prelude.{slice_set, slice_index_or}
use Rattle.std.specs.List.Sorted.{IsPermutation}
use Rattle.std.proofs.lemmas.List.Sorted.{IsPermutation-refl, IsPermutation-trans, IsPermutation-append, IsPermutation-append_comm}
use Rattle.world.specs.Queues.{all_of}

-- a part in the middle comes to the front
to_front : {X : Type 0} (a b c : List X) → IsPermutation (a ++ (b ++ c)) (b ++ (a ++ c))
to_front a b c =
    subst (λ l. IsPermutation l (b ++ (a ++ c))) (append_assoc a b c)
    (subst (λ l. IsPermutation (a ++ b ++ c) l) (append_assoc b a c)
    (IsPermutation-append (a ++ b) (b ++ a) c c (IsPermutation-append_comm a b) (IsPermutation-refl c)))

module _ {X : Type 0} where
  -- the others, where one queue has nothing
  abbrev pub others : ℕ → List (List X) → List X
  others place queues = all_of (slice_set queues place [])

  -- what one queue has comes before what the others have
  pub own_first : (queues : List (List X)) (place : ℕ) (own : List X) → place < length queues
      → IsPermutation (all_of (slice_set queues place own)) (own ++ others place queues)
  own_first [] place own below = absurd (omega (arith, below))
  own_first (queue ∷ queues) zero own below = IsPermutation-refl (own ++ all_of queues)
  own_first (queue ∷ queues) (suc place) own below =
      let rest = own_first queues place own (omega (arith, below)) in
      IsPermutation-trans (queue ++ all_of (slice_set queues place own)) (queue ++ (own ++ others place queues)) (own ++ (queue ++ others place queues))
      (IsPermutation-append queue queue (all_of (slice_set queues place own)) (own ++ others place queues) (IsPermutation-refl queue) rest)
      (to_front queue own (others place queues))

-- where nothing waits anywhere, nothing waits in any queue
pub nothing_at : {X : Type 0} (queues : List (List X)) (place : ℕ) (d : List X) → place < length queues → all_of queues ≡ [] → slice_index_or queues place d ≡ []
nothing_at {X = X} [] place d below none = absurd (omega (arith, below))
nothing_at {X = X} ([] ∷ queues) zero d below none = refl
nothing_at {X = X} ([] ∷ queues) (suc place) d below none = nothing_at queues place d (omega (arith, below)) none
nothing_at {X = X} ((x ∷ queue) ∷ queues) place d below none = absurd (cc)
