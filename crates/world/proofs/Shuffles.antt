-- The same elements in another order, stated so that functions of the elements preserve it.
use Rattle.std.proofs.Common.{◌≡◌, ℕ, ◌<◌, ◌≤◌, zero, suc, List, [], ◌∷◌, ◌++◌, length, refl, sym, ◌∙◌, subst, append_assoc, arith}
use Rattle.std.specs.Prelude.{map, slice_set, slice_index_or}
use Rattle.std.specs.List.{flat_map, sum_by}
use Rattle.std.specs.List.Sorted.{IsPermutation}
use Rattle.world.specs.Queues.{all_of, put_into, queue_of}
use Rattle.std.proofs.lemmas.Grind.{flat_map-append}
use Rattle.std.proofs.lemmas.List.{set-get_or}
use Rattle.std.proofs.lemmas.List.Sums.{sum_by-append}
use Rattle.std.proofs.lemmas.List.Sorted.{IsPermutation-refl, IsPermutation-trans, IsPermutation-append, IsPermutation-append_comm}
use Rattle.std.proofs.lemmas.List.Concat.{flat_map_single}

-- reached by changes of two lots
pub data Shuffle {X : Type 0} : List X → List X → Type 0 where
  same : (xs : List X) → Shuffle xs xs
  swap : (xs ys : List X) → Shuffle (xs ++ ys) (ys ++ xs)
  both : (xs ys us vs : List X) → Shuffle xs ys → Shuffle us vs → Shuffle (xs ++ us) (ys ++ vs)
  then : (xs ys zs : List X) → Shuffle xs ys → Shuffle ys zs → Shuffle xs zs

module _ {X : Type 0} where
  pub shuffle-sym : (xs ys : List X) → Shuffle xs ys → Shuffle ys xs
  shuffle-sym _ _ (same xs) = same xs
  shuffle-sym _ _ (swap xs ys) = swap ys xs
  shuffle-sym _ _ (both xs ys us vs a b) = both ys xs vs us (shuffle-sym xs ys a) (shuffle-sym us vs b)
  shuffle-sym _ _ (then xs ys zs a b) = then zs ys xs (shuffle-sym ys zs b) (shuffle-sym xs ys a)

  pub shuffle-order : (xs ys : List X) → Shuffle xs ys → IsPermutation xs ys
  shuffle-order _ _ (same xs) = IsPermutation-refl xs
  shuffle-order _ _ (swap xs ys) = IsPermutation-append_comm xs ys
  shuffle-order _ _ (both xs ys us vs a b) = IsPermutation-append xs ys us vs (shuffle-order xs ys a) (shuffle-order us vs b)
  shuffle-order _ _ (then xs ys zs a b) = IsPermutation-trans xs ys zs (shuffle-order xs ys a) (shuffle-order ys zs b)

  -- and so are their images
  pub shuffle-flat : {Y : Type 0} (f : X → List Y) (xs ys : List X) → Shuffle xs ys → Shuffle (flat_map f xs) (flat_map f ys)
  shuffle-flat f _ _ (same xs) = same (flat_map f xs)
  shuffle-flat f _ _ (swap xs ys) =
      subst (λ l. Shuffle l (flat_map f (ys ++ xs))) (sym (flat_map-append f xs ys))
      (subst (λ l. Shuffle (flat_map f xs ++ flat_map f ys) l) (sym (flat_map-append f ys xs)) (swap (flat_map f xs) (flat_map f ys)))
  shuffle-flat f _ _ (both xs ys us vs a b) =
      subst (λ l. Shuffle l (flat_map f (ys ++ vs))) (sym (flat_map-append f xs us))
      (subst (λ l. Shuffle (flat_map f xs ++ flat_map f us) l) (sym (flat_map-append f ys vs))
      (both (flat_map f xs) (flat_map f ys) (flat_map f us) (flat_map f vs) (shuffle-flat f xs ys a) (shuffle-flat f us vs b)))
  shuffle-flat f _ _ (then xs ys zs a b) = then (flat_map f xs) (flat_map f ys) (flat_map f zs) (shuffle-flat f xs ys a) (shuffle-flat f ys zs b)

  pub shuffle-map : {Y : Type 0} (f : X → Y) (xs ys : List X) → Shuffle xs ys → Shuffle (map f xs) (map f ys)
  shuffle-map f xs ys h =
      subst (λ l. Shuffle l (map f ys)) (flat_map_single f xs) (subst (λ l. Shuffle (flat_map (λ x. f x ∷ []) xs) l) (flat_map_single f ys) (shuffle-flat (λ x. f x ∷ []) xs ys h))

  pub shuffle-sum : (f : X → ℕ) (xs ys : List X) → Shuffle xs ys → sum_by f xs ≡ sum_by f ys
  shuffle-sum f _ _ (same xs) = refl
  shuffle-sum f _ _ (swap xs ys) = omega (arith, sum_by-append f xs ys, sum_by-append f ys xs)
  shuffle-sum f _ _ (both xs ys us vs a b) = omega (arith, sum_by-append f xs us, sum_by-append f ys vs, shuffle-sum f xs ys a, shuffle-sum f us vs b)
  shuffle-sum f _ _ (then xs ys zs a b) = shuffle-sum f xs ys a ∙ shuffle-sum f ys zs b

  -- more in front of both, or behind both
  pub shuffle-front : (zs xs ys : List X) → Shuffle xs ys → Shuffle (zs ++ xs) (zs ++ ys)
  shuffle-front zs xs ys h = both zs zs xs ys (same zs) h

  pub shuffle-behind : (zs xs ys : List X) → Shuffle xs ys → Shuffle (xs ++ zs) (ys ++ zs)
  shuffle-behind zs xs ys h = both xs ys zs zs h (same zs)

  pub shuffle-cons : (x : X) (xs ys : List X) → Shuffle xs ys → Shuffle (x ∷ xs) (x ∷ ys)
  shuffle-cons x xs ys h = both (x ∷ []) (x ∷ []) xs ys (same (x ∷ [])) h

  -- a lot in the middle comes to the front
  pub shuffle-middle : (xs ys zs : List X) → Shuffle (xs ++ (ys ++ zs)) (ys ++ (xs ++ zs))
  shuffle-middle xs ys zs =
      subst (λ l. Shuffle l (ys ++ (xs ++ zs))) (append_assoc xs ys zs)
      (subst (λ l. Shuffle ((xs ++ ys) ++ zs) l) (append_assoc ys xs zs) (shuffle-behind zs (xs ++ ys) (ys ++ xs) (swap xs ys)))

-- ---- queues

module _ {X : Type 0} where
  -- one queue comes before the others
  set_apart : (queues : List (List X)) (place : ℕ) (one : List X) → place < length queues → Shuffle (all_of (slice_set queues place one)) (one ++ all_of (slice_set queues place []))
  set_apart [] place one below = absurd (omega (arith, below))
  set_apart (queue ∷ queues) zero one below = same (one ++ all_of queues)
  set_apart (queue ∷ queues) (suc place) one below =
      let rest = set_apart queues place one (omega (arith, below)) in
      let others = all_of (slice_set queues place []) in
      then (queue ++ all_of (slice_set queues place one)) (queue ++ (one ++ others)) (one ++ (queue ++ others))
      (shuffle-front queue (all_of (slice_set queues place one)) (one ++ others) rest)
      (shuffle-middle queue one others)

  pub own_apart : (queues : List (List X)) (place : ℕ) → place < length queues → Shuffle (all_of queues) (queue_of place queues ++ all_of (slice_set queues place []))
  own_apart queues place below =
      subst (λ qs. Shuffle (all_of qs) (queue_of place queues ++ all_of (slice_set queues place []))) (set-get_or queues place []) (set_apart queues place (queue_of place queues) below)

  -- the first of a queue is taken
  pub taken_apart : (queues : List (List X)) (place : ℕ) (x : X) (rest : List X) → place < length queues → queue_of place queues ≡ x ∷ rest → Shuffle (all_of queues) (x ∷ all_of (slice_set queues place rest))
  taken_apart queues place x rest below first =
      let others = all_of (slice_set queues place []) in
      then (all_of queues) (x ∷ (rest ++ others)) (x ∷ all_of (slice_set queues place rest))
      (subst (λ q. Shuffle (all_of queues) (q ++ others)) first (own_apart queues place below))
      (shuffle-cons x (rest ++ others) (all_of (slice_set queues place rest)) (shuffle-sym (all_of (slice_set queues place rest)) (rest ++ others) (set_apart queues place rest below)))

  -- more are appended to a queue
  pub put_apart : (queues : List (List X)) (place : ℕ) (more : List X) → place < length queues → Shuffle (all_of (put_into place more queues)) (more ++ all_of queues)
  put_apart queues place more below =
      let own = queue_of place queues in
      let others = all_of (slice_set queues place []) in
      then (all_of (put_into place more queues)) ((own ++ more) ++ others) (more ++ all_of queues)
      (set_apart queues place (own ++ more) below)
      (then ((own ++ more) ++ others) (more ++ (own ++ others)) (more ++ all_of queues)
      (subst (λ l. Shuffle l (more ++ (own ++ others))) (sym (append_assoc own more others)) (shuffle-middle own more others))
      (shuffle-front more (own ++ others) (all_of queues) (shuffle-sym (all_of queues) (own ++ others) (own_apart queues place below))))

-- a queue that has something is an executor's
pub has_queue : {X : Type 0} (queues : List (List X)) (place : ℕ) → 1 ≤ length (slice_index_or queues place []) → place < length queues
has_queue [] place some = absurd (omega (arith, some))
has_queue (queue ∷ queues) zero some = omega arith
has_queue (queue ∷ queues) (suc place) some = omega (arith, has_queue queues place some)
