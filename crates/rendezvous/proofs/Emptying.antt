-- Who reports last takes all results, the last one first; who convenes gives all slots back.
use Rattle.std.proofs.Common.{◌≡◌, ℕ, zero, suc, ◌+◌, List, [], ◌∷◌, ◌++◌, map, length, set, replicate, Option, Some, None, refl, ap, ◌∙◌, arith}
use mathlib.Core.Option.{some, none}
use mathlib.Core.Option as found
use lib.ListN.{get_elem?}
use Rattle.atomic_table.specs.Table.{Act, keeps, takes, gives, chain, Valid, carried_after, homes_after}
use Rattle.rendezvous.specs.Rule.{in_slots, empty_slots}

set_at_end : {A : Type 0} (k : ℕ) (x y z : A) (zs : List A) → set (replicate k x ++ y ∷ zs) k z ≡ replicate k x ++ z ∷ zs
set_at_end zero x y z zs = refl
set_at_end (suc k) x y z zs = ap (λ l. x ∷ l) (set_at_end k x y z zs)

one_more : {A : Type 0} (k : ℕ) (x : A) (zs : List A) → replicate k x ++ x ∷ zs ≡ replicate (suc k) x ++ zs
one_more zero x zs = refl
one_more (suc k) x zs = ap (λ l. x ∷ l) (one_more k x zs)

module _ {R : Type 0} where
  -- takes these results, which lie in the slots from k on
  abbrev pub takes_from : ℕ → List R → Act (Option R)
  takes_from k [] = keeps
  takes_from k (r ∷ rs) = chain (takes_from (suc k) rs) (takes k (Some r))

  pub carried_all : (k : ℕ) (rs : List R) → carried_after [] (takes_from k rs) ≡ in_slots k rs
  carried_all k [] = refl
  carried_all k (r ∷ rs) = ap (λ l. (k, Some r) ∷ l) (carried_all (suc k) rs)

  -- the slot before stays as it was
  homes_shift : (h : found.Option (Option R)) (hs : List (found.Option (Option R))) (c d : List (ℕ × Option R)) (k : ℕ) (rs : List R) → homes_after (h ∷ hs) c (takes_from (suc k) rs) ≡ h ∷ homes_after hs d (takes_from k rs)
  homes_shift h hs c d k [] = refl
  homes_shift h hs c d k (r ∷ rs) = ap (λ l. set l (suc k) none) (homes_shift h hs c d (suc k) rs)

  pub homes_emptied : (rs : List R) (hs others : List (found.Option (Option R))) (c : List (ℕ × Option R)) → length hs ≡ length rs → homes_after (hs ++ others) c (takes_from 0 rs) ≡ map (λ _. none) rs ++ others
  homes_emptied [] [] others c long = refl
  homes_emptied [] (h ∷ hs) others c long = absurd (omega arith)
  homes_emptied (r ∷ rs) [] others c long = absurd (omega arith)
  homes_emptied (r ∷ rs) (h ∷ hs) others c long = ap (λ l. set l 0 none) (homes_shift h (hs ++ others) c c 0 rs) ∙ ap (λ l. none ∷ l) (homes_emptied rs hs others c (omega arith))

  valid_shift : (h : found.Option (Option R)) (hs : List (found.Option (Option R))) (c d : List (ℕ × Option R)) (k : ℕ) (rs : List R) → Valid hs d (takes_from k rs) → Valid (h ∷ hs) c (takes_from (suc k) rs)
  valid_shift h hs c d k [] valid = tt
  valid_shift h hs c d k (r ∷ rs) valid = (valid_shift h hs c d (suc k) rs valid.0, ap (λ l. get_elem? l (suc k)) (homes_shift h hs c d (suc k) rs) ∙ valid.1)

  pub all_valid : (rs : List R) (others : List (found.Option (Option R))) (c : List (ℕ × Option R)) → Valid (map some (map Some rs) ++ others) c (takes_from 0 rs)
  all_valid [] others c = tt
  all_valid (r ∷ rs) others c =
      (valid_shift (some (Some r)) (map some (map Some rs) ++ others) c c 0 rs (all_valid rs others c), ap (λ l. get_elem? l 0) (homes_shift (some (Some r)) (map some (map Some rs) ++ others) c c 0 rs))

  pub none_at_home : {A B : Type 0} (xs : List A) (ys : List B) → length xs ≡ length ys → map {A = A} {B = found.Option (Option R)} (λ _. none) xs ≡ map (λ _. none) ys
  none_at_home [] [] long = refl
  none_at_home [] (y ∷ ys) long = absurd (omega arith)
  none_at_home (x ∷ xs) [] long = absurd (omega arith)
  none_at_home (x ∷ xs) (y ∷ ys) long = ap (λ l. none ∷ l) (none_at_home xs ys (omega arith))

  -- gives so many slots back
  abbrev pub gives_all : ℕ → Act (Option R)
  gives_all zero = keeps
  gives_all (suc n) = chain gives (gives_all n)

  pub given_valid : (n : ℕ) (hs : List (found.Option (Option R))) (c : List (ℕ × Option R)) → Valid hs c (gives_all n)
  given_valid zero hs c = tt
  given_valid (suc n) hs c = (tt, given_valid n _ _)

  pub none_carried : (k n : ℕ) → carried_after (empty_slots k n) (gives_all n) ≡ []
  none_carried k zero = refl
  none_carried k (suc n) = none_carried (suc k) n

  -- the slots from k on come home, empty, and those before are there already
  pub homes_given : (k n : ℕ) (others : List (found.Option (Option R))) → homes_after (replicate k (some None) ++ (replicate n none ++ others)) (empty_slots k n) (gives_all n) ≡ replicate (k + n) (some None) ++ others
  homes_given k zero others = let same : k ≡ k + 0 = omega arith in ap (λ (m : ℕ). replicate m (some None) ++ others) same
  homes_given k (suc n) others =
      let same : suc k + n ≡ k + suc n = omega arith in
      let came = set_at_end k (some None) none (some None) (replicate n none ++ others) ∙ one_more k (some None) (replicate n none ++ others) in
      ap (λ (l : List (found.Option (Option R))). homes_after l (empty_slots (suc k) n) (gives_all n)) came ∙ homes_given (suc k) n others ∙ ap (λ (m : ℕ). replicate m (some None) ++ others) same
