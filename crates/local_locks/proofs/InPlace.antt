-- What many locks have, as one list in any order, when one of them changes.
use Rattle.std.proofs.Common.{ℕ, ◌<◌, List, [], ◌∷◌, ◌++◌, zero, suc, length, get_or, subst, arith, append_assoc}
use Rattle.std.proofs.Math.ListN.{set}
use Rattle.std.specs.List.{flat_map}
use Rattle.std.specs.List.Sorted.{IsPermutation}
use Rattle.std.proofs.lemmas.List.Sorted.{IsPermutation-refl, IsPermutation-trans, IsPermutation-append_left, IsPermutation-append_right, IsPermutation-append_comm}

-- the first two of three parts change places
pub swap_parts : {A : Type 0} (a b c : List A) → IsPermutation (a ++ (b ++ c)) (b ++ (a ++ c))
swap_parts a b c =
    let moved = IsPermutation-append_left c (a ++ b) (b ++ a) (IsPermutation-append_comm a b) in
    subst (λ ys. IsPermutation (a ++ (b ++ c)) ys) (append_assoc b a c) (subst (λ xs. IsPermutation xs ((b ++ a) ++ c)) (append_assoc a b c) moved)

-- One of a list: what the others have stays, whatever comes in its place.
pub record InPlace {X A : Type 0} (f : X → List A) (xs : List X) (i : ℕ) (x : X) : Type 0 where
  pub rest : List A
  pub now : IsPermutation (flat_map f xs) (f x ++ rest)
  pub after : (y : X) → IsPermutation (flat_map f (set xs i y)) (f y ++ rest)

pub in_place : {X A : Type 0} (f : X → List A) (xs : List X) (i : ℕ) (d : X) → i < length xs → InPlace f xs i (get_or xs i d)
in_place f [] i d here = absurd (omega arith)
in_place f (x ∷ xs) zero d here = record { rest = flat_map f xs; now = IsPermutation-refl (f x ++ flat_map f xs); after = λ y. IsPermutation-refl (f y ++ flat_map f xs) }
in_place f (x ∷ xs) (suc i) d here =
    let inner = in_place f xs i d (omega (arith, here)) in
    record {
      rest = f x ++ inner.rest;
      now = IsPermutation-trans (f x ++ flat_map f xs) (f x ++ (f (get_or xs i d) ++ inner.rest)) (f (get_or xs i d) ++ (f x ++ inner.rest)) (IsPermutation-append_right (f x) (flat_map f xs) (f (get_or xs i d) ++ inner.rest) inner.now) (swap_parts (f x) (f (get_or xs i d)) inner.rest);
      after = λ y. IsPermutation-trans (f x ++ flat_map f (set xs i y)) (f x ++ (f y ++ inner.rest)) (f y ++ (f x ++ inner.rest)) (IsPermutation-append_right (f x) (flat_map f (set xs i y)) (f y ++ inner.rest) (inner.after y)) (swap_parts (f x) (f y) inner.rest);
    }
