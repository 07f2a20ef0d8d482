-- What parts of the flight have together, in whatever order.
use Rattle.std.proofs.Common.{◌≡◌, List, [], ◌∷◌, ◌++◌, refl, sym, ◌∙◌, ap, subst, append_assoc, append-nil}
use Rattle.std.specs.List.Sorted.{IsPermutation}
use Rattle.std.proofs.lemmas.List.Sorted.{IsPermutation-refl, IsPermutation-sym, IsPermutation-trans, IsPermutation-append, IsPermutation-append_comm}
use Rattle.world.specs.Flights.{InFlight, part, nothing, join, parts}

-- the same claims, transactions and tokens, in any order
pub record IsSame (a b : InFlight) : Type 0 where
  pub claims : IsPermutation a.claims b.claims
  pub pending : IsPermutation a.pending b.pending
  pub tokens : IsPermutation a.tokens b.tokens

pub same-refl : (a : InFlight) → IsSame a a
same-refl a = record { claims = IsPermutation-refl a.claims; pending = IsPermutation-refl a.pending; tokens = IsPermutation-refl a.tokens }

pub same-sym : (a b : InFlight) → IsSame a b → IsSame b a
same-sym a b h = record {
  claims = IsPermutation-sym a.claims b.claims h.claims;
  pending = IsPermutation-sym a.pending b.pending h.pending;
  tokens = IsPermutation-sym a.tokens b.tokens h.tokens;
}

pub same-trans : (a b c : InFlight) → IsSame a b → IsSame b c → IsSame a c
same-trans a b c h k = record {
  claims = IsPermutation-trans a.claims b.claims c.claims h.claims k.claims;
  pending = IsPermutation-trans a.pending b.pending c.pending h.pending k.pending;
  tokens = IsPermutation-trans a.tokens b.tokens c.tokens h.tokens k.tokens;
}

pub same-is : (a b : InFlight) → a ≡ b → IsSame a b
same-is a b e = subst (λ c. IsSame a c) e (same-refl a)

pub same-join : (a b c d : InFlight) → IsSame a b → IsSame c d → IsSame (join a c) (join b d)
same-join a b c d h k = record {
  claims = IsPermutation-append a.claims b.claims c.claims d.claims h.claims k.claims;
  pending = IsPermutation-append a.pending b.pending c.pending d.pending h.pending k.pending;
  tokens = IsPermutation-append a.tokens b.tokens c.tokens d.tokens h.tokens k.tokens;
}

pub same-swap : (a b : InFlight) → IsSame (join a b) (join b a)
same-swap a b = record {
  claims = IsPermutation-append_comm a.claims b.claims;
  pending = IsPermutation-append_comm a.pending b.pending;
  tokens = IsPermutation-append_comm a.tokens b.tokens;
}

pub join-assoc : (a b c : InFlight) → join (join a b) c ≡ join a (join b c)
join-assoc a b c i = part (append_assoc a.claims b.claims c.claims i) (append_assoc a.pending b.pending c.pending i) (append_assoc a.tokens b.tokens c.tokens i)

pub join-nothing : (a : InFlight) → join a nothing ≡ a
join-nothing a i = part (append-nil a.claims i) (append-nil a.pending i) (append-nil a.tokens i)

pub parts-append : {X : Type 0} (f : X → InFlight) (xs ys : List X) → parts f (xs ++ ys) ≡ join (parts f xs) (parts f ys)
parts-append f [] ys = refl
parts-append f (x ∷ xs) ys = ap (join (f x)) (parts-append f xs ys) ∙ sym (join-assoc (f x) (parts f xs) (parts f ys))

-- a part in the middle comes to the front
pub same-middle : (a b c : InFlight) → IsSame (join a (join b c)) (join b (join a c))
same-middle a b c =
    subst (λ p. IsSame p (join b (join a c))) (join-assoc a b c)
    (subst (λ p. IsSame (join (join a b) c) p) (join-assoc b a c)
    (same-join (join a b) (join b a) c c (same-swap a b) (same-refl c)))
