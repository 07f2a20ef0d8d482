-- Which of some claims are on groups of a warehouse.
use Rattle.std.proofs.Common.{◌≡◌, ◌≢◌, ℕ, ◌+◌, Bool, true, false, cond, List, [], ◌∷◌, ◌++◌, map, refl, sym, ap, ◌∙◌, arith}
use Rattle.std.specs.Prelude.{All, sum_by}
use Rattle.std.specs.List.{filter}
use Rattle.std.specs.List.Sorted.{IsPermutation}
use Rattle.std.proofs.lemmas.List.Elements.{All-head, All-tail}
use Rattle.std.proofs.lemmas.List.Sorted.{IsPermutation-trans, sum_by-IsPermutation}
use Rattle.std.proofs.lemmas.List.Sums.{sum_by-cons}
use Rattle.tickets.specs.Claims.{ClaimView, settled}
use Rattle.tickets.specs.Committed.{all_settled}
use Rattle.local_locks.specs.Asking.{held_by}
use Rattle.local_locks.specs.LockTableView.{HeldClaim}
use Rattle.local_locks.proofs.Left.{moved_by_counts}
use Rattle.local_locks.proofs.Returns.{is_holding, count_of, count_cons}
use Rattle.slices.specs.SliceView.{AreAllHeld, IsClaimAt, at_home, held_at}
use Rattle.slices.proofs.Seen.{home_records, not_home}

-- those on groups of one warehouse come first
pub own_first : (home w_id : ℕ) (claims others : List ClaimView) → w_id ≡ home → All (IsClaimAt home) claims
    → held_at w_id (claims ++ others) ≡ map held_by claims ++ held_at w_id others
own_first home w_id [] others same all = refl
own_first home w_id (c ∷ claims) others same all =
    let rest = filter (λ (claim : ClaimView). at_home w_id claim.group) (claims ++ others) in
    let here : at_home w_id c.group ≡ true = home_records w_id c.group (All-head (IsClaimAt home) c claims all ∙ sym same) in
    ap (λ (b : Bool). map held_by (cond b (c ∷ rest) rest)) here
    ∙ ap (λ (hs : List HeldClaim). held_by c ∷ hs) (own_first home w_id claims others same (All-tail (IsClaimAt home) c claims all))

-- and another warehouse has none of them
pub none_of : (home w_id : ℕ) (claims others : List ClaimView) → w_id ≢ home → All (IsClaimAt home) claims → held_at w_id (claims ++ others) ≡ held_at w_id others
none_of home w_id [] others apart all = refl
none_of home w_id (c ∷ claims) others apart all =
    let rest = filter (λ (claim : ClaimView). at_home w_id claim.group) (claims ++ others) in
    let away : at_home w_id c.group ≡ false = not_home w_id c.group (λ e. apart (sym e ∙ All-head (IsClaimAt home) c claims all)) in
    ap (λ (b : Bool). map held_by (cond b (c ∷ rest) rest)) away
    ∙ none_of home w_id claims others apart (All-tail (IsClaimAt home) c claims all)

-- one, where the claim is on a group of the warehouse, and it is this holder's
abbrev one_at : HeldClaim → ℕ → ClaimView → ℕ
one_at h w_id claim = cond (at_home w_id claim.group) (cond (is_holding h (held_by claim)) 1 0) 0

count_at : (h : HeldClaim) (w_id : ℕ) (claims : List ClaimView) → count_of h (held_at w_id claims) ≡ sum_by (one_at h w_id) claims
count_at h w_id [] = refl
count_at h w_id (c ∷ claims) =
    either (at_home w_id c.group)
    ∙ ap (λ n. one_at h w_id c + n) (count_at h w_id claims)
    ∙ sym (sum_by-cons (one_at h w_id) c claims)
  where
    rest : List ClaimView
    rest = filter (λ (claim : ClaimView). at_home w_id claim.group) claims

    either : (b : Bool) → count_of h (map held_by (cond b (c ∷ rest) rest)) ≡ cond b (cond (is_holding h (held_by c)) 1 0) 0 + count_of h (map held_by rest)
    either true = count_cons h (held_by c) (map held_by rest)
    either false = omega arith

-- whatever the order
pub held_in_any_order : (holdings : ℕ → List HeldClaim) (xs ys : List ClaimView) → IsPermutation xs ys → AreAllHeld holdings xs → AreAllHeld holdings ys
held_in_any_order holdings xs ys moved held w_id =
    IsPermutation-trans (holdings w_id) (held_at w_id xs) (held_at w_id ys) (held w_id)
    (moved_by_counts (held_at w_id xs) (held_at w_id ys) (λ h. omega (arith, count_at h w_id xs, count_at h w_id ys, sum_by-IsPermutation (one_at h w_id) xs ys moved)))

-- whatever contents are recorded as committed
pub settled_held : (w_id : ℕ) (own others : List ClaimView) → held_at w_id (all_settled own ++ others) ≡ held_at w_id (own ++ others)
settled_held w_id [] others = refl
settled_held w_id (c ∷ own) others = either (at_home w_id c.group) (settled_held w_id own others)
  where
    left : List ClaimView → List ClaimView
    left claims = filter (λ (claim : ClaimView). at_home w_id claim.group) claims

    either : (b : Bool) → map held_by (left (all_settled own ++ others)) ≡ map held_by (left (own ++ others))
        → map held_by (cond b (settled c ∷ left (all_settled own ++ others)) (left (all_settled own ++ others))) ≡ map held_by (cond b (c ∷ left (own ++ others)) (left (own ++ others)))
    either true same = ap (λ (hs : List HeldClaim). held_by c ∷ hs) same
    either false same = same
