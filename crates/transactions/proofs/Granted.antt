-- Claims that were granted for wants, taken one by one.
use Rattle.std.proofs.Common.{◌≡◌, ℕ, List, [], ◌∷◌, ◌++◌, length, take, drop, slice_index_or, slice_set, ap, subst, sym, ◌∙◌}
use Rattle.std.proofs.Math.Seq.{take-append_seam}
use Rattle.groups.specs.declared.group_wants.GroupWant.{GroupWant}
use Rattle.tickets.specs.Claims.{ClaimView}
use Rattle.slices.specs.SliceView.{SliceView, SliceKeeps}
use Rattle.transactions.specs.Granted.{AreGrantedFor}

-- what is kept with the only claim is kept with the claims
pub one_kept : (group_want : GroupWant) (claims : List ClaimView) (any new : ClaimView) (old slice : SliceView) → AreGrantedFor (group_want ∷ []) claims
    → SliceKeeps (slice_index_or claims 0 any ∷ []) old (new ∷ []) slice → SliceKeeps claims old (slice_set claims 0 new) slice
one_kept group_want [] any new old slice granted kept = absurd granted
one_kept group_want (claim ∷ []) any new old slice granted kept = kept
one_kept group_want (claim ∷ other ∷ claims) any new old slice granted kept = absurd granted.1

-- and what is kept with the only two
pub two_kept : (group_want other : GroupWant) (claims first rest : List ClaimView) (any some new_first new_rest : ClaimView) (old slice : SliceView)
    → AreGrantedFor (group_want ∷ other ∷ []) claims → first ≡ take 1 claims → rest ≡ drop 1 claims
    → SliceKeeps (slice_index_or first 0 any ∷ slice_index_or rest 0 some ∷ []) old (new_first ∷ new_rest ∷ []) slice
    → SliceKeeps claims old (slice_set first 0 new_first ++ slice_set rest 0 new_rest) slice
two_kept group_want other [] first rest any some new_first new_rest old slice granted front back kept = absurd granted
two_kept group_want other (claim ∷ []) first rest any some new_first new_rest old slice granted front back kept = absurd granted.1
two_kept group_want other (claim ∷ next ∷ []) first rest any some new_first new_rest old slice granted front back kept =
    subst (λ xs. SliceKeeps (claim ∷ next ∷ []) old (slice_set xs 0 new_first ++ slice_set rest 0 new_rest) slice) (sym front)
    (subst (λ ys. SliceKeeps (claim ∷ next ∷ []) old (slice_set (claim ∷ []) 0 new_first ++ slice_set ys 0 new_rest) slice) (sym back)
    (subst (λ ys. SliceKeeps (claim ∷ slice_index_or ys 0 some ∷ []) old (new_first ∷ new_rest ∷ []) slice) back
    (subst (λ xs. SliceKeeps (slice_index_or xs 0 any ∷ slice_index_or rest 0 some ∷ []) old (new_first ∷ new_rest ∷ []) slice) front kept)))
two_kept group_want other (claim ∷ next ∷ more ∷ claims) first rest any some new_first new_rest old slice granted front back kept = absurd granted.1.1

-- a vector of so many claims, all of which were lent, has what was made of them
pub written_back : {X : Type 0} (new old : List X) (count : ℕ) → count ≡ length new → take count (new ++ drop (length new) old) ≡ new
written_back new old count same = ap (λ n. take n (new ++ drop (length new) old)) same ∙ take-append_seam new (drop (length new) old)
