-- What is left of all claims, once some came back.
use Rattle.std.proofs.Common.{◌≡◌, ℕ, ◌+◌, ◌<◌, List, [], ◌∷◌, ◌++◌, length, get_or, map, refl, sym, ap, subst, ◌∙◌, cond, arith}
use Rattle.std.specs.Prelude.{All, Contains, sum_by}
use Rattle.std.specs.List.{flat_map, remove, swap_remove}
use Rattle.std.specs.List.Sorted.{IsPermutation}
use Rattle.std.proofs.lemmas.List.{append-nil}
use Rattle.std.proofs.lemmas.List.Concat.{flat_map-append}
use Rattle.std.proofs.lemmas.List.Elements.{All-cons, All-head, All-map, All-nil, All-push, All-tail}
use Rattle.std.proofs.lemmas.List.Sorted.{All-permutation, IsPermutation-refl, IsPermutation-sym, IsPermutation-trans, IsPermutation-cons, IsPermutation-append_right, IsPermutation-append_comm, IsPermutation-remove, IsPermutation-swap_remove, sum_by-IsPermutation}
use Rattle.std.proofs.lemmas.List.Sums.{sum_by-cons}
use Rattle.groups.specs.declared.group_wants.GroupWant.{GroupWant}
use Rattle.groups.specs.declared.wants.Want.{Want}
use Rattle.tickets.specs.Claims.{ClaimView}
use Rattle.wait_die.specs.declared.deciding.Holder.{Holder}
use Rattle.local_locks.specs.LockTableView.{HeldClaim, Stand, LockTableView}
use Rattle.local_locks.specs.GroupWants.{group_wants}
use Rattle.local_locks.specs.Asking.{AreHeld, Grants, IsOfHome, IsSettled, claim_for, held_by, held_for}
use Rattle.local_locks.specs.Laws.{IsClaimOf}
use Rattle.local_locks.specs.Trials.{AreOut, AreSettled, held_of}
use Rattle.local_locks.proofs.InPlace.{in_place}
use Rattle.local_locks.proofs.Returns.{is_holding, count_of, count_cons, count_append, count_moved, counted_contains, holding_itself}

nothing_counted : (ys : List HeldClaim) → ((h : HeldClaim) → 0 ≡ count_of h ys) → ys ≡ []
nothing_counted [] same = refl
nothing_counted (y ∷ ys) same = absurd (omega (arith, same y, count_cons y y ys, ap {B = ℕ} (λ b. cond b 1 0) (holding_itself y)))

-- two lists that have each claim as often are one in another order
pub moved_by_counts : (xs ys : List HeldClaim) → ((h : HeldClaim) → count_of h xs ≡ count_of h ys) → IsPermutation xs ys
moved_by_counts [] ys same = subst (IsPermutation []) (sym (nothing_counted ys same)) (IsPermutation-refl [])
moved_by_counts (x ∷ xs) ys same =
    let one : cond (is_holding x x) 1 0 ≡ 1 = ap {B = ℕ} (λ b. cond b 1 0) (holding_itself x) in
    let found : Contains ys x = counted_contains x ys (omega (arith, same x, count_cons x x xs, one)) in
    let rest = remove ys found.0 in
    let parted : IsPermutation ys (x ∷ rest) = IsPermutation-remove ys found.0 x found.1 (sym found.2) in
    let inner = moved_by_counts xs rest (λ h. omega (arith, same h, count_cons h x xs, count_cons h x rest, count_moved h ys (x ∷ rest) parted)) in
    IsPermutation-trans (x ∷ xs) (x ∷ rest) ys (IsPermutation-cons x xs rest inner) (IsPermutation-sym ys (x ∷ rest) parted)

-- What is left once claims are taken away is the same, in whatever order.
pub others_left : (holdings taken left others : List HeldClaim) → IsPermutation holdings (taken ++ left) → IsPermutation holdings (taken ++ others) → IsPermutation left others
others_left holdings taken left others first second =
    moved_by_counts left others (λ h. omega (arith, count_moved h holdings (taken ++ left) first, count_moved h holdings (taken ++ others) second, count_append h taken left, count_append h taken others))

-- Claims that are out in a table of a warehouse are on groups of it.
pub claims_home : (warehouses w_id : ℕ) (holdings : List HeldClaim) (claims : List ClaimView) → All (IsClaimOf warehouses w_id) holdings → AreHeld holdings claims → All (IsOfHome w_id) claims
claims_home warehouses w_id holdings claims all held = each claims held.0 (All-permutation (IsClaimOf warehouses w_id) holdings (map held_by claims ++ held.0) held.1 all)
  where
    each : (claims : List ClaimView) (others : List HeldClaim) → All (IsClaimOf warehouses w_id) (map held_by claims ++ others) → All (IsOfHome w_id) claims
    each [] others all = All-nil (IsOfHome w_id)
    each (c ∷ claims) others all =
        let first = All-head (IsClaimOf warehouses w_id) (held_by c) (map held_by claims ++ others) all in
        All-cons (IsOfHome w_id) c claims first.1 (each claims others (All-tail (IsClaimOf warehouses w_id) (held_by c) (map held_by claims ++ others) all))

-- ---- as tests have it

pub granted_held : (stands : List Stand) (by : Holder) (ws : List GroupWant) → map held_by (map (claim_for by stands) ws) ≡ map (held_for by) ws
granted_held stands by [] = refl
granted_held stands by (w ∷ ws) = ap (λ hs. held_for by w ∷ hs) (granted_held stands by ws)

pub out_more : (table new : LockTableView) (out next : List (Holder × List ClaimView)) (by : Holder) (wants : List Want) (claims : List ClaimView) → AreOut table out → Grants by wants table claims new → next ≡ out ++ (by, claims) ∷ [] → AreOut new next
out_more table new out next by wants claims are granted put =
    let grant : Holder × List ClaimView = (by, claims) in
    let f = flat_map held_of in
    let mine : map held_by claims ≡ map (held_for by) (group_wants wants) = ap (map held_by) granted.claims ∙ granted_held table.stands by (group_wants wants) in
    let whole : f (out ++ grant ∷ []) ≡ f out ++ map held_by claims = flat_map-append held_of out (grant ∷ []) ∙ ap (λ hs. f out ++ hs) (append-nil (map held_by claims)) in
    let taken : IsPermutation new.holdings (map held_by claims ++ table.holdings) = subst (λ hs. IsPermutation new.holdings (hs ++ table.holdings)) (sym mine) granted.holdings in
    let held : IsPermutation new.holdings (f out ++ map held_by claims) =
    IsPermutation-trans new.holdings (map held_by claims ++ table.holdings) (f out ++ map held_by claims) taken
    (IsPermutation-trans (map held_by claims ++ table.holdings) (map held_by claims ++ f out) (f out ++ map held_by claims)
    (IsPermutation-append_right (map held_by claims) table.holdings (f out) are.held) (IsPermutation-append_comm (map held_by claims) (f out))) in
    let fresh : All IsSettled claims = subst (All IsSettled) (sym granted.claims) (All-map IsSettled (claim_for by table.stands) (group_wants wants) (λ k d small exclusive. refl)) in
    subst (AreOut new) (sym put) (record {
      w_id = granted.w_id ∙ are.w_id;
      held = subst (IsPermutation new.holdings) (sym whole) held;
      settled = All-push AreSettled out grant are.settled fresh;
    })

pub out_held : (table : LockTableView) (out : List (Holder × List ClaimView)) (index : ℕ) (grant : Holder × List ClaimView) → AreOut table out → index < length out → grant ≡ get_or out index grant → AreHeld table.holdings grant.1
out_held table out index grant are small is =
    let place = in_place held_of out index grant small in
    (place.rest, IsPermutation-trans table.holdings (flat_map held_of out) (held_of grant ++ place.rest) are.held (subst (λ (g : Holder × List ClaimView). IsPermutation (flat_map held_of out) (held_of g ++ place.rest)) (sym is) place.now))

counted_flat : (h : HeldClaim) (xs : List (Holder × List ClaimView)) → count_of h (flat_map held_of xs) ≡ sum_by (λ (g : Holder × List ClaimView). count_of h (held_of g)) xs
counted_flat h [] = refl
counted_flat h (x ∷ xs) =
    count_append h (held_of x) (flat_map held_of xs) ∙ ap (λ n. count_of h (held_of x) + n) (counted_flat h xs)
    ∙ sym (sum_by-cons (λ (g : Holder × List ClaimView). count_of h (held_of g)) x xs)

flat_moved : (xs ys : List (Holder × List ClaimView)) → IsPermutation xs ys → (h : HeldClaim) → count_of h (flat_map held_of xs) ≡ count_of h (flat_map held_of ys)
flat_moved xs ys moved h =
    counted_flat h xs ∙ sym (sum_by-IsPermutation (λ (g : Holder × List ClaimView). count_of h (held_of g)) xs ys moved) ∙ sym (counted_flat h ys)

pub out_fewer : (table new : LockTableView) (out left : List (Holder × List ClaimView)) (index : ℕ) (grant : Holder × List ClaimView) → AreOut table out → index < length out → grant ≡ get_or out index grant → left ≡ swap_remove out index grant
    → IsPermutation table.holdings (map held_by grant.1 ++ new.holdings) → new.w_id ≡ table.w_id → AreOut new left
out_fewer table new out left index grant are small is taken back home =
    let parted : IsPermutation out (grant ∷ left) = subst (λ gs. IsPermutation out (grant ∷ gs)) (sym taken) (IsPermutation-swap_remove out index grant small is) in
    let moved : IsPermutation table.holdings (held_of grant ++ flat_map held_of left) = moved_by_counts table.holdings (held_of grant ++ flat_map held_of left)
    (λ h. sym (count_moved h table.holdings (flat_map held_of out) are.held) ∙ flat_moved out (grant ∷ left) parted h) in
    record {
      w_id = home ∙ are.w_id;
      held = others_left table.holdings (held_of grant) new.holdings (flat_map held_of left) back moved;
      settled = All-tail AreSettled grant left (All-permutation AreSettled out (grant ∷ left) parted are.settled);
    }

pub out_settled : (table : LockTableView) (out : List (Holder × List ClaimView)) (index : ℕ) (grant : Holder × List ClaimView) → AreOut table out → index < length out → grant ≡ get_or out index grant → All IsSettled grant.1
out_settled table out index grant are small is = subst AreSettled (sym is) (are.settled index grant small)
