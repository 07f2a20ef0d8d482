-- The middle one of a district's customers with a last name.
use Rattle.std.proofs.Common.{◌≡◌, ℕ, zero, suc, ◌<◌, Bool, true, false, cond, T, get_or, filter, length, Contains, List, [], ◌∷◌, Some, refl, sym, ap, ◌∙◌, arith}
use Rattle.std.proofs.lemmas.Bool.{eqb-true}
use Rattle.std.proofs.lemmas.Bool.Decides.{nat_tests}
use Rattle.std.specs.List.{find}
use Rattle.std.specs.Ordering.{nat_cmp, ordering_then, ordering_reverse, is_lt}
use Rattle.std.specs.declared.cmp.Ordering.{Ordering}
use Rattle.std.specs.declared.cmp.Ordering.TheVariants.{Less, Equal, Greater}
use Rattle.std.specs.Cmp.{IsTotalOrder, nat_cmp_total}
use Rattle.std.specs.Cmp.Lexicographic.{nat_list_cmp_total}
use Rattle.std.specs.FinMap as map
use Rattle.std.specs.FinMap.{entries, entries_sorted, get-entries, nat_cmp-IsAntisymmetric}
use Rattle.std.proofs.lemmas.Cmp.{on_total, then_total, tied_itself}
use Rattle.rows.specs.declared.keys.DistrictKey.{DistrictKey}
use Rattle.rows.specs.declared.records.Customer.{Customer}
use Rattle.rows.specs.Keys.{customer_cmp}
use Rattle.schema.proofs.KeyOrders.{customers_total}
use Rattle.schema.specs.Scale.{customer_key}
use Rattle.indexes.specs.Namesakes.{Customers, Keyed, first_cmp, is_before, is_customer_of, is_middle, is_namesake, middle, IsMiddle, IsMiddleOf, namesakes}
use Rattle.indexes.proofs.Counts.{count-less}
use Rattle.indexes.proofs.Members.{passed, found_at, and_first}

first_total : IsTotalOrder first_cmp
first_total = then_total (on_total (λ (c : Keyed). c.1.first) nat_list_cmp_total) (on_total (λ (c : Keyed). c.0.c_id) nat_cmp_total)

less : (o : Ordering) → is_lt o ≡ true → o ≡ Less
less Less h = refl
less Equal h = absurd cc
less Greater h = absurd cc

-- of two customers the later has more before it
fewer_before : (customers : List Keyed) (a b : Keyed) → Contains customers a → first_cmp a b ≡ Less
    → length (filter (λ other. is_before other a) customers) < length (filter (λ other. is_before other b) customers)
fewer_before customers a b held earlier =
    count-less (λ other. is_before other a) (λ other. is_before other b)
    (λ x before. ap is_lt (first_total.trans x a b (less _ before) earlier)) customers a
    (ap is_lt (tied_itself first_total a)) (ap is_lt earlier) held.0 held.1 held.2

then_last : (x y : Ordering) → ordering_then x y ≡ Equal → y ≡ Equal
then_last Less y h = absurd cc
then_last Equal y h = h
then_last Greater y h = absurd cc

-- at most one customer is the middle one
pub one : (customers : List Keyed) (a b : Keyed) → IsMiddle customers a → IsMiddle customers b → a.0.c_id ≡ b.0.c_id
one customers a b h g =
    let same : length (filter (λ (other : Keyed). is_before other a) customers) ≡ length (filter (λ (other : Keyed). is_before other b) customers) = eqb-true _ _ h.half_before ∙ sym (eqb-true _ _ g.half_before) in
    elim (first_cmp a b) as (λ o. first_cmp a b ≡ o → a.0.c_id ≡ b.0.c_id) [
      | Less ↦ λ e. let more = fewer_before customers a b h.is_one e in absurd (omega arith)
      | Equal ↦ λ e. nat_cmp-IsAntisymmetric a.0.c_id b.0.c_id (then_last _ (nat_cmp a.0.c_id b.0.c_id) e)
      | Greater ↦ λ e.
          let back : first_cmp b a ≡ Less = first_total.antisymm b a ∙ ap ordering_reverse e in
          let more = fewer_before customers b a g.is_one back in
          absurd (omega arith)
    ] refl

-- ---- the one that is found

from_T : (b : Bool) → T b → b ≡ true
from_T true h = refl
from_T false h = absurd h

-- an element that passes, and is the only one, is the one that is found
find_only : {X : Type 0} (p : X → Bool) (x : X) → p x ≡ true → (xs : List X) → ((y : X) → Contains xs y → p y ≡ true → y ≡ x)
    → (n : ℕ) → n < length xs → get_or xs n x ≡ x → find p xs ≡ Some x
find_only p x passes [] only n l s = absurd (omega arith)
find_only {X} p x passes (y ∷ ys) only n l s =
    elim (p y) as (λ b. p y ≡ b → cond b (Some y) (find p ys) ≡ Some x) [
      | true ↦ λ e. ap Some (only y (0, omega arith, refl) e)
      | false ↦ λ e. later e n l s (λ m m_l m_s. find_only p x passes ys (λ z held. only z (let inside : held.0 < length ys = held.1 in (suc held.0, omega arith, held.2))) m m_l m_s)
    ] refl
  where
    later : p y ≡ false → (n : ℕ) → n < length (y ∷ ys) → get_or (y ∷ ys) n x ≡ x → ((m : ℕ) → m < length ys → get_or ys m x ≡ x → find p ys ≡ Some x) → find p ys ≡ Some x
    later e zero l s rest = let same : p x ≡ false = ap p (sym s) ∙ e in absurd cc
    later e (suc n) l s rest = rest n (omega arith) s

-- a namesake's key is of the district, and the customers have its row
module _ (customers : Customers) (home : DistrictKey) (last : List ℕ) where
  pub its_key : (c : Keyed) → Contains (namesakes customers home last) c → c.0 ≡ customer_key home c.0.c_id
  its_key c held =
      let of : is_customer_of home c.0 ≡ true = and_first _ _ (passed (is_namesake home last) (entries customers) c held.0 held.1 held.2).0 in
      let w : c.0.w_id ≡ home.w_id = grind (arith, nat_tests) in
      let d : c.0.d_id ≡ home.d_id = grind (arith, nat_tests) in
      ap (λ w_id. customer_key (record { w_id = w_id; d_id = c.0.d_id }) c.0.c_id) w ∙ ap (λ d_id. customer_key (record { w_id = home.w_id; d_id = d_id }) c.0.c_id) d

  pub its_row : (c : Keyed) → Contains (namesakes customers home last) c → map.get customers c.0 ≡ Some c.1
  its_row c held =
      let there = (passed (is_namesake home last) (entries customers) c held.0 held.1 held.2).1 in
      get-entries customers c.0 ∙ found_at customer_cmp customers_total c.0 c.1 (entries customers) (from_T _ (entries_sorted customers)) there.0 there.1 there.2

  -- the middle one is the one that is found
  pub middle_found : (number : ℕ) (row : Customer) → map.get customers (customer_key home number) ≡ Some row → IsMiddleOf customers home last number
      → middle (namesakes customers home last) ≡ Some (customer_key home number, row)
  middle_found number row there is =
      let c : Keyed = (customer_key home number, is.0) in
      let all = namesakes customers home last in
      let held = is.1.is_one in
      let same_row : row ≡ is.0 = let at = its_row c held in cc in
      find_only (is_middle all) c is.1.half_before all
      (λ y y_held y_passes.
      let number_is : y.0.c_id ≡ number = one all y c (record { is_one = y_held; half_before = y_passes }) is.1 in
      let key_is : y.0 ≡ customer_key home number = its_key y y_held ∙ ap (customer_key home) number_is in
      let at = its_row y y_held in
      let c_at = its_row c held in
      let row_is : y.1 ≡ is.0 = cc in
      ap (λ k. (k, y.1)) key_is ∙ ap (λ r. (customer_key home number, r)) row_is)
      held.0 held.1 held.2
      ∙ ap (λ r. Some (customer_key home number, r)) (sym same_row)
