-- What a change to one total does to the totals of all customers.
use Rattle.std.proofs.Common.{◌≡◌, ◌≢◌, ℕ, zero, suc, ◌+◌, ◌<◌, ◌≤◌, ◌^◌, true, false, cond, ◌==◌, List, [], ◌∷◌, ◌++◌, length, get_or, take, drop, Some, slice_set, refl, sym, ap, ◌∙◌, arith}
use Rattle.std.proofs.lemmas.Int.{ints}
use Rattle.std.proofs.lemmas.List.{take_at}
use Rattle.std.proofs.lemmas.Bool.Decides.{nat_tests}
use Rattle.std.proofs.lemmas.Option.{slice_get-get_or, slice_get_within}
use Rattle.std.specs.Prelude.{ℤ, pos, ◌+ℤ◌}
use Rattle.std.specs.List.{slice_get}
use Rattle.rows.specs.declared.keys.CustomerKey.{CustomerKey}
use Rattle.schema.specs.declared.scale.Scale.{Scale}
use Rattle.schema.specs.Scale.{customer_slot, customer_keys}
use Rattle.schema.proofs.KeyOrders.{customers_total, customers_exact}
use Rattle.schema.proofs.ScalePlaces.{customer_place}
use Rattle.consistency.specs.Totals.{IsWithin}
use Rattle.consistency.specs.Balances.{AreTotals, HasRoom, AreWithin, is_customer}
use Rattle.consistency.proofs.TotalsDense.{place-exact}

-- customers of one slot are one customer
slot-exact : (scale : Scale) (p q : CustomerKey) (slot : ℕ) → customer_slot scale p ≡ Some slot → customer_slot scale q ≡ Some slot → p ≡ q
slot-exact scale p q slot h g = place-exact customers_total customers_exact p q (customer_keys scale) slot (customer_place scale p ∙ h) (customer_place scale q ∙ g)

same_numbers : (a b : CustomerKey) → a.w_id ≡ b.w_id → a.d_id ≡ b.d_id → a.c_id ≡ b.c_id → a ≡ b
same_numbers a b w d c =
    let numbers : (a.w_id, (a.d_id, a.c_id)) ≡ (b.w_id, (b.d_id, b.c_id)) = cc in
    ap (λ (p : ℕ × (ℕ × ℕ)). record { w_id = p.0; d_id = p.1.0; c_id = p.1.1 }) numbers

-- and so are customers that the test takes for one
same_customer : (key other : CustomerKey) → is_customer key other ≡ true → other ≡ key
same_customer key other h = same_numbers other key (grind (arith, nat_tests)) (grind (arith, nat_tests)) (grind (arith, nat_tests))

itself : (key : CustomerKey) → is_customer key key ≡ true
itself key = grind (arith, nat_tests)

-- ---- one total

get_set : (totals : List ℤ) (slot : ℕ) (v : ℤ) → slot < length totals → slice_get (slice_set totals slot v) slot ≡ Some v
get_set [] slot v h = absurd (omega arith)
get_set (x ∷ xs) zero v h = refl
get_set (x ∷ xs) (suc slot) v h = get_set xs slot v (omega arith)

get_set_other : (totals : List ℤ) (slot n : ℕ) (v : ℤ) → n ≢ slot → slice_get (slice_set totals slot v) n ≡ slice_get totals n
get_set_other [] slot n v h = refl
get_set_other (x ∷ xs) zero zero v h = absurd (h refl)
get_set_other (x ∷ xs) zero (suc n) v h = refl
get_set_other (x ∷ xs) (suc slot) zero v h = refl
get_set_other (x ∷ xs) (suc slot) (suc n) v h = get_set_other xs slot n v (λ e. h (ap (λ m. suc m) e))

-- the total that is there
pub there : (totals : List ℤ) (slot : ℕ) → slot < length totals → slice_get totals slot ≡ Some (get_or totals slot (pos 0))
there totals slot h = slice_get-get_or totals slot (pos 0) h

module _ (scale : Scale) (totals : List ℤ) (customer : CustomerKey) (slot : ℕ) (at : customer_slot scale customer ≡ Some slot) (below : slot < length totals) (amount v : ℤ) (is : v ≡ (get_or totals slot (pos 0) +ℤ amount)) where
  -- the customer's total grows by the amount, and no other changes
  pub totals-set : (before : CustomerKey → ℤ) → AreTotals scale before totals
      → AreTotals scale (λ key. cond (is_customer key customer) (before key +ℤ amount) (before key)) (slice_set totals slot v)
  totals-set before h key n e =
      elim (is_customer key customer) as (λ b. is_customer key customer ≡ b → slice_get (slice_set totals slot v) n ≡ Some (cond b (before key +ℤ amount) (before key))) [
        | true ↦ λ t.
            let same : customer ≡ key = same_customer key customer t in
            let slots : Some n ≡ Some slot = sym e ∙ ap (customer_slot scale) (sym same) ∙ at in
            let place : n ≡ slot = cc in
            let had : Some (get_or totals slot (pos 0)) ≡ Some (before key) = sym (there totals slot below) ∙ ap (slice_get totals) (sym place) ∙ h key n e in
            let value : get_or totals slot (pos 0) ≡ before key = cc in
            ap (slice_get (slice_set totals slot v)) place ∙ get_set totals slot v below ∙ ap Some (is ∙ ap (λ z. z +ℤ amount) value)
        | false ↦ λ t.
            let other : n ≢ slot = λ p.
            let found : customer_slot scale key ≡ Some slot = e ∙ ap Some p in
            let same : customer ≡ key = slot-exact scale customer key slot at found in
            let clash : true ≡ false = sym (itself key) ∙ ap (is_customer key) (sym same) ∙ t in
            absurd cc in
            get_set_other totals slot n v other ∙ h key n e
      ] refl

  pub within-set : IsWithin (2 ^ 50) amount → (limit : ℕ) → AreWithin limit totals → AreWithin (limit + 2 ^ 50) (slice_set totals slot v)
  within-set small limit h n total e =
      elim (n == slot) as (λ b. (n == slot) ≡ b → IsWithin (limit + 2 ^ 50) total) [
        | true ↦ λ t.
            let place : n ≡ slot = grind (arith, nat_tests) in
            let had : IsWithin limit (get_or totals slot (pos 0)) = h slot _ (there totals slot below) in
            let now : Some v ≡ Some total = sym (get_set totals slot v below) ∙ ap (slice_get (slice_set totals slot v)) (sym place) ∙ e in
            let value : v ≡ total = cc in
            record { low = omega (arith, ints); high = omega (arith, ints) }
        | false ↦ λ t.
            let other : n ≢ slot = grind (arith, nat_tests) in
            let had : IsWithin limit total = h n total (sym (get_set_other totals slot n v other) ∙ e) in
            record { low = omega (arith, ints); high = omega (arith, ints) }
      ] refl

-- ---- other words for the same totals

pub totals-same : (scale : Scale) (before after : CustomerKey → ℤ) (totals : List ℤ) → ((key : CustomerKey) → before key ≡ after key) → AreTotals scale before totals → AreTotals scale after totals
totals-same scale before after totals same h key slot e = h key slot e ∙ ap Some (same key)

pub within-more : (low high : ℕ) (totals : List ℤ) → low ≤ high → AreWithin low totals → AreWithin high totals
within-more low high totals le h slot total e =
    let had : IsWithin low total = h slot total e in
    record { low = omega (arith, ints); high = omega (arith, ints) }

-- totals of all customers leave room for each
pub room-from_totals : (scale : Scale) (before : CustomerKey → ℤ) (totals : List ℤ) → AreTotals scale before totals → HasRoom scale totals
room-from_totals scale before totals h key slot e = slice_get_within totals slot (before key) (h key slot e)

-- what a vector holds after its slice was written
pub written : (new items : List ℤ) (count : ℕ) → length new ≡ count → take count (new ++ drop (length new) items) ≡ new
written new items count same = take_at new (drop (length new) items) count same
