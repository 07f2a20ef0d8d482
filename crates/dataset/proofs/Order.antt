-- The order of places, and that of the keys in a table.
use Rattle.std.proofs.Common.{◌≡◌, ◌<◌, ◌⊎◌, inl, inr, ℕ, List, [], ◌∷◌, IsTrue, refl, sym, ap, ◌∙◌, arith}
use Rattle.std.specs.Cmp.Lexicographic.{slice_cmp}
use Rattle.std.proofs.lemmas.Bool.Decides.{nat_tests}
use Rattle.std.specs.Ordering.{nat_cmp, ordering_then, is_le, is_lt}
use Rattle.std.specs.declared.cmp.Ordering.{Ordering}
use Rattle.std.specs.declared.cmp.Ordering.TheVariants.{Less, Equal, Greater}
use Rattle.std.specs.Cmp.{IsTotalOrder}
use Rattle.std.proofs.lemmas.Cmp.{on_total, nat_list_cmp_total, tied_itself, alike_right}
use Rattle.rows.specs.declared.keys.DistrictKey.{DistrictKey}
use Rattle.rows.specs.declared.keys.StockKey.{StockKey}
use Rattle.rows.specs.declared.keys.CustomerKey.{CustomerKey}
use Rattle.rows.specs.declared.keys.OrderKey.{OrderKey}
use Rattle.rows.specs.declared.keys.OrderLineKey.{OrderLineKey}
use Rattle.rows.specs.Keys.{district_cmp, stock_cmp, customer_cmp, order_cmp, line_cmp}
use Rattle.dataset.specs.declared.place.Place.{Place}
use Rattle.dataset.specs.declared.place.Place.TheVariants as at
use Rattle.dataset.specs.Order.{place_cmp, place_numbers, follows}

pub place_total : IsTotalOrder place_cmp
place_total = on_total place_numbers nat_list_cmp_total

-- the other way round
pub turned : {K : Type 0} {c : K → K → Ordering} → IsTotalOrder c → (j k : K) → c j k ≡ Less → c k j ≡ Greater
turned {K} {c} o j k e = o.antisymm k j ∙ rw e refl

pub place_follows : (r : Ordering) → IsTrue (is_lt r) → r ≡ Less
place_follows Less h = refl
place_follows Equal h = absurd cc
place_follows Greater h = absurd cc

pub place_lt_le : (r : Ordering) → IsTrue (is_lt r) → IsTrue (is_le r)
place_lt_le Less h = refl
place_lt_le Equal h = absurd cc
place_lt_le Greater h = absurd cc

below_by : (q l p : Place) (r : Ordering) → place_cmp q l ≡ r → IsTrue (is_le r) → place_cmp l p ≡ Less → place_cmp q p ≡ Less
below_by q l p Less e le lt = place_total.trans q l p e lt
below_by q l p Equal e le lt = place_total.congr q l p e ∙ lt
below_by q l p Greater e le lt = absurd cc

pub place_below : (q l p : Place) → IsTrue (is_le (place_cmp q l)) → place_cmp l p ≡ Less → place_cmp q p ≡ Less
place_below q l p = below_by q l p (place_cmp q l) refl

reaches_by : (q l p : Place) (r : Ordering) → place_cmp l p ≡ r → IsTrue (is_le (place_cmp q l)) → IsTrue (is_le r) → IsTrue (is_le (place_cmp q p))
reaches_by q l p Less e before le = ap is_le (place_below q l p before e)
reaches_by q l p Equal e before le = ap is_le (sym (alike_right place_total l p q e)) ∙ before
reaches_by q l p Greater e before le = absurd cc

pub place_reaches : (q l p : Place) → IsTrue (is_le (place_cmp q l)) → IsTrue (is_le (place_cmp l p)) → IsTrue (is_le (place_cmp q p))
place_reaches q l p = reaches_by q l p (place_cmp l p) refl

pub place_itself : (p : Place) → IsTrue (is_le (place_cmp p p))
place_itself p = ap is_le (tied_itself place_total p)

-- ---- the keys of one table

then_equal : (r : Ordering) → ordering_then r Equal ≡ r
then_equal Less = refl
then_equal Equal = refl
then_equal Greater = refl

same_two : (r s : Ordering) → ordering_then r (ordering_then s Equal) ≡ ordering_then r s
same_two r s = ap (ordering_then r) (then_equal s)

same_three : (r s t : Ordering) → ordering_then r (ordering_then s (ordering_then t Equal)) ≡ ordering_then r (ordering_then s t)
same_three r s t = ap (ordering_then r) (same_two s t)

pub same_item : (j k : ℕ) → place_cmp (at.Item j) (at.Item k) ≡ nat_cmp j k
same_item j k = then_equal (nat_cmp j k)

pub same_warehouse : (j k : ℕ) → place_cmp (at.Warehouse j) (at.Warehouse k) ≡ nat_cmp j k
same_warehouse j k = then_equal (nat_cmp j k)

pub same_district : (j k : DistrictKey) → place_cmp (at.District j) (at.District k) ≡ district_cmp j k
same_district j k = same_two (nat_cmp j.w_id k.w_id) (nat_cmp j.d_id k.d_id)

pub same_stock : (j k : StockKey) → place_cmp (at.Stock j) (at.Stock k) ≡ stock_cmp j k
same_stock j k = same_two (nat_cmp j.w_id k.w_id) (nat_cmp j.i_id k.i_id)

pub same_customer : (j k : CustomerKey) → place_cmp (at.Customer j) (at.Customer k) ≡ customer_cmp j k
same_customer j k = same_three (nat_cmp j.w_id k.w_id) (nat_cmp j.d_id k.d_id) (nat_cmp j.c_id k.c_id)

pub same_history : (j k : DistrictKey) → place_cmp (at.History j) (at.History k) ≡ district_cmp j k
same_history j k = same_two (nat_cmp j.w_id k.w_id) (nat_cmp j.d_id k.d_id)

pub same_order : (j k : OrderKey) → place_cmp (at.Order j) (at.Order k) ≡ order_cmp j k
same_order j k = same_three (nat_cmp j.w_id k.w_id) (nat_cmp j.d_id k.d_id) (nat_cmp j.o_id k.o_id)

pub same_new_order : (j k : OrderKey) → place_cmp (at.NewOrder j) (at.NewOrder k) ≡ order_cmp j k
same_new_order j k = same_three (nat_cmp j.w_id k.w_id) (nat_cmp j.d_id k.d_id) (nat_cmp j.o_id k.o_id)

pub same_line : (j k : OrderLineKey) → place_cmp (at.Line j) (at.Line k) ≡ line_cmp j k
same_line j k = ap (ordering_then (nat_cmp j.w_id k.w_id)) (same_three (nat_cmp j.d_id k.d_id) (nat_cmp j.o_id k.o_id) (nat_cmp j.number k.number))

-- ---- what follows

-- a place follows those that are less, or also those that are equal
abbrev FollowsThose : Place → Type 0
FollowsThose p = ((last : Place) → follows p last ≡ is_lt (place_cmp last p)) ⊎ ((last : Place) → follows p last ≡ is_le (place_cmp last p))

follows_is : (p : Place) → FollowsThose p
follows_is (at.History key) = inr (λ last. refl)
follows_is place = inl (λ last. refl)

pub follows_less : (p last : Place) → place_cmp last p ≡ Less → IsTrue (follows p last)
follows_less p last h = by (follows_is p)
  where
    by : FollowsThose p → IsTrue (follows p last)
    by (inl is) = is last ∙ ap is_lt h
    by (inr is) = is last ∙ ap is_le h

pub follows_le : (last p : Place) → IsTrue (follows p last) → IsTrue (is_le (place_cmp last p))
follows_le last p h = by (follows_is p)
  where
    by : FollowsThose p → IsTrue (is_le (place_cmp last p))
    by (inl is) = place_lt_le (place_cmp last p) (sym (is last) ∙ h)
    by (inr is) = sym (is last) ∙ h

-- what follows a place follows those before it
pub follows_before : (q last p : Place) → IsTrue (is_le (place_cmp q last)) → IsTrue (follows p last) → IsTrue (follows p q)
follows_before q last p le h = by (follows_is p)
  where
    by : FollowsThose p → IsTrue (follows p q)
    by (inl is) = is q ∙ ap is_lt (place_below q last p le (place_follows (place_cmp last p) (sym (is last) ∙ h)))
    by (inr is) = is q ∙ place_reaches q last p le (sym (is last) ∙ h)

-- the number of the table is first
abbrev pub place_number : Place → ℕ
place_number at.Header = 0
place_number (at.Item key) = 1
place_number (at.Warehouse key) = 2
place_number (at.District key) = 3
place_number (at.Stock key) = 4
place_number (at.Customer key) = 5
place_number (at.History key) = 6
place_number (at.Order key) = 7
place_number (at.NewOrder key) = 8
place_number (at.Line key) = 9

pub numbers_of : (p : Place) → (rest : List ℕ) × (place_numbers p ≡ place_number p ∷ rest)
numbers_of at.Header = ([], refl)
numbers_of (at.Item key) = (key ∷ [], refl)
numbers_of (at.Warehouse key) = (key ∷ [], refl)
numbers_of (at.District key) = (key.w_id ∷ key.d_id ∷ [], refl)
numbers_of (at.Stock key) = (key.w_id ∷ key.i_id ∷ [], refl)
numbers_of (at.Customer key) = (key.w_id ∷ key.d_id ∷ key.c_id ∷ [], refl)
numbers_of (at.History key) = (key.w_id ∷ key.d_id ∷ [], refl)
numbers_of (at.Order key) = (key.w_id ∷ key.d_id ∷ key.o_id ∷ [], refl)
numbers_of (at.NewOrder key) = (key.w_id ∷ key.d_id ∷ key.o_id ∷ [], refl)
numbers_of (at.Line key) = (key.w_id ∷ key.d_id ∷ key.o_id ∷ key.number ∷ [], refl)

pub lower_number : (m n : ℕ) → m < n → nat_cmp m n ≡ Less
lower_number m n h = grind (arith, nat_tests)

pub earlier_table : (last p : Place) → place_number last < place_number p → IsTrue (follows p last)
earlier_table last p h =
    let a = numbers_of last in
    let b = numbers_of p in
    let heads : slice_cmp nat_cmp (place_number last ∷ a.0) (place_number p ∷ b.0) ≡ Less = ap (λ r. ordering_then r (slice_cmp nat_cmp a.0 b.0)) (lower_number (place_number last) (place_number p) h) in
    follows_less p last (ap (λ xs. slice_cmp nat_cmp xs (place_numbers p)) a.1 ∙ ap (slice_cmp nat_cmp (place_number last ∷ a.0)) b.1 ∙ heads)
