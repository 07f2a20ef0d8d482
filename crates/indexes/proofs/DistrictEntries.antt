-- The rows of a district with their keys, against the table of customers.
use Rattle.std.proofs.Common.{◌≡◌, ℕ, zero, suc, ◌+◌, ◌-◌, ◌<◌, Bool, true, false, cond, ◌&&◌, ◌==◌, nat_le, nat_lt, T, List, [], ◌∷◌, length, Contains, filter, Option, Some, None, is_some, refl, sym, ap, subst, ◌∙◌, arith}
use Rattle.std.specs.List.{slice_get, range_with_len}
use Rattle.std.specs.declared.cmp.Ordering.{Ordering}
use Rattle.std.specs.declared.cmp.Ordering.TheVariants.{Less, Equal, Greater}
use Rattle.std.specs.Ordering.{nat_cmp, ordering_then, is_eq, eq_by_cmp}
use Rattle.std.specs.FinMap as map
use Rattle.std.specs.FinMap.{entries, entries_sorted, get-entries}
use Rattle.std.specs.FinMap.Entries.{find, is_sorted, below_all, find-where_key, is_sorted-where_key, same_entries}
use Rattle.std.proofs.lemmas.Bool.Decides.{nat_tests}
use Rattle.rows.specs.declared.keys.DistrictKey.{DistrictKey}
use Rattle.rows.specs.declared.keys.CustomerKey.{CustomerKey}
use Rattle.rows.specs.declared.records.Customer.{Customer}
use Rattle.rows.specs.Keys.{customer_cmp}
use Rattle.schema.specs.Scale.{customer_key}
use Rattle.schema.specs.Database.{Database}
use Rattle.schema.proofs.KeyOrders.{customers_total, customers_exact}
use Rattle.partitions.specs.Slots.{Slots, AreRows}
use Rattle.indexes.specs.Namesakes.{Keyed, is_customer_of, has_last, is_namesake, namesakes}
use Rattle.indexes.specs.NameOrder.{numbered, namesakes_among}
use Rattle.indexes.proofs.Counts.{filter-part}
use Rattle.indexes.proofs.Places.{some_customer, no_customer, no_zero}

-- ---- counts over rows with their keys

-- a test of the rows by their places
pub count-numbered : (p : Keyed → Bool) (q : ℕ → Bool) (home : DistrictKey) (a : ℕ) (rows : List Customer)
    → ((i : ℕ) (row : Customer) → slice_get rows i ≡ Some row → p (customer_key home (a + i + 1), row) ≡ q (a + i))
    → length (filter p (numbered home (a + 1) rows)) ≡ length (filter q (range_with_len a (length rows)))
count-numbered p q home a [] at = refl
count-numbered p q home a (row ∷ rows) at =
    let rest : length (filter p (numbered home (a + 1 + 1) rows)) ≡ length (filter q (range_with_len (a + 1) (length rows))) =
    count-numbered p q home (a + 1) rows (λ i r found.
    let e : a + 1 + i ≡ a + suc i = omega arith in
    ap (λ m. p (customer_key home (m + 1), r)) e ∙ at (suc i) r found ∙ ap q (sym e)) in
    let zero_more : a ≡ a + 0 = omega arith in
    let here : p (customer_key home (a + 1), row) ≡ q a = ap (λ m. p (customer_key home (m + 1), row)) zero_more ∙ at zero row refl ∙ ap q (sym zero_more) in
    rw here (elim (q a) as (λ b. length (cond b ((customer_key home (a + 1), row) ∷ filter p (numbered home (a + 1 + 1) rows)) (filter p (numbered home (a + 1 + 1) rows))) ≡ length (cond b (a ∷ filter q (range_with_len (a + 1) (length rows))) (filter q (range_with_len (a + 1) (length rows))))) [
      | true ↦ ap (λ n. suc n) rest
      | false ↦ rest
    ])

-- the row at a place is among them
pub contains-numbered : (home : DistrictKey) (a : ℕ) (rows : List Customer) (i : ℕ) (row : Customer) → slice_get rows i ≡ Some row → Contains (numbered home (a + 1) rows) (customer_key home (a + i + 1), row)
contains-numbered home a [] i row found = absurd cc
contains-numbered home a (r ∷ rows) zero row found =
    let same : r ≡ row = cc in
    let zero_more : a ≡ a + 0 = omega arith in
    (zero, omega arith, λ i. (customer_key home (zero_more i + 1), same i))
contains-numbered home a (r ∷ rows) (suc i) row found =
    let e : a + 1 + i ≡ a + suc i = omega arith in
    let rest = subst (λ m. Contains (numbered home (a + 1 + 1) rows) (customer_key home (m + 1), row)) e (contains-numbered home (a + 1) rows i row found) in
    let inside : rest.0 < length (numbered home (a + 1 + 1) rows) = rest.1 in
    (suc rest.0, omega arith, rest.2)

-- ---- these rows are the table's

alike : (n : ℕ) → nat_cmp n n ≡ Equal
alike n = grind (arith, nat_tests)

below-numbered : (home : DistrictKey) (first m : ℕ) (rows : List Customer) → first < m → below_all customer_cmp (customer_key home first) (numbered home m rows) ≡ true
below-numbered home first m [] below = refl
below-numbered home first m (row ∷ rows) below =
    let less : nat_cmp first m ≡ Less = grind (arith, nat_tests) in
    let w : nat_cmp home.w_id home.w_id ≡ Equal = alike home.w_id in
    let d : nat_cmp home.d_id home.d_id ≡ Equal = alike home.d_id in
    rw (w, d, less) (below-numbered home first (m + 1) rows (omega arith))

sorted-numbered : (home : DistrictKey) (first : ℕ) (rows : List Customer) → is_sorted customer_cmp (numbered home first rows) ≡ true
sorted-numbered home first [] = refl
sorted-numbered home first (row ∷ rows) =
    let below : below_all customer_cmp (customer_key home first) (numbered home (first + 1) rows) ≡ true = below-numbered home first (first + 1) rows (omega arith) in
    rw below (sorted-numbered home (first + 1) rows)

then_equal : (x y : Ordering) → is_eq (ordering_then x y) ≡ (is_eq x && is_eq y)
then_equal Less y = refl
then_equal Equal y = refl
then_equal Greater y = refl

same_number : (a b : ℕ) → is_eq (nat_cmp a b) ≡ (a == b)
same_number a b = grind (arith, nat_tests)

and_assoc : (a b c : Bool) → (a && (b && c)) ≡ (a && b && c)
and_assoc true b c = refl
and_assoc false b c = refl

splits : (q : CustomerKey) (home : DistrictKey) (c : ℕ) → eq_by_cmp customer_cmp q (customer_key home c) ≡ (is_customer_of home q && (q.c_id == c))
splits q home c =
    then_equal (nat_cmp q.w_id home.w_id) (ordering_then (nat_cmp q.d_id home.d_id) (nat_cmp q.c_id c))
    ∙ ap (λ b. is_eq (nat_cmp q.w_id home.w_id) && b) (then_equal (nat_cmp q.d_id home.d_id) (nat_cmp q.c_id c))
    ∙ and_assoc (is_eq (nat_cmp q.w_id home.w_id)) (is_eq (nat_cmp q.d_id home.d_id)) (is_eq (nat_cmp q.c_id c))
    ∙ (λ i. same_number q.w_id home.w_id i && same_number q.d_id home.d_id i && same_number q.c_id c i)

find-numbered : (q : CustomerKey) (home : DistrictKey) (first : ℕ) (rows : List Customer)
    → find customer_cmp q (numbered home first rows) ≡ cond (is_customer_of home q && nat_le first q.c_id) (slice_get rows (q.c_id - first)) None
find-numbered q home first [] =
    elim (is_customer_of home q && nat_le first q.c_id) as (λ b. None ≡ cond b (slice_get {X = Customer} [] (q.c_id - first)) None) [ true ↦ refl | false ↦ refl ]
find-numbered q home first (row ∷ rows) =
    let rest = find-numbered q home (first + 1) rows in
    let tie = splits q home first in
    rw (tie, rest)
    (elim (is_customer_of home q) as (λ h. cond (h && (q.c_id == first)) (Some row) (cond (h && nat_le (first + 1) q.c_id) (slice_get rows (q.c_id - (first + 1))) None) ≡ cond (h && nat_le first q.c_id) (slice_get (row ∷ rows) (q.c_id - first)) None) [
      | false ↦ refl
      | true ↦ elim (q.c_id == first) as (λ b. (q.c_id == first) ≡ b → cond b (Some row) (cond (nat_le (first + 1) q.c_id) (slice_get rows (q.c_id - (first + 1))) None) ≡ cond (nat_le first q.c_id) (slice_get (row ∷ rows) (q.c_id - first)) None) [
        | true ↦ λ e.
            let here : nat_le first q.c_id ≡ true = grind (arith, nat_tests) in
            let none : q.c_id - first ≡ 0 = grind (arith, nat_tests) in
            rw (here, none) refl
        | false ↦ λ e.
            elim (nat_le (first + 1) q.c_id) as (λ b. nat_le (first + 1) q.c_id ≡ b → cond b (slice_get rows (q.c_id - (first + 1))) None ≡ cond (nat_le first q.c_id) (slice_get (row ∷ rows) (q.c_id - first)) None) [
              | true ↦ λ f.
                  let here : nat_le first q.c_id ≡ true = grind (arith, nat_tests) in
                  let one : q.c_id - first ≡ suc (q.c_id - (first + 1)) = grind (arith, nat_tests) in
                  rw (here, one) refl
              | false ↦ λ f.
                  let out : nat_le first q.c_id ≡ false = grind (arith, nat_tests) in
                  rw out refl
            ] refl
      ] refl
    ])

and_first : (a b : Bool) → (a && b) ≡ true → a ≡ true
and_first true b h = refl
and_first false b h = h

and_second : (a b : Bool) → (a && b) ≡ true → b ≡ true
and_second true b h = h
and_second false b h = absurd cc

-- a key of the district is its number there
pub key_is : (home : DistrictKey) (q : CustomerKey) → is_customer_of home q ≡ true → q ≡ customer_key home q.c_id
key_is home q inside =
    let w_true : (q.w_id == home.w_id) ≡ true = and_first _ _ inside in
    let d_true : (q.d_id == home.d_id) ≡ true = and_second _ _ inside in
    let w : q.w_id ≡ home.w_id = grind (arith, nat_tests) in
    let d : q.d_id ≡ home.d_id = grind (arith, nat_tests) in
    λ i. record { w_id = w i; d_id = d i; c_id = q.c_id }

no_row : {X : Type 0} (r : Option X) → is_some r ≡ false → r ≡ None
no_row None h = refl
no_row (Some x) h = absurd cc

-- a place below the length has a row, and no other has
pub some_below : {X : Type 0} (xs : List X) (n : ℕ) → is_some (slice_get xs n) ≡ nat_lt n (length xs)
some_below [] n = let e : false ≡ nat_lt n 0 = grind (arith, nat_tests) in e
some_below (x ∷ xs) zero = let e : true ≡ nat_lt 0 (suc (length xs)) = grind (arith, nat_tests) in e
some_below (x ∷ xs) (suc n) = some_below xs n ∙ (let e : nat_lt n (length xs) ≡ nat_lt (suc n) (suc (length xs)) = grind (arith, nat_tests) in e)

module _ (slot : Slots) (districts : ℕ) (t : Database) (here : AreRows slot districts t) (home : DistrictKey) (rows : List Customer) (read : (c : ℕ) → slice_get rows c ≡ map.get t.customers (customer_key home (c + 1))) where
  -- number 0 is no customer's
  none_at_zero : map.get t.customers (customer_key home 0) ≡ None
  none_at_zero = no_row _ (here.customers (customer_key home 0) ∙ no_zero slot t.scale.customers home)

  read-key : (q : CustomerKey) → cond (is_customer_of home q) (map.get t.customers q) None ≡ cond (is_customer_of home q && nat_le 1 q.c_id) (slice_get rows (q.c_id - 1)) None
  read-key q =
      elim (is_customer_of home q) as (λ h. is_customer_of home q ≡ h → cond h (map.get t.customers q) None ≡ cond (h && nat_le 1 q.c_id) (slice_get rows (q.c_id - 1)) None) [
        | false ↦ λ e. refl
        | true ↦ λ e.
            ap (map.get t.customers) (key_is home q e)
            ∙ elim (nat_le 1 q.c_id) as (λ b. nat_le 1 q.c_id ≡ b → map.get t.customers (customer_key home q.c_id) ≡ cond b (slice_get rows (q.c_id - 1)) None) [
              | true ↦ λ f.
                  let back : q.c_id ≡ q.c_id - 1 + 1 = grind (arith, nat_tests) in
                  ap (λ c. map.get t.customers (customer_key home c)) back ∙ sym (read (q.c_id - 1))
              | false ↦ λ f.
                  let none : q.c_id ≡ 0 = grind (arith, nat_tests) in
                  ap (λ c. map.get t.customers (customer_key home c)) none ∙ none_at_zero
            ] refl
      ] refl

  tied : (q x : CustomerKey) → customer_cmp q x ≡ Equal → is_customer_of home x ≡ is_customer_of home q
  tied q x e = ap (is_customer_of home) (sym (customers_exact q x e))

  -- the table's rows of the district are these
  district_entries : filter (λ (e : Keyed). is_customer_of home e.0) (entries t.customers) ≡ numbered home 1 rows
  district_entries =
      same_entries customer_cmp customers_total customers_exact _ _
      (is_sorted-where_key customer_cmp (is_customer_of home) (entries t.customers) (entries_sorted t.customers))
      (subst T (sym (sorted-numbered home 1 rows)) tt)
      (λ q. find-where_key customer_cmp (is_customer_of home) q (tied q) (entries t.customers)
      ∙ ap (λ r. cond (is_customer_of home q) r None) (sym (get-entries t.customers q))
      ∙ read-key q ∙ sym (find-numbered q home 1 rows))

  -- and so are those of one last name
  pub same_namesakes : (last : List ℕ) → namesakes t.customers home last ≡ namesakes_among rows home last
  same_namesakes last =
      sym (filter-part (λ (e : Keyed). is_customer_of home e.0) (λ e. has_last last e.1) (entries t.customers))
      ∙ ap (filter (is_namesake home last)) district_entries

  -- a district that is here has as many rows as the scale says
  pub row_count : is_some (slot home) ≡ true → length rows ≡ t.scale.customers
  row_count placed =
      let some_at : (c : ℕ) → nat_lt c (length rows) ≡ nat_lt c t.scale.customers =
      λ c. sym (some_below rows c) ∙ ap is_some (read c) ∙ here.customers (customer_key home (c + 1)) ∙ some_customer slot t.scale.customers home c placed in
      let own : nat_lt (length rows) (length rows) ≡ nat_lt (length rows) t.scale.customers = some_at (length rows) in
      let other : nat_lt t.scale.customers (length rows) ≡ nat_lt t.scale.customers t.scale.customers = some_at t.scale.customers in
      grind (arith, nat_tests)

-- a district that isn't here has no customers
pub no_district : (slot : Slots) (districts : ℕ) (t : Database) → AreRows slot districts t → (home : DistrictKey) (last : List ℕ) → slot home ≡ None → namesakes t.customers home last ≡ []
no_district slot districts t here home last none =
    same_namesakes slot districts t here home [] (λ c. sym (no_row _ (here.customers (customer_key home (c + 1)) ∙ no_customer slot t.scale.customers (customer_key home (c + 1)) none))) last
