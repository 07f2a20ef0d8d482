-- The largest number of a customer's orders, as orders come and as the index keeps it.
use Rattle.std.proofs.Common.{◌≡◌, ℕ, zero, suc, ◌*◌, ◌<◌, ◌≤◌, max, Bool, true, false, cond, ◌&&◌, ◌==◌, List, [], ◌∷◌, ◌++◌, take, drop, length, get_or, slice_get, slice_set, filter, replicate, Some, None, is_some, IsTrue, refl, sym, ap, subst, ◌∙◌, arith}
use Rattle.std.specs.List.{list_all}
use Rattle.std.specs.Option.{option_map_or}
use Rattle.std.specs.declared.cmp.Ordering.TheVariants.{Less, Equal, Greater}
use Rattle.std.specs.Ordering.{is_eq}
use Rattle.std.specs.FinMap as map
use Rattle.std.specs.FinMap.{entries, get-entries, entries-insert}
use Rattle.std.specs.FinMap.Entries.{find, put, by_order}
use Rattle.std.proofs.lemmas.Bool.Decides.{nat_tests}
use Rattle.std.proofs.lemmas.List.{get_or-set_same, get_or-set_other, length-set, get_or-replicate, length-replicate, take_at}
use Rattle.std.proofs.lemmas.Option.{slice_get-get_or}
use Rattle.rows.specs.declared.keys.CustomerKey.{CustomerKey}
use Rattle.rows.specs.declared.keys.OrderKey.{OrderKey}
use Rattle.rows.specs.declared.records.Order.{Order}
use Rattle.rows.specs.Keys.{order_cmp}
use Rattle.schema.specs.EachRow.{EachRow}
use Rattle.schema.specs.Database.{Database, is_order_id, customer_of_order}
use Rattle.schema.specs.Consistency.{numbers, greatest}
use Rattle.schema.proofs.KeyOrders.{orders_total, orders_exact}
use Rattle.schema.proofs.EachRows.{EachRow-table}
use Rattle.partitions.specs.Slots.{Slots, AreApart, AreRows, customer_slot_by}
use Rattle.indexes.specs.LatestOrder.{is_order_by, largest, latest}
use Rattle.indexes.specs.LatestIndex.{FitsLatestBy, number_of, raised}
use Rattle.indexes.specs.LatestLaws.{PutOrderFits}
use Rattle.indexes.proofs.Places.{place_exact, place_within}

-- ---- whose an order is

and_first : (a b : Bool) → (a && b) ≡ true → a ≡ true
and_first true b h = refl
and_first false b h = h

and_second : (a b : Bool) → (a && b) ≡ true → b ≡ true
and_second true b h = h
and_second false b h = absurd cc

-- an order is its customer's
pub by_its_customer : (c : CustomerKey) (key : OrderKey) (row : Order) → is_order_by c (key, row) ≡ true → customer_of_order key row ≡ c
by_its_customer c key row h =
    let w_true : (key.w_id == c.w_id) ≡ true = and_first _ _ h in
    let rest : ((key.d_id == c.d_id) && (row.c_id == c.c_id)) ≡ true = and_second _ _ h in
    let d_true : (key.d_id == c.d_id) ≡ true = and_first _ _ rest in
    let n_true : (row.c_id == c.c_id) ≡ true = and_second _ _ rest in
    let w : key.w_id ≡ c.w_id = grind (arith, nat_tests) in
    let d : key.d_id ≡ c.d_id = grind (arith, nat_tests) in
    let n : row.c_id ≡ c.c_id = grind (arith, nat_tests) in
    λ i. record { w_id = w i; d_id = d i; c_id = n i }

pub own_order : (key : OrderKey) (row : Order) → is_order_by (customer_of_order key row) (key, row) ≡ true
own_order key row = grind (arith, nat_tests)

-- another customer's place is another
pub apart : (slot : Slots) (customers : ℕ) → AreApart slot → (c : CustomerKey) (key : OrderKey) (row : Order) (place : ℕ) → is_order_by c (key, row) ≡ false
    → customer_slot_by slot customers c ≡ Some place → customer_slot_by slot customers (customer_of_order key row) ≡ Some place → ⊥
apart slot customers districts_apart c key row place other at there =
    let same : customer_of_order key row ≡ c = place_exact slot customers districts_apart (customer_of_order key row) c place there at in
    let own : is_order_by c (key, row) ≡ true = ap (λ (k : CustomerKey). is_order_by k (key, row)) (sym same) ∙ own_order key row in
    cc

-- ---- one order more

abbrev pub most : CustomerKey → List (OrderKey × Order) → ℕ
most c es = greatest (numbers (filter (is_order_by c) es))

pub most-cons : (c : CustomerKey) (e : OrderKey × Order) (es : List (OrderKey × Order)) → most c (e ∷ es) ≡ cond (is_order_by c e) (max e.0.o_id (most c es)) (most c es)
most-cons c e es = elim (is_order_by c e) as (λ b. greatest (numbers (cond b (e ∷ filter (is_order_by c) es) (filter (is_order_by c) es))) ≡ cond b (max e.0.o_id (most c es)) (most c es)) [ true ↦ refl | false ↦ refl ]

pub passed_over : (b t : Bool) (x n g : ℕ) → cond b (max x (cond t (max n g) g)) (cond t (max n g) g) ≡ cond t (max n (cond b (max x g) g)) (cond b (max x g) g)
passed_over true true x n g = omega arith
passed_over true false x n g = refl
passed_over false true x n g = refl
passed_over false false x n g = refl

most-put : (c : CustomerKey) (key : OrderKey) (row : Order) (es : List (OrderKey × Order)) → find order_cmp key es ≡ None
    → most c (put order_cmp key row es) ≡ cond (is_order_by c (key, row)) (max key.o_id (most c es)) (most c es)
most-put c key row [] none = most-cons c (key, row) []
most-put c key row (e ∷ es) none =
    elim (order_cmp key e.0) as (λ o. order_cmp key e.0 ≡ o → cond (is_eq o) (Some e.1) (find order_cmp key es) ≡ None
    → most c (by_order o ((key, row) ∷ e ∷ es) ((e.0, row) ∷ es) (e ∷ put order_cmp key row es)) ≡ cond (is_order_by c (key, row)) (max key.o_id (most c (e ∷ es))) (most c (e ∷ es))) [
      | Less ↦ λ p h. most-cons c (key, row) (e ∷ es)
      | Equal ↦ λ p h. absurd cc
      | Greater ↦ λ p h.
          most-cons c e (put order_cmp key row es)
          ∙ ap (λ m. cond (is_order_by c e) (max e.0.o_id m) m) (most-put c key row es h)
          ∙ passed_over (is_order_by c e) (is_order_by c (key, row)) e.0.o_id key.o_id (most c es)
          ∙ ap (λ m. cond (is_order_by c (key, row)) (max key.o_id m) m) (sym (most-cons c e es))
    ] refl none

-- the tables with one order more
pub most-insert : (t : Database) (key : OrderKey) (row : Order) → map.get t.orders key ≡ None → (c : CustomerKey)
    → most c (entries (map.insert t.orders key row)) ≡ cond (is_order_by c (key, row)) (max key.o_id (most c (entries t.orders))) (most c (entries t.orders))
most-insert t key row none c =
    ap (most c) (entries-insert orders_total t.orders key row) ∙ most-put c key row (entries t.orders) (sym (get-entries t.orders key) ∙ none)

-- ---- an order's row that is put again

-- a customer's order counts
pub counted : (c : CustomerKey) (key : OrderKey) (row : Order) (es : List (OrderKey × Order)) → find order_cmp key es ≡ Some row → is_order_by c (key, row) ≡ true → key.o_id ≤ most c es
counted c key row [] found own = absurd cc
counted c key row (e ∷ es) found own =
    let first = most-cons c e es in
    elim (order_cmp key e.0) as (λ o. order_cmp key e.0 ≡ o → cond (is_eq o) (Some e.1) (find order_cmp key es) ≡ Some row → key.o_id ≤ most c (e ∷ es)) [
      | Less ↦ λ p h. let rest : key.o_id ≤ most c es = counted c key row es h own in grows rest
      | Equal ↦ λ p h.
          let same_key : key ≡ e.0 = orders_exact key e.0 p in
          let same_row : e.1 ≡ row = cc in
          let mine : is_order_by c e ≡ true = (λ i. is_order_by c (same_key_back same_key i, same_row i)) ∙ own in
          let is : most c (e ∷ es) ≡ max e.0.o_id (most c es) = first ∙ ap (λ b. cond b (max e.0.o_id (most c es)) (most c es)) mine in
          let number : key.o_id ≡ e.0.o_id = ap (λ (k : OrderKey). k.o_id) same_key in
          omega arith
      | Greater ↦ λ p h. let rest : key.o_id ≤ most c es = counted c key row es h own in grows rest
    ] refl found
  where
    same_key_back : {k q : OrderKey} → k ≡ q → q ≡ k
    same_key_back h = sym h

    grows : key.o_id ≤ most c es → key.o_id ≤ most c (e ∷ es)
    grows rest =
        let first : most c (e ∷ es) ≡ cond (is_order_by c e) (max e.0.o_id (most c es)) (most c es) = most-cons c e es in
        elim (is_order_by c e) as (λ b. most c (e ∷ es) ≡ cond b (max e.0.o_id (most c es)) (most c es) → key.o_id ≤ most c (e ∷ es)) [ true ↦ λ h. omega arith | false ↦ λ h. omega arith ] first

pub most-put-again : (c : CustomerKey) (key : OrderKey) (old new : Order) (es : List (OrderKey × Order)) → find order_cmp key es ≡ Some old → is_order_by c (key, new) ≡ is_order_by c (key, old)
    → most c (put order_cmp key new es) ≡ most c es
most-put-again c key old new [] found same = absurd cc
most-put-again c key old new (e ∷ es) found same =
    elim (order_cmp key e.0) as (λ o. order_cmp key e.0 ≡ o → cond (is_eq o) (Some e.1) (find order_cmp key es) ≡ Some old
    → most c (by_order o ((key, new) ∷ e ∷ es) ((e.0, new) ∷ es) (e ∷ put order_cmp key new es)) ≡ most c (e ∷ es)) [
      | Less ↦ λ p h.
          most-cons c (key, new) (e ∷ es) ∙ ap (λ b. cond b (max key.o_id (most c (e ∷ es))) (most c (e ∷ es))) same
          ∙ elim (is_order_by c (key, old)) as (λ b. is_order_by c (key, old) ≡ b → cond b (max key.o_id (most c (e ∷ es))) (most c (e ∷ es)) ≡ most c (e ∷ es)) [
            | true ↦ λ own. let small : key.o_id ≤ most c (e ∷ es) = counted c key old (e ∷ es) found own in omega arith
            | false ↦ λ own. refl
          ] refl
      | Equal ↦ λ p h.
          let same_key : e.0 ≡ key = sym (orders_exact key e.0 p) in
          let same_row : old ≡ e.1 = cc in
          let alike : is_order_by c (e.0, new) ≡ is_order_by c e =
          ap (λ (k : OrderKey). is_order_by c (k, new)) same_key ∙ same ∙ (λ i. is_order_by c (sym same_key i, same_row i)) in
          most-cons c (e.0, new) es ∙ ap (λ b. cond b (max e.0.o_id (most c es)) (most c es)) alike ∙ sym (most-cons c e es)
      | Greater ↦ λ p h.
          most-cons c e (put order_cmp key new es) ∙ ap (λ m. cond (is_order_by c e) (max e.0.o_id m) m) (most-put-again c key old new es h same) ∙ sym (most-cons c e es)
    ] refl found

pub put_fits : PutOrderFits
put_fits slot index t key old new found same fits c place at =
    fits c place at
    ∙ ap Some (sym (ap (most c) (entries-insert orders_total t.orders key new)
    ∙ most-put-again c key old new (entries t.orders) (sym (get-entries t.orders key) ∙ found) (ap (λ n. (key.w_id == c.w_id) && ((key.d_id == c.d_id) && (n == c.c_id))) same)))

-- ---- what the index says

-- what holds of each order, holds of the entries
each_entry : (t : Database) (test : OrderKey → Order → Bool) → EachRow test t.orders → IsTrue (list_all (λ (e : OrderKey × Order). test e.0 e.1) (entries t.orders))
each_entry t test = (EachRow-table orders_total orders_exact test t.orders).1

none_of : (p q : OrderKey × Order → Bool) (es : List (OrderKey × Order)) → ((e : OrderKey × Order) → q e ≡ true → p e ≡ false) → list_all q es ≡ true → filter p es ≡ []
none_of p q [] never all = refl
none_of p q (e ∷ es) never all =
    let here : p e ≡ false = never e (and_first _ _ all) in
    rw here (none_of p q es never (and_second _ _ all))

-- who has no place has no order
pub latest_outside : (slot : Slots) (districts : ℕ) (t : Database) → AreRows slot districts t → (c : CustomerKey) → customer_slot_by slot t.scale.customers c ≡ None → latest t.orders c ≡ None
latest_outside slot districts t here c none =
    ap (λ (l : List (OrderKey × Order)). largest (numbers l))
    (none_of (is_order_by c) (λ e. is_some (customer_slot_by slot t.scale.customers (customer_of_order e.0 e.1))) (entries t.orders)
    (λ e inside. elim (is_order_by c e) as (λ b. is_order_by c e ≡ b → b ≡ false) [
      | false ↦ λ h. refl
      | true ↦ λ h.
          let same : customer_of_order e.0 e.1 ≡ c = by_its_customer c e.0 e.1 h in
          let outside : is_some (customer_slot_by slot t.scale.customers (customer_of_order e.0 e.1)) ≡ false = ap (λ k. is_some (customer_slot_by slot t.scale.customers k)) same ∙ ap is_some none in
          absurd cc
    ] refl)
    (each_entry t (λ key row. is_some (customer_slot_by slot t.scale.customers (customer_of_order key row))) here.orders))

some_number : (n : ℕ) → 1 ≤ n → number_of n ≡ Some n
some_number zero h = absurd (omega arith)
some_number (suc n) h = refl

positive : (c : CustomerKey) (es : List (OrderKey × Order)) → list_all (λ (e : OrderKey × Order). is_order_id e.0.o_id) es ≡ true → number_of (most c es) ≡ largest (numbers (filter (is_order_by c) es))
positive c [] all = refl
positive c (e ∷ es) all =
    let here : is_order_id e.0.o_id ≡ true = and_first _ _ all in
    let one : 1 ≤ e.0.o_id = grind (arith, nat_tests) in
    elim (is_order_by c e) as (λ b. number_of (greatest (numbers (cond b (e ∷ filter (is_order_by c) es) (filter (is_order_by c) es)))) ≡ largest (numbers (cond b (e ∷ filter (is_order_by c) es) (filter (is_order_by c) es)))) [
      | true ↦ some_number (max e.0.o_id (most c es)) (omega arith)
      | false ↦ positive c es (and_second _ _ all)
    ]

-- the number at the place is the latest order's
pub latest_inside : (slot : Slots) (districts : ℕ) (t : Database) → AreRows slot districts t → (index : List ℕ) → FitsLatestBy slot index t → (c : CustomerKey) (place n : ℕ)
    → customer_slot_by slot t.scale.customers c ≡ Some place → Some n ≡ slice_get index place → number_of n ≡ latest t.orders c
latest_inside slot districts t here index fits c place n at found =
    let same : Some n ≡ Some (most c (entries t.orders)) = found ∙ fits c place at in
    let is : n ≡ most c (entries t.orders) = cc in
    ap number_of is ∙ positive c (entries t.orders) (each_entry t (λ key row. is_order_id key.o_id) here.numbered)

-- ---- the orders one after another

-- the numbers so far and the orders that are left make up all orders
abbrev pub AreRaised : Slots → ℕ → List ℕ → List (OrderKey × Order) → List (OrderKey × Order) → Type 0
AreRaised slot customers index left all = (c : CustomerKey) (place : ℕ) → customer_slot_by slot customers c ≡ Some place → (place < length index) × (max (get_or index place 0) (most c left) ≡ most c all)

pub raised_more : (slot : Slots) (customers : ℕ) → AreApart slot → (index : List ℕ) (key : OrderKey) (row : Order) (left all : List (OrderKey × Order)) → AreRaised slot customers index ((key, row) ∷ left) all
    → AreRaised slot customers (raised slot customers index (customer_of_order key row) key.o_id) left all
raised_more slot customers districts_apart index key row left all held c place at =
    let had = held c place at in
    let below : place < length index = had.0 in
    let first = most-cons c (key, row) left in
    elim (is_order_by c (key, row)) as (λ b. is_order_by c (key, row) ≡ b → (place < length (raised slot customers index (customer_of_order key row) key.o_id)) × (max (get_or (raised slot customers index (customer_of_order key row) key.o_id) place 0) (most c left) ≡ most c all)) [
      | true ↦ λ e.
          let same : customer_of_order key row ≡ c = by_its_customer c key row e in
          let there : customer_slot_by slot customers (customer_of_order key row) ≡ Some place = ap (customer_slot_by slot customers) same ∙ at in
          let is : raised slot customers index (customer_of_order key row) key.o_id ≡ slice_set index place (max (get_or index place 0) key.o_id) =
          ap (λ r. option_map_or (λ s. slice_set index s (max (get_or index s 0) key.o_id)) r index) there in
          let with_first : most c ((key, row) ∷ left) ≡ max key.o_id (most c left) = first ∙ ap (λ b. cond b (max key.o_id (most c left)) (most c left)) e in
          let long = length-set index place (max (get_or index place 0) key.o_id) in
          let put = get_or-set_same index place (max (get_or index place 0) key.o_id) 0 below in
          subst (λ (l : List ℕ). (place < length l) × (max (get_or l place 0) (most c left) ≡ most c all)) (sym is)
          ((omega arith), ap (λ v. max v (most c left)) put ∙ (let m : max (max (get_or index place 0) key.o_id) (most c left) ≡ max (get_or index place 0) (max key.o_id (most c left)) = omega arith in m) ∙ ap (max (get_or index place 0)) (sym with_first) ∙ had.1)
      | false ↦ λ e.
          let with_first : most c ((key, row) ∷ left) ≡ most c left = first ∙ ap (λ b. cond b (max key.o_id (most c left)) (most c left)) e in
          let kept : max (get_or index place 0) (most c left) ≡ most c all = ap (max (get_or index place 0)) (sym with_first) ∙ had.1 in
          elim (customer_slot_by slot customers (customer_of_order key row)) as (λ r. customer_slot_by slot customers (customer_of_order key row) ≡ r
          → (place < length (option_map_or (λ s. slice_set index s (max (get_or index s 0) key.o_id)) r index)) × (max (get_or (option_map_or (λ s. slice_set index s (max (get_or index s 0) key.o_id)) r index) place 0) (most c left) ≡ most c all)) [
            | None ↦ λ there. (below, kept)
            | Some s ↦ λ there.
                let other : place ≡ s → ⊥ = λ h. apart slot customers districts_apart c key row place e at (there ∙ ap Some (sym h)) in
                let long = length-set index s (max (get_or index s 0) key.o_id) in
                ((omega arith), ap (λ v. max v (most c left)) (get_or-set_other index s place (max (get_or index s 0) key.o_id) 0 other) ∙ kept)
          ] refl
    ] refl

-- before the first order
pub raised_none : (slot : Slots) (districts : ℕ) (t : Database) → AreRows slot districts t → (all : List (OrderKey × Order)) → AreRaised slot t.scale.customers (replicate (districts * t.scale.customers) 0) all all
raised_none slot districts t here all c place at =
    let count = districts * t.scale.customers in
    let below : place < count = place_within slot t.scale.customers districts here.within c place at in
    let long : length (replicate count 0) ≡ count = length-replicate count 0 in
    let nothing : get_or (replicate count 0) place 0 ≡ 0 = get_or-replicate count place 0 0 below in
    (subst (λ (m : ℕ). place < m) (sym long) below, ap (λ v. max v (most c all)) nothing ∙ (let m : max 0 (most c all) ≡ most c all = omega arith in m))

-- after the last
pub raised_all : (slot : Slots) (t : Database) (index : List ℕ) → AreRaised slot t.scale.customers index [] (entries t.orders) → FitsLatestBy slot index t
raised_all slot t index held c place at =
    let had = held c place at in
    let is : get_or index place 0 ≡ most c (entries t.orders) = (let m : get_or index place 0 ≡ max (get_or index place 0) 0 = omega arith in m) ∙ had.1 in
    slice_get-get_or index place 0 had.0 ∙ ap Some is

-- what a vector holds after its slice was written
pub written : (new items : List ℕ) (count : ℕ) → length new ≡ count → take count (new ++ drop (length new) items) ≡ new
written new items count same = take_at new (drop (length new) items) count same
