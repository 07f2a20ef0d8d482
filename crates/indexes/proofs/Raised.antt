-- An index of latest orders as an order is put into tables that need not be consistent, or taken away.
use Rattle.std.proofs.Common.{◌≡◌, ℕ, ◌<◌, ◌≤◌, max, ◌&&◌, ◌==◌, true, false, cond, List, [], ◌∷◌, length, get_or, slice_get, slice_set, Option, Some, None, IfSome, refl, sym, ap, ◌∙◌, arith}
use Rattle.std.specs.Option.{option_map_or}
use Rattle.std.specs.declared.cmp.Ordering.TheVariants.{Less, Equal, Greater}
use Rattle.std.specs.Ordering.{is_eq}
use Rattle.std.specs.FinMap as map
use Rattle.std.specs.Cmp.{eq_by_cmp_equiv}
use Rattle.std.specs.FinMap.{entries, get-entries, entries-insert, get-remove}
use Rattle.std.specs.FinMap.Entries.{find, put, by_order}
use Rattle.std.proofs.lemmas.List.{get_or-set_same, get_or-set_other, length-set}
use Rattle.std.proofs.lemmas.Option.{slice_get-get_or, slice_get_within}
use Rattle.rows.specs.declared.keys.CustomerKey.{CustomerKey}
use Rattle.rows.specs.declared.keys.OrderKey.{OrderKey}
use Rattle.rows.specs.declared.records.Order.{Order}
use Rattle.rows.specs.Keys.{order_cmp}
use Rattle.schema.specs.Database.{Database, customer_of_order}
use Rattle.schema.proofs.KeyOrders.{orders_total, orders_exact}
use Rattle.schema.proofs.TableWrites.{put_row_same, put_row_twice}
use Rattle.partitions.specs.Slots.{Slots, AreApart, customer_slot_by}
use Rattle.indexes.specs.LatestOrder.{is_order_by}
use Rattle.indexes.specs.LatestIndex.{FitsLatestBy, raised, with_latest}
use Rattle.indexes.specs.LatestLaws.{RaisedOrderFits, ReplacedOrderFits, RemovedOrderFits}
use Rattle.indexes.proofs.Latest.{most, most-cons, most-insert, counted, most-put-again, passed_over, by_its_customer, apart}

-- what one order more, or one put again, adds to a customer's number
abbrev grown : CustomerKey → OrderKey → Order → ℕ → ℕ
grown c key row before = cond (is_order_by c (key, row)) (max key.o_id before) before

put_again : (t : Database) (key : OrderKey) (old row : Order) → map.get t.orders key ≡ Some old → old.c_id ≡ row.c_id → (c : CustomerKey)
    → most c (entries (map.insert t.orders key row)) ≡ grown c key row (most c (entries t.orders))
put_again t key old row found same c =
    let there : find order_cmp key (entries t.orders) ≡ Some old = sym (get-entries t.orders key) ∙ found in
    let alike : is_order_by c (key, row) ≡ is_order_by c (key, old) = ap (λ n. (key.w_id == c.w_id) && ((key.d_id == c.d_id) && (n == c.c_id))) (sym same) in
    ap (most c) (entries-insert orders_total t.orders key row)
    ∙ most-put-again c key old row (entries t.orders) there alike
    ∙ elim (is_order_by c (key, row)) as (λ b. is_order_by c (key, row) ≡ b → most c (entries t.orders) ≡ cond b (max key.o_id (most c (entries t.orders))) (most c (entries t.orders))) [
      | true ↦ λ e. let few : key.o_id ≤ most c (entries t.orders) = counted c key old (entries t.orders) there (sym alike ∙ e) in omega arith
      | false ↦ λ e. refl
    ] refl

grows : (t : Database) (key : OrderKey) (row : Order) (o : Option Order) → map.get t.orders key ≡ o → IfSome o (λ old. old.c_id ≡ row.c_id) → (c : CustomerKey)
    → most c (entries (map.insert t.orders key row)) ≡ grown c key row (most c (entries t.orders))
grows t key row None none h c = most-insert t key row none c
grows t key row (Some old) found h c = put_again t key old row found h c

-- the same if another customer's order was stored there
put_over : (c : CustomerKey) (key : OrderKey) (old row : Order) (es : List (OrderKey × Order)) → find order_cmp key es ≡ Some old → is_order_by c (key, old) ≡ false
    → most c (put order_cmp key row es) ≡ grown c key row (most c es)
put_over c key old row [] found other = absurd cc
put_over c key old row (e ∷ es) found other =
    elim (order_cmp key e.0) as (λ o. order_cmp key e.0 ≡ o → cond (is_eq o) (Some e.1) (find order_cmp key es) ≡ Some old
    → most c (by_order o ((key, row) ∷ e ∷ es) ((e.0, row) ∷ es) (e ∷ put order_cmp key row es)) ≡ grown c key row (most c (e ∷ es))) [
      | Less ↦ λ p h. most-cons c (key, row) (e ∷ es)
      | Equal ↦ λ p h.
          let same_key : e.0 ≡ key = sym (orders_exact key e.0 p) in
          let same_row : e.1 ≡ old = cc in
          let gone : is_order_by c e ≡ false = (λ i. is_order_by c (same_key i, same_row i)) ∙ other in
          let without : most c (e ∷ es) ≡ most c es = most-cons c e es ∙ ap (λ b. cond b (max e.0.o_id (most c es)) (most c es)) gone in
          most-cons c (e.0, row) es ∙ ap (λ (k : OrderKey). grown c k row (most c es)) same_key ∙ ap (grown c key row) (sym without)
      | Greater ↦ λ p h.
          most-cons c e (put order_cmp key row es)
          ∙ ap (λ m. cond (is_order_by c e) (max e.0.o_id m) m) (put_over c key old row es h other)
          ∙ passed_over (is_order_by c e) (is_order_by c (key, row)) e.0.o_id key.o_id (most c es)
          ∙ ap (grown c key row) (sym (most-cons c e es))
    ] refl found

-- ---- the orders one after another

pub one_counted : (c : CustomerKey) (key : OrderKey) (row : Order) (rest : List (OrderKey × Order)) (n : ℕ) → max (grown c key row n) (most c rest) ≡ max n (most c ((key, row) ∷ rest))
one_counted c key row rest n =
    elim (is_order_by c (key, row)) as (λ b. max (cond b (max key.o_id n) n) (most c rest) ≡ max n (cond b (max key.o_id (most c rest)) (most c rest))) [
      | true ↦ omega arith
      | false ↦ refl
    ]
    ∙ ap (max n) (sym (most-cons c (key, row) rest))

-- ---- the index

module _ (slot : Slots) (customers : ℕ) (index : List ℕ) (key : OrderKey) (row : Order) where
  abbrev raised_index : List ℕ
  raised_index = raised slot customers index (customer_of_order key row) key.o_id

  raised-length : length raised_index ≡ length index
  raised-length =
      elim (customer_slot_by slot customers (customer_of_order key row)) as (λ r. length (option_map_or (λ s. slice_set index s (max (get_or index s 0) key.o_id)) r index) ≡ length index) [
        | None ↦ refl
        | Some s ↦ length-set index s (max (get_or index s 0) key.o_id)
      ]

  raised-at : AreApart slot → (c : CustomerKey) (place : ℕ) → customer_slot_by slot customers c ≡ Some place → place < length index
      → get_or raised_index place 0 ≡ grown c key row (get_or index place 0)
  raised-at districts_apart c place at below =
      elim (is_order_by c (key, row)) as (λ b. is_order_by c (key, row) ≡ b → get_or raised_index place 0 ≡ cond b (max key.o_id (get_or index place 0)) (get_or index place 0)) [
        | true ↦ λ e.
            let there : customer_slot_by slot customers (customer_of_order key row) ≡ Some place = ap (customer_slot_by slot customers) (by_its_customer c key row e) ∙ at in
            ap (λ r. get_or (option_map_or (λ s. slice_set index s (max (get_or index s 0) key.o_id)) r index) place 0) there
            ∙ get_or-set_same index place (max (get_or index place 0) key.o_id) 0 below
            ∙ (let m : max (get_or index place 0) key.o_id ≡ max key.o_id (get_or index place 0) = omega arith in m)
        | false ↦ λ e.
            elim (customer_slot_by slot customers (customer_of_order key row)) as (λ r. customer_slot_by slot customers (customer_of_order key row) ≡ r
            → get_or (option_map_or (λ s. slice_set index s (max (get_or index s 0) key.o_id)) r index) place 0 ≡ get_or index place 0) [
              | None ↦ λ there. refl
              | Some s ↦ λ there.
                  let other : place ≡ s → ⊥ = λ h. apart slot customers districts_apart c key row place e at (there ∙ ap Some (sym h)) in
                  get_or-set_other index s place (max (get_or index s 0) key.o_id) 0 other
            ] refl
      ] refl

-- where a customer's number grows by the order, the raised index has it
grown_fits : (slot : Slots) (index : List ℕ) (t : Database) (key : OrderKey) (row : Order) → AreApart slot → FitsLatestBy slot index t
    → (c : CustomerKey) (place : ℕ) → customer_slot_by slot t.scale.customers c ≡ Some place → (n : ℕ) → n ≡ grown c key row (most c (entries t.orders))
    → slice_get (raised_index slot t.scale.customers index key row) place ≡ Some n
grown_fits slot index t key row districts_apart fits c place at n grows =
    let new = raised_index slot t.scale.customers index key row in
    let was : slice_get index place ≡ Some (most c (entries t.orders)) = fits c place at in
    let below : place < length index = slice_get_within index place _ was in
    let same : Some (get_or index place 0) ≡ Some (most c (entries t.orders)) = sym (slice_get-get_or index place 0 below) ∙ was in
    let is : get_or index place 0 ≡ most c (entries t.orders) = cc in
    let long : place < length new = omega (arith, raised-length slot t.scale.customers index key row) in
    slice_get-get_or new place 0 long
    ∙ ap Some (raised-at slot t.scale.customers index key row districts_apart c place at below ∙ ap (grown c key row) is ∙ sym grows)

pub raised_fits : RaisedOrderFits
raised_fits slot index t key row districts_apart fits alike c place at =
    grown_fits slot index t key row districts_apart fits c place at _ (grows t key row (map.get t.orders key) refl alike c)

-- one customer is looked through, and the index has what each other's number is to be
looked_through : (slot : Slots) (customers : ℕ) (index : List ℕ) (key : OrderKey) (old : Order) (all : List (OrderKey × Order)) → AreApart slot
    → (c : CustomerKey) (place : ℕ) → customer_slot_by slot customers c ≡ Some place → place < length index
    → (is_order_by c (key, old) ≡ false → slice_get index place ≡ Some (most c all))
    → slice_get (with_latest slot customers index (customer_of_order key old) (most (customer_of_order key old) all)) place ≡ Some (most c all)
looked_through slot customers index key old all districts_apart c place at below others =
    let loser = customer_of_order key old in
    elim (is_order_by c (key, old)) as (λ b. is_order_by c (key, old) ≡ b → slice_get (with_latest slot customers index loser (most loser all)) place ≡ Some (most c all)) [
      | true ↦ λ e.
          let same : loser ≡ c = by_its_customer c key old e in
          let there : customer_slot_by slot customers loser ≡ Some place = ap (customer_slot_by slot customers) same ∙ at in
          ap (λ r. slice_get (option_map_or (λ s. slice_set index s (most loser all)) r index) place) there
          ∙ slice_get-get_or (slice_set index place (most loser all)) place 0 (let l : place < length (slice_set index place (most loser all)) = omega (arith, length-set index place (most loser all)) in l)
          ∙ ap Some (get_or-set_same index place (most loser all) 0 below ∙ ap (λ k. most k all) same)
      | false ↦ λ e.
          elim (customer_slot_by slot customers loser) as (λ r. customer_slot_by slot customers loser ≡ r → slice_get (option_map_or (λ s. slice_set index s (most loser all)) r index) place ≡ Some (most c all)) [
            | None ↦ λ at_loser. others e
            | Some s ↦ λ at_loser.
                let other : place ≡ s → ⊥ = λ h. apart slot customers districts_apart c key old place e at (at_loser ∙ ap Some (sym h)) in
                slice_get-get_or (slice_set index s (most loser all)) place 0 (let l : place < length (slice_set index s (most loser all)) = omega (arith, length-set index s (most loser all)) in l)
                ∙ ap Some (get_or-set_other index s place (most loser all) 0 other) ∙ sym (slice_get-get_or index place 0 below) ∙ others e
          ] refl
    ] refl

-- the customer whose order was replaced is looked through, and each other's number grows
pub replaced_fits : ReplacedOrderFits
replaced_fits slot index t key old row districts_apart fits found c place at =
    let new = raised_index slot t.scale.customers index key row in
    let below : place < length index = slice_get_within index place _ (fits c place at) in
    let long : place < length new = omega (arith, raised-length slot t.scale.customers index key row) in
    let there : find order_cmp key (entries t.orders) ≡ Some old = sym (get-entries t.orders key) ∙ found in
    looked_through slot t.scale.customers new key old (entries (map.insert t.orders key row)) districts_apart c place at long
    (λ e. grown_fits slot index t key row districts_apart fits c place at (most c (entries (map.insert t.orders key row)))
    (ap (most c) (entries-insert orders_total t.orders key row) ∙ put_over c key old row (entries t.orders) there e))

-- the customer whose order was taken away is looked through, and each other's number stays: with the order again, it would
-- be that of before
pub removed_fits : RemovedOrderFits
removed_fits slot index t key old districts_apart fits found c place at =
    let left = map.remove t.orders key in
    let was = fits c place at in
    let none : map.get left key ≡ None = get-remove orders_total t.orders key key ∙ ap (λ b. cond b None (map.get t.orders key)) ((eq_by_cmp_equiv orders_total).refl key) in
    let again : map.insert left key old ≡ t.orders = put_row_twice orders_total orders_exact t.orders key None (Some old) ∙ put_row_same orders_total orders_exact t.orders key (Some old) found in
    looked_through slot t.scale.customers index key old (entries left) districts_apart c place at (slice_get_within index place _ was)
    (λ e. was ∙ ap Some (ap (λ m. most c (entries m)) (sym again) ∙ most-insert (record t { orders = left }) key old none c ∙ ap (λ b. cond b (max key.o_id (most c (entries left))) (most c (entries left))) e))
