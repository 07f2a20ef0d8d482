-- The lists of payments, one payment more at a time.
use Rattle.std.proofs.Common.{◌≡◌, ℕ, zero, suc, ◌+◌, ◌≤◌, List, [], ◌∷◌, ◌++◌, Option, map, sum, length, take, slice_set, Some, IsTrue, refl, sym, ap, subst, ◌∙◌, arith, append_assoc, zero-add}
use Rattle.std.specs.List.{AllByRecursion, flat_map, zip, slice_get}
use Rattle.std.specs.List.Sorted.{IsStrictlySortedBy}
use Rattle.std.specs.Map.{keys_of}
use Rattle.std.specs.Ordering.{is_le}
use Rattle.std.specs.declared.cmp.Ordering.TheVariants.{Less, Greater}
use Rattle.std.proofs.lemmas.Cmp.{tied_itself}
use Rattle.std.proofs.lemmas.List.{map-append, append-nil, length-set, length-take-le}
use Rattle.std.proofs.lemmas.List.Sums.{sum-map, sum_by-cons}
use Rattle.rows.specs.declared.keys.DistrictKey.{DistrictKey}
use Rattle.rows.specs.declared.records.History.{History}
use Rattle.rows.specs.Keys.{district_cmp}
use Rattle.schema.specs.declared.scale.Scale.{Scale}
use Rattle.schema.specs.Scale.{district_keys, district_slot}
use Rattle.schema.proofs.KeyOrders.{districts_total, districts_exact}
use Rattle.schema.proofs.Places.{place-within}
use Rattle.schema.proofs.ScalePlaces.{district_place}
use Rattle.dataset.specs.declared.place.Place.{Place}
use Rattle.dataset.specs.declared.place.Place.TheVariants as at
use Rattle.dataset.specs.Order.{place_cmp}
use Rattle.dataset.specs.Payments.{Pays}
use Rattle.dataset.specs.Records.{payment_records, history_fields}
use Rattle.dataset.proofs.Keys.{all-append, all-each, all-map, get-place}
use Rattle.dataset.proofs.Order.{same_history, turned}

-- the places of the records of a table
abbrev pub places : {K X : Type 0} → (K → Place) → List (K × X) → List Place
places place rows = map place (keys_of rows)

-- ---- which lists were opened

pub district_at_slot : (scale : Scale) (key : DistrictKey) (slot : ℕ) → district_slot scale key ≡ Some slot → slice_get (district_keys scale) slot ≡ Some key
district_at_slot scale key slot e = get-place districts_exact key (district_keys scale) slot (district_place scale key ∙ e)

pub few_paid : (scale : Scale) (key : DistrictKey) (slot : ℕ) → district_slot scale key ≡ Some slot → (count : ℕ) → count ≡ slot + 1 → count ≤ length (district_keys scale)
few_paid scale key slot e count many =
    let within = place-within _ (district_keys scale) slot (district_place scale key ∙ e) in
    omega arith

-- no list was opened after that of the last place
pub few_opened : (ks : List DistrictKey) (lists : List (List History)) (n : ℕ) (d : DistrictKey) → IsStrictlySortedBy district_cmp ks → slice_get ks n ≡ Some d
    → AllByRecursion (λ q. IsTrue (is_le (place_cmp q (at.History d)))) (places at.History (zip ks lists)) → length lists ≤ length ks → length lists ≤ n + 1
unfolding IsStrictlySortedBy
few_opened ks [] n d sorted get h few = omega arith
few_opened [] (list ∷ lists) n d sorted get h few = absurd (omega arith)
few_opened (k ∷ ks) (list ∷ []) zero d sorted get h few = omega arith
few_opened (k ∷ []) (list ∷ more ∷ lists) zero d sorted get h few = absurd (omega arith)
few_opened (k ∷ next ∷ ks) (list ∷ more ∷ lists) zero d sorted get h few =
    let same : k ≡ d = cc in
    let after : district_cmp next d ≡ Greater = turned districts_total d next (subst (λ j. district_cmp j next ≡ Less) same sorted.0.0) in
    let not_le : IsTrue (is_le (district_cmp next d)) = ap is_le (sym (same_history next d)) ∙ h.1.0 in
    absurd (let other = ap is_le after in cc)
few_opened (k ∷ ks) (list ∷ lists) (suc n) d sorted get h few = let rest = few_opened ks lists n d sorted.1 get h.1 (omega arith) in omega arith

all-get : {K : Type 0} (P : K → Type 0) (ks : List K) (n : ℕ) (k : K) → slice_get ks n ≡ Some k → AllByRecursion P ks → P k
all-get P [] n k e h = absurd cc
all-get P (j ∷ ks) zero k e h = let same : j ≡ k = cc in subst P same h.0
all-get P (j ∷ ks) (suc n) k e h = all-get P ks n k e h.1

-- the places of the lists up to that of a district are not after the place of the district
pub all_reached : (ks : List DistrictKey) (lists : List (List History)) (n : ℕ) (d : DistrictKey) → IsStrictlySortedBy district_cmp ks → slice_get ks n ≡ Some d
    → length lists ≡ n + 1 → AllByRecursion (λ q. IsTrue (is_le (place_cmp q (at.History d)))) (places at.History (zip ks lists))
unfolding IsStrictlySortedBy
all_reached [] lists n d sorted get many = absurd cc
all_reached (k ∷ ks) [] n d sorted get many = tt
all_reached (k ∷ ks) (list ∷ []) zero d sorted get many =
    let same : k ≡ d = cc in
    (ap is_le (same_history k d ∙ ap (λ j. district_cmp j d) same ∙ tied_itself districts_total d), none_left ks)
  where
    none_left : (ks : List DistrictKey) → AllByRecursion (λ q. IsTrue (is_le (place_cmp q (at.History d)))) (places at.History (zip {X = List History} ks []))
    none_left [] = tt
    none_left (j ∷ js) = tt
all_reached (k ∷ ks) (list ∷ more ∷ lists) zero d sorted get many = absurd (omega arith)
all_reached (k ∷ ks) (list ∷ lists) (suc n) d sorted get many =
    (ap is_le (same_history k d ∙ all-get (λ j. district_cmp k j ≡ Less) ks n d get sorted.0), all_reached ks lists n d sorted.1 get (omega arith))

-- ---- each with its district

-- the payments of each district, each with the district
abbrev pub payments_of : List (DistrictKey × List History) → List (DistrictKey × History)
payments_of lists = flat_map (λ e. map (λ row. (e.0, row)) e.1) lists

-- what is said of each district is said of its payments
pub all-payments : (P : DistrictKey → Type 0) (lists : List (DistrictKey × List History)) → AllByRecursion P (keys_of lists)
    → AllByRecursion (λ (p : DistrictKey × History). P p.0) (payments_of lists)
all-payments P [] h = tt
all-payments P (e ∷ lists) h = all-append _ _ (payments_of lists) (all-map _ (λ row. (e.0, row)) e.1 (all-each _ (λ _. h.0) e.1)) (all-payments P lists h.1)

list_records : (home : DistrictKey) (rows : List History) → map (λ (p : DistrictKey × History). history_fields p.0 p.1) (map (λ row. (home, row)) rows) ≡ map (history_fields home) rows
list_records home [] = refl
list_records home (row ∷ rows) = ap (λ l. history_fields home row ∷ l) (list_records home rows)

-- their records are those of the lists
pub payments_recorded : (lists : List (DistrictKey × List History)) → map (λ (p : DistrictKey × History). history_fields p.0 p.1) (payments_of lists) ≡ payment_records lists
payments_recorded [] = refl
payments_recorded (e ∷ lists) =
    map-append (λ (p : DistrictKey × History). history_fields p.0 p.1) (map (λ row. (e.0, row)) e.1) (payments_of lists)
    ∙ ap (λ l. l ++ map (λ (p : DistrictKey × History). history_fields p.0 p.1) (payments_of lists)) (list_records e.0 e.1)
    ∙ ap (λ l. map (history_fields e.0) e.1 ++ l) (payments_recorded lists)

no_payments : (ks : List DistrictKey) (opened : List (List History)) → AllByRecursion (λ list. list ≡ []) opened → payments_of (zip ks opened) ≡ []
no_payments [] opened h = refl
no_payments (k ∷ ks) [] h = refl
no_payments (k ∷ ks) (list ∷ opened) h = ap (λ l. map (λ row. (k, row)) l ++ payments_of (zip ks opened)) h.0 ∙ no_payments ks opened h.1

-- empty lists have no payments
pub payments-opened : (ks : List DistrictKey) (lists opened : List (List History)) → AllByRecursion (λ list. list ≡ []) opened
    → payments_of (zip ks (lists ++ opened)) ≡ payments_of (zip ks lists)
payments-opened [] lists opened h = refl
payments-opened (k ∷ ks) [] opened h = no_payments (k ∷ ks) opened h
payments-opened (k ∷ ks) (list ∷ lists) opened h = ap (λ l. map (λ row. (k, row)) list ++ l) (payments-opened ks lists opened h)

pub count-cons : (list : List History) (lists : List (List History)) → sum (map length (list ∷ lists)) ≡ length list + sum (map length lists)
count-cons list lists = sum-map length (list ∷ lists) ∙ sum_by-cons length list lists ∙ ap (λ n. length list + n) (sym (sum-map length lists))

-- nor payments to count
pub counts-opened : (lists opened : List (List History)) → AllByRecursion (λ list. list ≡ []) opened → sum (map length (lists ++ opened)) ≡ sum (map length lists)
counts-opened [] [] h = refl
counts-opened [] (list ∷ opened) h = count-cons list opened ∙ ap (λ l. length l + sum (map length opened)) h.0 ∙ zero-add (sum (map length opened)) ∙ counts-opened [] opened h.1
counts-opened (list ∷ lists) opened h =
    count-cons list (lists ++ opened) ∙ ap (λ n. length list + n) (counts-opened lists opened h) ∙ sym (count-cons list lists)

-- the list at the end
payments-last : (ks : List DistrictKey) (before : List (List History)) (list : List History) (n : ℕ) (d : DistrictKey) → length before ≡ n → slice_get ks n ≡ Some d
    → payments_of (zip ks (before ++ (list ∷ []))) ≡ payments_of (zip ks before) ++ map (λ row. (d, row)) list
payments-last [] before list n d many get = absurd cc
payments-last (k ∷ ks) [] list zero d many get =
    let same : k ≡ d = cc in
    let none : payments_of (zip {X = List History} ks []) ≡ [] = no_payments ks [] tt in
    ap (λ l. map (λ row. (k, row)) list ++ l) none ∙ append-nil (map (λ row. (k, row)) list) ∙ ap (λ j. map (λ row. (j, row)) list) same
payments-last (k ∷ ks) [] list (suc n) d many get = absurd (omega arith)
payments-last (k ∷ ks) (first ∷ before) list zero d many get = absurd (omega arith)
payments-last (k ∷ ks) (first ∷ before) list (suc n) d many get =
    ap (λ l. map (λ row. (k, row)) first ++ l) (payments-last ks before list n d (omega arith) get)
    ∙ sym (append_assoc (map (λ row. (k, row)) first) (payments_of (zip ks before)) (map (λ row. (d, row)) list))

-- the last list, as it was and as it is written
last_list : {X : Type 0} (xs : List X) (n : ℕ) (x : X) → length xs ≡ n + 1 → slice_get xs n ≡ Some x → xs ≡ take n xs ++ (x ∷ [])
last_list [] n x many get = absurd cc
last_list (y ∷ []) zero x many get = let same : y ≡ x = cc in ap (λ z. z ∷ []) same
last_list (y ∷ z ∷ xs) zero x many get = absurd (omega arith)
last_list (y ∷ xs) (suc n) x many get = ap (λ l. y ∷ l) (last_list xs n x (omega arith) get)

last_set : {X : Type 0} (xs : List X) (n : ℕ) (x : X) → length xs ≡ n + 1 → slice_set xs n x ≡ take n xs ++ (x ∷ [])
last_set [] n x many = absurd (omega arith)
last_set (y ∷ []) zero x many = refl
last_set (y ∷ z ∷ xs) zero x many = absurd (omega arith)
last_set (y ∷ xs) (suc n) x many = ap (λ l. y ∷ l) (last_set xs n x (omega arith))

module _ {place : Option ℕ} {row : History} {old new : List (List History)} (pays : Pays place row old new) (few : length old ≤ pays.slot + 1) where
  many : length pays.opened ≡ pays.slot + 1
  many = pays.opens.enough few

  pub slots_paid : length new ≡ pays.slot + 1
  slots_paid = ap length pays.paid ∙ length-set pays.opened pays.slot _ ∙ many

  stands : length (take pays.slot pays.opened) ≡ pays.slot
  stands = length-take-le pays.slot pays.opened (omega (arith, many))

  -- a payment more
  pub lists_paid : (ks : List DistrictKey) (key : DistrictKey) → slice_get ks pays.slot ≡ Some key
      → payments_of (zip ks new) ≡ payments_of (zip ks old) ++ ((key, row) ∷ [])
  lists_paid ks key get =
      let of_lists : List (List History) → List (DistrictKey × History) = λ lists. payments_of (zip ks lists) in
      let first = of_lists (take pays.slot pays.opened) in
      let start : of_lists old ≡ first ++ map (λ row. (key, row)) pays.list =
      sym (payments-opened ks old pays.opens.opened pays.opens.are_empty) ∙ ap of_lists (sym pays.opens.more)
      ∙ ap of_lists (last_list pays.opened pays.slot pays.list many pays.is_list)
      ∙ payments-last ks (take pays.slot pays.opened) pays.list pays.slot key stands get in
      ap of_lists (pays.paid ∙ last_set pays.opened pays.slot (pays.list ++ (row ∷ [])) many)
      ∙ payments-last ks (take pays.slot pays.opened) (pays.list ++ (row ∷ [])) pays.slot key stands get
      ∙ ap (λ l. first ++ l) (map-append (λ row. (key, row)) pays.list (row ∷ []))
      ∙ sym (append_assoc first (map (λ row. (key, row)) pays.list) ((key, row) ∷ []))
      ∙ ap (λ l. l ++ ((key, row) ∷ [])) (sym start)
