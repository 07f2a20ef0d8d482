-- The parts of a script's records differ from each other.
use Rattle.std.proofs.Common.{◌≡◌, ◌≢◌, ◌⊎◌, inl, inr, ℕ, zero, suc, ◌+◌, ◌<◌, ◌≤◌, ◌++◌, List, [], ◌∷◌, length, map, Option, Some, sym, ap, ◌∙◌, subst, arith}
use Rattle.std.specs.List.{range_with_len, slice_get}
use Rattle.std.specs.Option.{unwrap_or}
use Rattle.requests.specs.Script.{part, parts_from, parts_of, AreDistinct, AreOfOtherDistricts}
use Rattle.requests.specs.TerminalRequest.{delivery_in}
use Rattle.requests.specs.declared.request.Request.{Request}
use Rattle.requests.specs.declared.request.Request.TheVariants.{Delivery}
use Rattle.requests.specs.declared.script.Part.{Part}
use Rattle.requests.specs.declared.terminal_request.TerminalRequest.{TerminalRequest}
use Rattle.requests.specs.declared.terminal_request.TerminalRequest.TheVariants as asked
use Rattle.requests.specs.declared.terminal_request.WarehouseDelivery.{WarehouseDelivery}

-- the parts in two equal options are equal
is_same : (x a : Part) → Some x ≡ Some a → x ≡ a
is_same x a e = ap (λ (o : Option Part). unwrap_or o x) e

-- an element of two lists joined is one of the first, or one of the second
split : (xs ys : List Part) (i : ℕ) (x : Part) → slice_get (xs ++ ys) i ≡ Some x
    → ((i < length xs) × (slice_get xs i ≡ Some x)) ⊎ ((j : ℕ) × ((i ≡ length xs + j) × (slice_get ys j ≡ Some x)))
split [] ys i x e = inr (i, (omega arith, e))
split (y ∷ xs) ys zero x e = inl (omega arith, e)
split (y ∷ xs) ys (suc i) x e = elim (split xs ys i x e) [
  | inl first ↦ inl (omega (arith, first.0), first.1)
  | inr second ↦ inr (second.0, (omega (arith, second.1.0), second.1.1))
]

-- the parts of a record have its number
of_number : (number : ℕ) (requests : List Request) (i : ℕ) (a : Part) → slice_get (map (part number) requests) i ≡ Some a → a.number ≡ number
of_number number [] i a e = absurd cc
of_number number (r ∷ rs) zero a e = sym (ap (λ (p : Part). p.number) (is_same (part number r) a e))
of_number number (r ∷ rs) (suc i) a e = of_number number rs i a e

-- the parts of records have no lower number than the first
from_number : (number : ℕ) (records : List TerminalRequest) (i : ℕ) (a : Part) → slice_get (parts_from number records) i ≡ Some a → number ≤ a.number
from_number number [] i a e = absurd cc
from_number number (one ∷ records) i a e = elim (split (parts_of number one) (parts_from (number + 1) records) i a e) [
  | inl first ↦ omega (arith, of_number number _ i a first.1)
  | inr second ↦ omega (arith, from_number (number + 1) records second.0 a second.1.1)
]

-- the Delivery at a place of those of some districts
delivery_at : (number : ℕ) (d : WarehouseDelivery) (from left place : ℕ) (a : Part)
    → slice_get (map (part number) (map (λ d_id. Delivery (delivery_in d d_id)) (range_with_len from left))) place ≡ Some a
    → part number (Delivery (delivery_in d (from + place))) ≡ a
delivery_at number d from zero place a e = absurd cc
delivery_at number d from (suc left) zero a e =
    let here : from + zero ≡ from = omega arith in
    ap (λ k. part number (Delivery (delivery_in d k))) here ∙ is_same (part number (Delivery (delivery_in d from))) a e
delivery_at number d from (suc left) (suc place) a e =
    let next : from + suc place ≡ from + 1 + place = omega arith in
    ap (λ k. part number (Delivery (delivery_in d k))) next ∙ delivery_at number d (from + 1) left place a e

-- a list of one part has no other
alone : (x a b : Part) (place other : ℕ) → place ≢ other → slice_get (x ∷ []) place ≡ Some a → slice_get (x ∷ []) other ≡ Some b
    → (a.number ≢ b.number) ⊎ AreOfOtherDistricts a.request b.request
alone x a b zero zero apart at be = absurd (apart (omega arith))
alone x a b (suc place) other apart at be = absurd cc
alone x a b zero (suc other) apart at be = absurd cc

-- those of one record differ
of_one : (number : ℕ) (one : TerminalRequest) → AreDistinct (parts_of number one)
of_one number (asked.NewOrder n) place other a b apart at be = alone _ a b place other apart at be
of_one number (asked.Payment p) place other a b apart at be = alone _ a b place other apart at be
of_one number (asked.OrderStatus o) place other a b apart at be = alone _ a b place other apart at be
of_one number (asked.StockLevel s) place other a b apart at be = alone _ a b place other apart at be
of_one number (asked.Delivery d) place other a b apart at be =
    let districts : (1 + place) ≢ (1 + other) = λ same. apart (omega arith) in
    inr (subst (λ (x : Part). AreOfOtherDistricts x.request b.request) (delivery_at number d 1 10 place a at)
    (subst (λ (y : Part). AreOfOtherDistricts (Delivery (delivery_in d (1 + place))) y.request) (delivery_at number d 1 10 other b be) districts))

-- those of all records differ
pub parts_differ : (number : ℕ) (records : List TerminalRequest) → AreDistinct (parts_from number records)
parts_differ number [] place other a b apart at be = absurd cc
parts_differ number (one ∷ records) place other a b apart at be =
    let own = parts_of number one in
    let later = parts_from (number + 1) records in
    elim (split own later place a at) [
      | inl first ↦ elim (split own later other b be) [
        | inl second ↦ of_one number one place other a b apart first.1 second.1
        | inr second ↦
            let low : a.number ≡ number = of_number number _ place a first.1 in
            let high : number + 1 ≤ b.number = from_number (number + 1) records second.0 b second.1.1 in
            inl (λ same. omega arith)
      ]
      | inr first ↦ elim (split own later other b be) [
        | inl second ↦
            let low : b.number ≡ number = of_number number _ other b second.1 in
            let high : number + 1 ≤ a.number = from_number (number + 1) records first.0 a first.1.1 in
            inl (λ same. omega arith)
        | inr second ↦
            parts_differ (number + 1) records first.0 second.0 a b
            (λ same. apart (first.1.0 ∙ ap (λ n. length own + n) same ∙ sym second.1.0)) first.1.1 second.1.1
      ]
    ]
