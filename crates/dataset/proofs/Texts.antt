-- The texts of records, some more at a time.
use Rattle.std.proofs.Common.{◌≡◌, ℕ, List, [], ◌∷◌, ◌++◌, ap, ◌∙◌, append_assoc}
use Rattle.std.specs.Prelude.{ℤ}
use Rattle.std.specs.Fmt.{decimal, signed_decimal}
use Rattle.std.specs.List.{AllZip}
use Rattle.dataset.specs.Records.{Field, Words, Number, Money, IsSpelt}
use Rattle.dataset.specs.Writing.{Adds}

pub all_zip-append : {A B : Type 0} (R : A → B → Type 0) (xs us : List A) (ys vs : List B) → AllZip R xs ys → AllZip R us vs → AllZip R (xs ++ us) (ys ++ vs)
all_zip-append R [] us [] vs h g = g
all_zip-append R [] us (y ∷ ys) vs h g = absurd h
all_zip-append R (x ∷ xs) us [] vs h g = absurd h
all_zip-append R (x ∷ xs) us (y ∷ ys) vs h g = (h.0, all_zip-append R xs us ys vs h.1 g)

-- some fields, and then more
pub adds-then : {fields more : List Field} {old mid new : List (List ℕ)} → Adds fields old mid → Adds more mid new → Adds (fields ++ more) old new
adds-then {fields} {more} {old} {mid} {new} h g = record {
  texts = h.texts ++ g.texts;
  are_spelt = all_zip-append IsSpelt fields more h.texts g.texts h.are_spelt g.are_spelt;
  added = g.added ∙ ap (λ l. l ++ g.texts) h.added ∙ append_assoc old h.texts g.texts;
}

module _ {old new : List (List ℕ)} where
  -- one field more
  pub adds-words : (words text : List ℕ) → text ≡ words → new ≡ old ++ (text ∷ []) → Adds (Words words ∷ []) old new
  adds-words words text is e = record { texts = text ∷ []; are_spelt = (is, tt); added = e }

  pub adds-number : (number shown : ℕ) → shown ≡ number → new ≡ old ++ (decimal shown ∷ []) → Adds (Number number ∷ []) old new
  adds-number number shown is e = record { texts = decimal shown ∷ []; are_spelt = (ap decimal is, tt); added = e }

  pub adds-money : (cents shown : ℤ) → shown ≡ cents → new ≡ old ++ (signed_decimal shown ∷ []) → Adds (Money cents ∷ []) old new
  adds-money cents shown is e = record { texts = signed_decimal shown ∷ []; are_spelt = (ap signed_decimal is, tt); added = e }
