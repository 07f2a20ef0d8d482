-- The fields of a record, some more taken at a time.
use Rattle.std.proofs.Common.{◌≡◌, ◌≤◌, ℕ, ◌==◌, Bool, true, false, not, List, [], ◌∷◌, ◌++◌, Option, None, Some, Result, Ok, Err, OnOk, IfSome, refl, sym, ap, subst, ◌∙◌, append_assoc}
use Rattle.std.specs.Fmt.{decimal}
use Rattle.std.proofs.lemmas.List.{append-nil}
use Rattle.std.specs.Cmp.Lexicographic.{pointwise, bytes_decides}
use Rattle.schema.specs.declared.scale.Scale.{Scale}
use Rattle.files.specs.declared.fields.Fields.{Fields}
use Rattle.files.specs.Taken.{Takes, TakesWell, fault_of, fields_left}
use Rattle.dataset.specs.Records.{Field, Number, scale_fields, IsSpelt, AreSpelt}
use Rattle.dataset.proofs.Texts.{all_zip-append}

-- texts were taken that spell these fields: a record, by which the fields are found
pub record TakesFields (fields : List Field) (old new : Fields) : Type 0 where
  pub well : Takes old new (AreSpelt fields)

pub takes-fields : (fields : List Field) {old new : Fields} → Takes old new (AreSpelt fields) → TakesFields fields old new
takes-fields fields taken = record { well = taken }

-- some fields, and then more
pub takes-then : {fields more : List Field} {old mid new : Fields} → TakesFields fields old mid → TakesFields more mid new → TakesFields (fields ++ more) old new
takes-then {fields} {more} {old} {mid} {new} h g = record {
  well = λ none.
      let last = g.well none in
      let first = h.well last.faultless in
      record {
        faultless = first.faultless;
        texts = first.texts ++ last.texts;
        are_said = all_zip-append IsSpelt fields more first.texts last.texts first.are_said last.are_said;
        left = first.left ∙ ap (λ l. first.texts ++ l) last.left ∙ sym (append_assoc first.texts last.texts (fields_left new));
      };
}

module _ {old : Fields} where
  -- one field more, which a text spells
  pub takes-one : (field : Field) (text : List ℕ) (new : Fields) → IsSpelt field text → TakesWell old new text → TakesFields (field ∷ []) old new
  takes-one field text new spelt taken = record {
    well = λ none. let read = taken none in record { faultless = read.0; texts = text ∷ []; are_said = (spelt, tt); left = read.1 };
  }

  pub takes-number : (number : ℕ) (new : Fields) → TakesWell old new (decimal number) → TakesFields (Number number ∷ []) old new
  takes-number number new taken = takes-one (Number number) (decimal number) new refl taken

not_false : (b : Bool) → not b ≡ false → b ≡ true
not_false true h = refl
not_false false h = absurd cc

-- words that did not differ
pub same_word : (word other : List ℕ) (differs : Bool) → differs ≡ not (pointwise ◌==◌ word other) → differs ≡ false → word ≡ other
same_word word other differs is h = (bytes_decides word other).0 (not_false (pointwise ◌==◌ word other) (sym is ∙ h))

-- the scale that was made of these numbers
pub scale_spelt : (made : Option Scale) (warehouses items customers most : ℕ) (texts : List (List ℕ))
    → IfSome made (λ scale. scale.warehouses ≡ warehouses) → IfSome made (λ scale. scale.items ≡ items) → IfSome made (λ scale. scale.customers ≡ customers) → warehouses ≤ most
    → AreSpelt (Number warehouses ∷ Number items ∷ Number customers ∷ []) texts → IfSome made (λ scale. (scale.warehouses ≤ most) × AreSpelt (scale_fields scale) texts)
scale_spelt (Some scale) warehouses items customers most texts w i n within spelt =
    let same : Number warehouses ∷ Number items ∷ Number customers ∷ [] ≡ scale_fields scale = λ j. Number (sym w j) ∷ Number (sym i j) ∷ Number (sym n j) ∷ [] in
    (subst (λ x. x ≤ most) (sym w) within, subst (λ l. AreSpelt l texts) same spelt)
scale_spelt None warehouses items customers most texts w i n within spelt = tt

-- where no field is left, what was taken is the whole
pub all_spelt : {fields : List Field} (old new : Fields) → TakesFields fields old new → fault_of new ≡ None → fields_left new ≡ [] → AreSpelt fields (fields_left old)
all_spelt {fields} old new takes faultless none =
    let took = takes.well faultless in
    subst (AreSpelt fields) (sym (took.left ∙ ap (λ l. took.texts ++ l) none ∙ append-nil took.texts)) took.are_said

-- and there was no fault before
pub none_before : {fields : List Field} (old new : Fields) → TakesFields fields old new → fault_of new ≡ None → fault_of old ≡ None
none_before old new takes faultless = (takes.well faultless).faultless

pub on_any_ok : {T E P : Type 0} (r : Result T E) → P → OnOk r P
on_any_ok (Ok t) p = p
on_any_ok (Err e) p = tt

-- a count, by the number that was expected
pub takes-counted : {old : Fields} (count expected : ℕ) (new : Fields) → expected ≡ count → TakesWell old new (decimal expected) → TakesFields (Number count ∷ []) old new
takes-counted {old} count expected new same taken = takes-number count new (subst (λ n. TakesWell old new (decimal n)) same taken)
