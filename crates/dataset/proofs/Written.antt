-- What was put into a sink, one record more at a time, and one part after another; and where that ended early.
use Rattle.std.proofs.Common.{◌≡◌, ℕ, List, [], ◌∷◌, ◌++◌, Option, length, map, take, refl, sym, ap, subst, ◌∙◌, append_assoc}
use Rattle.std.specs.List.{flat_map, AllZip}
use Rattle.std.proofs.lemmas.List.{append-nil, map-append}
use Rattle.std.proofs.Math.Seq.{take-append_seam, take-length}
use Rattle.schema.specs.Database.{Database}
use Rattle.files.specs.Sending.{Begins, BeginsToWrite, Sends, Writes}
use Rattle.files.specs.Written.{record_text, csv_text}
use Rattle.files.proofs.Sent.{begins_none, sends_none, sends_on}
use Rattle.files.proofs.Texts.{begins-end, csv_text-append, sent-end}
use Rattle.dataset.specs.declared.format.Format.TheVariants.{Two}
use Rattle.dataset.specs.Records.{Field, AreSpelt, AreFirstRecords2, AreRecords2, AreRecordsIn, records}
use Rattle.dataset.specs.Writing.{Adds, Puts, StopsIn}
use Rattle.dataset.proofs.Texts.{all_zip-append}

csv_text-none : csv_text [] ≡ []
unfolding csv_text
csv_text-none = refl

csv_text-one : (fields : List (List ℕ)) → csv_text (fields ∷ []) ≡ record_text fields
unfolding csv_text
csv_text-one fields = append-nil (record_text fields)

-- ---- no record, and one

module _ (sink : Option (List ℕ)) (old : List ℕ) where
  text-none : old ++ csv_text [] ≡ old
  text-none = ap (λ l. old ++ l) csv_text-none ∙ append-nil old

  -- nothing yet
  pub puts-none : Puts sink sink old old []
  puts-none = record { rows = []; are_spelt = tt; sends = subst (λ text. Sends sink sink text old) (sym text-none) (sends_none sink old) }

  -- it ended before any record
  pub stops-none : (records : List (List Field)) → StopsIn sink sink old records
  stops-none records = record { first = []; others = records; parts = refl; rows = []; are_spelt = tt; begins = begins_none sink (old ++ csv_text []) }

-- a record, which was put together in a cleared one
module _ (before after : Option (List ℕ)) (old : List ℕ) (fields : List Field) (cleared full : List (List ℕ)) (empty : cleared ≡ []) (put : Adds fields cleared full) where
  text-one : old ++ record_text full ≡ old ++ csv_text (put.texts ∷ [])
  text-one = ap (λ f. old ++ record_text f) (put.added ∙ ap (λ l. l ++ put.texts) empty) ∙ ap (λ l. old ++ l) (sym (csv_text-one put.texts))

  pub puts-one : (new : List ℕ) → Sends before after (old ++ record_text full) new → Puts before after old new (fields ∷ [])
  puts-one new sends = record { rows = put.texts ∷ []; are_spelt = (put.are_spelt, tt); sends = subst (λ text. Sends before after text new) text-one sends }

  -- a beginning of it
  pub stops-one : Begins before after (old ++ record_text full) → StopsIn before after old (fields ∷ [])
  stops-one begun = record {
    first = fields ∷ [];
    others = [];
    parts = refl;
    rows = put.texts ∷ [];
    are_spelt = (put.are_spelt, tt);
    begins = subst (Begins before after) text-one begun;
  }

-- ---- some records, and then more

module _ (before mid after : Option (List ℕ)) (old left : List ℕ) (records : List (List Field)) (h : Puts before mid old left records) where
  sends-then : (rows : List (List (List ℕ))) (new : List ℕ) → Sends mid after (left ++ csv_text rows) new → Sends before after (old ++ csv_text (h.rows ++ rows)) new
  sends-then rows new sends =
      let text : (old ++ csv_text h.rows) ++ csv_text rows ≡ old ++ csv_text (h.rows ++ rows) =
      append_assoc old (csv_text h.rows) (csv_text rows) ∙ ap (λ l. old ++ l) (sym (csv_text-append h.rows rows)) in
      subst (λ l. Sends before after l new) text (sends_on before mid after (old ++ csv_text h.rows) left (csv_text rows) new h.sends sends)

  pub puts-then : (new : List ℕ) (more : List (List Field)) → Puts mid after left new more → Puts before after old new (records ++ more)
  puts-then new more g = record {
    rows = h.rows ++ g.rows;
    are_spelt = all_zip-append AreSpelt records more h.rows g.rows h.are_spelt g.are_spelt;
    sends = sends-then g.rows new g.sends;
  }

  -- writing ended in the next part
  pub stops-in : (part others : List (List Field)) {all : List (List Field)} → all ≡ records ++ (part ++ others) → StopsIn mid after left part → StopsIn before after old all
  stops-in part others is g = record {
    first = records ++ g.first;
    others = g.others ++ others;
    parts = is ∙ ap (λ l. records ++ (l ++ others)) g.parts ∙ ap (λ l. records ++ l) (append_assoc g.first g.others others)
        ∙ sym (append_assoc records g.first (g.others ++ others));
    rows = h.rows ++ g.rows;
    are_spelt = all_zip-append AreSpelt records g.first h.rows g.rows h.are_spelt g.are_spelt;
    begins = (g.begins.0, sends-then g.rows g.begins.0 g.begins.1);
  }

-- ---- one record after another

module _ {X : Type 0} (fields : X → List Field) {before mid after : Option (List ℕ)} {old left : List ℕ} (items : List X) (h : Puts before mid old left (map fields items)) (item : X) where
  -- the next record was put
  pub puts-next : {new : List ℕ} → Puts mid after left new (fields item ∷ []) → Puts before after old new (map fields (items ++ (item ∷ [])))
  puts-next {new} g =
      subst (Puts before after old new) (sym (map-append fields items (item ∷ [])))
      (puts-then before mid after old left (map fields items) h new (fields item ∷ []) g)

  -- it ended at the next
  pub stops-next : (rest : List X) {all : List X} → all ≡ items ++ (item ∷ rest) → StopsIn mid after left (fields item ∷ []) → StopsIn before after old (map fields all)
  stops-next rest is g =
      stops-in before mid after old left (map fields items) h (fields item ∷ []) (map fields rest)
      (ap (map fields) is ∙ map-append fields items (item ∷ rest)) g

-- ---- part by part, before the last record

-- of all records those before these parts were put
pub record Midway (all : List (List Field)) (before after : Option (List ℕ)) (old new : List ℕ) (parts : List (List (List Field))) (last : List Field) : Type 0 where
  pub first : List (List Field)
  pub is : all ≡ first ++ (flat_map (λ part. part) parts ++ (last ∷ []))
  pub puts : Puts before after old new first

module _ {all : List (List Field)} {before mid : Option (List ℕ)} {old left : List ℕ} {last : List Field} where
  -- the next part, which is what its rows are
  module _ {X : Type 0} (part : X → List (List Field)) {xs ys : X} (same : xs ≡ ys) {parts : List (List (List Field))} (h : Midway all before mid old left (part ys ∷ parts) last) where
    abbrev rest : List (List Field)
    rest = flat_map (λ p. p) parts ++ (last ∷ [])

    next : all ≡ h.first ++ (part xs ++ rest)
    next = h.is ∙ ap (λ l. h.first ++ l) (append_assoc (part ys) (flat_map (λ p. p) parts) (last ∷ []) ∙ ap (λ x. part x ++ rest) (sym same))

    module _ {after : Option (List ℕ)} where
      -- it was put
      pub midway-then : {new : List ℕ} → Puts mid after left new (part xs) → Midway all before after old new parts last
      midway-then {new} g = record {
        first = h.first ++ part xs;
        is = next ∙ sym (append_assoc h.first (part xs) rest);
        puts = puts-then before mid after old left h.first h.puts new (part xs) g;
      }

      -- it ended in it
      pub stops-midway : StopsIn mid after left (part xs) → StopsIn before after old all
      stops-midway g = stops-in before mid after old left h.first h.puts (part xs) rest next g

  -- it ended before the last record
  pub stops-between : Midway all before mid old left [] last → StopsIn before mid old all
  stops-between h = stops-in before mid mid old left h.first h.puts [] (last ∷ []) h.is (stops-none mid left [])

  -- the last record
  module _ (h : Midway all before mid old left [] last) {end : List Field} (same : last ≡ end) where
    ends : all ≡ h.first ++ (end ∷ [])
    ends = h.is ∙ ap (λ l. h.first ++ (l ∷ [])) same

    module _ {after : Option (List ℕ)} where
      -- it was put
      pub puts-last : {new : List ℕ} → Puts mid after left new (end ∷ []) → Puts before after old new all
      puts-last {new} g = subst (Puts before after old new) (sym ends) (puts-then before mid after old left h.first h.puts new (end ∷ []) g)

      -- it ended in it
      pub stops-last : StopsIn mid after left (end ∷ []) → StopsIn before after old all
      stops-last g = stops-in before mid after old left h.first h.puts (end ∷ []) [] ends g

-- ---- the records of tables, where no text was gathered before

module _ (t : Database) (before mid : Option (List ℕ)) (old : List ℕ) (none : old ≡ []) where
  spelt-records : (rows : List (List (List ℕ))) → AllZip AreSpelt (records Two t) rows → AreRecords2 t rows
  unfolding AreRecordsIn
  spelt-records rows spelt = (tt, spelt)

  -- the first of them were written
  pub begun-records : StopsIn before mid old (records Two t) → BeginsToWrite before mid (AreFirstRecords2 t)
  begun-records h =
      let cut : take (length h.first) (records Two t) ≡ h.first = ap (take (length h.first)) h.parts ∙ take-append_seam h.first h.others in
      (h.rows, (length h.first, subst (λ l. AllZip AreSpelt l h.rows) (sym cut) h.are_spelt), subst (λ l. Begins before mid (l ++ csv_text h.rows)) none h.begins)

  module _ (left : List ℕ) (h : Puts before mid old left (records Two t)) (after : Option (List ℕ)) where
    sends : Sends before mid (csv_text h.rows) left
    sends = subst (λ l. Sends before mid (l ++ csv_text h.rows) left) none h.sends

    -- all of them, since what was gathered was sent too
    pub written-records : Sends mid after left [] → Writes before after (AreRecords2 t)
    written-records rest = (h.rows, spelt-records h.rows h.are_spelt, sent-end before mid after h.rows left sends rest)

    -- a beginning, since a beginning of what was gathered was sent
    pub begun-last : Begins mid after left → BeginsToWrite before after (AreFirstRecords2 t)
    begun-last begun =
        let cut : take (length (records Two t)) (records Two t) ≡ records Two t = take-length (records Two t) in
        (h.rows, (length (records Two t), subst (λ l. AllZip AreSpelt l h.rows) (sym cut) h.are_spelt), begins-end before mid after h.rows left sends begun)
