-- The records of tables in format 2, put into a sink one table after the other.
use Rattle.std.proofs.Common.{drop, ◌≡◌, ℕ, List, [], ◌∷◌, ◌++◌, Option, sym, ap, subst, ◌∙◌}
use Rattle.std.specs.List.{flat_map}
use Rattle.schema.specs.declared.scale.Scale.{Scale}
use Rattle.schema.specs.declared.table_rows.TableRows.{TableRows}
use Rattle.schema.specs.Database.{Database}
use Rattle.schema.specs.Rows.{database, FitsScale, HasCounts}
use Rattle.dataset.specs.declared.format.Format.TheVariants.{One, Two}
use Rattle.dataset.specs.Records.{Field, records, records_by_table, end_fields, header_fields}
use Rattle.dataset.specs.Writing.{Puts, StopsIn}
use Rattle.dataset.proofs.Tables.{sorted_by_table, records-sorted}
use Rattle.dataset.proofs.Written.{Midway, puts-none, stops-in}

-- the header and so many tables were put
abbrev pub PutUpTo : ℕ → Database → Scale → TableRows → Option (List ℕ) → Option (List ℕ) → List ℕ → List ℕ → Type 0
PutUpTo n t scale rows a b old new = Midway (records Two t) a b old new (drop n (sorted_by_table Two scale rows)) (end_fields (records_by_table One (database scale rows)))

-- the tables are of this scale and have these rows
module _ {t : Database} {scale : Scale} {rows : TableRows} (is : scale ≡ t.scale) (same : database t.scale rows ≡ t) (fits : FitsScale t.scale rows) where
  pub has_counts : HasCounts scale rows
  has_counts = subst (λ s. HasCounts s rows) (sym is) fits.counts

  -- the records behind the header
  abbrev rest : List (List Field)
  rest = flat_map (λ part. part) (sorted_by_table Two scale rows) ++ (end_fields (records_by_table One (database scale rows)) ∷ [])

  header_first : records Two t ≡ (header_fields Two scale ∷ []) ++ rest
  header_first = ap (records Two) (sym (ap (λ s. database s rows) is ∙ same)) ∙ records-sorted scale rows has_counts Two

  module _ {a b : Option (List ℕ)} {old : List ℕ} where
    -- it ended in the header
    pub stops-header : StopsIn a b old (header_fields Two scale ∷ []) → StopsIn a b old (records Two t)
    stops-header g = stops-in a a b old old [] (puts-none a old) (header_fields Two scale ∷ []) rest header_first g

    module _ {left : List ℕ} (header : Puts a b old left (header_fields Two scale ∷ [])) where
      -- the header was put
      pub midway-start : PutUpTo 0 t scale rows a b old left
      midway-start = record { first = header_fields Two scale ∷ []; is = header_first; puts = header }
