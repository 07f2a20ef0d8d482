-- The run of a district, said of the tables and said of the district's rows.
use Rattle.std.proofs.Common.{◌≡◌, ℕ, ◌+◌, ◌<◌, true, List, [], ◌∷◌, ◌++◌, length, get_or, slice_get, Option, Some, is_some, IsSomeAnd, MatchOption, inl, inr, sym, subst, ◌∙◌, arith}
use Rattle.std.specs.FinMap as map
use Rattle.std.proofs.lemmas.Bool.{cases_lt}
use Rattle.std.proofs.lemmas.List.{get_or_append_left, get_or_push, length_push}
use Rattle.std.proofs.lemmas.Option.{slice_get-get_or}
use Rattle.rows.specs.declared.keys.DistrictKey.{DistrictKey}
use Rattle.rows.specs.declared.records.Customer.{Customer}
use Rattle.schema.specs.Scale.{customer_key}
use Rattle.schema.specs.Database.{Database}
use Rattle.partitions.specs.Slots.{Slots, AreRows}
use Rattle.indexes.specs.Namesakes.{Keyed, namesakes, IsMiddle, IsMiddleOf}
use Rattle.indexes.specs.NameOrder.{IsNameRun, last_of, first_of, last_name, first_name, last_at, first_at, namesakes_among, IsMiddleAmong, FitsNamesBy}
use Rattle.indexes.proofs.DistrictEntries.{row_count, same_namesakes}

same_run : (L M F G : ℕ → List ℕ) (m n : ℕ) (run : List ℕ) → L ≡ M → F ≡ G → m ≡ n → IsNameRun L F m run → IsNameRun M G n run
same_run L M F G m n run l f c h =
    subst (λ (x : ℕ → List ℕ). IsNameRun x G n run) l (subst (λ (x : ℕ → List ℕ). IsNameRun L x n run) f (subst (λ (x : ℕ). IsNameRun L F x run) c h))

module _ (slot : Slots) (districts : ℕ) (t : Database) (here : AreRows slot districts t) (home : DistrictKey) (rows : List Customer) (read : (c : ℕ) → slice_get rows c ≡ map.get t.customers (customer_key home (c + 1))) (placed : is_some (slot home) ≡ true) where
  last_is : last_at rows ≡ last_name t home
  last_is i place = last_of (read place i)

  first_is : first_at rows ≡ first_name t home
  first_is i place = first_of (read place i)

  pub run_of_rows : (run : List ℕ) → IsNameRun (last_name t home) (first_name t home) t.scale.customers run → IsNameRun (last_at rows) (first_at rows) (length rows) run
  run_of_rows run h = same_run _ _ _ _ _ _ run (sym last_is) (sym first_is) (sym (row_count slot districts t here home rows read placed)) h

  pub run_of_tables : (run : List ℕ) → IsNameRun (last_at rows) (first_at rows) (length rows) run → IsNameRun (last_name t home) (first_name t home) t.scale.customers run
  run_of_tables run h = same_run _ _ _ _ _ _ run last_is first_is (row_count slot districts t here home rows read placed) h

  pub middle_of_tables : (last : List ℕ) (r : Option ℕ) → MatchOption r (namesakes_among rows home last ≡ []) (IsMiddleAmong rows home last) → MatchOption r (namesakes t.customers home last ≡ []) (IsMiddleOf t.customers home last)
  middle_of_tables last r h =
      subst (λ (l : List Keyed). MatchOption r (l ≡ []) (λ number. (row : Customer) × IsMiddle l (customer_key home number, row))) (sym (same_namesakes slot districts t here home rows read last)) h

-- ---- places

-- the run of the district at a place
abbrev pub IsRunAt : Slots → Database → ℕ → List ℕ → Type 0
IsRunAt slot t place run = (home : DistrictKey) → slot home ≡ Some place → IsNameRun (last_name t home) (first_name t home) t.scale.customers run

-- runs in the order of the places fit
pub fits_by_places : (slot : Slots) (districts : ℕ) (t : Database) → AreRows slot districts t → (index : List (List ℕ)) → length index ≡ districts
    → ((k : ℕ) → k < length index → IsRunAt slot t k (get_or index k [])) → FitsNamesBy slot index t
fits_by_places slot districts t here index long runs home place at =
    let below : place < length index = omega (arith, here.within home place at) in
    subst (λ r. IsSomeAnd r (IsNameRun (last_name t home) (first_name t home) t.scale.customers)) (sym (slice_get-get_or index place [] below)) (runs place below home at)

-- one run more
pub runs_more : (P : ℕ → List ℕ → Type 0) (runs : List (List ℕ)) (run : List ℕ) (slot : ℕ) → length runs ≡ slot → ((k : ℕ) → k < length runs → P k (get_or runs k [])) → P slot run
    → (k : ℕ) → k < length (runs ++ run ∷ []) → P k (get_or (runs ++ run ∷ []) k [])
runs_more P runs run slot long each one k below =
    elim (cases_lt k (length runs)) [
      | inl h ↦ subst (P k) (sym (get_or_append_left runs (run ∷ []) [] k h)) (each k h)
      | inr h ↦
          let more : length (runs ++ run ∷ []) ≡ length runs + 1 = length_push runs run in
          let last : length runs ≡ k = omega arith in
          let here : slot ≡ k = sym long ∙ last in
          subst (P k) (sym (get_or_push runs run [] k last)) (subst (λ n. P n run) here one)
    ]
