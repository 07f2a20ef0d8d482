-- Files of records that end with the number of records.
use Rattle.std.specs.Prelude.{◌≡◌, ◌⊎◌, ℕ, List, [], ◌∷◌, ◌++◌, length, codes}
use Rattle.std.specs.Fmt.{decimal}
use Rattle.files.specs.Sending.{OfFirst}
use Rattle.terminals.specs.Numbered.{AreNumbered}

-- The end record after this many records.
abbrev pub end_fields : ℕ → List (List ℕ)
end_fields count = codes "END" ∷ decimal count ∷ []

-- A record for each item that satisfies `IsRecord` with the item and its place from 0, and then the end record.
abbrev pub IsListing : {T : Type 0} → (ℕ → T → List (List ℕ) → Type 0) → List T → List (List (List ℕ)) → Type 0
IsListing IsRecord items rows =
    (listed : List (List (List ℕ))) × AreNumbered IsRecord 0 items listed × (rows ≡ listed ++ (end_fields (length items) ∷ []))

-- The first of these records, any number of them, or all.
abbrev pub BeginsListing : {T : Type 0} → (ℕ → T → List (List ℕ) → Type 0) → List T → List (List (List ℕ)) → Type 0
BeginsListing {T} IsRecord items rows = OfFirst (λ (first : List T). AreNumbered IsRecord 0 first) items rows ⊎ IsListing IsRecord items rows
