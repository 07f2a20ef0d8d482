-- Numbered records.
use Rattle.std.specs.Prelude.{ℕ, ◌+◌, List, [], ◌∷◌}

-- A record for each item that satisfies `IsRecord` with the item and its number. The first item has this number.
unfoldable pub AreNumbered : {T : Type 0} → (ℕ → T → List (List ℕ) → Type 0) → ℕ → List T → List (List (List ℕ)) → Type 0
AreNumbered IsRecord number [] [] = Unit {0}
AreNumbered IsRecord number [] (fields ∷ rows) = ⊥
AreNumbered IsRecord number (item ∷ items) [] = ⊥
AreNumbered IsRecord number (item ∷ items) (fields ∷ rows) = IsRecord number item fields × AreNumbered IsRecord (number + 1) items rows
