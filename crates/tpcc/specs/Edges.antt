-- The output of a command: printed lines, and files that get names.
use Rattle.std.specs.Prelude.{◌≡◌, ℕ, List, [], ◌∷◌, ◌++◌, map, Option, None, Some}
use Rattle.files.specs.Sending.{Writes}
use Rattle.tpcc.specs.OutputFiles.{NamedTexts, Shelves}

-- the text of the lines, with a line feed behind each
abbrev pub lines_text : List (List ℕ) → List ℕ
lines_text [] = []
lines_text (line ∷ lines) = line ++ (10 ∷ []) ++ lines_text lines

-- if it is known how each of the values is displayed, `Is` holds of the text of their lines
abbrev pub OfLines : {L : Type 0} → (L → Option (List ℕ)) → List L → (List ℕ → Type 0) → Type 0
OfLines {L} output lines Is =
    (text : L → List ℕ) → ((line : L) → output line ≡ Some (text line)) → Is (lines_text (map text lines))

module _ {F : Type 0} (contents : F → Option (List ℕ)) where
  -- the file has got its name and contains the text of records of which `AreRows` holds; if there is no file, none has got a name
  abbrev pub NamesFile : Option F → NamedTexts → NamedTexts → (List (List (List ℕ)) → Type 0) → Type 0
  NamesFile None named named' AreRows = named' ≡ named
  NamesFile (Some file) named named' AreRows = (text : Option (List ℕ)) × Writes (contents file) text AreRows × Shelves named named' text

  -- the file, now with its path, contains the text of records of which `AreRows` holds; if there was no file, there is none
  abbrev pub HasWritten : {P : Type 0} → Option F → (List (List (List ℕ)) → Type 0) → Option (P × F) → Type 0
  HasWritten None AreRows written = written ≡ None
  HasWritten (Some file) AreRows None = ⊥
  HasWritten (Some file) AreRows (Some whole) = Writes (contents file) (contents whole.1) AreRows

  -- the file has got its name, with its contents unchanged; if there is no file, none has got a name
  abbrev pub IsNamed : {P : Type 0} → Option (P × F) → NamedTexts → NamedTexts → Type 0
  IsNamed None named named' = named' ≡ named
  IsNamed (Some whole) named named' = Shelves named named' (contents whole.1)
