-- The contents of the files that have got their names.
use Rattle.std.specs.Prelude.{◌≡◌, ℕ, List, [], ◌∷◌, ◌++◌, Option, None, Some}

-- the texts of the files that have got their names, in order, each and all where they are known
abbrev pub NamedTexts : Type 0
NamedTexts = Option (List (Option (List ℕ)))

-- if it is known which texts have got names, this one has got its name after them
abbrev pub Shelves : NamedTexts → NamedTexts → Option (List ℕ) → Type 0
Shelves None new text = Unit {0}
Shelves (Some texts) new text = new ≡ Some (texts ++ text ∷ [])
