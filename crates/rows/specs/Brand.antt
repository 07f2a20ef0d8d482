-- Which items are brand items (clause 2.4.2.2).
use Rattle.std.specs.Prelude.{◌≡◌, ◌↔◌, ℕ, Bool, nat_eq, ◌&&◌, ◌||◌, if◌then◌else◌, List, [], ◌∷◌, ◌++◌, codes, IsTrue}
use Rattle.std.specs.List.{starts_with}
use Rattle.rows.specs.declared.stock_rules.BrandGeneric.{BrandGeneric}
use Rattle.rows.specs.declared.stock_rules.BrandGeneric.TheVariants.{Brand, Generic}

-- the text contains the word
abbrev pub HasWord : List ℕ → List ℕ → Type 0
HasWord text word = (before : List ℕ) × (after : List ℕ) × (text ≡ before ++ (word ++ after))

-- I_DATA or S_DATA of a brand item contains ORIGINAL
abbrev pub IsOriginal : List ℕ → Type 0
IsOriginal text = HasWord text (codes "ORIGINAL")

-- the same as a test: the text, or one of its suffixes, starts with the word
abbrev pub has_word : List ℕ → List ℕ → Bool
has_word [] word = starts_with nat_eq [] word
has_word (byte ∷ rest) word = starts_with nat_eq (byte ∷ rest) word || has_word rest word

-- whether the text contains ORIGINAL
abbrev pub has_original : List ℕ → Bool
has_original text = has_word text (codes "ORIGINAL")

-- B if I_DATA and S_DATA both contain ORIGINAL, otherwise G
abbrev pub brand_of : List ℕ → List ℕ → BrandGeneric
brand_of i_data s_data = if has_original i_data && has_original s_data then Brand else Generic

-- the test is true exactly if the relation holds
abbrev pub HasOriginalIsExact : Type 0
HasOriginalIsExact = (text : List ℕ) → IsTrue (has_original text) ↔ IsOriginal text
