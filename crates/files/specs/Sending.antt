-- What a sink has received of a text that is sent to it.
use Rattle.std.specs.Prelude.{◌≡◌, ℕ, List, ◌++◌, Option, take}
use Rattle.std.specs.Io.KnownBytes.{Appends}
use Rattle.files.specs.Written.{csv_text}

-- if the contents of the sink are known, a prefix of the text was appended to them, and this part of the text is left
pub record Sends (before after : Option (List ℕ)) (text left : List ℕ) : Type 0 where
  pub sent : List ℕ
  pub appended : Appends before after sent
  pub parts : text ≡ sent ++ left

-- a prefix of the text was appended to the contents of the sink, and nothing else
abbrev pub Begins : Option (List ℕ) → Option (List ℕ) → List ℕ → Type 0
Begins before after text = (left : List ℕ) × Sends before after text left

-- the text of some records with this property was appended to the contents of the sink
abbrev pub Writes : Option (List ℕ) → Option (List ℕ) → (List (List (List ℕ)) → Type 0) → Type 0
Writes before after AreRows = (rows : List (List (List ℕ))) × AreRows rows × Appends before after (csv_text rows)

-- a prefix of such a text was appended
abbrev pub BeginsToWrite : Option (List ℕ) → Option (List ℕ) → (List (List (List ℕ)) → Type 0) → Type 0
BeginsToWrite before after AreRows = (rows : List (List (List ℕ))) × AreRows rows × Begins before after (csv_text rows)

-- these are the records of the first items, of some number of them
abbrev pub OfFirst : {T : Type 0} → (List T → List (List (List ℕ)) → Type 0) → List T → List (List (List ℕ)) → Type 0
OfFirst AreRecords items rows = (count : ℕ) × AreRecords (take count items) rows
