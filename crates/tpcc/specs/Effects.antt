-- What a command reads, and what it changes.
use Rattle.std.specs.Prelude.{ℕ, List, Option}
use Rattle.tpcc.specs.OutputFiles.{NamedTexts}

-- an input: the bytes that are left of it, if they are known, and the fact that no read of it fails
pub record Source : Type 1 where
  pub remaining : Option (List ℕ)
  pub lasts : Type 0

-- the input of which `remaining` and `lasts` give what is known
abbrev pub source_of : {D : Type 0} → (D → Option (List ℕ)) → (D → Type 0) → D → Source
source_of remaining lasts input = record { remaining = remaining input; lasts = lasts input }

-- what is known of something before a call and after it
pub record Change (A : Type 0) : Type 0 where
  pub before : A
  pub after : A

-- what `known` gives of the old value, and of the new one
abbrev pub change : {X A : Type 0} → (X → A) → X → X → Change A
change known old new = record { before = known old; after = known new }

-- the output of a command: the text of the sink to which it prints, and the files that have got their names
pub record CommandOutput : Type 0 where
  pub printed : Change (Option (List ℕ))
  pub named : Change NamedTexts

-- the output whose sink has this text, and whose named files are these, before the call and after it
abbrev pub output_of : {A N : Type 0} → (A → Option (List ℕ)) → A → A → (N → NamedTexts) → N → N → CommandOutput
output_of text sink sink' texts files files' =
    record { printed = change text sink sink'; named = change texts files files' }
