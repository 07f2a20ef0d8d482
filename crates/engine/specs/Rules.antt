-- The rules by which requests are refused.
use Rattle.std.specs.Prelude.{ℕ}
use Rattle.schema.specs.declared.scale.Scale.{Scale}
use Rattle.schema.specs.Database.{Database}

-- the scale, by which requests are checked, and the most entries of the log
pub record Rules : Type 0 where
  pub scale : Scale
  pub most : ℕ

-- the rules of serving from these tables, with a log of so many entries at most
abbrev pub rules_of : Database → ℕ → Rules
rules_of opening most = record { scale = opening.scale; most = most }
