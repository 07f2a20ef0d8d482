-- The answer to a report to a meeting of which one owner has all places.
use Rattle.std.specs.Prelude.{ℕ, List}
use Rattle.rendezvous.specs.declared.sole.SoleReported.{SoleReported}
use Rattle.rendezvous.specs.declared.sole.SoleReported.TheVariants.{NotLast, Last}

module _ {R : Type 0} {most : ℕ} where
  -- the report was the last one
  abbrev pub IsLast : SoleReported R most → Type 0
  IsLast NotLast = ⊥
  IsLast (Last results) = Unit {0}

  -- P holds if another place is awaited
  abbrev pub OnNotLast : SoleReported R most → Type 0 → Type 0
  OnNotLast NotLast P = P
  OnNotLast (Last results) P = Unit {0}

  -- P holds of the results if the report was the last one
  abbrev pub IfLast : SoleReported R most → (List R → Type 0) → Type 0
  IfLast NotLast P = Unit {0}
  IfLast (Last results) P = P results
