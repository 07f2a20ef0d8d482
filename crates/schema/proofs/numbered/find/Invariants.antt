use Rattle.std.proofs.Common.{◌≡◌, ◌+◌, drop}
use Rattle.schema.specs.NumberedRows.{place_in, is_in}
use Rattle.schema.proofs.numbered.find.Given as goal

abbrev pub invariant-loop-place : goal.invariant-loop-place
invariant-loop-place l = record {
  place : place_in l.number l.rows ≡ l.place + place_in l.number (drop l.place l.rows);
  there : is_in l.number l.rows ≡ is_in l.number (drop l.place l.rows);
}
