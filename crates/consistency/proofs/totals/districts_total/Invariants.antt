use Rattle.std.proofs.Common.{◌≡◌, ◌^◌, ◌*◌, drop, ◌+ℤ◌}
use Rattle.consistency.specs.Totals.{sum_of, IsWithin}
use Rattle.consistency.proofs.totals.districts_total.Given as goal

abbrev pub invariant-loop-district : goal.invariant-loop-district
invariant-loop-district l = record {
  so_far : l.total +ℤ sum_of (λ district. district.ytd) (drop l.district-index l.districts) ≡ sum_of (λ district. district.ytd) l.districts;
  within : IsWithin (2 ^ 50 * l.district-index) l.total;
}
