use Rattle.std.proofs.Common.{◌≡◌, List, [], length, map, Some, None, ap, sym, ◌∙◌, refl, arith}
use Rattle.std.specs.List.{slice_get}
use Rattle.std.proofs.lemmas.List.Elements.{All-same, All-nil}
use Rattle.rows.specs.declared.records.Customer.{Customer}
use Rattle.rows.specs.declared.records.History.{History}
use Rattle.population.specs.Book.{owned}
use Rattle.population.specs.Rows.{IsOpeningDistrict}
use Rattle.population.proofs.districts.DistrictTables.new.Goals as goal

pub returns : goal.returns
returns c scale now = record {
  districts_count = ap length c.new.ensures.items;
  district_rows = All-same (IsOpeningDistrict scale) _ [] c.new.ensures.items (All-nil _);
  customers_count = omega (arith, ap length c.new-2.ensures.items);
  customer_rows = λ place row found.
      let nothing : None ≡ Some row = sym (ap (λ (l : List Customer). slice_get l place) c.new-2.ensures.items) ∙ found in
      absurd cc;
  histories_count = ap length c.new-3.ensures.items;
  payments = λ place list found.
      let nothing : None ≡ Some list = sym (ap (λ (l : List (List History)). slice_get l place) c.new-3.ensures.items) ∙ found in
      absurd cc;
  owners = [];
  owners_count = refl;
  permuted = tt;
  owned = ap (map owned) c.new-4.ensures.none;
  book = c.new-4.ensures.book scale now;
}
