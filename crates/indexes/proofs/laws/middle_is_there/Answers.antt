use Rattle.std.proofs.Common.{◌≡◌, Bool, true, false, T, ◌&&◌, refl, ◌∙◌}
use Rattle.std.specs.declared.cmp.Ordering.{Ordering}
use Rattle.std.specs.declared.cmp.Ordering.TheVariants.{Less, Equal, Greater}
use Rattle.std.specs.Ordering.{is_eq}
use Rattle.std.specs.FinMap.{entries, entries_sorted, get-entries, slice_cmp-IsAntisymmetric, nat_cmp-IsAntisymmetric}
use Rattle.rows.specs.Keys.{customer_cmp}
use Rattle.schema.specs.Scale.{customer_key}
use Rattle.schema.proofs.KeyOrders.{customers_total}
use Rattle.indexes.specs.Namesakes.{is_namesake}
use Rattle.indexes.proofs.Members.{passed, found_at}
use Rattle.indexes.proofs.laws.middle_is_there.Goals as goal

from_T : (b : Bool) → T b → b ≡ true
from_T true h = refl
from_T false h = absurd h

and_second : (a b : Bool) → (a && b) ≡ true → b ≡ true
and_second true b h = h
and_second false b h = absurd cc

equal : (o : Ordering) → is_eq o ≡ true → o ≡ Equal
equal Less h = absurd cc
equal Equal h = refl
equal Greater h = absurd cc

pub returns : goal.returns
returns c = λ t home last number middle.
    let row = middle.0 in
    let one = middle.1.is_one in
    let held = passed (is_namesake home last) (entries t.customers) (customer_key home number, row) one.0 one.1 one.2 in
    let there = held.1 in (
      row,
      get-entries t.customers (customer_key home number) ∙ found_at customer_cmp customers_total (customer_key home number) row (entries t.customers) (from_T _ (entries_sorted t.customers)) there.0 there.1 there.2,
      slice_cmp-IsAntisymmetric nat_cmp-IsAntisymmetric row.last last (equal _ (and_second _ _ held.0)),
    )
