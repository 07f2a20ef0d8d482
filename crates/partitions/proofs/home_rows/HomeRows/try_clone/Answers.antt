use Rattle.std.proofs.Common.{rules}
use Rattle.std.proofs.lemmas.List.Elements.{same_from_all_zip}
use Rattle.std.proofs.lemmas.Map.Entries.{entries_from_clone}
use Rattle.partitions.proofs.home_rows.HomeRows.try_clone.Goals as goal

pub returns : goal.returns
returns c = record {
  warehouse = c.copy.ensures;
  districts = search (rules, same_from_all_zip, c.in_ok-clone.ensures.cases);
  stocks = search (rules, same_from_all_zip, c.in_ok-clone-2.ensures.cases);
  customers = search (rules, same_from_all_zip, c.in_ok-clone-3.ensures.cases);
  histories = search (rules, same_from_all_zip, c.in_ok-clone-4.ensures.cases);
  orders = entries_from_clone _ _ (λ x y h. search rules) (λ v w h. search rules) _ _ c.in_ok-clone-5.ensures.cases;
  new_orders = c.in_ok-try_clone.ensures;
  lines = c.in_ok-try_clone-2.ensures;
}
