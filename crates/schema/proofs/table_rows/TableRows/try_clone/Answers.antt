use Rattle.std.proofs.Common.{rules}
use Rattle.std.proofs.lemmas.List.Elements.{same_from_all_zip}
use Rattle.std.proofs.lemmas.Map.Entries.{entries_from_clone}
use Rattle.schema.proofs.table_rows.TableRows.try_clone.Goals as goal

pub returns : goal.returns
returns c = record {
  items = search (rules, same_from_all_zip, c.in_ok-clone.ensures.cases);
  warehouses = search (rules, same_from_all_zip, c.in_ok-clone-2.ensures.cases);
  districts = search (rules, same_from_all_zip, c.in_ok-clone-3.ensures.cases);
  stocks = search (rules, same_from_all_zip, c.in_ok-clone-4.ensures.cases);
  customers = search (rules, same_from_all_zip, c.in_ok-clone-5.ensures.cases);
  histories = search (rules, same_from_all_zip, c.in_ok-clone-6.ensures.cases);
  orders = entries_from_clone _ _ (λ x y h. search rules) (λ v w h. search rules) _ _ c.in_ok-clone-7.ensures.cases;
  new_orders = entries_from_clone _ _ (λ x y h. search rules) (λ v w h. search rules) _ _ c.in_ok-clone-8.ensures.cases;
  lines = c.in_ok-try_clone.ensures;
}
