use Rattle.std.proofs.Common.{◌≡◌, length, Some}
use Rattle.std.specs.List.{All, slice_get}
use Rattle.number_draws.specs.Draws.{random_of}
use Rattle.rows.specs.declared.records.Item.{Item}
use Rattle.population.specs.Rows.{IsOpeningItem}
use Rattle.population.proofs.items.items.Given as goal

abbrev pub invariant-loop : goal.invariant-loop
invariant-loop l = record {
  count : length l.items.items ≡ l.counter;
  rows : All IsOpeningItem l.items.items;
  start : l.counter ≡ 0 → l.draws.numbers ≡ l.fn.draws.numbers;
  first : (row : Item) → slice_get l.items.items 0 ≡ Some row → row.im_id ≡ random_of 1 10000 l.fn.draws.numbers;
}
