use Rattle.std.proofs.Common.{[], sym, ap, subst, ◌∙◌, rules}
use Rattle.std.specs.List.{filter, flat_map}
use Rattle.std.specs.List.Sorted.{IsStrictlySortedBy}
use Rattle.std.specs.Map.{keys_of}
use Rattle.rows.specs.Keys.{line_cmp}
use Rattle.population.specs.Book.{IsBook, is_new_order, line_keys}
use Rattle.population.proofs.order_book.OrderBook.new.Goals as goal

no_lines_ordered : IsStrictlySortedBy line_cmp []
unfolding IsStrictlySortedBy
no_lines_ordered = tt

pub returns-clause-book : goal.returns-clause-book
returns-clause-book c = λ scale now. subst (IsBook scale now c.new.result c.new-2.result) (sym c.new-3.ensures) (record {
  new_keys = ap keys_of c.new-2.ensures.empty ∙ sym (ap (λ es. filter (is_new_order scale) (keys_of es)) c.new.ensures.empty);
  line_keys = sym (ap (flat_map line_keys) c.new.ensures.empty);
  order_rows = search (rules, c.new.ensures.empty);
  line_rows = search rules;
  orders_ordered = c.new.ensures.ordered;
  new_orders_ordered = c.new-2.ensures.ordered;
  lines_ordered = no_lines_ordered;
})
