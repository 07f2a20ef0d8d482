use Rattle.std.proofs.Common.{◌≡◌, ◌&&◌}
use Rattle.std.specs.List.{list_all}
use Rattle.schema.specs.Scale.{has_item, has_warehouse}
use Rattle.schema.specs.Database.{is_line_number}
use Rattle.schema.proofs.row_rules.line_rules.Given as goal

-- with the lines that are left, what was found so far decides of each rule
abbrev pub invariant-loop-key : goal.invariant-loop-key
invariant-loop-key l = record {
  can_next : goal.iterator-loop-key.can_next l.key-iterator;
  finite : goal.iterator-loop-key.is_finite l.key-iterator;
  numbered : list_all (λ e. is_line_number e.0.number) l.lines ≡ (l.are_numbered && list_all (λ e. is_line_number e.0.number) l.key-iterator);
  items : list_all (λ e. has_item l.scale e.1.i_id) l.lines ≡ (l.have_items && list_all (λ e. has_item l.scale e.1.i_id) l.key-iterator);
  suppliers : list_all (λ e. has_warehouse l.scale e.1.supply_w_id) l.lines ≡ (l.have_suppliers && list_all (λ e. has_warehouse l.scale e.1.supply_w_id) l.key-iterator);
}
