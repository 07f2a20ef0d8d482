-- How many fields the lines of an order have that is placed.
use Rattle.std.proofs.Common.{◌≡◌, ◌*◌, suc, List, [], ◌∷◌, length, flat_map, refl, arith}
use Rattle.requests.specs.declared.new_order.OrderedLine.{OrderedLine}
use Rattle.terminals.specs.NewOrder.{ordered_line_fields}

pub lines-count : (lines : List OrderedLine) → length (flat_map ordered_line_fields lines) ≡ 3 * length lines
lines-count [] = refl
lines-count (line ∷ lines) =
    let rest : length (flat_map ordered_line_fields lines) ≡ 3 * length lines = lines-count lines in
    let all : suc (suc (suc (length (flat_map ordered_line_fields lines)))) ≡ 3 * suc (length lines) = omega arith in
    all
