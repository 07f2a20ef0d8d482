-- What the first lines of an order leave, as they are placed one after another.
use Rattle.std.proofs.Common.{◌≡◌, ℕ, ◌+◌, ◌<◌, ◌≤◌, List, [], ◌∷◌, ◌++◌, map, length, drop, get_or, Option, Some, None, refl, sym, ap, ◌∙◌, length-append, append_assoc}
use Rattle.std.specs.Option.{option_map}
use Rattle.std.proofs.lemmas.List.{append-nil, map-append, at_drop_more, at_drop_all}
use Rattle.rows.specs.declared.records.Stock.{Stock}
use Rattle.rows.specs.declared.records.OrderLine.{OrderLine}
use Rattle.schema.specs.Database.{Database}
use Rattle.requests.specs.declared.new_order.NewOrder.{NewOrder}
use Rattle.requests.specs.declared.new_order.OrderedLine.{OrderedLine}
use Rattle.requests.specs.declared.new_order.NewOrderLine.{NewOrderLine}
use Rattle.machine.specs.declared.new_order_lines.LinePlaced.{LinePlaced}
use Rattle.machine.specs.NewOrderLines.{line_placed, lines_placed, before_all, columns}

-- these are the three columns of what the first lines leave
pub record AreSoFar (t : Database) (n : NewOrder) (index : ℕ) (rows : List OrderLine) (shown : List NewOrderLine) (stocks : List Stock) : Type 0 where
  pub left : List LinePlaced
  pub rows_are : rows ≡ map (λ (l : LinePlaced). l.row) left
  pub shown_are : shown ≡ map (λ (l : LinePlaced). l.shown) left
  pub stocks_are : stocks ≡ map (λ (l : LinePlaced). l.stock) left
  pub counted : length rows ≡ index
  pub rest : option_map (λ rest. left ++ rest) (lines_placed t n (index + 1) (drop index n.lines)) ≡ lines_placed t n 1 n.lines

nothing_before : {X : Type 0} (o : Option (List X)) → option_map (λ rest. [] ++ rest) o ≡ o
nothing_before None = refl
nothing_before (Some xs) = refl

one_before : {X : Type 0} (front : List X) (x : X) (o : Option (List X))
    → option_map (λ rest. (front ++ x ∷ []) ++ rest) o ≡ option_map (λ rest. front ++ rest) (before_all (Some x) o)
one_before front x None = refl
one_before front x (Some xs) = ap (λ l. Some l) (append_assoc front (x ∷ []) xs)

module _ (t : Database) (n : NewOrder) where
  pub none_so_far : AreSoFar t n 0 [] [] []
  none_so_far = record { left = []; rows_are = refl; shown_are = refl; stocks_are = refl; counted = refl; rest = nothing_before (lines_placed t n 1 n.lines) }

  -- what is left to be placed begins with the next line
  next : (index : ℕ) (line d : OrderedLine) → index < length n.lines → line ≡ get_or n.lines index d
      → lines_placed t n (index + 1) (drop index n.lines) ≡ before_all (line_placed t n (index + 1) line) (lines_placed t n (index + 1 + 1) (drop (index + 1) n.lines))
  next index line d below is =
      at_drop_more (lines_placed t n (index + 1)) n.lines index d below
      ∙ ap (λ l. before_all (line_placed t n (index + 1) l) (lines_placed t n (index + 1 + 1) (drop (index + 1) n.lines))) (sym is)

  pub one_more : (index : ℕ) (line d : OrderedLine) (p : LinePlaced) → index < length n.lines → line ≡ get_or n.lines index d → line_placed t n (index + 1) line ≡ Some p
      → (rows new_rows : List OrderLine) (shown new_shown : List NewOrderLine) (stocks new_stocks : List Stock) → AreSoFar t n index rows shown stocks
      → new_rows ≡ rows ++ p.row ∷ [] → new_shown ≡ shown ++ p.shown ∷ [] → new_stocks ≡ stocks ++ p.stock ∷ []
      → AreSoFar t n (index + 1) new_rows new_shown new_stocks
  one_more index line d p below is placed rows new_rows shown new_shown stocks new_stocks so_far more_rows more_shown more_stocks = record {
    left = so_far.left ++ p ∷ [];
    rows_are = more_rows ∙ ap (λ l. l ++ p.row ∷ []) so_far.rows_are ∙ sym (map-append (λ (l : LinePlaced). l.row) so_far.left (p ∷ []));
    shown_are = more_shown ∙ ap (λ l. l ++ p.shown ∷ []) so_far.shown_are ∙ sym (map-append (λ (l : LinePlaced). l.shown) so_far.left (p ∷ []));
    stocks_are = more_stocks ∙ ap (λ l. l ++ p.stock ∷ []) so_far.stocks_are ∙ sym (map-append (λ (l : LinePlaced). l.stock) so_far.left (p ∷ []));
    counted = ap length more_rows ∙ length-append rows (p.row ∷ []) ∙ ap (λ k. k + 1) so_far.counted;
    rest =
        let after = lines_placed t n (index + 1 + 1) (drop (index + 1) n.lines) in
        one_before so_far.left p after
        ∙ ap (λ o. option_map (λ rest. so_far.left ++ rest) (before_all o after)) (sym placed)
        ∙ ap (option_map (λ rest. so_far.left ++ rest)) (sym (next index line d below is))
        ∙ so_far.rest;
  }

  -- where a line can't be placed, the lines can't
  pub one_fails : (index : ℕ) (line d : OrderedLine) → index < length n.lines → line ≡ get_or n.lines index d → line_placed t n (index + 1) line ≡ None
      → (rows : List OrderLine) (shown : List NewOrderLine) (stocks : List Stock) → AreSoFar t n index rows shown stocks → lines_placed t n 1 n.lines ≡ None
  one_fails index line d below is fails rows shown stocks so_far =
      let after = lines_placed t n (index + 1 + 1) (drop (index + 1) n.lines) in
      sym so_far.rest
      ∙ ap (option_map (λ rest. so_far.left ++ rest)) (next index line d below is)
      ∙ ap (λ o. option_map (λ rest. so_far.left ++ rest) (before_all o after)) fails

  -- and in the end all are placed
  pub all_placed : (index : ℕ) (rows : List OrderLine) (shown : List NewOrderLine) (stocks : List Stock)
      → length n.lines ≤ index → AreSoFar t n index rows shown stocks → Some (rows, shown, stocks) ≡ option_map columns (lines_placed t n 1 n.lines)
  all_placed index rows shown stocks end so_far =
      let all : Some so_far.left ≡ lines_placed t n 1 n.lines =
      ap (λ l. Some l) (sym (append-nil so_far.left))
      ∙ ap (option_map (λ rest. so_far.left ++ rest)) (sym (at_drop_all (lines_placed t n (index + 1)) n.lines index end))
      ∙ so_far.rest in
      (λ i. Some (so_far.rows_are i, so_far.shown_are i, so_far.stocks_are i))
      ∙ ap (option_map columns) all
