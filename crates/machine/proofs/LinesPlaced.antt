-- What the lines of an order leave, one after another, is what they leave all at once.
use Rattle.std.proofs.Common.{◌≡◌, ℕ, ◌+◌, List, [], ◌∷◌, map, Option, Some, None, refl, ap, ◌∙◌}
use Rattle.std.specs.Option.{option_map, option_and_then}
use Rattle.std.specs.FinMap.{get}
use Rattle.rows.specs.declared.records.Item.{Item}
use Rattle.rows.specs.declared.records.Stock.{Stock}
use Rattle.schema.specs.Database.{Database}
use Rattle.requests.specs.declared.new_order.NewOrder.{NewOrder}
use Rattle.requests.specs.declared.new_order.OrderedLine.{OrderedLine}
use Rattle.machine.specs.declared.new_order_lines.LinePlaced.{LinePlaced}
use Rattle.machine.specs.NewOrder.{stock_key_of, taken_from, stock_taken, items_found, all_there, supply, line_rows, lines_shown, line_row}
use Rattle.machine.specs.NewOrderLines.{left_by, line_placed_by, before_all, lines_placed}
use Rattle.machine.proofs.StocksInTurn.{taken_at, AreTaken}

-- the results of lines, from that number on, follow from the rows of their items and of their stock
pub record AreLeft (t : Database) (n : NewOrder) (number : ℕ) (lines : List OrderedLine) (items : List Item) (left : List LinePlaced) : Type 0 where
  pub stocks : List Stock
  pub found : all_there (map (supply t n) lines) ≡ Some stocks
  pub rows : map (λ (l : LinePlaced). l.row) left ≡ line_rows n.home lines items stocks
  pub shown : map (λ (l : LinePlaced). l.shown) left ≡ lines_shown n.lines number lines items stocks
  pub taken : AreTaken n.home.w_id n.lines t.stocks lines (map (λ (l : LinePlaced). l.stock) left)

module _ (t : Database) (n : NewOrder) where
  -- and they leave nothing where one of the rows of STOCK can't be taken from
  abbrev pub Agrees : ℕ → List OrderedLine → List Item → Option (List LinePlaced) → Type 0
  Agrees number lines items None = all_there (map (supply t n) lines) ≡ None
  Agrees number lines items (Some left) = AreLeft t n number lines items left

  with_rest : (number : ℕ) (line : OrderedLine) (lines : List OrderedLine) (item : Item) (items : List Item) (stock new : Stock)
      → supply t n line ≡ Some stock → taken_at n.home.w_id n.lines t.stocks line ≡ Some new
      → (rest : Option (List LinePlaced)) → Agrees (number + 1) lines items rest
      → Agrees number (line ∷ lines) (item ∷ items) (before_all (Some (left_by n number line item stock new)) rest)
  with_rest number line lines item items stock new s e None h =
      ap (λ o. all_there (o ∷ map (supply t n) lines)) s ∙ ap (option_map (λ xs. stock ∷ xs)) h
  with_rest number line lines item items stock new s e (Some left) h = record {
    stocks = stock ∷ h.stocks;
    found = ap (λ o. all_there (o ∷ map (supply t n) lines)) s ∙ ap (option_map (λ xs. stock ∷ xs)) h.found;
    rows = ap (λ l. line_row n.home line item stock ∷ l) h.rows;
    shown = ap (λ l. (left_by n number line item stock new).shown ∷ l) h.shown;
    taken = (e, h.taken);
  }

  with_line : (number : ℕ) (line : OrderedLine) (lines : List OrderedLine) (item : Item) (items : List Item) (rest : Option (List LinePlaced))
      → Agrees (number + 1) lines items rest
      → (o : Option Stock) → get t.stocks (stock_key_of line) ≡ o
      → Agrees number (line ∷ lines) (item ∷ items) (before_all (line_placed_by n number line (Some item) o) rest)
  with_line number line lines item items rest h None e =
      ap (λ o. all_there (o ∷ map (supply t n) lines))
      (ap (option_and_then (λ row. option_map (λ new. row) (stock_taken n.home.w_id row (taken_from (stock_key_of line) n.lines)))) e)
  with_line number line lines item items rest h (Some stock) e =
      let taken = taken_from (stock_key_of line) n.lines in
      let supplied = ap (option_and_then (λ row. option_map (λ new. row) (stock_taken n.home.w_id row taken))) e in
      let left = ap (option_and_then (λ row. stock_taken n.home.w_id row taken)) e in
      elim (stock_taken n.home.w_id stock taken) as (λ r. stock_taken n.home.w_id stock taken ≡ r → Agrees number (line ∷ lines) (item ∷ items) (before_all (option_map (left_by n number line item stock) r) rest)) [
        | None ↦ λ f. ap (λ o. all_there (o ∷ map (supply t n) lines)) (supplied ∙ ap (option_map (λ new. stock)) f)
        | Some new ↦ λ f. with_rest number line lines item items stock new (supplied ∙ ap (option_map (λ new. stock)) f) (left ∙ f) rest h
      ] refl

  pub agrees : (lines : List OrderedLine) (number : ℕ) (items : List Item) → items_found t lines ≡ Some items → Agrees number lines items (lines_placed t n number lines)
  agrees [] number items e = record { stocks = []; found = refl; rows = refl; shown = refl; taken = tt }
  agrees (line ∷ lines) number items e =
      elim (get t.items line.i_id) as (λ o. all_there (o ∷ map (λ line. get t.items line.i_id) lines) ≡ Some items
      → Agrees number (line ∷ lines) items (before_all (line_placed_by n number line o (get t.stocks (stock_key_of line))) (lines_placed t n (number + 1) lines))) [
        | None ↦ λ f. absurd cc
        | Some item ↦ λ f.
            elim (items_found t lines) as (λ r. items_found t lines ≡ r → option_map (λ xs. item ∷ xs) r ≡ Some items
            → Agrees number (line ∷ lines) items (before_all (line_placed_by n number line (Some item) (get t.stocks (stock_key_of line))) (lines_placed t n (number + 1) lines))) [
              | None ↦ λ r g. absurd cc
              | Some others ↦ λ r g.
                  let is : item ∷ others ≡ items = cc in
                  rw (← is)
                  (with_line number line lines item others (lines_placed t n (number + 1) lines) (agrees lines (number + 1) others r) (get t.stocks (stock_key_of line)) refl)
            ] refl f
      ] e
