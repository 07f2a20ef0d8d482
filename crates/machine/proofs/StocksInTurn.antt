-- To put the rows of the lines' stock in turn is to take all lines from the stock at once.
use Rattle.std.proofs.Common.{◌≡◌, ℕ, zero, suc, ◌+◌, ◌<◌, ◌==◌, ◌&&◌, Bool, true, false, cond, List, [], ◌∷◌, ◌++◌, length, get_or, Option, Some, None, unwrap_or, refl, sym, ap, subst, ◌∙◌, arith}
use Rattle.std.specs.declared.cmp.Ordering.TheVariants.{Less, Equal, Greater}
use Rattle.std.specs.Ordering.{is_eq}
use Rattle.std.specs.List.{AllZip, list_all}
use Rattle.std.specs.Option.{option_map, option_and_then}
use Rattle.std.specs.FinMap.{get, insert, get-insert, same_map}
use Rattle.std.proofs.lemmas.Bool.Decides.{nat_tests}
use Rattle.rows.specs.Keys.{stock_cmp}
use Rattle.rows.specs.declared.keys.StockKey.{StockKey}
use Rattle.rows.specs.declared.records.Stock.{Stock}
use Rattle.schema.proofs.KeyOrders.{stocks_total, stocks_exact}
use Rattle.schema.proofs.TableWrites.{get-map_rows}
use Rattle.requests.specs.declared.new_order.OrderedLine.{OrderedLine}
use Rattle.machine.specs.NewOrder.{Stocks, stock_key_of, taken_from, stock_taken, stocks_taken, with_counters}
use Rattle.machine.specs.NewOrderLines.{stocks_put}

-- whether the row at the key supplies the line
abbrev takes : StockKey → OrderedLine → Bool
takes key line = (line.supply_w_id == key.w_id) && (line.i_id == key.i_id)

-- it does where the keys compare alike
takes_alike : (q : StockKey) (line : OrderedLine) → takes q line ≡ is_eq (stock_cmp q (stock_key_of line))
takes_alike q line = grind (arith, nat_tests)

-- counters that grow by nothing leave the row as it is, in range or not
same_counters : (row : Stock) (a b c : ℕ) → a ≡ row.ytd → b ≡ row.order_cnt → c ≡ row.remote_cnt → (x y z : Bool)
    → unwrap_or (with_counters row row.quantity (cond x (Some a) None) (cond y (Some b) None) (cond z (Some c) None)) row ≡ row
same_counters row a b c p q r true true true = λ i. record row { ytd = p i; order_cnt = q i; remote_cnt = r i }
same_counters row a b c p q r true true false = refl
same_counters row a b c p q r true false z = refl
same_counters row a b c p q r false y z = refl

pub nothing_taken : (home : ℕ) (row : Stock) → unwrap_or (stock_taken home row []) row ≡ row
nothing_taken home row = same_counters row (row.ytd + 0) (row.order_cnt + 0) (row.remote_cnt + 0) (omega arith) (omega arith) (omega arith) _ _ _

module _ (home : ℕ) (all : List OrderedLine) where
  -- the row that supplies the line once all lines were taken from it
  abbrev pub taken_at : Stocks → OrderedLine → Option Stock
  taken_at stocks line = option_and_then (λ row. stock_taken home row (taken_from (stock_key_of line) all)) (get stocks (stock_key_of line))

  -- these are those rows, one for each line
  abbrev pub AreTaken : Stocks → List OrderedLine → List Stock → Type 0
  AreTaken stocks lines rows = AllZip (λ line row. taken_at stocks line ≡ Some row) lines rows

  -- what becomes of the row at a key
  abbrev at_once : StockKey → Stock → Stock
  at_once q row = unwrap_or (stock_taken home row (taken_from q all)) row

  -- so where one of the lines names the key
  abbrev where_named : StockKey → List OrderedLine → Stock → Stock
  where_named q [] row = row
  where_named q (line ∷ lines) row = cond (takes q line) (at_once q row) (where_named q lines row)

  -- where none names it nothing is taken
  named_or_not : (q : StockKey) (row : Stock) (lines : List OrderedLine) → taken_from q lines ≡ taken_from q all → where_named q lines row ≡ at_once q row
  named_or_not q row [] e = sym (ap (λ l. unwrap_or (stock_taken home row l) row) (sym e) ∙ nothing_taken home row)
  named_or_not q row (line ∷ lines) e =
      elim (takes q line) as (λ b. cond b (line ∷ taken_from q lines) (taken_from q lines) ≡ taken_from q all → cond b (at_once q row) (where_named q lines row) ≡ at_once q row) [
        | true ↦ λ f. refl
        | false ↦ λ f. named_or_not q row lines f
      ] e

  is_at_once : (k : StockKey) (new : Stock) (o : Option Stock) → option_and_then (λ row. stock_taken home row (taken_from k all)) o ≡ Some new
      → Some new ≡ option_map (λ row. at_once k row) o
  is_at_once k new None e = absurd cc
  is_at_once k new (Some row) e = ap (λ r. Some r) (sym (ap (λ o. unwrap_or o row) e))

  put_at : (stocks : Stocks) (lines : List OrderedLine) (rows : List Stock) → AreTaken stocks lines rows
      → (q : StockKey) → get (stocks_put lines rows stocks) q ≡ option_map (λ row. where_named q lines row) (get stocks q)
  put_at stocks [] [] h q = elim (get stocks q) as (λ o. o ≡ option_map (λ (row : Stock). row) o) [ None ↦ refl | Some row ↦ refl ]
  put_at stocks [] (row ∷ rows) h q = absurd h
  put_at stocks (line ∷ lines) [] h q = absurd h
  put_at stocks (line ∷ lines) (new ∷ rows) h q =
      let key = stock_key_of line in
      let rest = get (stocks_put lines rows stocks) q in
      get-insert stocks_total (stocks_put lines rows stocks) key new q
      ∙ elim (stock_cmp q key) as (λ r. stock_cmp q key ≡ r → cond (is_eq r) (Some new) rest ≡ option_map (λ row. cond (is_eq r) (at_once q row) (where_named q lines row)) (get stocks q)) [
        | Less ↦ λ c. put_at stocks lines rows h.1 q
        | Greater ↦ λ c. put_at stocks lines rows h.1 q
        | Equal ↦ λ c.
            is_at_once q new (get stocks q)
            (subst (λ k. option_and_then (λ row. stock_taken home row (taken_from k all)) (get stocks k) ≡ Some new) (sym (stocks_exact q key c)) h.0)
      ] refl
      ∙ ap (λ b. option_map (λ row. cond b (at_once q row) (where_named q lines row)) (get stocks q)) (sym (takes_alike q line))

-- rows from which all lines were taken, put in turn, are all rows at once
pub put_in_turn : (home : ℕ) (stocks : Stocks) (lines : List OrderedLine) (rows : List Stock) → AreTaken home lines stocks lines rows
    → stocks_put lines rows stocks ≡ stocks_taken home stocks lines
put_in_turn home stocks lines rows h = same_map stocks_total stocks_exact _ _ (λ q.
    put_at home lines stocks lines rows h q
    ∙ elim (get stocks q) as (λ o. option_map (λ row. where_named home lines q lines row) o ≡ option_map (at_once home lines q) o) [
      | None ↦ refl
      | Some row ↦ ap (λ r. Some r) (named_or_not home lines q row lines refl)
    ]
    ∙ sym (get-map_rows stock_cmp (λ key row. at_once home lines key row) stocks_exact stocks q))

-- ---- one row after another, the last first

pub no_rows : (lines : List OrderedLine) (stocks : Stocks) → stocks_put lines [] stocks ≡ stocks
no_rows [] stocks = refl
no_rows (line ∷ lines) stocks = refl

-- the last of the rows is put first
pub last_first : (lines : List OrderedLine) (rest : List Stock) (d : OrderedLine) (row : Stock) (stocks : Stocks) → length rest < length lines
    → stocks_put lines rest (insert stocks (stock_key_of (get_or lines (length rest) d)) row) ≡ stocks_put lines (rest ++ row ∷ []) stocks
last_first [] rest d row stocks below = absurd (omega arith)
last_first (line ∷ lines) [] d row stocks below = ap (λ s. insert s (stock_key_of line) row) (sym (no_rows lines stocks))
last_first (line ∷ lines) (r ∷ rest) d row stocks below = ap (λ s. insert s (stock_key_of line) r) (last_first lines rest d row stocks (omega arith))

-- what all pass, each does
pub each_passes : {X : Type 0} (test : X → Bool) (xs : List X) (i : ℕ) (d : X) → list_all test xs ≡ true → i < length xs → test (get_or xs i d) ≡ true
each_passes test [] i d each below = absurd (omega arith)
each_passes test (x ∷ xs) zero d each below = first (test x) (list_all test xs) each
  where
    first : (a b : Bool) → (a && b) ≡ true → a ≡ true
    first true b e = refl
    first false b e = e
each_passes test (x ∷ xs) (suc i) d each below = each_passes test xs i d (second (test x) (list_all test xs) each) (omega arith)
  where
    second : (a b : Bool) → (a && b) ≡ true → b ≡ true
    second true b e = e
    second false b e = cc
