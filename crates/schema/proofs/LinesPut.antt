-- The lines of an order, put one after another.
use Rattle.std.proofs.Common.{◌≡◌, ◌≢◌, ℕ, zero, suc, ◌+◌, ◌<◌, true, false, cond, List, [], ◌∷◌, ◌++◌, length, map, replicate, Option, Some, None, IsTrue, is_some, refl, sym, ap, ◌∙◌, append_assoc, length-append, arith}
use Rattle.std.specs.declared.cmp.Ordering.TheVariants.{Less, Equal}
use Rattle.std.specs.Ordering.{nat_cmp, eq_by_cmp, is_eq}
use Rattle.std.specs.FinMap as table
use Rattle.std.specs.FinMap.{get, same_map}
use Rattle.std.specs.FinMap.Entries.{find}
use Rattle.std.specs.List.{AllByRecursion}
use Rattle.std.specs.List.Sorted.{IsStrictlySortedBy}
use Rattle.std.specs.Map.{keys_of}
use Rattle.std.specs.Option.{option_or}
use Rattle.std.proofs.lemmas.Bool.Decides.{nat_tests}
use Rattle.rows.specs.declared.keys.OrderKey.{OrderKey}
use Rattle.rows.specs.declared.keys.OrderLineKey.{OrderLineKey}
use Rattle.rows.specs.declared.records.OrderLine.{OrderLine}
use Rattle.rows.specs.Keys.{line_cmp}
use Rattle.schema.specs.MapRows.{put_row}
use Rattle.schema.specs.OrderRows.{LineTable, line_key, line_table, put_lines, lines_at, TakenBackOrderIsAsBefore}
use Rattle.schema.specs.PackedLines.{with_keys, numbered_from}
use Rattle.schema.proofs.KeyOrders.{orders_total, orders_exact, lines_total, lines_exact}
use Rattle.schema.proofs.TableWrites.{get-put_row, put_row_same, put_row_twice, put_row_apart}

-- of two lines of an order the numbers decide
number_cmp : (order : OrderKey) (m n : ℕ) → line_cmp (line_key order m) (line_key order n) ≡ nat_cmp m n
number_cmp order m n =
    let w : nat_cmp order.w_id order.w_id ≡ Equal = grind (arith, nat_tests) in
    let d : nat_cmp order.d_id order.d_id ≡ Equal = grind (arith, nat_tests) in
    let o : nat_cmp order.o_id order.o_id ≡ Equal = grind (arith, nat_tests) in
    rw (w, d, o) refl

pub other_line : (order : OrderKey) (m n : ℕ) → m ≢ n → eq_by_cmp line_cmp (line_key order m) (line_key order n) ≡ false
other_line order m n apart =
    let other : is_eq (nat_cmp m n) ≡ false = grind (arith, nat_tests) in
    ap is_eq (number_cmp order m n) ∙ other

-- the row at a line of another number
pub get-other_line : (lines : LineTable) (order : OrderKey) (n number : ℕ) (row : Option OrderLine) → n ≢ number
    → get (put_row lines (line_key order number) row) (line_key order n) ≡ get lines (line_key order n)
get-other_line lines order n number row apart =
    get-put_row lines_total lines_exact lines (line_key order number) row (line_key order n)
    ∙ ap (λ b. cond b row (get lines (line_key order n))) (other_line order n number apart)

pub get-same_line : (lines : LineTable) (order : OrderKey) (number : ℕ) (row : Option OrderLine)
    → get (put_row lines (line_key order number) row) (line_key order number) ≡ row
get-same_line lines order number row =
    let same : is_eq (nat_cmp number number) ≡ true = grind (arith, nat_tests) in
    get-put_row lines_total lines_exact lines (line_key order number) row (line_key order number)
    ∙ ap (λ b. cond b row (get lines (line_key order number))) (ap is_eq (number_cmp order number number) ∙ same)

-- lines with greater numbers leave the line as it is
pub get-earlier : (order : OrderKey) (number : ℕ) (rows : List (Option OrderLine)) (lines : LineTable) (n : ℕ) → n < number
    → get (put_lines order number rows lines) (line_key order n) ≡ get lines (line_key order n)
get-earlier order number [] lines n h = refl
get-earlier order number (row ∷ rows) lines n h =
    get-other_line (put_lines order (number + 1) rows lines) order n number row (omega arith)
    ∙ get-earlier order (number + 1) rows lines n (omega arith)

-- the last line is put first
pub put_lines-last : (order : OrderKey) (number : ℕ) (rows : List (Option OrderLine)) (row : Option OrderLine) (lines : LineTable) (last : ℕ) → last ≡ number + length rows
    → put_lines order number (rows ++ row ∷ []) lines ≡ put_lines order number rows (put_row lines (line_key order last) row)
put_lines-last order number [] row lines last e =
    let same : number ≡ last = omega arith in
    ap (λ n. put_row lines (line_key order n) row) same
put_lines-last order number (first ∷ rows) row lines last e =
    ap (λ l. put_row l (line_key order number) first) (put_lines-last order (number + 1) rows row lines last (omega arith))

pub lines_at-last : (lines : LineTable) (order : OrderKey) (number count last : ℕ) → last ≡ number + count
    → lines_at lines order number (suc count) ≡ lines_at lines order number count ++ get lines (line_key order last) ∷ []
lines_at-last lines order number zero last e =
    let same : number ≡ last = omega arith in
    ap (λ n. get lines (line_key order n) ∷ []) same
lines_at-last lines order number (suc count) last e =
    ap (λ l. get lines (line_key order number) ∷ l) (lines_at-last lines order (number + 1) count last (omega arith))

pub length-lines_at : (lines : LineTable) (order : OrderKey) (number count : ℕ) → length (lines_at lines order number count) ≡ count
length-lines_at lines order number zero = refl
length-lines_at lines order number (suc count) = ap (λ n. suc n) (length-lines_at lines order (number + 1) count)

-- the rows at line keys where two tables agree
pub lines_at-alike : (old new : LineTable) (order : OrderKey) (number count : ℕ) → ((n : ℕ) → n < number + count → get new (line_key order n) ≡ get old (line_key order n))
    → lines_at new order number count ≡ lines_at old order number count
lines_at-alike old new order number zero alike = refl
lines_at-alike old new order number (suc count) alike =
    ap (λ r. r ∷ lines_at new order (number + 1) count) (alike number (omega arith))
    ∙ ap (λ l. get old (line_key order number) ∷ l) (lines_at-alike old new order (number + 1) count (λ n h. alike n (omega arith)))

-- ---- replaced lines are restored

-- a line of a lesser number may as well come later
put_lines-earlier : (order : OrderKey) (number : ℕ) (rows : List (Option OrderLine)) (lines : LineTable) (n : ℕ) (w : Option OrderLine) → n < number
    → put_lines order number rows (put_row lines (line_key order n) w) ≡ put_row (put_lines order number rows lines) (line_key order n) w
put_lines-earlier order number [] lines n w h = refl
put_lines-earlier order number (row ∷ rows) lines n w h =
    ap (λ l. put_row l (line_key order number) row) (put_lines-earlier order (number + 1) rows lines n w (omega arith))
    ∙ put_row_apart lines_total lines_exact (put_lines order (number + 1) rows lines) (line_key order n) (line_key order number) w row (other_line order n number (omega arith))

put_back_lines : (order : OrderKey) (number : ℕ) (rows : List (Option OrderLine)) (lines : LineTable)
    → put_lines order number (lines_at lines order number (length rows)) (put_lines order number rows lines) ≡ lines
put_back_lines order number [] lines = refl
put_back_lines order number (row ∷ rows) lines =
    let key = line_key order number in
    let was = get lines (line_key order number) in
    let later = lines_at lines order (number + 1) (length rows) in
    ap (λ l. put_row l key was) (put_lines-earlier order (number + 1) later (put_lines order (number + 1) rows lines) number row (omega arith)
    ∙ ap (λ l. put_row l key row) (put_back_lines order (number + 1) rows lines))
    ∙ put_row_twice lines_total lines_exact lines key row was
    ∙ put_row_same lines_total lines_exact lines key was refl

pub length-some : {X : Type 0} (xs : List X) → length (map (λ x. Some x) xs) ≡ length xs
length-some [] = refl
length-some (x ∷ xs) = ap (λ n. suc n) (length-some xs)

pub taken_back : TakenBackOrderIsAsBefore
taken_back t key order lines replaced stood =
    let of_order = put_row_twice orders_total orders_exact t.orders key (Some order) replaced.order ∙ put_row_same orders_total orders_exact t.orders key replaced.order (sym stood.order) in
    let of_new = put_row_twice orders_total orders_exact t.new_orders key (Some (record {})) replaced.new_order ∙ put_row_same orders_total orders_exact t.new_orders key replaced.new_order (sym stood.new_order) in
    let many = stood.lines ∙ ap (lines_at t.lines key 1) (sym (length-some lines)) in
    let of_lines = ap (λ l. put_lines key 1 l (put_lines key 1 (map (λ x. Some x) lines) t.lines)) many ∙ put_back_lines key 1 (map (λ x. Some x) lines) t.lines in
    λ i. record t { orders = of_order i; new_orders = of_new i; lines = of_lines i }

pub map-last : {X Y : Type 0} (f : X → Y) (xs : List X) (x : X) → map f (xs ++ x ∷ []) ≡ map f xs ++ f x ∷ []
map-last f [] x = refl
map-last f (y ∷ ys) x = ap (λ l. f y ∷ l) (map-last f ys x)

-- ---- one line after another

-- the lines and one more
pub one_more_line : (order : OrderKey) (rest rows : List OrderLine) (row : OrderLine) (old mid new : LineTable) → rows ≡ rest ++ row ∷ []
    → mid ≡ table.insert old (line_key order (length rest + 1)) row → new ≡ put_lines order 1 (map (λ r. Some r) rest) mid → new ≡ put_lines order 1 (map (λ r. Some r) rows) old
one_more_line order rest rows row old mid new all put later =
    later ∙ ap (put_lines order 1 (map (λ r. Some r) rest)) put
    ∙ sym (ap (λ l. put_lines order 1 (map (λ r. Some r) l) old) all ∙ ap (λ l. put_lines order 1 l old) (map-last (λ r. Some r) rest row)
    ∙ put_lines-last order 1 (map (λ r. Some r) rest) (Some row) old (length rest + 1) (omega (arith, length-some rest)))

-- the rows that the lines and one more replaced
pub one_more_was : (order : OrderKey) (rest rows : List OrderLine) (row : OrderLine) (old mid : LineTable) (none some all_were : List (Option OrderLine)) (was : Option OrderLine) → rows ≡ rest ++ row ∷ []
    → mid ≡ table.insert old (line_key order (length rest + 1)) row → was ≡ get old (line_key order (length rest + 1))
    → some ≡ none ++ lines_at mid order 1 (length rest) → all_were ≡ some ++ was ∷ [] → all_were ≡ none ++ lines_at old order 1 (length rows)
one_more_was order rest rows row old mid none some all_were was all put stood later last =
    let n = length rest in
    let alike : lines_at mid order 1 n ≡ lines_at old order 1 n =
    lines_at-alike old mid order 1 n (λ m below. ap (λ t. get t (line_key order m)) put ∙ get-other_line old order m (n + 1) (Some row) (omega arith)) in
    let many : suc (length rest) ≡ length rows = omega (arith, length-append rest (row ∷ []), ap length all) in
    last ∙ ap (λ l. l ++ was ∷ []) (later ∙ ap (λ l. none ++ l) alike)
    ∙ append_assoc none (lines_at old order 1 n) (was ∷ [])
    ∙ ap (λ w. none ++ (lines_at old order 1 n ++ w ∷ [])) stood
    ∙ ap (λ l. none ++ l) (sym (lines_at-last old order 1 n (n + 1) (omega arith)) ∙ ap (lines_at old order 1) many)

-- one line less to be put back
pub one_line_back : (order : OrderKey) (rest all : List (Option OrderLine)) (was : Option OrderLine) (old new : LineTable) → all ≡ rest ++ was ∷ []
    → new ≡ put_row old (line_key order (length rest + 1)) was → put_lines order 1 rest new ≡ put_lines order 1 all old
one_line_back order rest all was old new is back =
    ap (put_lines order 1 rest) back ∙ sym (ap (λ l. put_lines order 1 l old) is ∙ put_lines-last order 1 rest was old (length rest + 1) (omega arith))

-- the other lines are there still
pub other_lines_there : (order : OrderKey) (last : ℕ) (was : Option OrderLine) (old new : LineTable) (n : ℕ) → 1 + n < last → new ≡ put_row old (line_key order last) was
    → IsTrue (table.contains_key old (line_key order (1 + n))) → IsTrue (table.contains_key new (line_key order (1 + n)))
other_lines_there order last was old new n below back there =
    ap (λ t. table.contains_key t (line_key order (1 + n))) back ∙ ap is_some (get-other_line old order (1 + n) last was (omega arith)) ∙ there

pub no_elements : {X : Type 0} (xs : List X) → length xs ≡ 0 → xs ≡ []
no_elements [] h = refl
no_elements (x ∷ xs) h = absurd (omega arith)

-- ---- all lines of an order at once, where it has none

-- the lines as they come, and those that were there
pub get-all_put : (order : OrderKey) (number : ℕ) (rows : List OrderLine) (lines : LineTable) (q : OrderLineKey)
    → get (put_lines order number (map (λ r. Some r) rows) lines) q ≡ option_or (find line_cmp q (with_keys order (numbered_from number rows))) (get lines q)
get-all_put order number [] lines q = refl
get-all_put order number (row ∷ rows) lines q =
    get-put_row lines_total lines_exact (put_lines order (number + 1) (map (λ r. Some r) rows) lines) (line_key order number) (Some row) q
    ∙ ap (cond (eq_by_cmp line_cmp q (line_key order number)) (Some row)) (get-all_put order (number + 1) rows lines q)
    ∙ elim (eq_by_cmp line_cmp q (line_key order number)) as (λ b. cond b (Some row) (option_or (find line_cmp q (with_keys order (numbered_from (number + 1) rows))) (get lines q))
    ≡ option_or (cond b (Some row) (find line_cmp q (with_keys order (numbered_from (number + 1) rows)))) (get lines q)) [ true ↦ refl | false ↦ refl ]

pub all_put : (order : OrderKey) (rows : List OrderLine) (old new : LineTable)
    → ((q : OrderLineKey) → get new q ≡ option_or (get (line_table (with_keys order (numbered_from 1 rows))) q) (get old q)) → new ≡ put_lines order 1 (map (λ r. Some r) rows) old
all_put order rows old new put = same_map lines_total lines_exact new (put_lines order 1 (map (λ r. Some r) rows) old) (λ q.
    put q ∙ ap (λ r. option_or r (get old q)) (table.get-from_entries lines_total (with_keys order (numbered_from 1 rows)) q) ∙ sym (get-all_put order 1 rows old q))

-- an order without lines has no rows at its line keys
pub none_stood : (lines : LineTable) (order : OrderKey) → ((n : ℕ) → get lines (line_key order n) ≡ None) → (number count : ℕ) → lines_at lines order number count ≡ replicate count None
none_stood lines order none number zero = refl
none_stood lines order none number (suc count) =
    ap (λ r. r ∷ lines_at lines order (number + 1) count) (none number) ∙ ap (λ l. None ∷ l) (none_stood lines order none (number + 1) count)

-- numbers that are counted up ascend
above : (m n : ℕ) (rows : List OrderLine) → m < n → AllByRecursion (λ q. nat_cmp m q ≡ Less) (keys_of (numbered_from n rows))
above m n [] h = tt
above m n (row ∷ rows) h = (grind (arith, nat_tests), above m (n + 1) rows (omega arith))

pub counted_up : (n : ℕ) (rows : List OrderLine) → IsStrictlySortedBy nat_cmp (keys_of (numbered_from n rows))
unfolding IsStrictlySortedBy
counted_up n [] = tt
counted_up n (row ∷ rows) = (above n (n + 1) rows (omega arith), counted_up (n + 1) rows)

-- one row more is numbered
pub one_more_numbered : (lines : List (ℕ × OrderLine)) (number : ℕ) (row : OrderLine) (rest all : List OrderLine) → lines ++ numbered_from number (row ∷ rest) ≡ numbered_from 1 all → number ≡ length lines + 1
    → (lines ++ (number, row) ∷ []) ++ numbered_from (length (lines ++ (number, row) ∷ []) + 1) rest ≡ numbered_from 1 all
one_more_numbered lines number row rest all so_far is =
    let next : length (lines ++ (number, row) ∷ []) + 1 ≡ number + 1 = omega (arith, length-append lines ((number, row) ∷ []), is) in
    ap (λ n. (lines ++ (number, row) ∷ []) ++ numbered_from n rest) next ∙ append_assoc lines ((number, row) ∷ []) (numbered_from (number + 1) rest) ∙ so_far
