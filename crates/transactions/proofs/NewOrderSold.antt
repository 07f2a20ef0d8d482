-- What the actions of the stock found is, together, what the machine finds of an order's lines.
use Rattle.std.proofs.Common.{◌≡◌, ◌+◌, ◌==◌, ◌&&◌, ℕ, Bool, true, false, cond, List, [], ◌∷◌, map, length, Option, Some, None, is_some, refl, sym, ap, ◌∙◌}
use Rattle.std.specs.Prelude.{find}
use Rattle.std.specs.List.{AllByRecursion, cons_option, filter_map, list_all, list_any, range_with_len}
use Rattle.std.specs.Option.{option_and_then, option_map, option_or}
use Rattle.std.specs.FinMap as table
use Rattle.std.proofs.lemmas.Bool.{and_parts}
use Rattle.std.proofs.lemmas.List.Folds.{find-append}
use Rattle.partitions.specs.Parts.{SharedTables, shared_of}
use Rattle.rows.specs.declared.records.Item.{Item}
use Rattle.schema.specs.Database.{Database}
use Rattle.requests.specs.declared.group.Group.{Group}
use Rattle.requests.specs.declared.new_order.NewOrder.{NewOrder}
use Rattle.requests.specs.declared.new_order.OrderedLine.{OrderedLine}
use Rattle.groups.specs.Content.{content}
use Rattle.groups.specs.NewOrder.{supplies_of}
use Rattle.tickets.specs.Claims.{ClaimView}
use Rattle.tickets.specs.Committed.{RecordsContent}
use Rattle.machine.specs.declared.new_order_lines.LinePlaced.{LinePlaced}
use Rattle.machine.specs.NewOrder.{all_there, items_found}
use Rattle.machine.specs.NewOrderLines.{before_all, line_placed, lines_placed}
use Rattle.tickets.proofs.Apart.{by_bool}
use Rattle.transactions.specs.declared.new_order.LineSold.{LineSold}
use Rattle.transactions.specs.declared.new_order.StockTaken.{StockTaken}
use Rattle.transactions.specs.declared.new_order.StockTaken.TheVariants.{NoItem, Taken}
use Rattle.transactions.specs.NewOrder.{AreStocksTaken, Numbered, all_sold, has_item_of, is_in, is_no_item, is_taken, line_sold, lines_in, numbered, sold_or_out, stock_found}
use Rattle.transactions.proofs.EachOne.{all_there-each, each_filtered, each_mapped, each_tested, each_weaker, is_none, is_there, none_tested, tested_each, tested_none}
use Rattle.transactions.proofs.NewOrderSupplies.{all_in, by_groups, each_line_is_found}

-- ---- what was found, in all tables that the claims record

pub found_by : (shared : SharedTables) (t : Database) (n : NewOrder) → shared_of t ≡ shared → (groups : List Group) (found : List StockTaken) (stocks : List ClaimView)
    → AreStocksTaken shared n groups found stocks → AllByRecursion (RecordsContent (content t)) stocks → found ≡ map (λ group. stock_found t n (lines_in group n.lines)) groups
found_by shared t n same [] [] [] taken records = refl
found_by shared t n same [] (one ∷ found) stocks taken records = absurd taken
found_by shared t n same [] [] (stock ∷ stocks) taken records = absurd taken
found_by shared t n same (group ∷ groups) [] stocks taken records = absurd taken
found_by shared t n same (group ∷ groups) (one ∷ found) [] taken records = absurd taken
found_by shared t n same (group ∷ groups) (one ∷ found) (stock ∷ stocks) taken records =
    let first = taken.0.shown t same records.0 in
    let rest = found_by shared t n same groups found stocks taken.2 records.1 in
    λ i. first i ∷ rest i

module _ (t : Database) (n : NewOrder) where
  -- what is found of a group's lines
  abbrev pub found_in : Group → StockTaken
  found_in group = stock_found t n (lines_in group n.lines)

  abbrev is_placed : Numbered → Bool
  is_placed line = is_some (line_placed t n line.0 line.1)

  abbrev is_sold : Numbered → Bool
  is_sold line = is_some (line_sold t n line)

  sold_placed : (line : Numbered) → is_sold line ≡ is_placed line
  sold_placed line = elim (line_placed t n line.0 line.1) as (λ (o : Option LinePlaced). is_some (option_map (λ (p : LinePlaced). let s : LineSold = record { number = line.0; row = p.row; shown = p.shown } in s) o) ≡ is_some o) [ None ↦ refl | Some p ↦ refl ]

  -- ---- of one group's lines

  -- no item is missing where each is there
  no_item-is : (lines : List Numbered) → is_no_item (stock_found t n lines) ≡ false → list_all (has_item_of t) lines ≡ true
  no_item-is lines is =
      by_bool (list_all (has_item_of t) lines) refl (λ e. e) (λ e.
      let no : is_no_item (stock_found t n lines) ≡ true = ap (λ b. is_no_item (cond b (sold_or_out (all_there (map (line_sold t n) lines))) NoItem)) e in
      absurd cc)

  is-no_item : (lines : List Numbered) → list_all (has_item_of t) lines ≡ true → is_no_item (stock_found t n lines) ≡ false
  is-no_item lines all =
      ap (λ b. is_no_item (cond b (sold_or_out (all_there (map (line_sold t n) lines))) NoItem)) all
      ∙ elim (all_there (map (line_sold t n) lines)) as (λ o. is_no_item (sold_or_out o) ≡ false) [ None ↦ refl | Some sold ↦ refl ]

  -- they are sold where each item is there, and each line can be placed
  found-is : (lines : List Numbered) → list_all (has_item_of t) lines ≡ true → stock_found t n lines ≡ sold_or_out (all_there (map (line_sold t n) lines))
  found-is lines all = ap (λ b. cond b (sold_or_out (all_there (map (line_sold t n) lines))) NoItem) all

  taken-is : (lines : List Numbered) → is_taken (stock_found t n lines) ≡ is_some (all_there (map (line_sold t n) lines)) && list_all (has_item_of t) lines
  taken-is lines =
      elim (list_all (has_item_of t) lines) as (λ b. is_taken (cond b (sold_or_out (all_there (map (line_sold t n) lines))) NoItem) ≡ is_some (all_there (map (line_sold t n) lines)) && b) [
        | true ↦ elim (all_there (map (line_sold t n) lines)) as (λ o. is_taken (sold_or_out o) ≡ is_some o && true) [ None ↦ refl | Some sold ↦ refl ]
        | false ↦ elim (all_there (map (line_sold t n) lines)) as (λ o. false ≡ is_some o && false) [ None ↦ refl | Some sold ↦ refl ]
      ]

  -- ---- of all lines

  abbrev pub supplies : List Group
  supplies = supplies_of n.lines

  -- where no group found that an item is missing, each line's item is there
  pub all_items : list_any is_no_item (map found_in supplies) ≡ false → AllByRecursion (λ line. has_item_of t line ≡ true) (numbered 1 n.lines)
  all_items none =
      by_groups (λ line. has_item_of t line ≡ true) n.lines
      (each_weaker (λ group. is_no_item (found_in group) ≡ false) (λ group. AllByRecursion (λ line. has_item_of t line ≡ true) (lines_in group n.lines))
      (λ group is. each_tested (has_item_of t) (lines_in group n.lines) (no_item-is (lines_in group n.lines) is)) supplies
      (each_mapped (λ one. is_no_item one ≡ false) found_in supplies (none_tested is_no_item (map found_in supplies) none)))

  items_in : AllByRecursion (λ line. has_item_of t line ≡ true) (numbered 1 n.lines) → (group : Group) → list_all (has_item_of t) (lines_in group n.lines) ≡ true
  items_in all group = tested_each (has_item_of t) (lines_in group n.lines) (each_filtered (λ line. has_item_of t line ≡ true) (is_in group) (numbered 1 n.lines) all)

  -- and the other way round
  pub no_item_missing : AllByRecursion (λ line. has_item_of t line ≡ true) (numbered 1 n.lines) → list_any is_no_item (map found_in supplies) ≡ false
  no_item_missing all = tested_none is_no_item (map found_in supplies) (each supplies)
    where
      each : (groups : List Group) → AllByRecursion (λ one. is_no_item one ≡ false) (map found_in groups)
      each [] = tt
      each (group ∷ groups) = (is-no_item (lines_in group n.lines) (items_in all group), each groups)

  -- where all groups sold their lines, each line can be placed
  pub all_placed : list_all is_taken (map found_in supplies) ≡ true → AllByRecursion (λ line. is_placed line ≡ true) (numbered 1 n.lines)
  all_placed taken =
      by_groups (λ line. is_placed line ≡ true) n.lines
      (each_weaker (λ group. is_taken (found_in group) ≡ true) (λ group. AllByRecursion (λ line. is_placed line ≡ true) (lines_in group n.lines))
      (λ group is. in_group group is) supplies
      (each_mapped (λ one. is_taken one ≡ true) found_in supplies (each_tested is_taken (map found_in supplies) taken)))
    where
      in_group : (group : Group) → is_taken (found_in group) ≡ true → AllByRecursion (λ line. is_placed line ≡ true) (lines_in group n.lines)
      in_group group is =
          let lines = lines_in group n.lines in
          let there = and_parts (is_some (all_there (map (line_sold t n) lines))) (list_all (has_item_of t) lines) (sym (taken-is lines) ∙ is) in
          each_weaker (λ line. is_sold line ≡ true) (λ line. is_placed line ≡ true) (λ line s. sym (sold_placed line) ∙ s) lines
          (each_tested is_sold lines (sym (all_there-each (line_sold t n) lines) ∙ there.0))

  -- and the other way round
  pub all_taken : AllByRecursion (λ line. has_item_of t line ≡ true) (numbered 1 n.lines) → AllByRecursion (λ line. is_placed line ≡ true) (numbered 1 n.lines)
      → list_all is_taken (map found_in supplies) ≡ true
  all_taken items placed = tested_each is_taken (map found_in supplies) (each supplies)
    where
      in_group : (group : Group) → is_taken (found_in group) ≡ true
      in_group group =
          let lines = lines_in group n.lines in
          let sold : list_all is_sold lines ≡ true = tested_each is_sold lines (each_filtered (λ line. is_sold line ≡ true) (is_in group) (numbered 1 n.lines)
          (each_weaker (λ line. is_placed line ≡ true) (λ line. is_sold line ≡ true) (λ line s. sold_placed line ∙ s) (numbered 1 n.lines) placed)) in
          taken-is lines ∙ (λ i. (all_there-each (line_sold t n) lines ∙ sold) i && items_in items group i)

      each : (groups : List Group) → AllByRecursion (λ one. is_taken one ≡ true) (map found_in groups)
      each [] = tt
      each (group ∷ groups) = (in_group group, each groups)

  -- ---- the line of a number

  -- of sold lines, the one of a number is what its line shows
  sold_at : (k : ℕ) (lines : List Numbered) (sold : List LineSold) → all_there (map (line_sold t n) lines) ≡ Some sold
      → find (λ s. s.number == k) sold ≡ option_and_then (line_sold t n) (find (λ line. line.0 == k) lines)
  sold_at k [] sold is = let same : [] ≡ sold = cc in ap (find (λ (s : LineSold). s.number == k)) (sym same)
  sold_at k (line ∷ lines) sold is =
      elim (line_placed t n line.0 line.1) as (λ o. line_placed t n line.0 line.1 ≡ o
      → all_there (option_map (λ (p : LinePlaced). let s : LineSold = record { number = line.0; row = p.row; shown = p.shown } in s) o ∷ map (line_sold t n) lines) ≡ Some sold
      → find (λ s. s.number == k) sold ≡ option_and_then (line_sold t n) (cond (line.0 == k) (Some line) (find (λ other. other.0 == k) lines))) [
        | None ↦ λ e no. absurd cc
        | Some p ↦ λ e there.
            let one : LineSold = record { number = line.0; row = p.row; shown = p.shown } in
            elim (all_there (map (line_sold t n) lines)) as (λ o. all_there (map (line_sold t n) lines) ≡ o → option_map (λ rest. one ∷ rest) o ≡ Some sold
            → find (λ s. s.number == k) sold ≡ option_and_then (line_sold t n) (cond (line.0 == k) (Some line) (find (λ other. other.0 == k) lines))) [
              | None ↦ λ f no. absurd cc
              | Some rest ↦ λ f all.
                  let same : one ∷ rest ≡ sold = cc in
                  let made : line_sold t n line ≡ Some one = ap (option_map (λ (p : LinePlaced). let s : LineSold = record { number = line.0; row = p.row; shown = p.shown } in s)) e in
                  ap (find (λ (s : LineSold). s.number == k)) (sym same)
                  ∙ elim (line.0 == k) as (λ b. cond b (Some one) (find (λ s. s.number == k) rest) ≡ option_and_then (line_sold t n) (cond b (Some line) (find (λ other. other.0 == k) lines))) [
                    | true ↦ sym made
                    | false ↦ sold_at k lines rest f
                  ]
            ] refl there
      ] refl is

  -- a line that is found can be sold
  abbrev IsSold : Option Numbered → Type 0
  IsSold None = Unit {0}
  IsSold (Some line) = is_sold line ≡ true

  sold_there : (k : ℕ) (lines : List Numbered) → AllByRecursion (λ line. is_sold line ≡ true) lines → IsSold (find (λ line. line.0 == k) lines)
  sold_there k [] each = tt
  sold_there k (line ∷ lines) each = elim (line.0 == k) as (λ b. IsSold (cond b (Some line) (find (λ line. line.0 == k) lines))) [ true ↦ each.0 | false ↦ sold_there k lines each.1 ]

  either : (one other : Option Numbered) → IsSold one → option_or (option_and_then (line_sold t n) one) (option_and_then (line_sold t n) other) ≡ option_and_then (line_sold t n) (option_or one other)
  either None other is = refl
  either (Some line) other is =
      let there = is_there (line_sold t n line) is in
      ap (λ o. option_or o (option_and_then (line_sold t n) other)) there.1 ∙ sym there.1

  -- so where several groups sold theirs
  all_sold_at : (k : ℕ) (groups : List Group) → AllByRecursion (λ group. is_taken (found_in group) ≡ true) groups
      → find (λ s. s.number == k) (all_sold (map found_in groups)) ≡ option_and_then (line_sold t n) (find (λ line. line.0 == k) (all_in groups n.lines))
  all_sold_at k [] taken = refl
  all_sold_at k (group ∷ groups) taken =
      let lines = lines_in group n.lines in
      let parts = and_parts (is_some (all_there (map (line_sold t n) lines))) (list_all (has_item_of t) lines) (sym (taken-is lines) ∙ taken.0) in
      let there = is_there (all_there (map (line_sold t n) lines)) parts.0 in
      let sold = there.0 in
      let is : found_in group ≡ Taken sold = found-is lines parts.1 ∙ ap sold_or_out there.1 in
      ap (λ one. find (λ s. s.number == k) (all_sold (one ∷ map found_in groups))) is
      ∙ find-append (λ (s : LineSold). s.number == k) sold (all_sold (map found_in groups))
      ∙ (λ i. option_or (sold_at k lines sold there.1 i) (all_sold_at k groups taken.1 i))
      ∙ either (find (λ line. line.0 == k) lines) (find (λ line. line.0 == k) (all_in groups n.lines)) (sold_there k lines (each_tested is_sold lines (sym (all_there-each (line_sold t n) lines) ∙ parts.0)))
      ∙ sym (ap (option_and_then (line_sold t n)) (find-append (λ (line : Numbered). line.0 == k) lines (all_in groups n.lines)))

  -- where all groups sold their lines, the line of each number is what that shows
  pub each_in_order : list_all is_taken (map found_in supplies) ≡ true → AllByRecursion (λ line. find (λ s. s.number == line.0) (all_sold (map found_in supplies)) ≡ line_sold t n line) (numbered 1 n.lines)
  each_in_order taken =
      each_weaker (λ line. find (λ other. other.0 == line.0) (all_in supplies n.lines) ≡ Some line) (λ line. find (λ s. s.number == line.0) (all_sold (map found_in supplies)) ≡ line_sold t n line)
      (λ line there. all_sold_at line.0 supplies (each_mapped (λ one. is_taken one ≡ true) found_in supplies (each_tested is_taken (map found_in supplies) taken)) ∙ ap (option_and_then (line_sold t n)) there)
      (numbered 1 n.lines) (each_line_is_found n.lines)

  -- ---- the machine's lines

  -- where each line can be placed, the machine places them
  pub record ArePlaced (sold : List LineSold) (low : ℕ) (lines : List OrderedLine) : Type 0 where
    pub left : List LinePlaced
    pub placed : lines_placed t n low lines ≡ Some left
    pub rows : map (λ (s : LineSold). s.row) (filter_map (λ number. find (λ (s : LineSold). s.number == number) sold) (range_with_len low (length lines))) ≡ map (λ (p : LinePlaced). p.row) left
    pub shown : map (λ (s : LineSold). s.shown) (filter_map (λ number. find (λ (s : LineSold). s.number == number) sold) (range_with_len low (length lines))) ≡ map (λ (p : LinePlaced). p.shown) left

  pub are_placed : (sold : List LineSold) (low : ℕ) (lines : List OrderedLine) → AllByRecursion (λ line. is_placed line ≡ true) (numbered low lines)
      → AllByRecursion (λ line. find (λ (s : LineSold). s.number == line.0) sold ≡ line_sold t n line) (numbered low lines) → ArePlaced sold low lines
  are_placed sold low [] placed found = record { left = []; placed = refl; rows = refl; shown = refl }
  are_placed sold low (line ∷ lines) placed found =
      let one = is_there (line_placed t n low line) placed.0 in
      let rest = are_placed sold (low + 1) lines placed.1 found.1 in
      let first : find (λ (s : LineSold). s.number == low) sold ≡ Some (record { number = low; row = one.0.row; shown = one.0.shown }) =
      found.0 ∙ ap (option_map (λ (p : LinePlaced). let s : LineSold = record { number = low; row = p.row; shown = p.shown } in s)) one.1 in
      let others = filter_map (λ number. find (λ (s : LineSold). s.number == number) sold) (range_with_len (low + 1) (length lines)) in
      record {
        left = one.0 ∷ rest.left;
        placed = (λ i. before_all (one.1 i) (rest.placed i));
        rows = ap (λ (o : Option LineSold). map (λ (s : LineSold). s.row) (cons_option o others)) first ∙ ap (λ xs. one.0.row ∷ xs) rest.rows;
        shown = ap (λ (o : Option LineSold). map (λ (s : LineSold). s.shown) (cons_option o others)) first ∙ ap (λ xs. one.0.shown ∷ xs) rest.shown;
      }

  -- and where the machine places them, each can be placed
  pub placed_each : (low : ℕ) (lines : List OrderedLine) (left : List LinePlaced) → lines_placed t n low lines ≡ Some left → AllByRecursion (λ line. is_placed line ≡ true) (numbered low lines)
  placed_each low [] left is = tt
  placed_each low (line ∷ lines) left is =
      elim (line_placed t n low line) as (λ o. line_placed t n low line ≡ o → before_all o (lines_placed t n (low + 1) lines) ≡ Some left → AllByRecursion (λ line. is_placed line ≡ true) (numbered low (line ∷ lines))) [
        | None ↦ λ e no. absurd cc
        | Some p ↦ λ e there.
            elim (lines_placed t n (low + 1) lines) as (λ o. lines_placed t n (low + 1) lines ≡ o → before_all (Some p) o ≡ Some left → AllByRecursion (λ line. is_placed line ≡ true) (numbered low (line ∷ lines))) [
              | None ↦ λ f no. absurd cc
              | Some rest ↦ λ f all. (ap is_some e, placed_each (low + 1) lines rest f)
            ] refl there
      ] refl is

  -- ---- the machine's items

  items-each : (low : ℕ) (lines : List OrderedLine) → is_some (items_found t lines) ≡ list_all (has_item_of t) (numbered low lines)
  items-each low lines = all_there-each (λ (line : OrderedLine). table.get t.items line.i_id) lines ∙ same low lines
    where
      same : (low : ℕ) (lines : List OrderedLine) → list_all (λ (line : OrderedLine). is_some (table.get t.items line.i_id)) lines ≡ list_all (has_item_of t) (numbered low lines)
      same low [] = refl
      same low (line ∷ lines) = ap (λ b. is_some (table.get t.items line.i_id) && b) (same (low + 1) lines)

  pub items_there : AllByRecursion (λ line. has_item_of t line ≡ true) (numbered 1 n.lines) → (items : List Item) × (items_found t n.lines ≡ Some items)
  items_there all = is_there (items_found t n.lines) (items-each 1 n.lines ∙ tested_each (has_item_of t) (numbered 1 n.lines) all)

  -- where a group found that an item is missing, it is missing for the machine
  pub items_missing : list_any is_no_item (map found_in supplies) ≡ true → items_found t n.lines ≡ None
  items_missing some =
      by_bool (is_some (items_found t n.lines)) refl
      (λ there. let none = no_item_missing (each_tested (has_item_of t) (numbered 1 n.lines) (sym (items-each 1 n.lines) ∙ there)) in absurd cc)
      (is_none (items_found t n.lines))

  -- where a group could not sell its lines, though each item is there, the machine can't place them
  pub none_placed : list_any is_no_item (map found_in supplies) ≡ false → list_all is_taken (map found_in supplies) ≡ false → lines_placed t n 1 n.lines ≡ None
  none_placed items not_taken =
      elim (lines_placed t n 1 n.lines) as (λ o. lines_placed t n 1 n.lines ≡ o → o ≡ None) [
        | None ↦ λ e. refl
        | Some left ↦ λ e. let taken = all_taken (all_items items) (placed_each 1 n.lines left e) in absurd cc
      ] refl
