-- An order's lines by their numbers, and by the groups that supply them.
use Rattle.std.proofs.Common.{◌≡◌, ◌<◌, ◌≤◌, ◌+◌, ◌==◌, ℕ, Bool, true, false, ◌||◌, not, cond, List, [], ◌∷◌, ◌++◌, map, filter, get_or, Some, None, refl, sym, ap, subst, ◌∙◌, arith}
use Rattle.std.specs.Prelude.{All, find}
use Rattle.std.specs.List.{AllByRecursion, list_any}
use Rattle.std.specs.Option.{option_or}
use Rattle.std.proofs.lemmas.Bool.Decides.{nat_tests}
use Rattle.std.proofs.lemmas.List.Elements.{All-from_recursion, recursion_from_All}
use Rattle.std.proofs.lemmas.List.Folds.{find-append}
use Rattle.requests.specs.declared.group.Group.{Group}
use Rattle.requests.specs.declared.group.Group.TheVariants as g
use Rattle.requests.specs.declared.new_order.OrderedLine.{OrderedLine}
use Rattle.groups.specs.Groups.{is_same}
use Rattle.groups.specs.NewOrder.{firsts, group_of_supply, supplies_of}
use Rattle.groups.proofs.SameGroups.{is_same-itself}
use Rattle.tickets.proofs.Apart.{by_bool, is_same-equal}
use Rattle.transactions.specs.NewOrder.{Numbered, is_in, lines_in, numbered}
use Rattle.transactions.proofs.EachOne.{each_filtered, each_of, each_passing, each_weaker}

-- ---- groups where they first occur

module _ (P : Group → Type 0) where
  of_others : (group : Group) (others : List Group) → P group → AllByRecursion P (filter (λ other. not (is_same group other)) others) → AllByRecursion P others
  of_others group [] here each = tt
  of_others group (other ∷ others) here each =
      let rest = filter (λ other. not (is_same group other)) others in
      elim (is_same group other) as (λ b. is_same group other ≡ b → AllByRecursion P (cond (not b) (other ∷ rest) rest) → AllByRecursion P (other ∷ others)) [
        | true ↦ λ e those. (subst P (is_same-equal group other e) here, of_others group others here those)
        | false ↦ λ e those. (those.0, of_others group others here those.1)
      ] refl each

  -- what holds of each group where it first occurs holds of each
  pub of_firsts : (groups : List Group) → AllByRecursion P (firsts groups) → AllByRecursion P groups
  of_firsts [] each = tt
  of_firsts (group ∷ groups) each = (each.0, of_firsts groups (of_others group (firsts groups) each.0 each.1))

  -- and so the other way round
  pub firsts_of : (groups : List Group) → AllByRecursion P groups → AllByRecursion P (firsts groups)
  firsts_of [] each = tt
  firsts_of (group ∷ groups) each = (each.0, each_filtered P (λ other. not (is_same group other)) (firsts groups) (firsts_of groups each.1))

  -- what holds of each holds of one of them
  pub of_one : (group : Group) (groups : List Group) → list_any (λ own. is_same group own) groups ≡ true → AllByRecursion P groups → P group
  of_one group [] among each = absurd cc
  of_one group (own ∷ groups) among each =
      elim (is_same group own) as (λ b. is_same group own ≡ b → (b || list_any (λ own. is_same group own) groups) ≡ true → P group) [
        | true ↦ λ e a. subst P (sym (is_same-equal group own e)) each.0
        | false ↦ λ e a. of_one group groups a each.1
      ] refl among

-- each of them is one of them
among_all : (all groups : List Group) → ((group : Group) → list_any (λ own. is_same group own) groups ≡ true → list_any (λ own. is_same group own) all ≡ true)
    → AllByRecursion (λ group. list_any (λ own. is_same group own) all ≡ true) groups
among_all all [] into = tt
among_all all (group ∷ groups) into = (
  into group (ap (λ b. b || list_any (λ own. is_same group own) groups) (is_same-itself group)),
  among_all all groups (λ other a. into other (later (is_same other group) (list_any (λ own. is_same other own) groups) a)),
)
  where
    later : (a b : Bool) → b ≡ true → (a || b) ≡ true
    later true b e = refl
    later false b e = e

pub each_among : (groups : List Group) → AllByRecursion (λ group. list_any (λ own. is_same group own) groups ≡ true) groups
each_among groups = among_all groups groups (λ group a. a)

-- ---- the groups that supply lines

unfoldable pub IsStock : Group → Type 0
IsStock group = (w_id : ℕ) × (residue : ℕ) × (group ≡ g.Stock w_id residue)

stocks : (lines : List OrderedLine) → AllByRecursion IsStock (map group_of_supply lines)
unfolding IsStock
stocks [] = tt
stocks (line ∷ lines) = ((_, _, refl), stocks lines)

pub supplies_are_stock : (lines : List OrderedLine) → AllByRecursion IsStock (supplies_of lines)
supplies_are_stock lines = firsts_of IsStock (map group_of_supply lines) (stocks lines)

-- ---- numbered lines

-- what holds of the group of each line
each_numbered : (P : Group → Type 0) (low : ℕ) (lines : List OrderedLine) → AllByRecursion P (map group_of_supply lines) → AllByRecursion (λ (line : Numbered). P (group_of_supply line.1)) (numbered low lines)
each_numbered P low [] each = tt
each_numbered P low (line ∷ lines) each = (each.0, each_numbered P (low + 1) lines each.1)

pub by_supplies : (P : Group → Type 0) (lines : List OrderedLine) → AllByRecursion P (supplies_of lines) → AllByRecursion (λ (line : Numbered). P (group_of_supply line.1)) (numbered 1 lines)
by_supplies P lines each = each_numbered P 1 lines (of_firsts P (map group_of_supply lines) each)

-- some group supplies each line
pub each_is_supplied : (lines : List OrderedLine) → AllByRecursion (λ line. list_any (λ group. is_in group line) (supplies_of lines) ≡ true) (numbered 1 lines)
each_is_supplied lines = by_supplies (λ group. list_any (λ own. is_same group own) (supplies_of lines) ≡ true) lines (each_among (supplies_of lines))

-- what holds of the lines of each group holds of each line
pub by_groups : (P : Numbered → Type 0) (lines : List OrderedLine) → AllByRecursion (λ group. AllByRecursion P (lines_in group lines)) (supplies_of lines) → AllByRecursion P (numbered 1 lines)
by_groups P lines each =
    let all = numbered 1 lines in
    let HoldsIn : Group → Type 0 = λ group. All (λ line. is_in group line ≡ true → P line) all in
    let in_each = each_weaker (λ group. AllByRecursion P (lines_in group lines)) HoldsIn
    (λ group those. All-from_recursion (λ line. is_in group line ≡ true → P line) all (each_passing P (is_in group) all those)) (supplies_of lines) each in
    let own = All-from_recursion (λ (line : Numbered). HoldsIn (group_of_supply line.1)) all (by_supplies HoldsIn lines in_each) in
    recursion_from_All P all (λ k d within. own k d within k d within (is_same-itself (group_of_supply (get_or all k d).1)))

-- ---- the line of a number

-- no line below the first has a number
module _ (test : Numbered → Bool) where
  none_below : (k low : ℕ) (lines : List OrderedLine) → k < low → find (λ line. line.0 == k) (filter test (numbered low lines)) ≡ None
  none_below k low [] below = refl
  none_below k low (line ∷ lines) below =
      let rest = filter test (numbered (low + 1) lines) in
      let none = none_below k (low + 1) lines (omega (arith, below)) in
      elim (test (low, line)) as (λ b. find (λ line. line.0 == k) (cond b ((low, line) ∷ rest) rest) ≡ None) [
        | true ↦ by_bool (low == k) refl (λ e. let same : low ≡ k = grind (arith, nat_tests) in absurd (omega (arith, same, below))) (λ e. ap (λ b. cond b (Some (low, line)) (find (λ line. line.0 == k) rest)) e ∙ none)
        | false ↦ none
      ]

  -- a line that passes is found by its number, and one that fails is not
  IsFound : List Numbered → Numbered → Type 0
  IsFound lines line = find (λ other. other.0 == line.0) (filter test lines) ≡ cond (test line) (Some line) None

  each_found : (low : ℕ) (lines : List OrderedLine) → AllByRecursion (λ line. (low ≤ line.0) × IsFound (numbered low lines) line) (numbered low lines)
  unfolding IsFound
  each_found low [] = tt
  each_found low (line ∷ lines) =
      let rest = filter test (numbered (low + 1) lines) in
      let own : (low == low) ≡ true = grind (arith, nat_tests) in (
        (
          omega arith,
          elim (test (low, line)) as (λ b. find (λ other. other.0 == low) (cond b ((low, line) ∷ rest) rest) ≡ cond b (Some (low, line)) None) [
            | true ↦ ap (λ b. cond b (Some (low, line)) (find (λ other. other.0 == low) rest)) own
            | false ↦ none_below low (low + 1) lines (omega arith)
          ],
        ),
        each_weaker (λ other. (low + 1 ≤ other.0) × IsFound (numbered (low + 1) lines) other) (λ other. (low ≤ other.0) × IsFound (numbered low (line ∷ lines)) other)
            (λ other known. (omega (arith, known.0), later other known.0 known.1)) (numbered (low + 1) lines) (each_found (low + 1) lines),
      )
    where
      later : (other : Numbered) → low + 1 ≤ other.0 → IsFound (numbered (low + 1) lines) other → IsFound (numbered low (line ∷ lines)) other
      later other above is =
          let rest = filter test (numbered (low + 1) lines) in
          let apart : (low == other.0) ≡ false = grind (arith, nat_tests, above) in
          elim (test (low, line)) as (λ b. find (λ o. o.0 == other.0) (cond b ((low, line) ∷ rest) rest) ≡ cond (test other) (Some other) None) [
            | true ↦ ap (λ b. cond b (Some (low, line)) (find (λ o. o.0 == other.0) rest)) apart ∙ is
            | false ↦ is
          ]

-- the lines that these groups supply, one group's after another's
abbrev pub all_in : List Group → List OrderedLine → List Numbered
all_in [] lines = []
all_in (group ∷ groups) lines = lines_in group lines ++ all_in groups lines

-- a line that one of the groups supplies is found among them by its number
found_in : (lines : List OrderedLine) (groups : List Group) → AllByRecursion (λ line. find (λ other. other.0 == line.0) (all_in groups lines) ≡ cond (list_any (λ group. is_in group line) groups) (Some line) None) (numbered 1 lines)
unfolding IsFound
found_in lines [] = each_of _ (λ line. refl) (numbered 1 lines)
found_in lines (group ∷ groups) =
    let all = numbered 1 lines in
    let one = All-from_recursion (λ line. (1 ≤ line.0) × IsFound (is_in group) all line) all (each_found (is_in group) 1 lines) in
    let rest = All-from_recursion (λ line. find (λ other. other.0 == line.0) (all_in groups lines) ≡ cond (list_any (λ group. is_in group line) groups) (Some line) None) all (found_in lines groups) in
    let both : (line : Numbered) → find (λ other. other.0 == line.0) (lines_in group lines) ≡ cond (is_in group line) (Some line) None
    → find (λ other. other.0 == line.0) (all_in groups lines) ≡ cond (list_any (λ group. is_in group line) groups) (Some line) None
    → find (λ other. other.0 == line.0) (all_in (group ∷ groups) lines) ≡ cond (list_any (λ group. is_in group line) (group ∷ groups)) (Some line) None =
    λ line first second.
    find-append (λ (other : Numbered). other.0 == line.0) (lines_in group lines) (all_in groups lines)
    ∙ (λ i. option_or (first i) (second i))
    ∙ elim (is_in group line) as (λ b. option_or (cond b (Some line) None) (cond (list_any (λ group. is_in group line) groups) (Some line) None) ≡ cond (b || list_any (λ group. is_in group line) groups) (Some line) None) [ true ↦ refl | false ↦ refl ] in
    recursion_from_All (λ line. find (λ other. other.0 == line.0) (all_in (group ∷ groups) lines) ≡ cond (list_any (λ group. is_in group line) (group ∷ groups)) (Some line) None) all
    (λ k d within. both _ (one k d within).1 (rest k d within))

-- so each line is found among those that all groups supply
pub each_line_is_found : (lines : List OrderedLine) → AllByRecursion (λ line. find (λ other. other.0 == line.0) (all_in (supplies_of lines) lines) ≡ Some line) (numbered 1 lines)
each_line_is_found lines =
    let all = numbered 1 lines in
    let supplied = All-from_recursion (λ line. list_any (λ group. is_in group line) (supplies_of lines) ≡ true) all (each_is_supplied lines) in
    let found = All-from_recursion (λ line. find (λ other. other.0 == line.0) (all_in (supplies_of lines) lines) ≡ cond (list_any (λ group. is_in group line) (supplies_of lines)) (Some line) None) all (found_in lines (supplies_of lines)) in
    recursion_from_All (λ line. find (λ other. other.0 == line.0) (all_in (supplies_of lines) lines) ≡ Some line) all
    (λ k d within. found k d within ∙ ap (λ b. cond b (Some (get_or all k d)) None) (supplied k d within))
