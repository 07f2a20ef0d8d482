-- What is sold of the lines of a group, as they are gone through.
use Rattle.std.proofs.Common.{◌≡◌, ◌<◌, ◌+◌, ℕ, true, false, cond, filter, drop, length, get_or, subst, List, [], ◌∷◌, ◌++◌, map, Option, Some, None, append_assoc, refl, sym, ap, ◌∙◌}
use Rattle.std.specs.Option.{option_map}
use Rattle.std.proofs.lemmas.List.{at_drop_more}
use Rattle.requests.specs.declared.group.Group.{Group}
use Rattle.requests.specs.declared.new_order.OrderedLine.{OrderedLine}
use Rattle.machine.specs.NewOrder.{all_there}
use Rattle.transactions.specs.NewOrder.{Numbered, is_in, numbered}

-- those that are done, with what is found of the rest, are what is found of all
abbrev pub AreSoFar : {X Y : Type 0} → (X → Option Y) → List Y → List X → List X → Type 0
AreSoFar f done rest all = option_map (λ found. done ++ found) (all_there (map f rest)) ≡ all_there (map f all)

module _ {X Y : Type 0} (f : X → Option Y) where
  pub one_more : (done : List Y) (x : X) (y : Y) (rest all : List X) → f x ≡ Some y → AreSoFar f done (x ∷ rest) all → AreSoFar f (done ++ y ∷ []) rest all
  one_more done x y rest all is so_far =
      elim (all_there (map f rest)) as (λ o. option_map (λ found. (done ++ y ∷ []) ++ found) o ≡ option_map (λ found. done ++ found) (option_map (λ found. y ∷ found) o)) [
        | None ↦ refl
        | Some found ↦ ap Some (append_assoc done (y ∷ []) found)
      ]
      ∙ ap (λ o. option_map (λ found. done ++ found) (all_there (o ∷ map f rest))) (sym is)
      ∙ so_far

-- ---- the lines that a group supplies, from an index on

abbrev pub rest_from : Group → List OrderedLine → ℕ → List Numbered
rest_from group lines index = filter (is_in group) (numbered (index + 1) (drop index lines))

module _ {Y : Type 0} (f : Numbered → Option Y) (group : Group) (lines : List OrderedLine) where
  next : (index : ℕ) (d : OrderedLine) → index < length lines
      → rest_from group lines index ≡ cond (is_in group (index + 1, get_or lines index d)) ((index + 1, get_or lines index d) ∷ rest_from group lines (index + 1)) (rest_from group lines (index + 1))
  next index d below = at_drop_more (λ (those : List OrderedLine). filter (is_in group) (numbered (index + 1) those)) lines index d below

  -- a line that the group supplies is done
  pub line_done : (index : ℕ) (d : OrderedLine) (done : List Y) (y : Y) (all : List Numbered) → index < length lines → is_in group (index + 1, get_or lines index d) ≡ true
      → f (index + 1, get_or lines index d) ≡ Some y → AreSoFar f done (rest_from group lines index) all → AreSoFar f (done ++ y ∷ []) (rest_from group lines (index + 1)) all
  line_done index d done y all below inside is so_far =
      let line = get_or lines index d in
      let here : rest_from group lines index ≡ (index + 1, line) ∷ rest_from group lines (index + 1) =
      next index d below ∙ ap (λ b. cond b ((index + 1, line) ∷ rest_from group lines (index + 1)) (rest_from group lines (index + 1))) inside in
      one_more f done (index + 1, line) y (rest_from group lines (index + 1)) all is (subst (λ rest. AreSoFar f done rest all) here so_far)

  -- another line is passed over
  pub line_passed : (index : ℕ) (d : OrderedLine) (done : List Y) (all : List Numbered) → index < length lines → is_in group (index + 1, get_or lines index d) ≡ false
      → AreSoFar f done (rest_from group lines index) all → AreSoFar f done (rest_from group lines (index + 1)) all
  line_passed index d done all below outside so_far =
      let line = get_or lines index d in
      let here : rest_from group lines index ≡ rest_from group lines (index + 1) =
      next index d below ∙ ap (λ b. cond b ((index + 1, line) ∷ rest_from group lines (index + 1)) (rest_from group lines (index + 1))) outside in
      subst (λ rest. AreSoFar f done rest all) here so_far
