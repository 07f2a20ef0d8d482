-- Each group once, where it first stands.
use Rattle.std.proofs.Common.{◌≡◌, ◌+◌, ◌≤◌, Bool, true, false, cond, not, ◌||◌, List, [], ◌∷◌, ◌++◌, count_by, true≢false, refl, sym, ap, append-nil, ◌∙◌, arith}
use Rattle.std.specs.List.{filter, list_any}
use Rattle.std.proofs.lemmas.Bool.{false_from_ne_true}
use Rattle.std.proofs.lemmas.List.Elements.{filter-append}
use Rattle.requests.specs.declared.group.Group.{Group}
use Rattle.groups.specs.Groups.{is_same}
use Rattle.groups.specs.NewOrder.{firsts}
use Rattle.groups.proofs.Counts.{one, one-le, count-cons}
use Rattle.groups.proofs.SameGroups.{is_same-equal}

-- a test that passes no group but those that are kept finds as much among these
module _ (p keeps : Group → Bool) (kept : (group : Group) → p group ≡ true → keeps group ≡ true) where
  one_more : (group : Group) (left rest : List Group) → list_any p left ≡ list_any p rest → (b : Bool) → keeps group ≡ b
      → list_any p (cond b (group ∷ left) left) ≡ (p group || list_any p rest)
  one_more group left rest alike true keep = ap (λ any. p group || any) alike
  one_more group left rest alike false drop =
      let fails : p group ≡ false = false_from_ne_true (p group) (λ passes. true≢false (sym (kept group passes) ∙ drop)) in
      alike ∙ ap (λ b. b || list_any p rest) (sym fails)

  any-filter : (groups : List Group) → list_any p (filter keeps groups) ≡ list_any p groups
  any-filter [] = refl
  any-filter (group ∷ groups) = one_more group (filter keeps groups) groups (any-filter groups) (keeps group) refl

-- one group more, if it isn't there
abbrev added : List Group → Group → List Group
added groups group = cond (list_any (λ own. is_same own group) groups) groups (groups ++ group ∷ [])

module _ (first group : Group) (rest : List Group) where
  abbrev others : List Group → List Group
  others = filter (λ other. not (is_same first other))

  abbrev is_there : Bool
  is_there = list_any (λ own. is_same own group) rest

  unlike : is_same first group ≡ false → (own : Group) → is_same own group ≡ true → not (is_same first own) ≡ true
  unlike apart own same = ap not (ap (is_same first) (is_same-equal own group same) ∙ apart)

  not_there : (b : Bool) → is_same first group ≡ b → others (rest ++ group ∷ []) ≡ others rest ++ cond (not b) (group ∷ []) []
  not_there b e = filter-append (λ other. not (is_same first other)) rest (group ∷ []) ∙ ap (λ b. others rest ++ cond (not b) (group ∷ []) []) e

  if_first : (there : Bool) → is_same first group ≡ true → others (cond there rest (rest ++ group ∷ [])) ≡ others rest
  if_first true e = refl
  if_first false e = not_there true e ∙ append-nil (others rest)

  if_other : (there : Bool) → is_same first group ≡ false → others (cond there rest (rest ++ group ∷ [])) ≡ cond there (others rest) (others rest ++ group ∷ [])
  if_other true e = refl
  if_other false e = not_there false e

  under_first : (there : Bool) → first ∷ cond there (others rest) (others rest ++ group ∷ []) ≡ cond there (first ∷ others rest) (first ∷ others rest ++ group ∷ [])
  under_first true = refl
  under_first false = refl

  added-cons : (b : Bool) → is_same first group ≡ b
      → first ∷ others (added rest group)
      ≡ cond (b || list_any (λ own. is_same own group) (others rest)) (first ∷ others rest) (first ∷ others rest ++ group ∷ [])
  added-cons true e = ap (λ l. first ∷ l) (if_first is_there e)
  added-cons false e =
      let among : list_any (λ own. is_same own group) (others rest) ≡ is_there =
      any-filter (λ own. is_same own group) (λ other. not (is_same first other)) (unlike e) rest in
      ap (λ l. first ∷ l) (if_other is_there e) ∙ under_first is_there
      ∙ ap (λ there. cond there (first ∷ others rest) (first ∷ others rest ++ group ∷ [])) (sym among)

-- a group more at the end adds itself, if it isn't there
pub firsts_more : (groups : List Group) (group : Group) → firsts (groups ++ group ∷ [])
    ≡ cond (list_any (λ own. is_same own group) (firsts groups)) (firsts groups) (firsts groups ++ group ∷ [])
firsts_more [] group = refl
firsts_more (first ∷ groups) group =
    ap (λ l. first ∷ filter (λ other. not (is_same first other)) l) (firsts_more groups group)
    ∙ added-cons first group (firsts groups) (is_same first group) refl

-- ---- how often a group stands there

module _ (p keeps : Group → Bool) where
  step : (b : Bool) (group : Group) (left : List Group) → count_by p (cond b (group ∷ left) left) ≤ one (p group) + count_by p left
  step true group left = omega (arith, count-cons p group left)
  step false group left = omega arith

  pub count-filter-le : (groups : List Group) → count_by p (filter keeps groups) ≤ count_by p groups
  count-filter-le [] = omega arith
  count-filter-le (group ∷ groups) =
      omega (arith, step (keeps group) group (filter keeps groups), count-filter-le groups, count-cons p group groups)

-- none that is taken away is left
none_left : (own : Group) (groups : List Group) → count_by (is_same own) (filter (λ other. not (is_same own other)) groups) ≡ 0
none_left own [] = refl
none_left own (group ∷ groups) = at (none_left own groups) (is_same own group) refl
  where
    rest : List Group
    rest = filter (λ other. not (is_same own other)) groups

    at : count_by (is_same own) rest ≡ 0 → (b : Bool) → is_same own group ≡ b → count_by (is_same own) (cond (not b) (group ∷ rest) rest) ≡ 0
    at none true e = none
    at none false e = omega (arith, count-cons (is_same own) group rest, ap one e, none)

pub firsts_once : (group : Group) (groups : List Group) → count_by (is_same group) (firsts groups) ≤ 1
firsts_once group [] = omega arith
firsts_once group (first ∷ groups) = at (firsts_once group groups) (is_same group first) refl
  where
    rest : List Group
    rest = filter (λ other. not (is_same first other)) (firsts groups)

    parts : count_by (is_same group) (first ∷ rest) ≡ one (is_same group first) + count_by (is_same group) rest
    parts = count-cons (is_same group) first rest

    at : count_by (is_same group) (firsts groups) ≤ 1 → (b : Bool) → is_same group first ≡ b → count_by (is_same group) (first ∷ rest) ≤ 1
    at once true e =
        let none : count_by (is_same group) rest ≡ 0 =
        ap (λ own. count_by (is_same own) rest) (is_same-equal group first e) ∙ none_left first (firsts groups) in
        omega (arith, parts, one-le (is_same group first), none)
    at once false e = omega (arith, parts, ap one e, count-filter-le (is_same group) (λ other. not (is_same first other)) (firsts groups), once)

-- a test that none of the groups passes
pub none_of_firsts : (p : Group → Bool) (groups : List Group) → count_by p groups ≡ 0 → count_by p (firsts groups) ≡ 0
none_of_firsts p [] none = refl
none_of_firsts p (first ∷ groups) none =
    let all = count-cons p first groups in
    let rest : count_by p (firsts groups) ≡ 0 = none_of_firsts p groups (omega (arith, all, none)) in
    let left = count-cons p first (filter (λ other. not (is_same first other)) (firsts groups)) in
    omega (arith, all, none, rest, left, count-filter-le p (λ other. not (is_same first other)) (firsts groups))
