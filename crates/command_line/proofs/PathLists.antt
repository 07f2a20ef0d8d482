-- Which of a list of paths are one.
use Rattle.std.proofs.Common.{◌≡◌, ◌≤◌, ◌<◌, ◌+◌, ℕ, List, length, map, take, get_or, Bor, Option, true, false, None, Some, inl, inr, sym, ap, subst, ◌∙◌, arith}
use Rattle.std.specs.List.{slice_get}
use Rattle.std.proofs.lemmas.Bool.{cases_lt}
use Rattle.std.specs.Prelude.{option_map}
use Rattle.std.specs.Ordering.{is_eq}
use Rattle.std.specs.Path.{path_cmp}
use Rattle.std.proofs.lemmas.List.{get_or-take, length-take-le}
use Rattle.std.proofs.lemmas.Option.{slice_get-get_or, slice_get-map, slice_get_past}
use Rattle.command_line.specs.Mistakes.{AreOnePath, HasPathTwice}

-- none of the first k paths is the one at j
abbrev pub HasNoneAt : List (List ℕ) → ℕ → ℕ → Type 0
HasNoneAt paths k j = (i : ℕ) → i < k → AreOnePath (slice_get paths i) (slice_get paths j) → ⊥

-- no two of the first p paths are one
abbrev pub HasNoneTwice : List (List ℕ) → ℕ → Type 0
HasNoneTwice paths p = (j : ℕ) → j < p → HasNoneAt paths j j

one_there : (one other : Option (List ℕ)) → other ≡ None → AreOnePath one other → ⊥
one_there None None e one = one
one_there None (Some x) e one = one
one_there (Some x) None e one = one
one_there (Some x) (Some y) e one = absurd cc

pub none_twice : (paths : List (List ℕ)) (p : ℕ) → length paths ≤ p → HasNoneTwice paths p → HasPathTwice paths → ⊥
none_twice paths p done none twice =
    elim (cases_lt twice.1 (length paths)) [
      | inl there ↦ let before : twice.1 < p = omega arith in none twice.1 before twice.0 twice.2 twice.3
      | inr past ↦ one_there (slice_get paths twice.0) (slice_get paths twice.1) (slice_get_past paths twice.1 past) twice.3
    ]

-- one more of the paths before it is another one
pub one_more : (files : List (Bor (List ℕ))) (i place : ℕ) (d e : Bor (List ℕ)) → place < length files → i < length (take place files)
    → is_eq (path_cmp (get_or (take place files) i d).now (get_or files place e).now) ≡ false → HasNoneAt (map (λ file. file.now) files) i place
    → HasNoneAt (map (λ file. file.now) files) (i + 1) place
one_more files i place d e there here other none k low one =
    let now : Bor (List ℕ) → List ℕ = λ file. file.now in
    let within : i < place = omega (arith, length-take-le place files (omega arith)) in
    let at : (n : ℕ) (f : Bor (List ℕ)) → n < length files → slice_get (map now files) n ≡ Some (get_or files n f).now =
    λ n f h. slice_get-map now files n ∙ ap (option_map now) (slice_get-get_or files n f h) in
    elim (cases_lt k i) [
      | inl before ↦ none k before one
      | inr past ↦
          let same : k ≡ i = omega arith in
          let first : slice_get (map now files) k ≡ Some (get_or (take place files) i d).now =
          ap (slice_get (map now files)) same ∙ at i d (omega arith) ∙ ap (λ (f : Bor (List ℕ)). Some (now f)) (sym (get_or-take place files i d within)) in
          let AreOne : Option (List ℕ) → Option (List ℕ) → Type 0 = λ a b. AreOnePath a b in
          let is : AreOnePath (Some (get_or (take place files) i d).now) (Some (get_or files place e).now) =
          subst (AreOne (Some (get_or (take place files) i d).now)) (at place e there) (subst (λ (a : Option (List ℕ)). AreOne a (slice_get (map now files) place)) first one) in
          let no : false ≡ true = sym other ∙ is in
          absurd cc
    ]
