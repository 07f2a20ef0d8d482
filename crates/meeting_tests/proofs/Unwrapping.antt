-- Results that are the same under Some.
use Rattle.std.proofs.Common.{◌≡◌, List, [], ◌∷◌, map, Option, Some, None, refl, sym, ap, ◌∙◌}

module _ {R : Type 0} where
  abbrev unwrapped : List (Option R) → List R
  unwrapped [] = []
  unwrapped (None ∷ xs) = unwrapped xs
  unwrapped (Some r ∷ xs) = r ∷ unwrapped xs

  unwrapped_map : (rs : List R) → unwrapped (map Some rs) ≡ rs
  unwrapped_map [] = refl
  unwrapped_map (r ∷ rs) = ap (λ l. r ∷ l) (unwrapped_map rs)

  pub same_results : (rs ss : List R) → map Some rs ≡ map Some ss → rs ≡ ss
  same_results rs ss same = sym (unwrapped_map rs) ∙ ap unwrapped same ∙ unwrapped_map ss
