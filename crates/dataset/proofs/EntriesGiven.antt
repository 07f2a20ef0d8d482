-- What an iterator had left, from the rows that it lent.
use Rattle.std.proofs.Common.{◌≡◌, List, [], ◌∷◌, ◌++◌, map, ap, ◌∙◌}
use Rattle.std.specs.Borrow.{Bor}
use Rattle.std.specs.Iterator.{Yields}
use Rattle.std.specs.declared.option.Option.{Option}
use Rattle.std.specs.declared.option.Option.TheVariants.{None, Some}
use Rattle.std.proofs.lemmas.List.{append-nil}
use Rattle.schema.specs.Entries.{entry}
use Rattle.dataset.specs.Entries.{GivesEntries}

module _ {S K X : Type 0} {steps : S → Option (K × Bor X) → S → Type 0} (left : S → List (K × X)) (gives : GivesEntries steps left) where
  given : (s : S) (items : List (K × Bor X)) (t : S) → Yields steps s items t → left s ≡ map entry items ++ left t
  given s [] t yields = ap left yields
  given s (item ∷ items) t yields = gives s (Some item) yields.0 yields.1 ∙ ap (λ l. entry item ∷ l) (given yields.0 items t yields.2)

  -- the next entry follows those that were returned, and others may follow
  pub given-next : (s : S) (items : List (K × Bor X)) (t : S) → Yields steps s items t → (item : K × Bor X) (u : S) → steps t (Some item) u → left s ≡ map entry items ++ (entry item ∷ left u)
  given-next s items t yields item u step = given s items t yields ∙ ap (λ l. map entry items ++ l) (gives t (Some item) u step)

  -- all entries were returned
  pub given-all : (s : S) (items : List (K × Bor X)) (t u : S) → Yields steps s items t → steps t None u → left s ≡ map entry items
  given-all s items t u yields step = given s items t yields ∙ ap (λ l. map entry items ++ l) (gives t None u step).0 ∙ append-nil (map entry items)
