-- The results in the hand of who reported last.
use Rattle.std.specs.Prelude.{◌≡◌, ◌+◌, ℕ, List, [], ◌∷◌, ◌++◌, length, Option, option_to_list}
use Rattle.rendezvous.specs.Rule.{empty_slots, in_slots}

module _ {R : Type 0} where
  -- what is left in the slots of a hand
  abbrev pub held : List (ℕ × Option R) → List R
  held [] = []
  held (x ∷ xs) = option_to_list x.1 ++ held xs

  -- So many results of a round of so many places are left, one slot after another from this one on. The slots before lie empty behind them.
  pub record IsInHand (places next left : ℕ) (hand : List (ℕ × Option R)) : Type 0 where
    pub count : left ≡ length (held hand)
    pub all : next + left ≡ places
    pub first : hand ≡ in_slots next (held hand) ++ empty_slots 0 next
