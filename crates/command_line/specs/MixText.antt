-- The text of a mix.
use Rattle.std.specs.Prelude.{◌≡◌, ◌==◌, ◌≤◌, ℕ, if◌then◌else◌, List, [], ◌∷◌, map, Option, None, Some, codes, unwrap_or}
use Rattle.std.specs.Fmt.{decimal}
use Rattle.std.specs.List.{Contains, slice_split}
use Rattle.workload.specs.declared.mix.Mix.{Mix}

-- a kind's letter, an equals sign and how many cards the kind has, as N=45
abbrev pub cards_text : ℕ × ℕ → List ℕ
cards_text one = one.0 ∷ 61 ∷ decimal one.1

-- how many cards the list gives to the kind with this letter, if it contains the kind
abbrev pub reported_of : List (ℕ × ℕ) → ℕ → Option ℕ
reported_of [] letter = None
reported_of (one ∷ others) letter = if one.0 == letter then Some one.1 else reported_of others letter

-- letters of kinds, each once at most, with 0 to 1,000 cards each
abbrev pub AreCards : List (ℕ × ℕ) → Type 0
AreCards [] = Unit {0}
AreCards (one ∷ others) = Contains (codes "NPODL") one.0 × (one.1 ≤ 1000) × (reported_of others one.0 ≡ None) × AreCards others

-- The word is a text of the mix: its parts between commas give the cards of kinds, each kind once at most, and the mix has these cards. A
-- kind that is left out has none. (The letters N, P, O, D and L are 78, 80, 79, 68 and 76; the comma is 44; 61 above is `=`.)
pub record IsMixText (word : List ℕ) (mix : Mix) : Type 0 where
  pub cards : List (ℕ × ℕ)
  pub text : slice_split (λ byte. byte == 44) word ≡ map cards_text cards
  pub are_cards : AreCards cards
  pub new_orders : mix.new_orders ≡ unwrap_or (reported_of cards 78) 0
  pub payments : mix.payments ≡ unwrap_or (reported_of cards 80) 0
  pub order_statuses : mix.order_statuses ≡ unwrap_or (reported_of cards 79) 0
  pub deliveries : mix.deliveries ≡ unwrap_or (reported_of cards 68) 0
  pub stock_levels : mix.stock_levels ≡ unwrap_or (reported_of cards 76) 0
