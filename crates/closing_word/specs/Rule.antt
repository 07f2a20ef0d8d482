-- The rule of a closing word's table, over the views of all places, and what its steps do to a view.
use Rattle.std.specs.Prelude.{◌≡◌, ℕ, ◌<◌, Bool, true, false, length, slice_index}
use mathlib.Core.Option.{some}
use lib.ListN.{get_elem?}
use Rattle.atomic_table.specs.Table.{State, Me}
use Rattle.closing_word.specs.declared.rule.View.{View}

-- the view of the closer's place: whether it has closed the word
abbrev pub closer_view : Bool → View
closer_view closed = record { is_closer = true; is_closed = closed }

-- the view of any other place: whether it has found the word closed
abbrev pub looker_view : Bool → View
looker_view closed = record { is_closer = false; is_closed = closed }

-- only one place is the closer's, and a place knows that the word is closed only if it is
pub record IsTrue (closer word place : ℕ) (v : View) : Type 0 where
  pub own : v.is_closer ≡ true → place ≡ closer
  pub found : v.is_closed ≡ true → word ≡ 1

-- Each view is true, and the closer's place knows that the word is closed, if it is. So nobody else can close it.
pub record AreTrue (s : State (Unit {0}) View) : Type 0 where
  pub some_word : 0 < length s.words
  pub closer : ℕ
  pub view : View
  pub there : get_elem? s.views closer ≡ some view
  pub knows : slice_index s.words 0 ≡ 1 → view.is_closed ≡ true
  pub each : (place : ℕ) (v : View) → get_elem? s.views place ≡ some v → IsTrue closer (slice_index s.words 0) place v

-- a new place that has found the word closed knows it
abbrev pub HasLooked : ℕ → Me (Unit {0}) View → Type 0
HasLooked found after = found ≡ 1 → after.0 ≡ looker_view true

-- the closer's place has closed the word
abbrev pub HasClosed : Me (Unit {0}) View → Me (Unit {0}) View → Type 0
HasClosed before after = after ≡ (closer_view true, before.1)
