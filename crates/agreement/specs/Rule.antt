-- The rule of an agreement's table, over the views of all places, and what its steps do to a view.
use Rattle.std.specs.Prelude.{◌≡◌, ℕ, ◌+◌, ◌-◌, ◌<◌, ◌≤◌, List, [], ◌∷◌}
use mathlib.Core.Option.{some}
use lib.ListN.{get_elem?}
use Rattle.atomic_table.specs.Table.{State, Me}
use Rattle.agreement.specs.declared.rule.View.{View}

module _ {V : Type 0} where
  -- the shares of all views, added up
  abbrev pub shares : List (View V) → ℕ
  shares [] = 0
  shares (v ∷ vs) = v.share + shares vs

  -- a view with a share has this value and this number of shares of the agreement, and the value that it took in last
  -- is the same
  abbrev pub Records : ℕ → V → View V → Type 0
  Records count value v = 0 < v.share → (v.value ≡ value) × (v.taken_value ≡ value) × (v.count ≡ count)

  -- the shares of all views add up to this number, and all views with a share have one value
  pub record IsAgreed (count : ℕ) (s : State (Unit {0}) (View V)) : Type 0 where
    pub all_there : shares s.views ≡ count
    pub value : V
    pub recorded : (place : ℕ) (v : View V) → get_elem? s.views place ≡ some v → Records count value v

  -- a view that has taken in nothing
  abbrev pub fresh : V → ℕ → ℕ → View V
  fresh value share count = record { value = value; share = share; count = count; taken_value = value; taken_share = 0 }

  -- the view of the first place, which has all shares
  abbrev pub first_view : V → ℕ → View V
  first_view value count = fresh value count count

  -- the view of a place that was taken in by another
  abbrev pub spent : V → View V
  spent value = fresh value 0 0

  -- what is left of a view after n shares went away
  abbrev pub less : View V → ℕ → View V
  less v n = record { value = v.value; share = v.share - n; count = v.count; taken_value = v.taken_value; taken_share = v.taken_share }

  -- the view of the new place to which n shares of v went
  abbrev pub part : View V → ℕ → View V
  part v n = fresh v.value n v.count

  -- the view after w was taken in: it keeps its value
  abbrev pub taking_in : View V → View V → View V
  taking_in v w = record { value = v.value; share = v.share + w.share; count = v.count; taken_value = w.value; taken_share = w.share }

  -- the view after w was taken in by a place that may have had no share: it has the value of w
  abbrev pub refilled : View V → View V → View V
  refilled v w = record { value = w.value; share = v.share + w.share; count = w.count; taken_value = w.value; taken_share = w.share }

  -- the view after a change to this value
  abbrev pub set_to : View V → V → View V
  set_to v value = record { value = value; share = v.share; count = v.count; taken_value = value; taken_share = v.taken_share }

  -- nothing changes; the place taken in last had the same value, and the place has at most all shares
  abbrev pub LooksRound : Me (Unit {0}) (View V) → Me (Unit {0}) (View V) → Type 0
  LooksRound before after = (after ≡ before) × (before.0.taken_value ≡ before.0.value) × (before.0.share ≤ before.0.count)

  -- the place has this value now
  abbrev pub IsSetTo : V → Me (Unit {0}) (View V) → Me (Unit {0}) (View V) → Type 0
  IsSetTo value before after = after ≡ (set_to before.0 value, before.1)

  -- the first of these values, or else the one given
  abbrev pub first_or : V → List V → V
  first_or value [] = value
  first_or value (x ∷ xs) = x
