-- The claims of a finished transaction that go back by messages, and the meeting to which their actions report.
use Rattle.std.specs.Prelude.{◌≡◌, ◌+◌, ◌<◌, ℕ, Option, Some, None, length}
use Rattle.atomic_table.specs.Seated.{TableId}
use Rattle.rendezvous.specs.Meetings.{PlaceView, PlacesView}
use Rattle.rendezvous.specs.declared.rule.Anything.{Anything}
use Rattle.transactions.specs.declared.laws.TheConstants.{MOST_ACTIONS}
use Rattle.executor.specs.declared.release.GivenBack.{GivenBack}
use Rattle.executor.specs.Answers.{ReturnsView}
use Rattle.executor.specs.Released.{IsGivenBack, giving_of}

-- the owner of a slot's completion meeting: its slot
pub record CompletionOwnerView : Type 0 where
  pub slot : ℕ

abbrev pub completion_owner_view : ℕ → CompletionOwnerView
completion_owner_view slot = record { slot = slot }

-- the place of an action: the slot of its transaction
pub record CompletionPlaceView : Type 0 where
  pub slot : ℕ

abbrev pub completion_place_view : ℕ → CompletionPlaceView
completion_place_view slot = record { slot = slot }

-- the place is of the meeting, which has room for all actions of a transaction
pub record IsPlaceAt (meeting : TableId) (place : PlaceView Anything) : Type 0 where
  pub here : place.of_round.meeting ≡ meeting
  pub room : meeting.slots ≡ MOST_ACTIONS

-- the claims that go next, if they were taken out of the others, and the others
pub record CompletionView (J : Type 0) : Type 0 where
  pub first : Option (GivenBack J)
  pub returns : ReturnsView

module _ {J : Type 0} where
  abbrev pub completion_view : Option (GivenBack J) → ReturnsView → CompletionView J
  completion_view first returns = record { first = first; returns = returns }

  -- how many claims were taken out of the others
  abbrev pub taken_out : Option (GivenBack J) → ℕ
  taken_out None = 0
  taken_out (Some given) = 1

  -- the number of actions whose claims are to go back
  abbrev pub going : CompletionView J → ℕ
  going c = taken_out c.first + length c.returns.held

  -- these claims go next: those that were taken out of the others, or else those of the last action of the others
  abbrev pub IsFirstOrLast : Option (GivenBack J) → ReturnsView → ReturnsView → GivenBack J → Type 0
  IsFirstOrLast (Some first) old new given = (given ≡ first) × (new ≡ old)
  IsFirstOrLast None old new given = IsGivenBack old new given

  -- these claims have gone, and the others are left
  abbrev pub IsNextBack : CompletionView J → CompletionView J → GivenBack J → Type 0
  IsNextBack old new given = (new.first ≡ None) × IsFirstOrLast old.first old.returns new.returns given

  -- these claims are all of this slot, and of no more actions than a transaction has
  pub record MayComplete (slot : ℕ) (first : GivenBack J) (returns : ReturnsView) : Type 0 where
    pub first_is : (giving_of first).slot ≡ slot
    pub others_are : returns.slot ≡ slot
    pub few : length returns.held < MOST_ACTIONS

  -- the claims are of this slot
  abbrev pub AreFirstOf : ℕ → Option (GivenBack J) → Type 0
  AreFirstOf slot None = Unit {0}
  AreFirstOf slot (Some given) = (giving_of given).slot ≡ slot

  -- the places are of the meeting, and there is one for the claims of each action, which are all of one slot
  pub record ArePlacesFor (meeting : TableId) (c : CompletionView J) (places : PlacesView Anything) (left : ℕ) : Type 0 where
    pub here : places.of_round.meeting ≡ meeting
    pub room : meeting.slots ≡ MOST_ACTIONS
    pub many : places.left ≡ left
    pub all : going c ≡ left
    pub slot_is : AreFirstOf c.returns.slot c.first
