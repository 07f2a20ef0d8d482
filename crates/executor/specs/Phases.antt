-- The phase of a transaction, once all its actions have reported.
use Rattle.std.specs.Prelude.{◌≡◌, ℕ, List, [], ◌∷◌}
use Rattle.atomic_table.specs.Seated.{TableId}
use Rattle.rendezvous.specs.Meetings.{ResultsView}
use Rattle.transactions.specs.declared.laws.TheConstants.{MOST_ACTIONS}
use Rattle.transactions.specs.declared.work.Work.{Work}
use Rattle.transactions.specs.declared.acting.Ran.{Ran}
use Rattle.partitions.specs.Parts.{SharedTables}
use Rattle.transactions.specs.Progresses.{works_of}
use Rattle.executor.specs.declared.phase_owner.Said.{Said}
use Rattle.transactions.specs.Acting.{IsRanBy}
use Rattle.executor.specs.Flows.{FlowView}

-- a phase of which all actions have reported: the transaction, and the result of each action, by place
pub record MetView (J : Type 0) : Type 0 where
  pub flow : FlowView
  pub rans : List (Ran J)

-- the reports of all actions of a phase: the slot of its transaction, and what they said that is left, by place
pub record LastReportView (J : Type 0) : Type 0 where
  pub slot : ℕ
  pub items : List (Said J)

module _ {J : Type 0} where
  abbrev pub last_report_view : ℕ → List (Said J) → LastReportView J
  last_report_view slot items = record { slot = slot; items = items }

  -- the results are those of the meeting, which has room for all actions of a phase
  pub record IsLastReport (meeting : TableId) (results : ResultsView (Said J)) : Type 0 where
    pub here : results.meeting ≡ meeting
    pub room : meeting.slots ≡ MOST_ACTIONS

  -- the results of the actions
  abbrev pub rans_said : List (Said J) → List (Ran J)
  rans_said [] = []
  rans_said (said ∷ items) = said.ran ∷ rans_said items

  -- each result is of its work
  abbrev pub AreAllRans : SharedTables → ℕ → List Work → List (Ran J) → Type 0
  AreAllRans shared age [] [] = Unit {0}
  AreAllRans shared age (work ∷ works) (ran ∷ rans) = IsRanBy shared age work ran × AreAllRans shared age works rans
  AreAllRans shared age works rans = ⊥

  -- A phase of which all actions have reported: each result is of its work in the transaction's phase.
  pub record CarriesMeeting (shared : SharedTables) (slot : ℕ) (m : MetView J) : Type 0 where
    pub slot_is : m.flow.slot ≡ slot
    pub rans_are : AreAllRans shared m.flow.age (works_of m.flow.progress) m.rans
