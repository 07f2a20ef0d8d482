-- The fields of the output of a schedule.
use Rattle.std.specs.Prelude.{◌≡◌, ℕ, List, [], ◌∷◌, All, length, codes}
use Rattle.std.specs.Fmt.{decimal}
use Rattle.std.specs.List.{AllZip}
use Rattle.commit_log.specs.declared.entry.Entry.{Entry}
use Rattle.history.specs.declared.event.EventAnswer.{EventAnswer}
use Rattle.history.specs.declared.event.EventAnswer.TheVariants.{Accepted, Ordered, Took, Sent, Full, Logged, Moved, Answered, Nothing}
use Rattle.history.specs.declared.schedule.Output.{Output}
use Rattle.history.specs.declared.schedule.Output.TheVariants.{Event, Quiet, Limit}
use Rattle.history.specs.Fits.{IsLoggedBelow}
use Rattle.terminals.specs.Answers.{IsAnswerIn}

-- These are the fields of the answer to an event: a word, and then the transaction's age, the place in the log, or the fields
-- of the answer with the reply of its entry in this log.
abbrev pub IsEventAnswer : List Entry → EventAnswer → List (List ℕ) → Type 0
IsEventAnswer log (Accepted age) fields = fields ≡ codes "accepted" ∷ decimal age ∷ []
IsEventAnswer log Ordered fields = fields ≡ codes "ordered" ∷ []
IsEventAnswer log Took fields = fields ≡ codes "took" ∷ []
IsEventAnswer log Sent fields = fields ≡ codes "sent" ∷ []
IsEventAnswer log Full fields = fields ≡ codes "full" ∷ []
IsEventAnswer log (Logged place) fields = fields ≡ codes "logged" ∷ decimal place ∷ []
IsEventAnswer log Moved fields = fields ≡ codes "moved" ∷ []
IsEventAnswer log (Answered session number answer) fields =
    (answered : List (List ℕ)) × IsAnswerIn log session number answer answered × (fields ≡ codes "answered" ∷ answered)
IsEventAnswer log Nothing fields = fields ≡ codes "nothing" ∷ []

-- These are the fields of the answer to an event, or of how rounds ended.
abbrev pub IsOutput : List Entry → Output → List (List ℕ) → Type 0
IsOutput log (Event answer) fields = IsEventAnswer log answer fields
IsOutput log Quiet fields = fields ≡ codes "quiet" ∷ []
IsOutput log Limit fields = fields ≡ codes "limit" ∷ []

-- The records of the output, one after the other.
abbrev pub AreOutputs : List Entry → List Output → List (List (List ℕ)) → Type 0
AreOutputs log reported rows = AllZip (IsOutput log) reported rows

-- A place in the log that the output contains is below this number.
abbrev pub IsReportedBelow : ℕ → Output → Type 0
IsReportedBelow n (Event answer) = IsLoggedBelow n answer
IsReportedBelow n Quiet = Unit {0}
IsReportedBelow n Limit = Unit {0}

-- The log has an entry at each place that the outputs contain.
abbrev pub NameEntries : List Entry → List Output → Type 0
NameEntries log reported = All (IsReportedBelow (length log)) reported
