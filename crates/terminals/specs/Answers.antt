-- The fields of answers.
use Rattle.std.specs.Prelude.{◌≡◌, ◌<◌, ℕ, List, [], ◌∷◌, length, slice_get, codes, Some, Result, Ok, Err}
use Rattle.std.specs.Fmt.{decimal}
use Rattle.commit_log.specs.declared.entry.Entry.{Entry}
use Rattle.requests.specs.Group.{group_text}
use Rattle.requests.specs.Refusal.{refusal_number}
use Rattle.requests.specs.declared.answer.Answer.{Answer}
use Rattle.requests.specs.declared.answer.Answer.TheVariants.{Done, Refused}
use Rattle.requests.specs.declared.refusal.Refusal.{Refusal}
use Rattle.requests.specs.declared.refusal.Refusal.TheVariants.{Died}
use Rattle.requests.specs.declared.script.Part.{Part}
use Rattle.terminals.specs.Numbered.{AreNumbered}
use Rattle.terminals.specs.ReplyFields.{IsReply}

-- For a death, the group and the holder's age; otherwise nothing.
abbrev pub holder_fields : Refusal → List (List ℕ)
holder_fields (Died group holder) = group_text group ∷ decimal holder ∷ []
holder_fields _ = []

-- The code of the refusal, and for a death the group and the holder's age.
abbrev pub refusal_fields : Refusal → List (List ℕ)
refusal_fields refusal = decimal (refusal_number refusal) ∷ holder_fields refusal

-- These are the fields of the answer to the request of this number of a session.
abbrev pub IsAnswer : ℕ → ℕ → Answer → List (List ℕ) → Type 0
IsAnswer session number (Done place reply) fields =
    (replied : List (List ℕ)) × IsReply reply replied × (fields ≡ decimal session ∷ decimal number ∷ codes "done" ∷ decimal place ∷ replied)
IsAnswer session number (Refused refusal) fields =
    fields ≡ decimal session ∷ decimal number ∷ codes "refused" ∷ refusal_fields refusal

-- These are the fields of the answer to the request of this number of a session: with the reply of the log's entry at this
-- place, or a refusal.
abbrev pub IsAnswerIn : List Entry → ℕ → ℕ → Result ℕ Refusal → List (List ℕ) → Type 0
IsAnswerIn log session number (Ok place) fields =
    (entry : Entry) × (slice_get log place ≡ Some entry) × IsAnswer session number (Done place entry.reply) fields
IsAnswerIn log session number (Err refusal) fields = IsAnswer session number (Refused refusal) fields

-- These are the fields of the answer to the part at this place of a session's script. They have the part's number.
abbrev pub IsAnswerAt : List Entry → ℕ → List Part → ℕ → Result ℕ Refusal → List (List ℕ) → Type 0
IsAnswerAt log session script place answer fields =
    (part : Part) × (slice_get script place ≡ Some part) × IsAnswerIn log session part.number answer fields

-- The records of the answers to a session's script in this log, in the order of its parts.
abbrev pub AreAnswers : List Entry → ℕ → List Part → List (Result ℕ Refusal) → List (List (List ℕ)) → Type 0
AreAnswers log session script answers rows = AreNumbered (IsAnswerAt log session script) 0 answers rows

-- The log has an entry at each place that is an answer.
abbrev pub AreInLog : List Entry → List (Result ℕ Refusal) → Type 0
AreInLog log answers = (k place : ℕ) → slice_get answers k ≡ Some (Ok place) → place < length log
