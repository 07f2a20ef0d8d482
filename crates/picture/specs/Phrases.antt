-- The texts of a picture.
use Rattle.std.specs.Prelude.{ℕ, true, false, List, ◌++◌, codes}
use Rattle.std.specs.Fmt.{decimal}
use Rattle.requests.specs.Group.{group_text}
use Rattle.requests.specs.Refusal.{refusal_number}
use Rattle.requests.specs.declared.refusal.Refusal.{Refusal}
use Rattle.requests.specs.declared.refusal.Refusal.TheVariants.{Died}
use Rattle.picture.specs.declared.row.Kind.{Kind}
use Rattle.picture.specs.declared.row.Kind.TheVariants.{NewOrder, Payment, OrderStatus, Delivery, StockLevel}
use Rattle.picture.specs.declared.row.Deed.{Deed as AnyDeed}
use Rattle.picture.specs.declared.row.Deed.TheVariants.{Submit, Order, Take, Send}
use Rattle.picture.specs.declared.row.RowAnswer.{RowAnswer as AnyReported}
use Rattle.picture.specs.declared.row.RowAnswer.TheVariants as reported
use Rattle.picture.specs.declared.phrase.Heading.{Heading as AnyHeading}
use Rattle.picture.specs.declared.phrase.Heading.TheVariants as heading
use Rattle.picture.specs.declared.phrase.Phrase.{Phrase}
use Rattle.picture.specs.declared.phrase.Phrase.TheVariants.{Heading, Number, Deed, Rounds, RowAnswer, Place, One, Two, All, Start, Act, Report, Commit, Reply, Settle, Undo, Ended, Move, Fetch, Parcel, Arrival, Parked, Unknown, NotShown}

-- The heading of a lane or a column.
abbrev pub heading_text : AnyHeading → List ℕ
heading_text heading.Event = codes "event"
heading_text heading.Scheduled = codes "scheduled"
heading_text heading.Session = codes "session"
heading_text heading.Executor = codes "executor"
heading_text heading.Claims = codes "claims"
heading_text heading.Takes = codes "takes"
heading_text heading.Sends = codes "sends"
heading_text heading.Log = codes "log"
heading_text heading.RowAnswer = codes "told"
heading_text heading.TakenOrSent = codes "taken or sent"

-- The letter of a kind.
abbrev pub kind_text : Kind → List ℕ
kind_text NewOrder = codes "N"
kind_text Payment = codes "P"
kind_text OrderStatus = codes "O"
kind_text Delivery = codes "D"
kind_text StockLevel = codes "L"

-- What was scheduled, as in the text of a schedule; of a submission only the session, the number and the kind.
abbrev pub deed_text : AnyDeed → List ℕ
deed_text (Submit session number kind) = codes "S," ++ (decimal session ++ (codes "," ++ (decimal number ++ (codes "," ++ kind_text kind))))
deed_text (Order order) = codes "M," ++ (decimal order.lo ++ (codes "," ++ (decimal order.hi ++ (codes "," ++ decimal order.to))))
deed_text (Take executor) = codes "T," ++ decimal executor
deed_text (Send executor) = codes "X," ++ decimal executor

-- An answer: the session, the number of its request, and the rest.
abbrev pub answered_text : ℕ → ℕ → List ℕ → List ℕ
answered_text session number rest = codes "answered," ++ (decimal session ++ (codes "," ++ (decimal number ++ rest)))

-- Why it was refused: the code of the refusal, and for a death the group and its holder's age.
abbrev pub refusal_text : Refusal → List ℕ
refusal_text (Died group holder) = codes "11," ++ (group_text group ++ (codes "," ++ decimal holder))
refusal_text refusal = decimal (refusal_number refusal)

-- The output as it is printed; of a reply only the place, with X if the transaction was rolled back.
abbrev pub reported_text : AnyReported → List ℕ
reported_text (reported.Accepted age) = codes "accepted," ++ decimal age
reported_text reported.Ordered = codes "ordered"
reported_text reported.Took = codes "took"
reported_text reported.Sent = codes "sent"
reported_text reported.Full = codes "full"
reported_text (reported.Logged place) = codes "logged," ++ decimal place
reported_text reported.Moved = codes "moved"
reported_text (reported.Done session number place false) = answered_text session number (codes ",done," ++ decimal place)
reported_text (reported.Done session number place true) = answered_text session number (codes ",done," ++ (decimal place ++ codes ",X"))
reported_text (reported.Refused session number refusal) = answered_text session number (codes ",refused," ++ refusal_text refusal)
reported_text reported.Nothing = codes "nothing"
reported_text reported.Quiet = codes "quiet"
reported_text reported.Limit = codes "limit"

-- The action of this place of the transaction of this age, after a word.
abbrev pub action_text : List ℕ → ℕ → ℕ → List ℕ
action_text word place age = word ++ (decimal place ++ (codes " of " ++ decimal age))

-- The text of a phrase.
abbrev pub phrase_text : Phrase → List ℕ
phrase_text (Heading h) = heading_text h
phrase_text (Number number) = decimal number
phrase_text (Deed deed) = deed_text deed
phrase_text Rounds = codes "R"
phrase_text (RowAnswer t) = reported_text t
phrase_text (Place place) = decimal place
phrase_text (One group) = group_text group
phrase_text (Two first second) = group_text first ++ (codes " " ++ group_text second)
phrase_text (All first last) = group_text first ++ (codes " to " ++ group_text last)
phrase_text (Start age) = codes "Start of " ++ decimal age
phrase_text (Act place age) = action_text (codes "Act ") place age
phrase_text (Report place age) = action_text (codes "Report ") place age
phrase_text (Commit age) = codes "Commit of " ++ decimal age
phrase_text (Reply age) = codes "Reply of " ++ decimal age
phrase_text (Settle place age) = action_text (codes "Settle ") place age
phrase_text (Undo place age) = action_text (codes "Undo ") place age
phrase_text (Ended place age) = action_text (codes "End ") place age
phrase_text (Move lo hi) = codes "Move " ++ (decimal lo ++ (codes " to " ++ decimal hi))
phrase_text (Fetch w_id) = codes "Fetch warehouse " ++ decimal w_id
phrase_text (Parcel w_id) = codes "Parcel warehouse " ++ decimal w_id
phrase_text (Arrival w_id) = codes "Report warehouse " ++ decimal w_id
phrase_text Parked = codes "parked"
phrase_text Unknown = codes "not known from here on"
phrase_text NotShown = codes "rounds, whose events are not shown"
