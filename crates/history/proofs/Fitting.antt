-- What each event does to a history that fits.
use Rattle.std.proofs.Common.{◌≡◌, ℕ, ◌+◌, ◌<◌, List, [], ◌∷◌, ◌++◌, zero, suc, length, map, take, Option, None, Ok, Err, refl, sym, ◌∙◌, ap, subst, arith, length-append, add-zero, zero-add}
use Rattle.std.specs.List.{All, slice_get}
use Rattle.std.proofs.lemmas.List.Elements.{All-head, All-tail, All-push, All-weaker}
use Rattle.schema.specs.Database.{Database}
use Rattle.schema.specs.Consistency.{Consistent}
use Rattle.machine.specs.Machine.{transaction, tables_after}
use Rattle.machine.proofs.RequestLaws.{requests_keep_consistency}
use Rattle.commit_log.specs.declared.entry.Entry.{Entry}
use Rattle.commit_log.specs.Log.{requests_of}
use Rattle.commit_log.proofs.Legal.{legal-append}
use Rattle.history.specs.declared.event.Event.{Event}
use Rattle.history.specs.declared.event.Event.TheVariants.{Submit, Order, Take, Send}
use Rattle.history.specs.declared.event.EventAnswer.{EventAnswer}
use Rattle.history.specs.declared.event.EventAnswer.TheVariants.{Accepted, Ordered, Took, Sent, Full, Logged, Moved, Answered, Nothing}
use Rattle.history.specs.History.{Step, step, Transaction, UnansweredTransaction, noted, noted_all, noted_entry, transactions, with_entry, with_answer, opened}
use Rattle.history.specs.Fits.{Fits, Recorded, IsLoggedBelow, NamesEntries}
use Rattle.history.specs.Laws.{EmptyHistoryFits, UnansweredInAnyOrder, IsQuiet, QuietEventFits, AdmissionFits, EntryFits, AnswerFits, with_place}
use Rattle.history.proofs.Recorded.{Recorded-quiet, Recorded-order, Recorded-admit, Recorded-entry, Recorded-answer, answer_below, slice_get-last}

-- ---- one step more

noted_all-push : (log : List Entry) (at : ℕ) (history : List Step) (s : Step) (ts : List Transaction) → noted_all log at (history ++ s ∷ []) ts ≡ noted log (at + length history) s.event s.answer (noted_all log at history ts)
noted_all-push log at [] s ts = ap (λ (n : ℕ). noted log n s.event s.answer ts) (sym (add-zero at))
noted_all-push log at (x ∷ history) s ts =
    let later : (at + 1) + length history ≡ at + suc (length history) = omega arith in
    noted_all-push log (at + 1) history s (noted log at x.event x.answer ts)
    ∙ ap (λ (n : ℕ). noted log n s.event s.answer (noted_all log (at + 1) history (noted log at x.event x.answer ts))) later

transactions-push : (log : List Entry) (history : List Step) (s : Step) → transactions log (history ++ s ∷ []) ≡ noted log (length history) s.event s.answer (transactions log history)
transactions-push log history s = noted_all-push log 0 history s [] ∙ ap (λ (n : ℕ). noted log n s.event s.answer (transactions log history)) (zero-add (length history))

length-push : (history : List Step) (s : Step) → length (history ++ s ∷ []) ≡ length history + 1
length-push history s = length-append history (s ∷ [])

-- ---- one entry more

slice_get-below : (log more : List Entry) (place : ℕ) → place < length log → slice_get (log ++ more) place ≡ slice_get log place
slice_get-below [] more place below = absurd (omega arith)
slice_get-below (x ∷ log) more zero below = refl
slice_get-below (x ∷ log) more (suc place) below = slice_get-below log more place (omega (arith, below))

noted-more : (log more : List Entry) (at : ℕ) (event : Event) (answer : EventAnswer) (ts : List Transaction) → IsLoggedBelow (length log) answer → noted (log ++ more) at event answer ts ≡ noted log at event answer ts
noted-more log more at (Send executor) (Logged place) ts below = ap (λ (e : Option Entry). noted_entry e place ts) (slice_get-below log more place below)
noted-more log more at event answer ts below = refl

noted_all-more : (log more : List Entry) (at : ℕ) (history : List Step) (ts : List Transaction) → NamesEntries log history → noted_all (log ++ more) at history ts ≡ noted_all log at history ts
noted_all-more log more at [] ts h = refl
noted_all-more log more at (x ∷ history) ts h =
    let P : Step → Type 0 = λ s. IsLoggedBelow (length log) s.answer in
    ap (λ (us : List Transaction). noted_all (log ++ more) (at + 1) history us) (noted-more log more at x.event x.answer ts (All-head P x history h))
    ∙ noted_all-more log more (at + 1) history (noted log at x.event x.answer ts) (All-tail P x history h)

below_more : (n : ℕ) (answer : EventAnswer) → IsLoggedBelow n answer → IsLoggedBelow (n + 1) answer
below_more n (Accepted age) h = tt
below_more n Ordered h = tt
below_more n Took h = tt
below_more n Sent h = tt
below_more n Full h = tt
below_more n (Logged place) h = omega (arith, h)
below_more n Moved h = tt
below_more n (Answered session number (Ok place)) h = omega (arith, h)
below_more n (Answered session number (Err refusal)) h = tt
below_more n Nothing h = tt

-- ---- the laws

pub empty_history_fits : EmptyHistoryFits
empty_history_fits opening consistent = record {
  legal = record { replied = refl; left = refl };
  consistent = λ n. subst (λ (l : List Entry). Consistent (tables_after opening (requests_of l))) (sym (take_nil n)) consistent;
  recorded = record {
    whole = record { entries = λ k d below. absurd (omega (arith, below)); recorded = λ k d below. absurd (omega (arith, below)); once = λ place below. absurd (omega (arith, below)) };
    order = λ k d below. absurd (omega (arith, below));
    ages = tt;
    count = refl;
    unanswered = λ session. refl;
    apart = λ session. omega arith;
    submitted = λ k d below. absurd (omega (arith, below));
  };
  named = λ k d below. absurd (omega (arith, below));
}
  where
    nothing : List Entry
    nothing = []

    take_nil : (n : ℕ) → take n nothing ≡ []
    take_nil zero = refl
    take_nil (suc n) = refl

pub unanswered_in_any_order : UnansweredInAnyOrder
unanswered_in_any_order opening history log tables admitted pending other moved h = record {
  legal = h.legal;
  consistent = h.consistent;
  recorded = Recorded-order log (length history) (transactions log history) admitted pending other moved h.recorded;
  named = h.named;
}

-- an event after which this is noted, and that names no new entry
one_more : (opening : Database) (history : List Step) (log : List Entry) (tables : Database) (admitted admitted' : ℕ) (pending pending' : List UnansweredTransaction) (s : Step) (ts : List Transaction)
    → noted log (length history) s.event s.answer (transactions log history) ≡ ts → IsLoggedBelow (length log) s.answer
    → Recorded log (length history + 1) ts admitted' pending' → Fits opening history log tables admitted pending
    → Fits opening (history ++ s ∷ []) log tables admitted' pending'
one_more opening history log tables admitted admitted' pending pending' s ts is below recorded h = record {
  legal = h.legal;
  consistent = h.consistent;
  recorded = subst (λ (n : ℕ). Recorded log n (transactions log (history ++ s ∷ [])) admitted' pending') (sym (length-push history s))
      (subst (λ (us : List Transaction). Recorded log (length history + 1) us admitted' pending') (sym (transactions-push log history s ∙ is)) recorded);
  named = All-push (λ s. IsLoggedBelow (length log) s.answer) history s h.named below;
}

quiet_notes : (log : List Entry) (at : ℕ) (event : Event) (answer : EventAnswer) (ts : List Transaction) → IsQuiet event answer → (noted log at event answer ts ≡ ts) × IsLoggedBelow (length log) answer
quiet_notes log at (Submit session number request) Ordered ts h = (refl, tt)
quiet_notes log at (Order order) Ordered ts h = (refl, tt)
quiet_notes log at (Take executor) Ordered ts h = (refl, tt)
quiet_notes log at (Send executor) Ordered ts h = (refl, tt)
quiet_notes log at (Submit session number request) Took ts h = (refl, tt)
quiet_notes log at (Order order) Took ts h = (refl, tt)
quiet_notes log at (Take executor) Took ts h = (refl, tt)
quiet_notes log at (Send executor) Took ts h = (refl, tt)
quiet_notes log at (Submit session number request) Sent ts h = (refl, tt)
quiet_notes log at (Order order) Sent ts h = (refl, tt)
quiet_notes log at (Take executor) Sent ts h = (refl, tt)
quiet_notes log at (Send executor) Sent ts h = (refl, tt)
quiet_notes log at (Submit session number request) Full ts h = (refl, tt)
quiet_notes log at (Order order) Full ts h = (refl, tt)
quiet_notes log at (Take executor) Full ts h = (refl, tt)
quiet_notes log at (Send executor) Full ts h = (refl, tt)
quiet_notes log at (Submit session number request) Moved ts h = (refl, tt)
quiet_notes log at (Order order) Moved ts h = (refl, tt)
quiet_notes log at (Take executor) Moved ts h = (refl, tt)
quiet_notes log at (Send executor) Moved ts h = (refl, tt)
quiet_notes log at (Submit session number request) Nothing ts h = (refl, tt)
quiet_notes log at (Order order) Nothing ts h = (refl, tt)
quiet_notes log at (Take executor) Nothing ts h = (refl, tt)
quiet_notes log at (Send executor) Nothing ts h = (refl, tt)
quiet_notes log at (Submit session number request) (Answered other n (Err refusal)) ts h = (refl, tt)
quiet_notes log at (Submit session number request) (Answered other n (Ok place)) ts h = absurd h
quiet_notes log at (Order order) (Answered other n answer) ts h = absurd h
quiet_notes log at (Take executor) (Answered other n answer) ts h = absurd h
quiet_notes log at (Send executor) (Answered other n answer) ts h = absurd h
quiet_notes log at (Submit session number request) (Accepted age) ts h = absurd h
quiet_notes log at (Order order) (Accepted age) ts h = absurd h
quiet_notes log at (Take executor) (Accepted age) ts h = absurd h
quiet_notes log at (Send executor) (Accepted age) ts h = absurd h
quiet_notes log at (Submit session number request) (Logged place) ts h = absurd h
quiet_notes log at (Order order) (Logged place) ts h = absurd h
quiet_notes log at (Take executor) (Logged place) ts h = absurd h
quiet_notes log at (Send executor) (Logged place) ts h = absurd h

pub quiet_event_fits : QuietEventFits
quiet_event_fits opening history log tables admitted pending event answer quiet h =
    let ts = transactions log history in
    let notes = quiet_notes log (length history) event answer ts quiet in
    one_more opening history log tables admitted admitted pending pending (step event answer) ts notes.0 notes.1
    (Recorded-quiet log (length history) ts admitted pending h.recorded) h

pub admission_fits : AdmissionFits
admission_fits opening history log tables admitted pending session number request none h =
    let n = length history in
    let ts = transactions log history in
    one_more opening history log tables admitted (admitted + 1) pending (record { age = admitted; session = session; number = number; request = request; entry = None } ∷ pending)
    (step (Submit session number request) (Accepted admitted)) (ts ++ opened admitted session number request n ∷ []) refl tt
    (Recorded-admit log n ts admitted pending session number request none h.recorded) h

pub answer_fits : AnswerFits
answer_fits opening history log tables admitted pending executor u answer answers h =
    let n = length history in
    let ts = transactions log history in
    one_more opening history log tables admitted admitted (u ∷ pending) pending
    (step (Send executor) (Answered u.session u.number answer)) (map (with_answer u.session n answer) ts) refl (answer_below log n ts admitted u pending u.session u.number answer answers h.recorded)
    (Recorded-answer log n ts admitted u pending answer answers h.recorded) h

pub entry_fits : EntryFits
entry_fits opening history log tables admitted pending executor u entry is h =
    let p = length log in
    let n = length history in
    let more = log ++ entry ∷ [] in
    let s : Step = step (Send executor) (Logged p) in
    let ts = transactions log history in
    let longer : length more ≡ p + 1 = length-append log (entry ∷ []) in
    let noted_now : transactions more (history ++ s ∷ []) ≡ map (with_entry u.session p) ts =
    transactions-push more history s ∙ ap (λ (e : Option Entry). noted_entry e p (transactions more history)) (slice_get-last log entry)
    ∙ ap (λ (us : List Transaction). map (with_entry entry.session p) us) (noted_all-more log (entry ∷ []) 0 history [] h.named)
    ∙ ap (λ (x : ℕ). map (with_entry x p) ts) is.session in
    let now = with_place p u ∷ pending in
    record {
      legal = legal-append opening log tables (transaction tables entry.request).tables entry h.legal is.reply refl;
      consistent = λ k. requests_keep_consistency opening (requests_of (take k more)) (h.consistent 0);
      recorded = subst (λ (m : ℕ). Recorded more m (transactions more (history ++ s ∷ [])) admitted now) (sym (length-push history s))
          (subst (λ (us : List Transaction). Recorded more (n + 1) us admitted now) (sym noted_now)
          (Recorded-entry log n ts admitted u pending entry is.session is.number is.request is.none h.recorded));
      named = subst (λ (m : ℕ). All (λ s. IsLoggedBelow m s.answer) (history ++ s ∷ [])) (sym longer)
          (All-push (λ s. IsLoggedBelow (p + 1) s.answer) history s (All-weaker (λ (s : Step). IsLoggedBelow p s.answer) (λ (s : Step). IsLoggedBelow (p + 1) s.answer) (λ s. below_more p s.answer) history h.named) (omega arith));
    }
