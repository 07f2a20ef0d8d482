-- The records of a log's entry, of a move and of a schedule's item determine it.
use Rattle.std.proofs.Common.{◌≡◌, ℕ, List, ◌++◌, length, refl, sym, ap, subst, ◌∙◌, arith}
use Rattle.std.specs.Fmt.{decimal}
use Rattle.std.specs.List.{AllByRecursion}
use Rattle.std.proofs.lemmas.Fmt.{decimal_injective}
use Rattle.commit_log.specs.declared.entry.Entry.{Entry}
use Rattle.history.specs.declared.event.Event.{Event}
use Rattle.history.specs.declared.event.Event.TheVariants.{Submit, Order, Take, Send}
use Rattle.history.specs.declared.schedule.Scheduled.{Scheduled}
use Rattle.history.specs.declared.schedule.Scheduled.TheVariants as scheduled
use Rattle.range_moves.specs.declared.order.MoveOrder.{MoveOrder}
use Rattle.terminals.specs.LogRecord.{IsLogRecord}
use Rattle.terminals.specs.Moves.{IsMoveRecord}
use Rattle.requests.specs.Script.{parts_from}
use Rattle.requests.specs.declared.script.Part.{Part}
use Rattle.terminals.specs.RequestFields.{IsRequest, IsTerminalRequest}
use Rattle.terminals.specs.ReplyFields.{IsReply}
use Rattle.terminals.specs.Schedule.{IsEventRecord, IsScheduleRecord}
use Rattle.terminals.specs.RecordLaws.{CanBeAsked, CanBeEvent, CanBeLogged, CanBeOrdered, CanBePart, CanBeScheduled, LogsDiffer, MovesDiffer, SchedulesDiffer, ScriptsDiffer}
use Rattle.terminals.proofs.ListedTexts.{listing-reports, same_parts}
use Rattle.terminals.proofs.RequestTexts.{CanBeAskedAt, few_fields, letter, same_request, same_terminal, same_word}
use Rattle.terminals.proofs.ScriptParts.{each_of_records}
use Rattle.terminals.proofs.ReplyTexts.{same_reply}

same_entry : (place : ℕ) (a b : Entry) → CanBeLogged a → CanBeLogged b → (fields : List (List ℕ)) → IsLogRecord place a fields → IsLogRecord place b fields → a ≡ b
same_entry place a b x y fields s r =
    let e = sym s.4 ∙ r.4 in
    let one : decimal a.session ≡ decimal b.session = cc in
    let two : decimal a.number ≡ decimal b.number = cc in
    let three : decimal (length s.0) ≡ decimal (length r.0) = cc in
    let all : s.0 ++ s.2 ≡ r.0 ++ r.2 = cc in
    let even : length s.0 ≡ length r.0 = decimal_injective (length s.0) (length r.0) (few_fields a.request x.2 s.0 s.1) (few_fields b.request y.2 r.0 r.1) three in
    let parts = same_parts s.0 r.0 s.2 r.2 even all in
    let Asks : List (List ℕ) → Type 0 = λ l. IsRequest b.request l in
    let Reports : List (List ℕ) → Type 0 = λ l. IsReply b.reply l in
    let session = same_word a.session b.session x.0 y.0 one in
    let number = same_word a.number b.number x.1 y.1 two in
    let request = same_request a.request b.request x.2 y.2 s.0 s.1 (subst Asks (sym parts.0) r.1) in
    let reply = same_reply a.reply b.reply x.3 y.3 s.2 s.3 (subst Reports (sym parts.1) r.3) in
    λ i. record { session = session i; number = number i; request = request i; reply = reply i }

same_move : (place : ℕ) (a b : MoveOrder) → CanBeOrdered a → CanBeOrdered b → (fields : List (List ℕ)) → IsMoveRecord a fields → IsMoveRecord b fields → a ≡ b
same_move place a b x y fields s r =
    let e = sym s ∙ r in
    let one : decimal a.lo ≡ decimal b.lo = cc in
    let two : decimal a.hi ≡ decimal b.hi = cc in
    let three : decimal a.to ≡ decimal b.to = cc in
    let lo = same_word a.lo b.lo x.0 y.0 one in
    let hi = same_word a.hi b.hi x.1 y.1 two in
    let to = same_word a.to b.to x.2 y.2 three in
    λ i. record { lo = lo i; hi = hi i; to = to i }

pub moves_differ : MovesDiffer
moves_differ = listing-reports (λ place. IsMoveRecord) CanBeOrdered same_move

pub logs_differ : LogsDiffer
logs_differ = listing-reports IsLogRecord CanBeLogged same_entry

pub scripts_differ : ScriptsDiffer
scripts_differ one other can could rows s r =
    let Can : List Part → Type 0 = AllByRecursion CanBePart in
    let records = each_of_records CanBeAsked 0 s.0 (subst Can s.1 can) in
    let others = each_of_records CanBeAsked 0 r.0 (subst Can r.1 could) in
    let same = listing-reports (λ place. IsTerminalRequest) CanBeAskedAt (λ place. same_terminal) s.0 r.0 records others rows s.2 r.2 in
    s.1 ∙ ap (parts_from 0) same ∙ sym r.1

-- the letter of an item
abbrev event_letter : Event → ℕ
event_letter (Submit session number request) = 83
event_letter (Order order) = 77
event_letter (Take executor) = 84
event_letter (Send executor) = 88

event_letter_is : (x : Event) (fields : List (List ℕ)) → IsEventRecord x fields → letter fields ≡ event_letter x
event_letter_is (Submit session number request) fields is = ap letter is.2
event_letter_is (Order order) fields is = ap letter is
event_letter_is (Take executor) fields is = ap letter is
event_letter_is (Send executor) fields is = ap letter is

same_event : (a b : Event) → CanBeEvent a → CanBeEvent b → (fields : List (List ℕ)) → IsEventRecord a fields → IsEventRecord b fields → a ≡ b
same_event (Submit m j a) (Submit n k b) x y fields s r =
    let e = sym s.2 ∙ r.2 in
    let one : decimal m ≡ decimal n = cc in
    let two : decimal j ≡ decimal k = cc in
    let asked : s.0 ≡ r.0 = cc in
    let Asks : List (List ℕ) → Type 0 = λ l. IsRequest b l in
    let session = same_word m n x.0 y.0 one in
    let number = same_word j k x.1 y.1 two in
    let request = same_request a b x.2 y.2 s.0 s.1 (subst Asks (sym asked) r.1) in
    λ i. Submit (session i) (number i) (request i)
same_event (Order m) (Order n) x y fields s r =
    let e = sym s ∙ r in
    let one : decimal m.lo ≡ decimal n.lo = cc in
    let two : decimal m.hi ≡ decimal n.hi = cc in
    let three : decimal m.to ≡ decimal n.to = cc in
    let lo = same_word m.lo n.lo x.0 y.0 one in
    let hi = same_word m.hi n.hi x.1 y.1 two in
    let to = same_word m.to n.to x.2 y.2 three in
    λ i. Order (record { lo = lo i; hi = hi i; to = to i })
same_event (Take m) (Take n) x y fields s r =
    let e = sym s ∙ r in
    let one : decimal m ≡ decimal n = cc in
    ap Take (same_word m n x y one)
same_event (Send m) (Send n) x y fields s r =
    let e = sym s ∙ r in
    let one : decimal m ≡ decimal n = cc in
    ap Send (same_word m n x y one)
same_event a b x y fields s r =
    let clash : event_letter a ≡ event_letter b = sym (event_letter_is a fields s) ∙ event_letter_is b fields r in
    absurd (omega arith)

-- rounds have a letter of their own
event_letter_high : (x : Event) → event_letter x ≡ 82 → ⊥
event_letter_high (Submit session number request) e = absurd (omega arith)
event_letter_high (Order order) e = absurd (omega arith)
event_letter_high (Take executor) e = absurd (omega arith)
event_letter_high (Send executor) e = absurd (omega arith)

same_item : (place : ℕ) (a b : Scheduled) → CanBeScheduled a → CanBeScheduled b → (fields : List (List ℕ)) → IsScheduleRecord a fields → IsScheduleRecord b fields → a ≡ b
same_item place (scheduled.Event a) (scheduled.Event b) x y fields s r = ap scheduled.Event (same_event a b x y fields s r)
same_item place (scheduled.Event a) scheduled.Rounds x y fields s r = absurd (event_letter_high a (sym (event_letter_is a fields s) ∙ ap letter r))
same_item place scheduled.Rounds (scheduled.Event b) x y fields s r = absurd (event_letter_high b (sym (event_letter_is b fields r) ∙ ap letter s))
same_item place scheduled.Rounds scheduled.Rounds x y fields s r = refl

pub schedules_differ : SchedulesDiffer
schedules_differ = listing-reports (λ place. IsScheduleRecord) CanBeScheduled same_item
