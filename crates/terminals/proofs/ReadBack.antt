-- What is written is read: the records of scripts, of moves, of schedules and of logs have no fault.
use Rattle.std.proofs.Common.{◌≡◌, ◌<◌, ◌^◌, ◌+◌, ◌==◌, ℕ, suc, List, [], ◌∷◌, ◌++◌, length, Bool, true, false, cond, Option, Some, None, Ok, IsUtf8, codes, refl, sym, ap, subst, ◌∙◌, arith}
use Rattle.std.specs.Fmt.{decimal}
use Rattle.std.specs.List.{AllByRecursion}
use Rattle.std.specs.Str.{bytes_eq}
use Rattle.std.proofs.lemmas.Bool.Decides.{nat_tests}
use Rattle.files.specs.declared.fault.FaultKind.{FaultKind}
use Rattle.files.specs.declared.fault.FaultKind.TheVariants.{OutOfOrder, WrongShape}
use Rattle.files.specs.Columns.{Count, at_end, found, take_column, take_columns, take_word}
use Rattle.files.specs.FieldRead.{FieldsView, value_or, whole_read}
use Rattle.files.specs.Number.{is_number}
use Rattle.files.specs.Place.{IsKept}
use Rattle.files.proofs.Ascii.{utf8_number}
use Rattle.rows.proofs.Ascii.{utf8_words}
use Rattle.files.proofs.KindsRead.{count_complete, whole_complete}
use Rattle.files.proofs.Numerals.{is_number-decimal}
use Rattle.commit_log.specs.declared.entry.Entry.{Entry}
use Rattle.requests.specs.TerminalRequest.{requests_of}
use Rattle.requests.specs.declared.request.Request.{Request}
use Rattle.requests.specs.declared.request.Request.TheVariants.{NewOrder, Payment, OrderStatus, StockLevel}
use Rattle.requests.specs.declared.terminal_request.TerminalRequest.{TerminalRequest}
use Rattle.requests.specs.declared.terminal_request.TerminalRequest.TheVariants as asked
use Rattle.history.specs.declared.event.Event.TheVariants.{Submit, Order, Take, Send}
use Rattle.history.specs.declared.schedule.Scheduled.{Scheduled}
use Rattle.history.specs.declared.schedule.Scheduled.TheVariants as scheduled
use Rattle.range_moves.specs.declared.order.MoveOrder.{MoveOrder}
use Rattle.terminals.specs.FirstFault.{after_asked, after_counted, after_entry, after_listed, after_logged, after_move, after_scheduled, after_submit, fields_fault, is_end, listing_fault, other_place}
use Rattle.terminals.specs.Listing.{end_fields}
use Rattle.terminals.specs.LogRecord.{IsLogRecord}
use Rattle.terminals.specs.MoveOrders.{order_fields}
use Rattle.terminals.specs.Moves.{IsMoveRecord}
use Rattle.terminals.specs.Numbered.{AreNumbered}
use Rattle.terminals.specs.ReadLaws.{CanBeRead, CanBeReadEntry, CanBeReadItem, CanBeReadPart, LogsAreRead, MovesAreRead, SchedulesAreRead, ScriptsAreRead}
use Rattle.terminals.specs.RecordLaws.{CanBeOrdered, IsWord}
use Rattle.terminals.specs.ReplyColumns.{after_reply}
use Rattle.terminals.specs.RequestColumns.{after_known, after_request, fault_in, number, request_columns, warehouse_delivery_columns}
use Rattle.terminals.specs.RequestFields.{IsRequest, IsTerminalRequest}
use Rattle.terminals.specs.Schedule.{IsScheduleRecord}
use Rattle.terminals.proofs.ColumnsReadBack.{and_read, clean, moment_is_read, none_read, number_read, word_is_taken}
use Rattle.files.proofs.Unlike.{other}
use Rattle.terminals.proofs.FirstFaults.{end_passes, item_passes}
use Rattle.terminals.proofs.RepliesReadBack.{IsReadReply, reply_is_read}
use Rattle.terminals.proofs.RequestTexts.{few_fields}
use Rattle.terminals.proofs.RequestsReadBack.{IsReadRequest, alone_is_read, is_delivery, letter_is_read, request_is_read}
use Rattle.terminals.proofs.ScriptParts.{each_of_records, fewer_records}

-- ---- records

-- what has been read of a record whose first field is taken
abbrev reported : (ℕ → List ℕ → FieldsView → FieldsView) → ℕ → List ℕ × FieldsView → Option FaultKind
reported take place p = at_end (after_listed take place p.0 p.1).left (after_listed take place p.0 p.1).fault

-- a record whose fields behind the first one are read without a fault
record_is_read : (take : ℕ → List ℕ → FieldsView → FieldsView) (place : ℕ) (word : List ℕ) (said fields : List (List ℕ)) → fields ≡ word ∷ said → IsUtf8 word → bytes_eq word (codes "END") ≡ false
    → take place word (clean said) ≡ clean [] → (fields_fault take place fields ≡ None) × (is_end fields ≡ false)
record_is_read take place word said fields are utf8 apart done =
    let t : FieldsView = clean said in
    let either : Bool → FieldsView = λ b. cond b (take_column (Count place) t) (take place word t) in
    let none : fields_fault take place (word ∷ said) ≡ None =
    ap (reported take place) (word_is_taken word said utf8) ∙ ap (λ b. at_end (either b).left (either b).fault) apart ∙ ap (λ (u : FieldsView). at_end u.left u.fault) done in
    let no_end : is_end (word ∷ said) ≡ false = ap (λ (p : List ℕ × FieldsView). bytes_eq p.0 (codes "END")) (word_is_taken word said utf8) ∙ apart in
    subst (λ l. (fields_fault take place l ≡ None) × (is_end l ≡ false)) (sym are) (none, no_end)

end_is_read : (take : ℕ → List ℕ → FieldsView → FieldsView) (count : ℕ) → count < 2 ^ 64 → (fields_fault take count (end_fields count) ≡ None) × (is_end (end_fields count) ≡ true)
end_is_read take count small =
    let word = word_is_taken (codes "END") (decimal count ∷ []) (utf8_words (codes "END") refl) in (
      ap (reported take count) word ∙ ap (λ r. at_end (value_or r count [] None).1.left (value_or r count [] None).1.fault) (count_complete count small),
      ap (λ (p : List ℕ × FieldsView). bytes_eq p.0 (codes "END")) word,
    )

-- ---- what is listed

module _ {T : Type 0} (take : ℕ → List ℕ → FieldsView → FieldsView) (IsRecord : ℕ → T → List (List ℕ) → Type 0) (Can : T → Type 0)
    (each : (place : ℕ) → IsWord place → (item : T) → Can item → (fields : List (List ℕ)) → IsRecord place item fields → (fields_fault take place fields ≡ None) × (is_end fields ≡ false)) where
  numbered_are_read : (items : List T) (listed : List (List (List ℕ))) (first total : ℕ) → total ≡ first + length items → IsWord total → AllByRecursion Can items → AreNumbered IsRecord first items listed
      → AllByRecursion IsKept (listed ++ (end_fields total ∷ [])) → listing_fault take first (listed ++ (end_fields total ∷ [])) ≡ None
  unfolding AreNumbered
  numbered_are_read [] [] first total same small all are kept =
      let here : total ≡ first = omega (arith, same) in
      let end : (fields_fault take first (end_fields total) ≡ None) × (is_end (end_fields total) ≡ true) = subst (λ n. (fields_fault take n (end_fields total) ≡ None) × (is_end (end_fields total) ≡ true)) here (end_is_read take total (omega (arith, small))) in
      end_passes take first (end_fields total) [] kept.0 end.0 end.1
  numbered_are_read [] (row ∷ listed) first total same small all are kept = absurd are
  numbered_are_read (item ∷ items) [] first total same small all are kept = absurd are
  numbered_are_read (item ∷ items) (row ∷ listed) first total same small all are kept =
      let below : IsWord first = omega (arith, same, small) in
      let read = each first below item all.0 row are.0 in
      item_passes take first row (listed ++ (end_fields total ∷ [])) kept.0 read.0 read.1
      ∙ numbered_are_read items listed (first + 1) total (omega (arith, same)) small all.1 are.1 kept.1

  listing_is_read : (items : List T) → length items < 2 ^ 32 → AllByRecursion Can items → (rows listed : List (List (List ℕ))) → AllByRecursion IsKept rows → AreNumbered IsRecord 0 items listed
      → rows ≡ listed ++ (end_fields (length items) ∷ []) → listing_fault take 0 rows ≡ None
  listing_is_read items small all rows listed kept are is =
      ap (listing_fault take 0) is
      ∙ numbered_are_read items listed 0 (length items) (omega arith) small all are (subst (AllByRecursion IsKept) is kept)

-- ---- scripts

-- a terminal's request can be read if each request can that it is carried out as
abbrev CanBeReadAt : TerminalRequest → Type 0
CanBeReadAt one = AllByRecursion CanBeRead (requests_of one)

-- without the letter of a Delivery, the columns are those of a request
plain_is_read : (place : ℕ) (fields : List (List ℕ)) (request : IsReadRequest fields) → bytes_eq request.letter (codes "D") ≡ false → (fields_fault (λ place. after_asked) place fields ≡ None) × (is_end fields ≡ false)
plain_is_read place fields request apart =
    let t : FieldsView = clean request.said in
    let count = length request.said + 1 in
    record_is_read (λ place. after_asked) place request.letter request.said fields request.are request.utf8 request.apart
    (ap (λ b. after_known (cond b (Some warehouse_delivery_columns) (request_columns count request.letter (length request.said))) t) apart ∙ alone_is_read request)

-- a request that is no Delivery
request_alone : (place : ℕ) (r : Request) → is_delivery r ≡ false → CanBeRead r → (fields : List (List ℕ)) → IsRequest r fields → (fields_fault (λ place. after_asked) place fields ≡ None) × (is_end fields ≡ false)
request_alone place r other can fields is = plain_is_read place fields (request_is_read r can fields is) (letter_is_read r can fields is ∙ other)

asked_is_read : (place : ℕ) → IsWord place → (r : TerminalRequest) → CanBeReadAt r → (fields : List (List ℕ)) → IsTerminalRequest r fields → (fields_fault (λ place. after_asked) place fields ≡ None) × (is_end fields ≡ false)
asked_is_read place small (asked.NewOrder n) can fields is = request_alone place (NewOrder n) refl can.0 fields is
asked_is_read place small (asked.Payment p) can fields is = request_alone place (Payment p) refl can.0 fields is
asked_is_read place small (asked.OrderStatus o) can fields is = request_alone place (OrderStatus o) refl can.0 fields is
asked_is_read place small (asked.Delivery d) can fields is =
    record_is_read (λ place. after_asked) place (codes "D") (decimal d.w_id ∷ decimal d.carrier_id ∷ is.0 ∷ []) fields is.2 (utf8_words (codes "D") refl) refl
    ((and_read (number_read d.w_id can.0.0.0.0) (and_read (number_read d.carrier_id can.0.0.1) (and_read (moment_is_read is.0 d.moment is.1 can.0.1) none_read))).are [])
asked_is_read place small (asked.StockLevel s) can fields is = request_alone place (StockLevel s) refl can.0 fields is

pub scripts_are_read : ScriptsAreRead
scripts_are_read script small can rows kept is =
    let records = each_of_records CanBeRead 0 is.0 (subst (AllByRecursion CanBeReadPart) is.1 can) in
    let long = ap length is.1 in
    let fewer = fewer_records 0 is.0 in
    let few : length is.0 < 2 ^ 32 = omega (arith, small, long, fewer) in
    listing_is_read (λ place. after_asked) (λ place. IsTerminalRequest) CanBeReadAt asked_is_read is.0 few records rows is.2.0 kept is.2.1 is.2.2

-- ---- moves

-- a number is not the word of the end record
no_end_word : (n : ℕ) → IsWord n → bytes_eq (decimal n) (codes "END") ≡ false
no_end_word n small = other (decimal n) (codes "END") (λ e. let clash : true ≡ false = sym (is_number-decimal n (omega (arith, small))) ∙ ap is_number e in absurd cc)

-- the fields of a move behind its first one
move_is_read : (order : MoveOrder) → CanBeOrdered order → after_move (decimal order.lo) (clean (decimal order.hi ∷ decimal order.to ∷ [])) ≡ clean []
move_is_read order can =
    let lo = can.0 in
    let rest : FieldsView = clean (decimal order.hi ∷ decimal order.to ∷ []) in
    ap (λ r. take_columns (number ∷ number ∷ []) (found (fault_in r) rest)) (whole_complete 0 4294967295 order.lo (omega (arith, lo)) (omega arith) (omega (arith, lo)))
    ∙ (and_read (number_read order.hi can.1) (and_read (number_read order.to can.2) none_read)).are []

order_is_read : (place : ℕ) → IsWord place → (order : MoveOrder) → CanBeOrdered order → (fields : List (List ℕ)) → IsMoveRecord order fields → (fields_fault (λ place. after_move) place fields ≡ None) × (is_end fields ≡ false)
order_is_read place small order can fields is =
    let lo = can.0 in
    record_is_read (λ place. after_move) place (decimal order.lo) (decimal order.hi ∷ decimal order.to ∷ []) fields is (utf8_number order.lo (omega (arith, lo))) (no_end_word order.lo lo) (move_is_read order can)

pub moves_are_read : MovesAreRead
moves_are_read moves small can rows kept is = listing_is_read (λ place. after_move) (λ place. IsMoveRecord) CanBeOrdered order_is_read moves small can rows is.0 kept is.1 is.2

-- ---- schedules

-- a request that is submitted
submit_is_read : (session number_of : ℕ) (asked : List (List ℕ)) → IsWord session → IsWord number_of → IsReadRequest asked → after_submit (clean (decimal session ∷ decimal number_of ∷ asked)) ≡ clean []
submit_is_read session number_of asked one two request =
    let start : take_columns (number ∷ number ∷ []) (clean (decimal session ∷ decimal number_of ∷ asked)) ≡ clean (request.letter ∷ request.said) =
    (and_read (number_read session one) (and_read (number_read number_of two) none_read)).are asked ∙ ap clean request.are in
    let after : FieldsView → FieldsView = λ u. after_request (length u.left) (take_word u).0 (take_word u).1 in
    let many : suc (length request.said) ≡ length request.said + 1 = omega arith in
    ap after start
    ∙ ap (λ (p : List ℕ × FieldsView). after_request (suc (length request.said)) p.0 p.1) (word_is_taken request.letter request.said request.utf8)
    ∙ ap (λ n. after_request n request.letter (clean request.said)) many ∙ alone_is_read request

item_is_read : (place : ℕ) → IsWord place → (item : Scheduled) → CanBeReadItem item → (fields : List (List ℕ)) → IsScheduleRecord item fields → (fields_fault (λ place. after_scheduled) place fields ≡ None) × (is_end fields ≡ false)
item_is_read place small (scheduled.Event (Submit session number_of r)) can fields is =
    record_is_read (λ place. after_scheduled) place (codes "S") (decimal session ∷ decimal number_of ∷ is.0) fields is.2 (utf8_words (codes "S") refl) refl
    (submit_is_read session number_of is.0 can.0 can.1 (request_is_read r can.2 is.0 is.1))
item_is_read place small (scheduled.Event (Order order)) can fields is =
    let lo = can.0 in
    let rest : List (List ℕ) = decimal order.hi ∷ decimal order.to ∷ [] in
    record_is_read (λ place. after_scheduled) place (codes "M") (order_fields order) fields is (utf8_words (codes "M") refl) refl
    (ap (λ (p : List ℕ × FieldsView). after_move p.0 p.1) (word_is_taken (decimal order.lo) rest (utf8_number order.lo (omega (arith, lo)))) ∙ move_is_read order can)
item_is_read place small (scheduled.Event (Take executor)) can fields is =
    record_is_read (λ place. after_scheduled) place (codes "T") (decimal executor ∷ []) fields is (utf8_words (codes "T") refl) refl ((number_read executor can).is [])
item_is_read place small (scheduled.Event (Send executor)) can fields is =
    record_is_read (λ place. after_scheduled) place (codes "X") (decimal executor ∷ []) fields is (utf8_words (codes "X") refl) refl ((number_read executor can).is [])
item_is_read place small scheduled.Rounds can fields is =
    record_is_read (λ place. after_scheduled) place (codes "R") [] fields is (utf8_words (codes "R") refl) refl refl

pub schedules_are_read : SchedulesAreRead
schedules_are_read schedule small can rows kept is = listing_is_read (λ place. after_scheduled) (λ place. IsScheduleRecord) CanBeReadItem item_is_read schedule small can rows is.0 kept is.1 is.2

-- ---- logs

-- the request and the reply of an entry, behind the count of the request's fields
logged_is_read : (asked replied : List (List ℕ)) → length asked < 2 ^ 64 → IsReadRequest asked → IsReadReply replied → after_counted (Ok (length asked)) (clean (asked ++ replied)) ≡ clean []
logged_is_read asked replied few request reply =
    let rest : List (List ℕ) = request.said ++ replied in
    let parts : asked ++ replied ≡ request.letter ∷ rest = ap (λ l. l ++ replied) request.are in
    let count : length asked ≡ length request.said + 1 = let long = ap length request.are in omega (arith, long) in
    let columns = request.columns in
    let wide = request.long in
    let enough : (length columns + 1 == length request.said + 1) ≡ true = grind (arith, nat_tests, wide) in
    let behind : FieldsView = clean replied in
    let of_request : List ℕ × FieldsView → FieldsView = λ p. after_logged (request_columns (length request.said + 1) p.0 (length p.1.left)) (length request.said + 1) p.1 in
    let of_reply : FieldsView → FieldsView = λ u. after_reply (take_word u).0 (take_word u).1 in
    (λ i. after_counted (Ok (count i)) (clean (parts i)))
    ∙ ap of_request (word_is_taken request.letter rest request.utf8)
    ∙ ap (λ known. after_logged known (length request.said + 1) (clean rest)) (request.known replied)
    ∙ ap (λ b. of_reply (found (cond b None (Some WrongShape)) (take_columns columns (clean rest)))) enough
    ∙ ap of_reply (request.read.are replied)
    ∙ ap (λ l. of_reply (clean l)) reply.are
    ∙ ap (λ (p : List ℕ × FieldsView). after_reply p.0 p.1) (word_is_taken reply.letter reply.said reply.utf8) ∙ reply.read

entry_is_read : (place : ℕ) → IsWord place → (entry : Entry) → CanBeReadEntry entry → (fields : List (List ℕ)) → IsLogRecord place entry fields → (fields_fault after_entry place fields ≡ None) × (is_end fields ≡ false)
entry_is_read place small entry can fields is =
    let asked = is.0 in
    let replied = is.2 in
    let request = request_is_read entry.request can.2 asked is.1 in
    let reply = reply_is_read entry.reply can.3 replied is.3 in
    let few = few_fields entry.request can.2.0 asked is.1 in
    let after : List (List ℕ) = decimal (length asked) ∷ asked ++ replied in
    let said : List (List ℕ) = decimal entry.session ∷ decimal entry.number ∷ after in
    let here : (place == place) ≡ true = grind (arith, nat_tests) in
    let place_read = whole_complete 0 4294967295 place (omega (arith, small)) (omega arith) (omega (arith, small)) in
    let of_place : FieldsView → FieldsView = λ u. after_counted (whole_read 0 18446744073709551615 (take_word u).0) (take_word u).1 in
    record_is_read after_entry place (decimal place) said fields is.4 (utf8_number place (omega (arith, small))) (no_end_word place small)
    (ap (λ r. of_place (take_columns (number ∷ number ∷ []) (found (other_place place r) (clean said)))) place_read
    ∙ ap (λ b. of_place (take_columns (number ∷ number ∷ []) (found (cond b None (Some OutOfOrder)) (clean said)))) here
    ∙ ap of_place ((and_read (number_read entry.session can.0) (and_read (number_read entry.number can.1) none_read)).are after)
    ∙ ap (λ (p : List ℕ × FieldsView). after_counted (whole_read 0 18446744073709551615 p.0) p.1) (word_is_taken (decimal (length asked)) (asked ++ replied) (utf8_number (length asked) few))
    ∙ ap (λ r. after_counted r (clean (asked ++ replied))) (whole_complete 0 18446744073709551615 (length asked) few (omega arith) (omega (arith, few)))
    ∙ logged_is_read asked replied few request reply)

pub logs_are_read : LogsAreRead
logs_are_read entries small can rows kept is = listing_is_read after_entry IsLogRecord CanBeReadEntry entry_is_read entries small can rows is.0 kept is.1 is.2
