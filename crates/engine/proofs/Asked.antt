-- A session comes to the next part of its script, asks it, and has the answer.
use Rattle.std.proofs.Common.{◌≡◌, ℕ, ◌≤◌, Bool, false, List, [], ◌∷◌, ◌++◌, length, Some, Result, Ok, Err, sym, ap, subst, ◌∙◌, arith, length-append}
use Rattle.std.specs.List.{slice_get}
use Rattle.std.proofs.lemmas.List.{take_all}
use Rattle.requests.specs.declared.script.Part.{Part}
use Rattle.requests.specs.declared.refusal.Refusal.{Refusal}
use Rattle.requests.specs.Check.{check_of}
use Rattle.requests.specs.Script.{part}
use Rattle.commit_log.specs.declared.entry.Entry.{Entry}
use Rattle.commit_log.specs.Asks.{asking}
use Rattle.commit_log.specs.Items.{items_of}
use Rattle.commit_log.specs.PassView.{PassView, SessionSeatView, session_seat_view}
use Rattle.executor.specs.Answers.{IsRecordedBy}
use Rattle.engine.specs.Rules.{Rules}
use Rattle.engine.specs.Asking.{IsAsked, IsReady, IsRefusedNext, asked_of, ready_view, says_full, asked_view}
use Rattle.engine.specs.Served.{Served}
use Rattle.engine.proofs.Answered.{away_now, resting_again, resting_audited, resting_first, resting_refused, resting_recorded}
use Rattle.engine.proofs.OneMoreRequest.{few_still, one_more}

module _ (rules : Rules) (scripts : List (List Part)) (script : List Part) where
  -- before the first part
  pub ready_first : (seat : SessionSeatView) (pass : PassView) (answers : List (Result ℕ Refusal)) (room : ℕ) → slice_get scripts pass.session ≡ Some script → seat.session ≡ pass.session → pass.mine ≡ []
      → answers ≡ [] → length script ≤ room → IsReady rules scripts (ready_view script seat pass answers false) room
  ready_first seat pass answers room script_is seat_is new none room_is = record {
    script_is = script_is;
    few = let none_yet = ap length none in omega (arith, none_yet);
    so_far = resting_first rules (asked_of script answers) seat pass answers seat_is new (ap (asked_of script) none) none;
    room_is = room_is;
  }

  -- its next part is refused
  pub ready_refused : (seat : SessionSeatView) (pass : PassView) (answers after : List (Result ℕ Refusal)) (room later : ℕ) (is_full : Bool) (why : Refusal) → IsReady rules scripts (ready_view script seat pass answers is_full) room
      → IsRefusedNext rules (ready_view script seat pass answers is_full) why → after ≡ answers ++ Err why ∷ [] → room ≤ later → IsReady rules scripts (ready_view script seat pass after is_full) later
  ready_refused seat pass answers after room later is_full why h refused pushed grown = record {
    script_is = h.script_is;
    few = subst (λ (recorded : List (Result ℕ Refusal)). length recorded ≤ length script) (sym pushed) (few_still script answers refused.0 refused.1 (Err why));
    so_far = resting_refused rules (asked_of script answers) seat pass answers is_full refused.0 why h.so_far refused.2 (asked_of script after) after
        (ap (asked_of script) pushed ∙ one_more script answers refused.0 refused.1 (Err why)) pushed;
    room_is = let room_is = h.room_is in omega (arith, room_is, grown);
  }

  -- its next part is asked
  pub asks_next : (seat after : SessionSeatView) (pass : PassView) (answers : List (Result ℕ Refusal)) (room : ℕ) (is_full : Bool) (asked : Part) → IsReady rules scripts (ready_view script seat pass answers is_full) room
      → is_full ≡ false → slice_get script (length answers) ≡ Some asked → check_of rules.scale asked.request ≡ Ok tt
      → after ≡ session_seat_view seat.session (asking asked.number asked.request pass.seen pass.mine) → IsAsked rules scripts (asked_view script after answers) room
  asks_next seat after pass answers room is_full asked h not_full next accepted after_is = record {
    script_is = ap (λ (s : SessionSeatView). slice_get scripts s.session) after_is ∙ ap (slice_get scripts) h.so_far.seat_is ∙ h.script_is;
    next = next ∙ ap (λ (s : SessionSeatView). Some (part s.asking.number s.asking.request)) (sym after_is);
    so_far = away_now rules (asked_of script answers) seat after pass answers is_full asked h.so_far not_full accepted after_is;
    room_is = h.room_is;
  }

  -- what was asked is to be asked again, or has its answer
  module _ (seat : SessionSeatView) (pass : PassView) (answers after : List (Result ℕ Refusal)) (room later : ℕ) (h : IsAsked rules scripts (asked_view script seat answers) room) (session : pass.session ≡ seat.session) where
    script_here : slice_get scripts pass.session ≡ Some script
    script_here = ap (slice_get scripts) session ∙ h.script_is

    pub ready_again : (why : Refusal) → IsRecordedBy rules.most seat.asking pass (Err why) → IsReady rules scripts (ready_view script seat pass answers false) room
    ready_again why recorded = record {
      script_is = script_here;
      few = few_before;
      so_far = resting_again rules (asked_of script answers) seat pass answers h.so_far session why recorded;
      room_is = h.room_is;
    }
      where
        few_before : length answers ≤ length script
        few_before = let more = few_still script answers (part seat.asking.number seat.asking.request) h.next (Err why) in let longer = length-append answers (Err why ∷ []) in omega (arith, more, longer)

    pub ready_recorded : (answer : Result ℕ Refusal) (is_full : Bool) → is_full ≡ says_full answer → IsRecordedBy rules.most seat.asking pass answer → after ≡ answers ++ answer ∷ [] → room ≤ later
        → IsReady rules scripts (ready_view script seat pass after is_full) later
    ready_recorded answer is_full full_is recorded pushed grown = record {
      script_is = script_here;
      few = subst (λ (all : List (Result ℕ Refusal)). length all ≤ length script) (sym pushed) (few_still script answers (part seat.asking.number seat.asking.request) h.next answer);
      so_far = resting_recorded rules (asked_of script answers) seat pass answers h.so_far session (asked_of script after) after answer is_full recorded
          (ap (asked_of script) pushed ∙ one_more script answers (part seat.asking.number seat.asking.request) h.next answer) pushed full_is;
      room_is = let room_is = h.room_is in omega (arith, room_is, grown);
    }

  -- the script is at its end, and the session is compared with the log
  pub audited : (seat : SessionSeatView) (pass : PassView) (answers : List (Result ℕ Refusal)) (room session : ℕ) (is_full : Bool) (log : List Entry) → IsReady rules scripts (ready_view script seat pass answers is_full) room
      → pass.session ≡ session → length answers ≡ length script → pass.mine ≡ items_of pass.session log → pass.reached ≤ length log
      → (other : List Part) → slice_get scripts session ≡ Some other → Served rules other answers (items_of session log) (length log)
  audited seat pass answers room session is_full log h session_is all mine reached other found =
      let own : slice_get scripts pass.session ≡ Some other = ap (slice_get scripts) session_is ∙ found in
      let here = h.script_is in
      let same : script ≡ other = cc in
      let whole : asked_of script answers ≡ script = take_all (length answers) script (omega (arith, all)) in
      subst (λ (p : List Part). Served rules p answers (items_of session log) (length log)) (whole ∙ same)
      (resting_audited rules (asked_of script answers) seat pass answers is_full session log h.so_far session_is mine reached)
