-- A session has one more answer: its facts then.
use Rattle.std.proofs.Common.{◌≡◌, ℕ, ◌+◌, ◌<◌, ◌≤◌, max, Bool, true, false, List, [], ◌∷◌, ◌++◌, length, Result, Ok, Err, inr, refl, sym, ap, subst, ◌∙◌, arith}
use Rattle.std.proofs.lemmas.List.Elements.{Contains-push}
use Rattle.requests.specs.declared.script.Part.{Part}
use Rattle.requests.specs.declared.refusal.Refusal.{Refusal}
use Rattle.requests.specs.declared.refusal.Refusal.TheVariants as refusal
use Rattle.requests.specs.Check.{check_of}
use Rattle.requests.specs.Script.{part}
use Rattle.commit_log.specs.declared.entry.Entry.{Entry}
use Rattle.commit_log.specs.declared.mine.Item.{Item}
use Rattle.commit_log.specs.Asks.{asking}
use Rattle.commit_log.specs.Items.{item, items_of}
use Rattle.commit_log.specs.PassView.{PassView, SessionSeatView, having_met, session_seat_view}
use Rattle.executor.specs.Answers.{IsRecordedBy, MayBeRefused}
use Rattle.engine.specs.Rules.{Rules}
use Rattle.engine.specs.Asking.{HasSeen, IsAway, IsResting, known_of, ready_view, says_full, asked_view}
use Rattle.engine.specs.Outcome.{IsRefusal}
use Rattle.engine.specs.Served.{Served}
use Rattle.engine.proofs.OneMoreRequest.{by_end, done_more, refused_more, seen_still, served_begun, served_further}

pub known_below : (b : Bool) (reached : ℕ) → known_of b reached ≤ reached
known_below true reached = omega arith
known_below false reached = omega arith

known_further : (b : Bool) (reached further : ℕ) → reached ≤ further → known_of b reached ≤ known_of b further
known_further true reached further grown = grown
known_further false reached further grown = omega arith

-- one answer more, with a place that the session has seen
seen_more : (answers : List (Result ℕ Refusal)) (place seen : ℕ) → seen ≤ place → HasSeen seen answers → HasSeen (place + 1) (answers ++ Ok place ∷ [])
seen_more answers place seen behind saw k there at =
    by_end (there < place + 1) answers (Ok place) (Ok there) k at
    (λ _ is. let placed : place ≡ there = cc in omega arith)
    (λ _ before. let low : there < seen = saw k there before in omega arith)

module _ (rules : Rules) where
  -- nothing was asked yet
  pub resting_first : (script : List Part) (seat : SessionSeatView) (pass : PassView) (answers : List (Result ℕ Refusal)) → seat.session ≡ pass.session → pass.mine ≡ [] → script ≡ [] → answers ≡ []
      → IsResting rules (ready_view script seat pass answers false)
  resting_first script seat pass answers seat_is new nothing none =
      subst (λ (ps : List Part). IsResting rules (ready_view ps seat pass answers false)) (sym nothing)
      (subst (λ (recorded : List (Result ℕ Refusal)). IsResting rules (ready_view [] seat pass recorded false)) (sym none) (record {
        seat_is = seat_is;
        served = subst (λ (m : List Item). Served rules [] [] m 0) (sym new) (served_begun rules 0);
        has_seen = λ k place at. absurd cc;
        full = λ is. absurd cc;
      }))

  -- a request is refused
  module _ (script : List Part) (seat : SessionSeatView) (pass : PassView) (answers : List (Result ℕ Refusal)) (is_full : Bool) (asked : Part) (why : Refusal)
      (h : IsResting rules (ready_view script seat pass answers is_full)) (rightly : IsRefusal rules (known_of is_full pass.reached) asked.request why) where
    pub resting_refused : (parts : List Part) (recorded : List (Result ℕ Refusal)) → parts ≡ script ++ asked ∷ [] → recorded ≡ answers ++ Err why ∷ []
        → IsResting rules (ready_view parts seat pass recorded is_full)
    resting_refused parts recorded noted answered =
        subst (λ (ps : List Part). IsResting rules (ready_view ps seat pass recorded is_full)) (sym noted)
        (subst (λ (all : List (Result ℕ Refusal)). IsResting rules (ready_view (script ++ asked ∷ []) seat pass all is_full)) (sym answered) (record {
          seat_is = h.seat_is;
          served = refused_more rules script answers pass.mine (known_of is_full pass.reached) (known_of is_full pass.reached) asked why h.served (omega arith) rightly;
          has_seen = seen_still answers why pass.seen pass.seen refl h.has_seen;
          full = h.full;
        }))

  -- a part is asked whose request the check accepts
  pub away_now : (script : List Part) (seat after : SessionSeatView) (pass : PassView) (answers : List (Result ℕ Refusal)) (is_full : Bool) (asked : Part)
      → IsResting rules (ready_view script seat pass answers is_full) → is_full ≡ false → check_of rules.scale asked.request ≡ Ok tt
      → after ≡ session_seat_view seat.session (asking asked.number asked.request pass.seen pass.mine) → IsAway rules (asked_view script after answers)
  away_now script seat after pass answers is_full asked h not_full accepted after_is =
      subst (λ (s : SessionSeatView). IsAway rules (asked_view script s answers)) (sym after_is) (record {
        served = subst (λ (b : Bool). Served rules script answers pass.mine (known_of b pass.reached)) not_full h.served;
        has_seen = h.has_seen;
        accepted = accepted;
      })

  -- the answer has come
  module _ (script : List Part) (seat : SessionSeatView) (pass : PassView) (answers : List (Result ℕ Refusal)) (h : IsAway rules (asked_view script seat answers)) (session : pass.session ≡ seat.session) where
    abbrev pub asked : Part
    asked = part seat.asking.number seat.asking.request

    -- it is to be asked again
    pub resting_again : (why : Refusal) → IsRecordedBy rules.most seat.asking pass (Err why) → IsResting rules (ready_view script seat pass answers false)
    resting_again why recorded = record {
      seat_is = sym session;
      served = subst (λ (m : List Item). Served rules script answers m 0) (sym recorded.1) h.served;
      has_seen = subst (λ (n : ℕ). HasSeen n answers) (sym recorded.0) h.has_seen;
      full = λ is. absurd cc;
    }

    so_refused : (why : Refusal) (known : ℕ) → IsRecordedBy rules.most seat.asking pass (Err why) → MayBeRefused rules.most known seat.asking.request why
        → Served rules (script ++ asked ∷ []) (answers ++ Err why ∷ []) pass.mine known
    so_refused why known recorded may =
        subst (λ (m : List Item). Served rules (script ++ asked ∷ []) (answers ++ Err why ∷ []) m known) (sym recorded.1)
        (refused_more rules script answers seat.asking.mine 0 known asked why h.served (omega arith)
        (inr (h.accepted, may)))

    seen_so : (why : Refusal) → IsRecordedBy rules.most seat.asking pass (Err why) → HasSeen pass.seen (answers ++ Err why ∷ [])
    seen_so why recorded = seen_still answers why seat.asking.seen pass.seen recorded.0 h.has_seen

    recorded_full : (why : Refusal) → rules.most ≤ pass.reached → IsRecordedBy rules.most seat.asking pass (Err why) → IsResting rules (ready_view (script ++ asked ∷ []) seat pass (answers ++ Err why ∷ []) true)
    recorded_full why full recorded = record {
      seat_is = sym session;
      served = so_refused why pass.reached recorded recorded.2;
      has_seen = seen_so why recorded;
      full = λ is. full;
    }

    recorded_refused : (why : Refusal) → MayBeRefused rules.most 0 seat.asking.request why → IsRecordedBy rules.most seat.asking pass (Err why) → IsResting rules (ready_view (script ++ asked ∷ []) seat pass (answers ++ Err why ∷ []) false)
    recorded_refused why may recorded = record {
      seat_is = sym session;
      served = so_refused why 0 recorded may;
      has_seen = seen_so why recorded;
      full = λ is. absurd cc;
    }

    recorded_done : (place : ℕ) → IsRecordedBy rules.most seat.asking pass (Ok place) → IsResting rules (ready_view (script ++ asked ∷ []) seat pass (answers ++ Ok place ∷ []) false)
    recorded_done place recorded =
        let reply = recorded.2 in
        let x = item place seat.asking.number seat.asking.request reply in
        record {
          seat_is = sym session;
          served = subst (λ (m : List Item). Served rules (script ++ asked ∷ []) (answers ++ Ok place ∷ []) m 0) (sym recorded.3)
              (done_more rules script answers seat.asking.mine 0 0 seat.asking.seen place asked reply h.served h.has_seen (omega arith) recorded.0
              (h.accepted, reply, Contains-push seat.asking.mine x));
          has_seen = subst (λ (n : ℕ). HasSeen n (answers ++ Ok place ∷ [])) (sym recorded.1) (seen_more answers place seat.asking.seen recorded.0 h.has_seen);
          full = λ is. absurd cc;
        }

    recorded_any : (answer : Result ℕ Refusal) → IsRecordedBy rules.most seat.asking pass answer → IsResting rules (ready_view (script ++ asked ∷ []) seat pass (answers ++ answer ∷ []) (says_full answer))
    recorded_any (Ok place) recorded = recorded_done place recorded
    recorded_any (Err refusal.LogFull) recorded = recorded_full refusal.LogFull recorded.2 recorded
    recorded_any (Err refusal.NoMemory) recorded = recorded_refused refusal.NoMemory tt recorded
    recorded_any (Err (refusal.Died group holder)) recorded = recorded_refused (refusal.Died group holder) recorded.2 recorded
    recorded_any (Err refusal.BadWarehouse) recorded = absurd recorded.2
    recorded_any (Err refusal.BadDistrict) recorded = absurd recorded.2
    recorded_any (Err refusal.BadLines) recorded = absurd recorded.2
    recorded_any (Err refusal.BadQuantity) recorded = absurd recorded.2
    recorded_any (Err refusal.BadSupply) recorded = absurd recorded.2
    recorded_any (Err refusal.BadAmount) recorded = absurd recorded.2
    recorded_any (Err refusal.BadThreshold) recorded = absurd recorded.2
    recorded_any (Err refusal.BadCarrier) recorded = absurd recorded.2
    recorded_any (Err refusal.Busy) recorded = absurd recorded.2
    recorded_any (Err refusal.SessionBusy) recorded = absurd recorded.2
    recorded_any (Err refusal.Closed) recorded = absurd recorded.2

    pub resting_recorded : (parts : List Part) (recorded : List (Result ℕ Refusal)) (answer : Result ℕ Refusal) (is_full : Bool) → IsRecordedBy rules.most seat.asking pass answer
        → parts ≡ script ++ asked ∷ [] → recorded ≡ answers ++ answer ∷ [] → is_full ≡ says_full answer → IsResting rules (ready_view parts seat pass recorded is_full)
    resting_recorded parts recorded answer is_full is noted answered full_is =
        subst (λ (ps : List Part). IsResting rules (ready_view ps seat pass recorded is_full)) (sym noted)
        (subst (λ (all : List (Result ℕ Refusal)). IsResting rules (ready_view (script ++ asked ∷ []) seat pass all is_full)) (sym answered)
        (subst (λ (b : Bool). IsResting rules (ready_view (script ++ asked ∷ []) seat pass (answers ++ answer ∷ []) b)) (sym full_is) (recorded_any answer is)))

  -- the session has met another
  pub resting_met : (script : List Part) (seat : SessionSeatView) (pass after other : PassView) (answers : List (Result ℕ Refusal)) (is_full : Bool) → IsResting rules (ready_view script seat pass answers is_full)
      → after ≡ having_met pass other → IsResting rules (ready_view script seat after answers is_full)
  resting_met script seat pass after other answers is_full h met =
      subst (λ (p : PassView). IsResting rules (ready_view script seat p answers is_full)) (sym met) (record {
        seat_is = h.seat_is;
        served = served_further rules script answers pass.mine (known_of is_full pass.reached) (known_of is_full (max pass.reached other.reached)) (known_further is_full pass.reached (max pass.reached other.reached) (omega arith)) h.served;
        has_seen = λ k place at. let low = h.has_seen k place at in omega (arith, low);
        full = λ is. let full = h.full is in omega (arith, full);
      })

  -- the session is compared with the log
  pub resting_audited : (script : List Part) (seat : SessionSeatView) (pass : PassView) (answers : List (Result ℕ Refusal)) (is_full : Bool) (session : ℕ) (log : List Entry) → IsResting rules (ready_view script seat pass answers is_full)
      → pass.session ≡ session → pass.mine ≡ items_of pass.session log → pass.reached ≤ length log → Served rules script answers (items_of session log) (length log)
  resting_audited script seat pass answers is_full session log h session_is mine reached =
      let below = known_below is_full pass.reached in
      subst (λ (m : List Item). Served rules script answers m (length log)) (mine ∙ ap (λ n. items_of n log) session_is)
      (served_further rules script answers pass.mine (known_of is_full pass.reached) (length log) (omega (arith, below, reached)) h.served)
