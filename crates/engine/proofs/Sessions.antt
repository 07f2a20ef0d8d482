-- The sessions, one after the other.
use Rattle.std.proofs.Common.{◌≡◌, ℕ, zero, suc, ◌+◌, ◌<◌, ◌≤◌, List, [], ◌∷◌, ◌++◌, length, map, get_or, Some, Result, refl, sym, ap, subst, ◌∙◌, arith, length-append}
use Rattle.std.specs.List.{slice_get}
use Rattle.std.specs.Option.{option_map}
use Rattle.std.proofs.lemmas.Option.{slice_get-map, slice_get_within}
use Rattle.rows.specs.declared.limits.TheConstants.{SESSIONS}
use Rattle.requests.specs.declared.script.Part.{Part}
use Rattle.requests.specs.declared.refusal.Refusal.{Refusal}
use Rattle.requests.specs.Script.{AreNumberedByPlace}
use Rattle.commit_log.specs.declared.entry.Entry.{Entry}
use Rattle.commit_log.specs.Items.{items_of}
use Rattle.commit_log.specs.PassView.{PassView, SessionSeatView, new_pass, new_seat}
use Rattle.engine.specs.Rules.{Rules}
use Rattle.engine.specs.Served.{Served, ServedEach}
use Rattle.engine.specs.Sessions.{AreAskedFrom, AreNewFrom}
use Rattle.engine.specs.declared.session.Left.{Left}
use Rattle.engine.proofs.OneMoreRequest.{by_end}

-- what an index finds
pub found : {X : Type 0} (xs : List X) (n : ℕ) (x : X) → n < length xs → x ≡ get_or xs n x → slice_get xs n ≡ Some x
found [] n x low is = absurd (omega arith)
found (y ∷ ys) zero x low is = ap Some (sym is)
found (y ∷ ys) (suc n) x low is = found ys n x (omega arith) is

-- ---- new sessions

pub all_new : (lanes : List (PassView × SessionSeatView)) → ((k : ℕ) → k < SESSIONS → slice_get lanes k ≡ Some (new_pass k, new_seat k)) → AreNewFrom 0 lanes
all_new lanes h k low =
    let at : k ≡ 0 + k = omega arith in
    subst (λ n. slice_get lanes k ≡ Some (new_pass n, new_seat n)) at (h k (omega arith))

only : {X : Type 0} (x y : X) → Some x ≡ Some y → x ≡ y
only x y e = cc

-- the first of new sessions is new, and so are the others
pub new_next : (first : ℕ) (pass : PassView) (seat : SessionSeatView) (lanes : List (PassView × SessionSeatView)) → AreNewFrom first ((pass, seat) ∷ lanes) → first < SESSIONS
    → (pass ≡ new_pass first) × (seat ≡ new_seat first) × AreNewFrom (first + 1) lanes
new_next first pass seat lanes h low =
    let at : first + 0 ≡ first = omega arith in
    let here : first + 0 < SESSIONS = omega arith in
    let both = only (pass, seat) (new_pass (first + 0), new_seat (first + 0)) (h 0 here) in (
      ap (λ (lane : PassView × SessionSeatView). lane.0) both ∙ ap new_pass at,
      ap (λ (lane : PassView × SessionSeatView). lane.1) both ∙ ap new_seat at,
      λ k below.
          let there : first + suc k ≡ first + 1 + k = omega arith in
          let inside : first + suc k < SESSIONS = omega arith in
          subst (λ n. slice_get lanes k ≡ Some (new_pass n, new_seat n)) there (h (suc k) inside),
    )

-- a new session that has logged exactly its entries in the log has none there
pub none_of : (session : ℕ) (pass : PassView) (before log : List Entry) → pass ≡ new_pass session → pass.mine ≡ items_of pass.session before → before ≡ log → items_of session log ≡ []
none_of session pass before log new mine same =
    let whose : pass.session ≡ session = ap (λ (p : PassView). p.session) new in
    let none : pass.mine ≡ [] = ap (λ (p : PassView). p.mine) new in
    sym (ap (λ n. items_of n before) whose ∙ ap (items_of session) same) ∙ sym mine ∙ none

-- one more session that has no entry in the log
pub none_next : (first session : ℕ) (entries : List Entry) → ((s : ℕ) → first ≤ s → s < session → items_of s entries ≡ []) → items_of session entries ≡ []
    → (s : ℕ) → first ≤ s → s < session + 1 → items_of s entries ≡ []
none_next first session entries before here s from up =
    by_last session s (items_of s entries ≡ []) (omega arith) (λ low. before s from low) (λ is. ap (λ n. items_of n entries) is ∙ here)
  where
    by_last : (n m : ℕ) (G : Type 0) → m < n + 1 → (m < n → G) → (m ≡ n → G) → G
    by_last zero zero G up' less last = last refl
    by_last zero (suc m) G up' less last = absurd (omega arith)
    by_last (suc n) zero G up' less last = less (omega arith)
    by_last (suc n) (suc m) G up' less last = by_last n m G (omega arith) (λ l. less (omega arith)) (λ e. last (ap suc e))

-- ---- sessions that number what they ask

-- one request more, with the next number
pub numbered_more : (parts after : List Part) (one : Part) → AreNumberedByPlace parts → one.number ≡ length parts → after ≡ parts ++ one ∷ [] → AreNumberedByPlace after
numbered_more parts after one numbered next pushed =
    subst AreNumberedByPlace (sym pushed)
    (λ place other at. by_end (other.number ≡ place) parts one other place at
    (λ last is. sym (ap (λ (p : Part). p.number) is) ∙ next ∙ sym last)
    (λ _ old. numbered place other old))

-- ---- sessions that were served

-- one script more that was served its answers
pub each_next : (rules : Rules) (scripts : List (List Part)) (entries : List Entry) (answers after : List (List (Result ℕ Refusal))) (k : ℕ) (script : List Part) (recorded : List (Result ℕ Refusal))
    → ServedEach rules scripts entries answers → length answers ≡ k → slice_get scripts k ≡ Some script
    → Served rules script recorded (items_of k entries) (length entries) → after ≡ answers ++ recorded ∷ [] → ServedEach rules scripts entries after
each_next rules scripts entries answers after k script recorded before count asked served pushed =
    subst (ServedEach rules scripts entries) (sym pushed)
    (λ s asked_there recorded_there is_asked is_recorded.
    by_end (Served rules asked_there recorded_there (items_of s entries) (length entries)) answers recorded recorded_there s is_recorded
    (λ s_is recorded_is.
    let at : k ≡ s = omega arith in
    let again : slice_get scripts k ≡ Some asked_there = ap (slice_get scripts) at ∙ is_asked in
    let script_is : script ≡ asked_there = cc in
    subst (λ n. Served rules asked_there recorded_there (items_of n entries) (length entries)) at
    (subst (λ a. Served rules asked_there a (items_of k entries) (length entries)) recorded_is
    (subst (λ q. Served rules q recorded (items_of k entries) (length entries)) script_is served)))
    (λ _ old. before s asked_there recorded_there is_asked old))

-- what holds of each item, by its place, and of one more
pub each_pushed : {H : Type 0} (xs after : List H) (x : H) (n : ℕ) (P : ℕ → H → Type 0) → n ≡ length xs → after ≡ xs ++ x ∷ []
    → ((k : ℕ) (h : H) → slice_get xs k ≡ Some h → P k h) → P n x → (k : ℕ) (h : H) → slice_get after k ≡ Some h → P k h
each_pushed xs after x n P count pushed before here k h at =
    by_end (P k h) xs x h k (ap (λ l. slice_get l k) (sym pushed) ∙ at)
    (λ last is. let place : n ≡ k = omega arith in subst (λ m. P m h) place (subst (P n) is here))
    (λ _ old. before k h old)

-- a list with one item more is longer by one
pub one_longer : {X : Type 0} (xs after : List X) (x : X) (n : ℕ) → length xs ≡ n → after ≡ xs ++ x ∷ [] → length after ≡ n + 1
one_longer xs after x n count pushed = ap length pushed ∙ (length-append xs (x ∷ []) ∙ ap (λ m. m + 1) count)

-- ---- sessions that asked interactively, which come after the scripts

at_seam : {X : Type 0} (xs : List X) (y : X) (ys : List X) → slice_get (xs ++ y ∷ ys) (length xs) ≡ Some y
at_seam [] y ys = refl
at_seam (x ∷ xs) y ys = at_seam xs y ys

at_left : {X : Type 0} (xs ys : List X) (n : ℕ) → n < length xs → slice_get (xs ++ ys) n ≡ slice_get xs n
at_left [] ys n low = absurd (omega arith)
at_left (x ∷ xs) ys zero low = refl
at_left (x ∷ xs) ys (suc n) low = at_left xs ys n (omega arith)

at_right : {X : Type 0} (xs ys : List X) (n : ℕ) → slice_get (xs ++ ys) (length xs + n) ≡ slice_get ys n
at_right [] ys n = let none : 0 + n ≡ n = omega arith in ap (slice_get ys) none
at_right (x ∷ xs) ys n = let next : suc (length xs) + n ≡ suc (length xs + n) = omega arith in ap (slice_get (x ∷ (xs ++ ys))) next ∙ at_right xs ys n

-- the scripts that were served are among all that was asked
pub served_among : (rules : Rules) (scripts more : List (List Part)) (entries : List Entry) (answers : List (List (Result ℕ Refusal))) → length answers ≡ length scripts
    → ServedEach rules scripts entries answers → ServedEach rules (scripts ++ more) entries answers
served_among rules scripts more entries answers even each = λ s script recorded asked is_recorded.
    let low : s < length answers = slice_get_within answers s recorded is_recorded in
    each s script recorded (sym (at_left scripts more s (omega (arith, low, even))) ∙ asked) is_recorded

-- what the sessions asked is behind the scripts
pub asked_behind : {J : Type 0} (scripts : List (List Part)) (left : List (Left J)) (first : ℕ) → first ≡ length scripts → AreAskedFrom first (scripts ++ map (λ (one : Left J). one.session.script) left) left
asked_behind {J = J} scripts left first is = λ k one found.
    let asked = λ (l : Left J). l.session.script in
    ap (λ (n : ℕ). slice_get (scripts ++ map asked left) (n + k)) is ∙ at_right scripts (map asked left) k ∙ slice_get-map asked left k ∙ ap (option_map asked) found

-- the next of these sessions has asked the script at its place
pub asked_next : {J : Type 0} (first : ℕ) (scripts : List (List Part)) (all done rest : List (Left J)) (one : Left J) → all ≡ done ++ one ∷ rest → AreAskedFrom first scripts all
    → slice_get scripts (first + length done) ≡ Some one.session.script
asked_next first scripts all done rest one is asked = asked (length done) one (ap (λ l. slice_get l (length done)) is ∙ at_seam done one rest)
