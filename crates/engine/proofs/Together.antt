-- What every session was served makes the outcome.
use Rattle.std.proofs.Common.{◌≡◌, ℕ, zero, suc, ◌+◌, ◌<◌, ◌≤◌, ◌==◌, true, false, if◌then◌else◌, List, [], ◌∷◌, ◌++◌, length, Some, None, Result, Ok, Err, inl, inr, refl, sym, ap, subst, ◌∙◌, arith}
use Rattle.std.specs.List.{slice_get, Contains}
use Rattle.std.specs.Option.{option_map, option_and_then}
use Rattle.std.proofs.lemmas.Bool.Decides.{nat_tests}
use Rattle.std.proofs.lemmas.List.Elements.{Contains-append_left, Contains-append_right, Contains-append_cases, Contains-push_cases, Contains-push}
use Rattle.rows.specs.declared.limits.TheConstants.{SESSIONS}
use Rattle.schema.specs.Database.{Database}
use Rattle.requests.specs.declared.request.Request.{Request}
use Rattle.requests.specs.declared.script.Part.{Part}
use Rattle.requests.specs.declared.reply.Reply.{Reply}
use Rattle.requests.specs.declared.refusal.Refusal.{Refusal}
use Rattle.requests.specs.declared.refusal.Refusal.TheVariants as refusal
use Rattle.requests.specs.Check.{check_of}
use Rattle.requests.specs.Script.{part}
use Rattle.commit_log.specs.declared.entry.Entry.{Entry}
use Rattle.commit_log.specs.Log.{IsLegal}
use Rattle.commit_log.specs.declared.mine.Item.{Item}
use Rattle.commit_log.specs.Items.{entry_of, item, items_from, items_of}
use Rattle.executor.specs.Answers.{MayBeRefused}
use Rattle.engine.specs.Rules.{Rules, rules_of}
use Rattle.engine.specs.Outcome.{item_at, IsRefusal, IsOutcome}
use Rattle.engine.specs.Served.{IsAnswerTo, ServedEach}

-- ---- lists

-- an item of a list of lists is in one of them
at_parts : {X : Type 0} (lists : List (List X)) (s k : ℕ) (x : X) → item_at lists s k ≡ Some x
    → (list : List X) × (slice_get lists s ≡ Some list) × (slice_get list k ≡ Some x)
at_parts {X = X} lists s k x h =
    elim (slice_get lists s) as (λ o. slice_get lists s ≡ o → option_and_then (λ list. slice_get list k) o ≡ Some x → (list : List X) × (slice_get lists s ≡ Some list) × (slice_get list k ≡ Some x)) [
      | None ↦ λ e t. absurd cc
      | Some list ↦ λ e t. (list, e, t)
    ] refl h

at_both : {X : Type 0} (lists : List (List X)) (list : List X) (s k : ℕ) → slice_get lists s ≡ Some list → item_at lists s k ≡ slice_get list k
at_both lists list s k h = ap (option_and_then (λ l. slice_get l k)) h

-- of two lists of one length, both have something at a place, or neither
partner : {X Y : Type 0} (xs : List X) (ys : List Y) (n : ℕ) (x : X) → length xs ≡ length ys → slice_get xs n ≡ Some x → (y : Y) × (slice_get ys n ≡ Some y)
partner [] ys n x even h = absurd cc
partner (a ∷ xs) [] n x even h = absurd (omega arith)
partner (a ∷ xs) (b ∷ ys) zero x even h = (b, refl)
partner (a ∷ xs) (b ∷ ys) (suc n) x even h = partner xs ys n x (omega arith) h

pub reaches : {X : Type 0} (xs : List X) (n : ℕ) → n < length xs → (x : X) × (slice_get xs n ≡ Some x)
reaches [] n h = absurd (omega arith)
reaches (x ∷ xs) zero h = (x, refl)
reaches (x ∷ xs) (suc n) h = reaches xs n (omega arith)

alone : {X : Type 0} (x y : X) → Contains (x ∷ []) y → x ≡ y
alone x y h =
    elim (Contains-push_cases [] x y h) as (λ _. x ≡ y) [
      | inl none ↦ absurd (nothing y none)
      | inr same ↦ same
    ]
  where
    nothing : {Y : Type 0} (z : Y) → Contains [] z → ⊥
    nothing z c = let low = c.1 in omega arith

-- ---- the items of a session, and the entries of the log

-- an item of a session is an entry of the session, at its place
item_stands : (session start : ℕ) (es : List Entry) (x : Item) → Contains (items_from session start es) x
    → (j : ℕ) × (x.place ≡ start + j) × (slice_get es j ≡ Some (entry_of session x.number x.request x.reply))
item_stands session start [] x h = let low = h.1 in absurd (omega arith)
item_stands session start (e ∷ es) x h =
    elim (session == e.session) as (λ b. (session == e.session) ≡ b
    → Contains ((if b then item start e.number e.request e.reply ∷ [] else []) ++ items_from session ((start + 1)) es) x
    → (j : ℕ) × (x.place ≡ start + j) × (slice_get (e ∷ es) j ≡ Some (entry_of session x.number x.request x.reply))) [
      | true ↦ λ t c.
          elim (Contains-append_cases (item start e.number e.request e.reply ∷ []) (items_from session ((start + 1)) es) x c)
          as (λ _. (j : ℕ) × (x.place ≡ start + j) × (slice_get (e ∷ es) j ≡ Some (entry_of session x.number x.request x.reply))) [
            | inl first ↦
                let is : item start e.number e.request e.reply ≡ x = alone (item start e.number e.request e.reply) x first in
                let whose : session ≡ e.session = grind (arith, nat_tests) in
                let placed : start ≡ x.place = ap (λ (i : Item). i.place) is in
                let entry : entry_of e.session e.number e.request e.reply ≡ entry_of session x.number x.request x.reply =
                ap (λ s. entry_of s e.number e.request e.reply) (sym whose) ∙ ap (λ (i : Item). entry_of session i.number i.request i.reply) is in
                (0, omega arith, ap Some entry)
            | inr rest ↦ later (item_stands session ((start + 1)) es x rest)
          ]
      | false ↦ λ t c. later (item_stands session ((start + 1)) es x c)
    ] refl h
  where
    later : (j : ℕ) × (x.place ≡ (start + 1) + j) × (slice_get es j ≡ Some (entry_of session x.number x.request x.reply))
        → (j : ℕ) × (x.place ≡ start + j) × (slice_get (e ∷ es) j ≡ Some (entry_of session x.number x.request x.reply))
    later d = let is : x.place ≡ (start + 1) + d.0 = d.1 in (suc d.0, omega arith, d.2)

-- and an entry is an item of its session
entry_listed : (start : ℕ) (es : List Entry) (j : ℕ) (e : Entry) → slice_get es j ≡ Some e
    → Contains (items_from e.session start es) (item (start + j) e.number e.request e.reply)
entry_listed start [] j e h = absurd cc
entry_listed start (first ∷ es) zero e h =
    let is : first ≡ e = cc in
    let own : (e.session == first.session) ≡ true = rw is (grind (arith, nat_tests)) in
    let placed : start + 0 ≡ start = omega arith in
    let x = item start first.number first.request first.reply in
    let there : Contains (x ∷ [] ++ items_from e.session ((start + 1)) es) x = Contains-append_left (x ∷ []) (items_from e.session ((start + 1)) es) x (Contains-push [] x) in
    let same : x ≡ item (start + 0) e.number e.request e.reply = ap (λ (f : Entry). item start f.number f.request f.reply) is ∙ ap (λ n. item n e.number e.request e.reply) (sym placed) in
    rw own (subst (Contains (x ∷ [] ++ items_from e.session ((start + 1)) es)) same there)
entry_listed start (first ∷ es) (suc j) e h =
    let placed : (start + 1) + j ≡ start + suc j = omega arith in
    Contains-append_right (if e.session == first.session then item start first.number first.request first.reply ∷ [] else []) (items_from e.session ((start + 1)) es) (item (start + suc j) e.number e.request e.reply)
    (subst (λ n. Contains (items_from e.session ((start + 1)) es) (item n e.number e.request e.reply)) placed (entry_listed ((start + 1)) es j e h))

-- what a session has logged is in the log, at its place
stands_in_log : (session : ℕ) (es : List Entry) (place number : ℕ) (request : Request) (reply : Reply) → Contains (items_of session es) (item place number request reply)
    → slice_get es place ≡ Some (entry_of session number request reply)
stands_in_log session es place number request reply h =
    let d = item_stands session 0 es (item place number request reply) h in
    let from : place ≡ 0 + d.0 = d.1 in
    let at : place ≡ d.0 = omega arith in
    ap (slice_get es) at ∙ d.2

-- and its session has logged what is there
logged_by_session : (es : List Entry) (place : ℕ) (e : Entry) → slice_get es place ≡ Some e → Contains (items_of e.session es) (item place e.number e.request e.reply)
logged_by_session es place e h =
    let at : 0 + place ≡ place = omega arith in
    subst (λ n. Contains (items_of e.session es) (item n e.number e.request e.reply)) at (entry_listed 0 es place e h)

-- ---- the outcome

-- a refusal still holds when the log is longer
pub longer : (rules : Rules) (reached entries : ℕ) (request : Request) (refusal : Refusal) → reached ≤ entries
    → IsRefusal rules reached request refusal → IsRefusal rules entries request refusal
longer rules reached entries request why grown (inl refused) = inl refused
longer rules reached entries request why grown (inr (accepted, reason)) = inr (accepted, still why reason)
  where
    still : (one : Refusal) → MayBeRefused rules.most reached request one → MayBeRefused rules.most entries request one
    still (refusal.Died group holder) r = r
    still refusal.NoMemory r = r
    still refusal.LogFull r = omega arith
    still refusal.BadWarehouse r = r
    still refusal.BadDistrict r = r
    still refusal.BadLines r = r
    still refusal.BadQuantity r = r
    still refusal.BadSupply r = r
    still refusal.BadAmount r = r
    still refusal.BadThreshold r = r
    still refusal.BadCarrier r = r
    still refusal.Busy r = r
    still refusal.SessionBusy r = r
    still refusal.Closed r = r

pub together : (opening : Database) (most : ℕ) (scripts : List (List Part)) (entries : List Entry) (last : Database) (answers : List (List (Result ℕ Refusal)))
    → IsLegal opening entries last → length entries ≤ most → length answers ≡ length scripts
    → ((place : ℕ) (e : Entry) → slice_get entries place ≡ Some e → e.session < SESSIONS)
    → ServedEach (rules_of opening most) scripts entries answers
    → ((s : ℕ) → length scripts ≤ s → s < SESSIONS → items_of s entries ≡ [])
    → IsOutcome opening most scripts entries last answers
together opening most scripts entries last answers legal few even known each others =
    let rules = rules_of opening most in
    let none : (s : ℕ) (x : Item) → items_of s entries ≡ [] → Contains (items_of s entries) x → ⊥ =
    λ s x empty c. let d : Contains [] x = subst (λ l. Contains l x) empty c in let low = d.1 in omega arith in
    record {
      legal = legal;
      few = few;
      answered = λ s.
          elim (slice_get scripts s) as (λ o. slice_get scripts s ≡ o → option_map length (slice_get answers s) ≡ option_map length o) [
            | Some script ↦ λ e.
                let recorded = partner scripts answers s script (sym even) e in
                let count : length recorded.0 ≡ length script = (each s script recorded.0 e recorded.1).answered in
                ap (option_map length) recorded.1 ∙ ap Some count
            | None ↦ λ e.
                elim (slice_get answers s) as (λ o. slice_get answers s ≡ o → option_map length o ≡ None) [
                  | Some recorded ↦ λ f. let script = partner answers scripts s recorded even f in absurd (let g = script.1 in cc)
                  | None ↦ λ f. refl
                ] refl
          ] refl;
      done = λ s k place at.
          let recorded = at_parts answers s k (Ok place) at in
          let script = partner answers scripts s recorded.0 even recorded.1 in
          let h = each s script.0 recorded.0 script.1 recorded.1 in
          let asked = partner recorded.0 script.0 k (Ok place) h.answered recorded.2 in
          let stands = h.each k asked.0 (Ok place) asked.1 recorded.2 in
          (asked.0, at_both scripts script.0 s k script.1 ∙ asked.1, stands.1, stands_in_log s entries place asked.0.number asked.0.request stands.1 stands.2);
      logged = λ place entry at.
          let x = item place entry.number entry.request entry.reply in
          let listed : Contains (items_of entry.session entries) x = logged_by_session entries place entry at in
          let low : entry.session < SESSIONS = known place entry at in
          by_order entry.session (length scripts)
          ((k : ℕ) × (item_at scripts entry.session k ≡ Some (part entry.number entry.request)) × (item_at answers entry.session k ≡ Some (Ok place)))
          (λ below.
          let script = reaches scripts entry.session below in
          let recorded = partner scripts answers entry.session script.0 (sym even) script.1 in
          let h = each entry.session script.0 recorded.0 script.1 recorded.1 in
          let d = h.logged x listed in
          (d.0, at_both scripts script.0 entry.session d.0 script.1 ∙ d.1, at_both answers recorded.0 entry.session d.0 recorded.1 ∙ d.2))
          (λ above. absurd (none entry.session x (others entry.session above low) listed));
      ascending = λ s j k place later below first second.
          let recorded = at_parts answers s j (Ok place) first in
          let script = partner answers scripts s recorded.0 even recorded.1 in
          let h = each s script.0 recorded.0 script.1 recorded.1 in
          h.ascending j k place later below recorded.2 (sym (at_both answers recorded.0 s k recorded.1) ∙ second);
      refused = λ s k asked refusal there at.
          let recorded = at_parts answers s k (Err refusal) at in
          let script = at_parts scripts s k asked there in
          let h = each s script.0 recorded.0 script.1 recorded.1 in
          h.each k asked (Err refusal) script.2 recorded.2;
      checked = λ s k asked refusal there refuses.
          let script = at_parts scripts s k asked there in
          let recorded = partner scripts answers s script.0 (sym even) script.1 in
          let h = each s script.0 recorded.0 script.1 recorded.1 in
          let answer = partner script.0 recorded.0 k asked (sym h.answered) script.2 in
          at_both answers recorded.0 s k recorded.1 ∙ answer.1
          ∙ ap Some (refuses_so rules (length entries) (items_of s entries) asked refusal answer.0 refuses (h.each k asked answer.0 script.2 answer.1));
    }
  where
    by_order : (a b : ℕ) (G : Type 0) → (a < b → G) → (b ≤ a → G) → G
    by_order a zero G less more = more (omega arith)
    by_order zero (suc b) G less more = less (omega arith)
    by_order (suc a) (suc b) G less more = by_order a b G (λ l. less (omega arith)) (λ m. more (omega arith))

    refuses_so : (rules : Rules) (reached : ℕ) (mine : List Item) (asked : Part) (refusal : Refusal) (answer : Result ℕ Refusal)
        → check_of rules.scale asked.request ≡ Err refusal → IsAnswerTo rules reached mine asked answer → answer ≡ Err refusal
    refuses_so rules reached mine asked refusal (Ok place) refuses h = let accepted = h.0 in absurd cc
    refuses_so rules reached mine asked refusal (Err other) refuses (inl so) = cc
    refuses_so rules reached mine asked refusal (Err other) refuses (inr so) = let accepted : check_of rules.scale asked.request ≡ Ok tt = so.0 in absurd cc
