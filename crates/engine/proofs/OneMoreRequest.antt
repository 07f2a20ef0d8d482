-- A session asks one part more.
use Rattle.std.proofs.Common.{◌≡◌, ℕ, zero, suc, ◌+◌, ◌<◌, ◌≤◌, true, false, cond, eqb, List, [], ◌∷◌, ◌++◌, length, Some, Result, Ok, Err, inl, inr, length-append, get_or, take, refl, sym, ap, subst, ◌∙◌, arith}
use Rattle.std.specs.List.{slice_get}
use Rattle.std.proofs.lemmas.Bool.Decides.{nat_tests}
use Rattle.std.proofs.Math.Seq.{take-suc}
use Rattle.std.proofs.lemmas.Option.{get_or_from_slice_get, slice_get_within}
use Rattle.std.proofs.lemmas.List.Elements.{Contains-append_left, Contains-push_cases}
use Rattle.requests.specs.declared.script.Part.{Part}
use Rattle.requests.specs.declared.reply.Reply.{Reply}
use Rattle.requests.specs.declared.refusal.Refusal.{Refusal}
use Rattle.requests.specs.Script.{part}
use Rattle.commit_log.specs.declared.mine.Item.{Item}
use Rattle.commit_log.specs.Items.{item}
use Rattle.engine.specs.Rules.{Rules}
use Rattle.engine.specs.Asking.{HasSeen, asked_of}
use Rattle.engine.specs.Served.{IsAnswerTo, Served}
use Rattle.engine.proofs.Together.{longer}

-- ---- lists with one more at the end

-- the items of a list with one more item
slice_get-push : {X : Type 0} (xs : List X) (x : X) (n : ℕ) → slice_get (xs ++ x ∷ []) n ≡ cond (eqb n (length xs)) (Some x) (slice_get xs n)
slice_get-push [] x zero = refl
slice_get-push [] x (suc n) = let e : eqb (suc n) 0 ≡ false = grind (arith, nat_tests) in rw e refl
slice_get-push (y ∷ ys) x zero = let e : eqb 0 (suc (length ys)) ≡ false = grind (arith, nat_tests) in rw e refl
slice_get-push (y ∷ ys) x (suc n) = let e : eqb (suc n) (suc (length ys)) ≡ eqb n (length ys) = grind (arith, nat_tests) in slice_get-push ys x n ∙ rw e refl

-- it is the new one, or one of before
pub by_end : {X : Type 0} (G : Type 0) (xs : List X) (x y : X) (n : ℕ) → slice_get (xs ++ x ∷ []) n ≡ Some y
    → (n ≡ length xs → x ≡ y → G) → (n < length xs → slice_get xs n ≡ Some y → G) → G
by_end G xs x y n h new old =
    let at : cond (eqb n (length xs)) (Some x) (slice_get xs n) ≡ Some y = sym (slice_get-push xs x n) ∙ h in
    elim (eqb n (length xs)) as (λ b. eqb n (length xs) ≡ b → cond b (Some x) (slice_get xs n) ≡ Some y → G) [
      | true ↦ λ t e. new (grind (arith, nat_tests)) cc
      | false ↦ λ t e. old (slice_get_within xs n y e) e
    ] refl at

stands : {X : Type 0} (xs : List X) (x : X) → slice_get (xs ++ x ∷ []) (length xs) ≡ Some x
stands xs x = let here : eqb (length xs) (length xs) ≡ true = grind (arith, nat_tests) in slice_get-push xs x (length xs) ∙ rw here refl

stays : {X : Type 0} (xs : List X) (x y : X) (n : ℕ) → slice_get xs n ≡ Some y → slice_get (xs ++ x ∷ []) n ≡ Some y
stays xs x y n h =
    let low : n < length xs = slice_get_within xs n y h in
    let other : eqb n (length xs) ≡ false = grind (arith, nat_tests) in
    slice_get-push xs x n ∙ rw other h

-- ---- one part more

-- an answer means the same when the session has logged more and its pass records a longer log
answers_still : (rules : Rules) (reached further : ℕ) (mine rest : List Item) (asked : Part) (answer : Result ℕ Refusal) → reached ≤ further
    → IsAnswerTo rules reached mine asked answer → IsAnswerTo rules further (mine ++ rest) asked answer
answers_still rules reached further mine rest asked (Ok place) grown h = (h.0, h.1, Contains-append_left mine rest (item place asked.number asked.request h.1) h.2)
answers_still rules reached further mine rest asked (Err refusal) grown h = longer rules reached further asked.request refusal grown h

answers_further : (rules : Rules) (reached further : ℕ) (mine : List Item) (asked : Part) (answer : Result ℕ Refusal) → reached ≤ further
    → IsAnswerTo rules reached mine asked answer → IsAnswerTo rules further mine asked answer
answers_further rules reached further mine asked (Ok place) grown h = h
answers_further rules reached further mine asked (Err refusal) grown h = longer rules reached further asked.request refusal grown h

evenly : {X Y : Type 0} (xs : List X) (x : X) (ys : List Y) (y : Y) → length xs ≡ length ys → length (xs ++ x ∷ []) ≡ length (ys ++ y ∷ [])
evenly xs x ys y even = length-append xs (x ∷ []) ∙ ap (λ n. n + 1) even ∙ sym (length-append ys (y ∷ []))

-- nothing was asked
pub served_begun : (rules : Rules) (reached : ℕ) → Served rules [] [] [] reached
served_begun rules reached = record {
  answered = refl;
  each = λ k asked answer there recorded. absurd cc;
  logged = λ x c. let low = c.1 in absurd (omega arith);
  ascending = λ j k place later below first second. absurd cc;
}

pub done_more : (rules : Rules) (script : List Part) (answers : List (Result ℕ Refusal)) (mine : List Item) (reached further seen place : ℕ) (asked : Part) (reply : Reply)
    → Served rules script answers mine reached → HasSeen seen answers → reached ≤ further → seen ≤ place
    → IsAnswerTo rules further (mine ++ item place asked.number asked.request reply ∷ []) asked (Ok place)
    → Served rules (script ++ asked ∷ []) (answers ++ Ok place ∷ []) (mine ++ item place asked.number asked.request reply ∷ []) further
done_more rules script answers mine reached further seen place asked reply h saw grown behind so =
    let x = item place asked.number asked.request reply in
    let even = h.answered in
    record {
      answered = evenly answers (Ok place) script asked even;
      each = λ k p a there recorded.
          by_end (IsAnswerTo rules further (mine ++ x ∷ []) p a) script asked p k there
          (λ k_is p_is. by_end (IsAnswerTo rules further (mine ++ x ∷ []) p a) answers (Ok place) a k recorded
          (λ _ a_is. subst (λ q. IsAnswerTo rules further (mine ++ x ∷ []) q a) p_is (subst (IsAnswerTo rules further (mine ++ x ∷ []) asked) a_is so))
          (λ low _. absurd (omega arith)))
          (λ low before. by_end (IsAnswerTo rules further (mine ++ x ∷ []) p a) answers (Ok place) a k recorded
          (λ k_is _. absurd (omega arith))
          (λ _ old. answers_still rules reached further mine (x ∷ []) p a grown (h.each k p a before old)));
      logged = λ y c.
          let Logged : Item → Type 0 =
          λ z. (k : ℕ) × (slice_get (script ++ asked ∷ []) k ≡ Some (part z.number z.request)) × (slice_get (answers ++ Ok place ∷ []) k ≡ Some (Ok z.place)) in
          elim (Contains-push_cases mine x y c) as (λ _. Logged y) [
            | inl before ↦
                let d = h.logged y before in (
                  d.0,
                  stays script asked (part y.number y.request) d.0 d.1,
                  stays answers (Ok place) (Ok y.place) d.0 d.2,
                )
            | inr is ↦ subst Logged is (length script, stands script asked, subst (λ n. slice_get (answers ++ Ok place ∷ []) n ≡ Some (Ok place)) even (stands answers (Ok place)))
          ];
      ascending = λ j k earlier later below first second.
          by_end (earlier < later) answers (Ok place) (Ok earlier) j first
          (λ j_is _. by_end (earlier < later) answers (Ok place) (Ok later) k second
          (λ k_is _. absurd (omega arith)) (λ low _. absurd (omega arith)))
          (λ _ before. by_end (earlier < later) answers (Ok place) (Ok later) k second
          (λ _ is. let placed : place ≡ later = cc in let low : earlier < seen = saw j earlier before in omega arith)
          (λ _ after. h.ascending j k earlier later below before after));
    }

pub refused_more : (rules : Rules) (script : List Part) (answers : List (Result ℕ Refusal)) (mine : List Item) (reached further : ℕ) (asked : Part) (refusal : Refusal)
    → Served rules script answers mine reached → reached ≤ further
    → IsAnswerTo rules further mine asked (Err refusal)
    → Served rules (script ++ asked ∷ []) (answers ++ Err refusal ∷ []) mine further
refused_more rules script answers mine reached further asked refusal h grown so =
    let even = h.answered in
    record {
      answered = evenly answers (Err refusal) script asked even;
      each = λ k p a there recorded.
          by_end (IsAnswerTo rules further mine p a) script asked p k there
          (λ k_is p_is. by_end (IsAnswerTo rules further mine p a) answers (Err refusal) a k recorded
          (λ _ a_is. subst (λ q. IsAnswerTo rules further mine q a) p_is (subst (IsAnswerTo rules further mine asked) a_is so))
          (λ low _. absurd (omega arith)))
          (λ low before. by_end (IsAnswerTo rules further mine p a) answers (Err refusal) a k recorded
          (λ k_is _. absurd (omega arith))
          (λ _ old. answers_further rules reached further mine p a grown (h.each k p a before old)));
      logged = λ y c.
          let d = h.logged y c in (
            d.0,
            stays script asked (part y.number y.request) d.0 d.1,
            stays answers (Err refusal) (Ok y.place) d.0 d.2,
          );
      ascending = λ j k earlier later below first second.
          by_end (earlier < later) answers (Err refusal) (Ok earlier) j first
          (λ _ is. absurd cc)
          (λ _ before. by_end (earlier < later) answers (Err refusal) (Ok later) k second
          (λ _ is. absurd cc)
          (λ _ after. h.ascending j k earlier later below before after));
    }

pub seen_still : (answers : List (Result ℕ Refusal)) (refusal : Refusal) (before after : ℕ) → after ≡ before → HasSeen before answers → HasSeen after (answers ++ Err refusal ∷ [])
seen_still answers refusal before after same saw k there at =
    by_end (there < after) answers (Err refusal) (Ok there) k at
    (λ _ is. absurd cc)
    (λ _ recorded. let low : there < before = saw k there recorded in omega arith)

-- What a session was served, when the log has come to reach further.
pub served_further : (rules : Rules) (script : List Part) (answers : List (Result ℕ Refusal)) (mine : List Item) (reached further : ℕ) → reached ≤ further
    → Served rules script answers mine reached → Served rules script answers mine further
served_further rules script answers mine reached further grown h = record {
  answered = h.answered;
  each = λ k p a there recorded. answers_further rules reached further mine p a grown (h.each k p a there recorded);
  logged = h.logged;
  ascending = h.ascending;
}

-- the beginning of a list with its next item
take-next : {X : Type 0} (xs : List X) (n : ℕ) (x : X) → n < length xs → x ≡ get_or xs n x → take (n + 1) xs ≡ take n xs ++ x ∷ []
take-next xs n x below is =
    let next : n + 1 ≡ suc n = omega arith in
    ap (λ m. take m xs) next ∙ take-suc xs n x below ∙ ap (λ y. take n xs ++ y ∷ []) (sym is)

-- ---- the script of a session

module _ (script : List Part) (answers : List (Result ℕ Refusal)) (asked : Part) (next : slice_get script (length answers) ≡ Some asked) where
  below : length answers < length script
  below = slice_get_within script (length answers) asked next

  -- with one answer more, the parts that were asked are one more
  pub one_more : (answer : Result ℕ Refusal) → asked_of script (answers ++ answer ∷ []) ≡ asked_of script answers ++ asked ∷ []
  one_more answer = ap (λ (n : ℕ). take n script) (length-append answers (answer ∷ [])) ∙ take-next script (length answers) asked below (sym (get_or_from_slice_get script (length answers) asked asked next))

  pub few_still : (answer : Result ℕ Refusal) → length (answers ++ answer ∷ []) ≤ length script
  few_still answer = let more = length-append answers (answer ∷ []) in let low = below in omega (arith, more, low)
