-- The records of all answers, one session more at a time.
use Rattle.std.proofs.Common.{◌≡◌, inl, inr, Result, Ok, drop, take-append-drop, ℕ, suc, ◌+◌, ◌<◌, ◌≤◌, List, [], ◌∷◌, ◌++◌, length, take, get_or, Option, None, Some, refl, sym, ap, subst, ◌∙◌, arith, append_assoc, append-nil}
use Rattle.std.proofs.lemmas.List.{take_more, length-take-le}
use Rattle.std.proofs.lemmas.Option.{slice_get_within}
use Rattle.std.specs.List.{slice_get}
use Rattle.std.specs.Option.{option_map, option_and_then}
use Rattle.std.specs.Io.KnownBytes.{Appends}
use Rattle.std.proofs.KnownBytes.{Appends-nil, Appends-trans}
use Rattle.schema.specs.Database.{Database}
use Rattle.requests.specs.declared.refusal.Refusal.{Refusal}
use Rattle.requests.specs.declared.script.Part.{Part}
use Rattle.commit_log.specs.declared.entry.Entry.{Entry}
use Rattle.commit_log.specs.Items.{entry_of}
use Rattle.files.specs.Sending.{Begins, BeginsToWrite, OfFirst, Writes}
use Rattle.files.specs.Written.{csv_text}
use Rattle.files.proofs.Sent.{begins_after, begins_none}
use Rattle.files.proofs.Texts.{csv_text-append}
use Rattle.terminals.specs.Answers.{AreAnswers, IsAnswerAt}
use Rattle.terminals.proofs.Numbered.{numbered-none}
use Rattle.engine.specs.Outcome.{IsOutcome, item_at}
use Rattle.tpcc.specs.Run.{AreAllAnswers, AreAllInLog, BeginAllAnswers, script_of}

module _ (log : List Entry) (scripts : List (List Part)) where
  answers-push : (session : ℕ) (before : List (List (Result ℕ Refusal))) (rows : List (List (List ℕ))) (reported : List (Result ℕ Refusal)) (these : List (List (List ℕ)))
      → AreAllAnswers log scripts session before rows → AreAnswers log (session + length before) (script_of scripts (session + length before)) reported these → AreAllAnswers log scripts session (before ++ reported ∷ []) (rows ++ these)
  answers-push session [] rows reported these are one =
      let P : ℕ → Type 0 = λ n. AreAnswers log n (script_of scripts n) reported these in
      let e : session + 0 ≡ session = omega arith in
      (these, [], subst P e one, refl, ap (λ l. l ++ these) are ∙ sym (append-nil these))
  answers-push session (first ∷ before) rows reported these are one =
      let P : ℕ → Type 0 = λ n. AreAnswers log n (script_of scripts n) reported these in
      let e : session + suc (length before) ≡ session + 1 + length before = omega arith in
      (are.0, are.1 ++ these, are.2, answers-push (session + 1) before are.1 reported these are.3 (subst P e one), ap (λ l. l ++ these) are.4 ∙ append_assoc are.0 are.1 these)

  -- nothing is printed at first
  pub prints-none : (sink : Option (List ℕ)) → Writes sink sink (AreAllAnswers log scripts 0 [])
  unfolding csv_text
  prints-none sink = ([], refl, Appends-nil sink)

  -- the answers to one session more
  pub prints-more : (sink old new : Option (List ℕ)) (answers : List (List (Result ℕ Refusal))) (i : ℕ) (reported : List (Result ℕ Refusal)) → i < length answers → reported ≡ get_or answers i reported
      → Writes sink old (AreAllAnswers log scripts 0 (take i answers)) → Writes old new (AreAnswers log i (script_of scripts i) reported) → Writes sink new (AreAllAnswers log scripts 0 (take (i + 1) answers))
  prints-more sink old new answers i reported h e before one =
      let all : take (i + 1) answers ≡ take i answers ++ (reported ∷ []) = take_more answers i reported h ∙ ap (λ (l : List (Result ℕ Refusal)). take i answers ++ (l ∷ [])) (sym e) in
      let up_to : i ≤ length answers = omega arith in
      let at : i ≡ 0 + length (take i answers) = omega (arith, length-take-le i answers up_to) in
      let of_session : ℕ → Type 0 = λ n. AreAnswers log n (script_of scripts n) reported one.0 in
      let of_answers : List (List (Result ℕ Refusal)) → Type 0 = λ l. AreAllAnswers log scripts 0 l (before.0 ++ one.0) in
      let of_text : List ℕ → Type 0 = λ text. Appends sink new text in (
        before.0 ++ one.0,
        subst of_answers (sym all) (answers-push 0 (take i answers) before.0 reported one.0 before.1 (subst of_session at one.1)),
        subst of_text (sym (csv_text-append before.0 one.0)) (Appends-trans sink old new (csv_text before.0) (csv_text one.0) before.2 one.2),
      )

  -- some first answers to one session more, and of others none
  begun-push : (session : ℕ) (before : List (List (Result ℕ Refusal))) (rows : List (List (List ℕ))) (reported : List (Result ℕ Refusal)) (others : List (List (Result ℕ Refusal))) (these : List (List (List ℕ)))
      → AreAllAnswers log scripts session before rows → OfFirst (AreAnswers log (session + length before) (script_of scripts (session + length before))) reported these → BeginAllAnswers log scripts session (before ++ reported ∷ others) (rows ++ these)
  begun-push session [] rows reported others these are some =
      let First : List (List (List ℕ)) → Type 0 = OfFirst (AreAnswers log session (script_of scripts session)) reported in
      let P : ℕ → Type 0 = λ n. OfFirst (AreAnswers log n (script_of scripts n)) reported these in
      let e : session + 0 ≡ session = omega arith in
      inl (subst First (sym (ap (λ l. l ++ these) are)) (subst P e some))
  begun-push session (first ∷ before) rows reported others these are some =
      let P : ℕ → Type 0 = λ n. OfFirst (AreAnswers log n (script_of scripts n)) reported these in
      let e : session + suc (length before) ≡ session + 1 + length before = omega arith in
      inr (are.0, are.1 ++ these, are.2, begun-push (session + 1) before are.1 reported others these are.3 (subst P e some), ap (λ l. l ++ these) are.4 ∙ append_assoc are.0 are.1 these)

  -- all answers are some of them
  pub all-begun : (session : ℕ) (answers : List (List (Result ℕ Refusal))) (rows : List (List (List ℕ))) → AreAllAnswers log scripts session answers rows → BeginAllAnswers log scripts session answers rows
  all-begun session [] rows are = are
  all-begun session (reported ∷ others) rows are = inr (are.0, are.1, are.2, all-begun (session + 1) others are.1 are.3, are.4)

  none-begun : (session : ℕ) (answers : List (List (Result ℕ Refusal))) → BeginAllAnswers log scripts session answers []
  none-begun session [] = refl
  none-begun session (reported ∷ others) = inl (0, numbered-none (IsAnswerAt log session (script_of scripts session)) 0)

  -- no answer is printed
  pub begins-none : (sink : Option (List ℕ)) (answers : List (List (Result ℕ Refusal))) → BeginsToWrite sink sink (BeginAllAnswers log scripts 0 answers)
  begins-none sink answers = ([], none-begun 0 answers, begins_none sink (csv_text []))

  -- the answers to some sessions, and some first ones to the next
  pub begins-more : (sink old new : Option (List ℕ)) (answers : List (List (Result ℕ Refusal))) (i : ℕ) (reported : List (Result ℕ Refusal)) → i < length answers → reported ≡ get_or answers i reported
      → Writes sink old (AreAllAnswers log scripts 0 (take i answers)) → BeginsToWrite old new (OfFirst (AreAnswers log i (script_of scripts i)) reported) → BeginsToWrite sink new (BeginAllAnswers log scripts 0 answers)
  begins-more sink old new answers i reported h e before some =
      let others = drop (i + 1) answers in
      let up_to : i ≤ length answers = omega arith in
      let at : i ≡ 0 + length (take i answers) = omega (arith, length-take-le i answers up_to) in
      let parts : take i answers ++ (reported ∷ others) ≡ answers =
      sym (append_assoc (take i answers) (reported ∷ []) others)
      ∙ ap (λ l. l ++ others) (sym (take_more answers i reported h ∙ ap (λ (l : List (Result ℕ Refusal)). take i answers ++ (l ∷ [])) (sym e))) ∙ take-append-drop (i + 1) answers in
      let of_session : ℕ → Type 0 = λ n. OfFirst (AreAnswers log n (script_of scripts n)) reported some.0 in
      let of_answers : List (List (Result ℕ Refusal)) → Type 0 = λ l. BeginAllAnswers log scripts 0 l (before.0 ++ some.0) in (
        before.0 ++ some.0,
        subst of_answers parts (begun-push 0 (take i answers) before.0 reported others some.0 before.1 (subst of_session at some.1)),
        subst (Begins sink new) (sym (csv_text-append before.0 some.0)) (begins_after sink old new (csv_text before.0) (csv_text some.0) before.2 some.2),
      )

-- lists that have the same lengths at each place are as many
pub same_count : {X Y : Type 0} (xs : List (List X)) (ys : List (List Y)) → ((s : ℕ) → option_map length (slice_get xs s) ≡ option_map length (slice_get ys s)) → length xs ≡ length ys
same_count [] [] h = refl
same_count [] (y ∷ ys) h = let no : None ≡ Some (length y) = h 0 in absurd cc
same_count (x ∷ xs) [] h = let no : Some (length x) ≡ None = h 0 in absurd cc
same_count (x ∷ xs) (y ∷ ys) h = ap suc (same_count xs ys (λ s. h (suc s)))

-- the answers of an outcome name places of its log
pub outcome_in_log : (opening : Database) (most : ℕ) (scripts : List (List Part)) (log : List Entry) (last : Database) (answers : List (List (Result ℕ Refusal))) → IsOutcome opening most scripts log last answers
    → AreAllInLog log answers
outcome_in_log opening most scripts log last answers outcome session reported reported_is k place at =
    let there : item_at answers session k ≡ Some (Ok place) = ap (option_and_then (λ (l : List (Result ℕ Refusal)). slice_get l k)) reported_is ∙ at in
    let stands = outcome.done session k place there in
    slice_get_within log place (entry_of session stands.0.number stands.0.request stands.2) stands.3
