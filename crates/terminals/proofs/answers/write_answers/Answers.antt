use Rattle.std.proofs.Common.{◌≡◌, ◌≤◌, ◌<◌, ◌+◌, ℕ, List, [], ◌∷◌, ◌++◌, length, take, get_or, Result, Ok, refl, sym, subst, ap, ◌∙◌, arith}
use Rattle.std.proofs.lemmas.List.{get_or_default, take_all}
use Rattle.std.proofs.lemmas.Option.{slice_get_read}
use Rattle.std.proofs.lemmas.Result.{on_err_weaker, on_ok_weaker}
use Rattle.commit_log.specs.declared.entry.Entry.{Entry}
use Rattle.files.specs.Sending.{Begins, BeginsToWrite, OfFirst, Sends}
use Rattle.files.specs.Written.{record_text}
use Rattle.files.proofs.Sent.{on_any_err}
use Rattle.files.proofs.Texts.{begins-end, begins-push, sends-push, sends-start, sent-end}
use Rattle.requests.specs.declared.refusal.Refusal.{Refusal}
use Rattle.requests.specs.declared.script.Part.{Part}
use Rattle.terminals.specs.Answers.{IsAnswerAt, IsAnswerIn, AreAnswers}
use Rattle.terminals.proofs.Numbered.{numbered-none, numbered-more}
use Rattle.terminals.proofs.answers.write_answers.Goals as goal

-- one answer more, which is read at its place
answered-more : (log : List Entry) (session : ℕ) (script : List Part) (i : ℕ) (answers : List (Result ℕ Refusal)) (rows : List (List (List ℕ))) (fields : List (List ℕ))
    → i < length answers → AreAnswers log session script (take i answers) rows → IsAnswerAt log session script i (get_or answers i (Ok 0)) fields
    → AreAnswers log session script (take (i + 1) answers) (rows ++ (fields ∷ []))
answered-more log session script i answers rows fields there are one =
    let answer = get_or answers i (Ok 0) in
    numbered-more (IsAnswerAt log session script) i answers rows answer fields there (get_or_default answers i (Ok 0) answer there) are one

pub loop-place-init : goal.loop-place-init
loop-place-init g c = ([], numbered-none (IsAnswerAt c.args.log.now c.args.session c.args.script.now) 0, sends-start (g.W.Write.contents c.args.sink.now) c.new-writer.result.text (ap (λ w. w.text) c.new-writer.ensures))

pub loop-place-preserved : goal.loop-place-preserved
loop-place-preserved g c =
    let inv = c.loop-place.invariant in
    let i = c.loop-place.place in
    let contents = g.W.Write.contents in
    let there : i < length c.args.answers.now = c.loop-place-test.true in
    let put = c.in_ok-put_answer_in.ensures in
    let part = c.index-script-place.result in
    let at = slice_get_read c.args.script.now (length c.args.script.now) i part refl (omega (arith, there, c.requires.each)) c.index-script-place.is in
    let number : c.from.result ≡ part.number = c.from.ensures ∙ sym (ap (λ (p : Part). p.number) c.index-script-place.is) in
    let Answers : ℕ → Type 0 = λ number. IsAnswerIn c.args.log.now c.args.session number (get_or c.args.answers.now i (Ok 0)) put.0 in
    let one : IsAnswerAt c.args.log.now c.args.session c.args.script.now i (get_or c.args.answers.now i (Ok 0)) put.0 = (part, at, subst Answers number put.1) in
    let fields : c.put_answer_in.new.row ≡ put.0 = put.2 ∙ ap (λ l. l ++ put.0) c.clear.ensures in
    let Sent : List (List ℕ) → Type 0 = λ f. Sends (contents c.loop-place.sink) (contents c.write.new.sink) (c.loop-place.writer.text ++ record_text f) c.write.new.self.text in (
      inv.0 ++ (put.0 ∷ []),
      answered-more c.args.log.now c.args.session c.args.script.now i c.args.answers.now inv.0 put.0 there inv.1 one,
      sends-push _ _ _ inv.0 _ inv.2 put.0 c.write.new.self.text (subst Sent fields c.in_ok-write.ensures.sent),
    )

-- the answer has no record
pub returns-in_err-put_answer_in-clause-begun : goal.returns-in_err-put_answer_in-clause-begun
returns-in_err-put_answer_in-clause-begun g c =
    let inv = c.loop-place.invariant in
    let early : BeginsToWrite (g.W.Write.contents c.args.sink.now) (g.W.Write.contents c.loop-place.sink) (OfFirst (AreAnswers c.args.log.now c.args.session c.args.script.now) c.args.answers.now) =
    (inv.0, (c.loop-place.place, inv.1), (c.loop-place.writer.text, inv.2)) in
    on_any_err _ early

-- its record was not written
pub returns-in_err-write-clause-begun : goal.returns-in_err-write-clause-begun
returns-in_err-write-clause-begun g c =
    let inv = c.loop-place.invariant in
    let i = c.loop-place.place in
    let contents = g.W.Write.contents in
    let there : i < length c.args.answers.now = c.loop-place-test.true in
    let put = c.in_ok-put_answer_in.ensures in
    let part = c.index-script-place.result in
    let at = slice_get_read c.args.script.now (length c.args.script.now) i part refl (omega (arith, there, c.requires.each)) c.index-script-place.is in
    let number : c.from.result ≡ part.number = c.from.ensures ∙ sym (ap (λ (p : Part). p.number) c.index-script-place.is) in
    let Answers : ℕ → Type 0 = λ number. IsAnswerIn c.args.log.now c.args.session number (get_or c.args.answers.now i (Ok 0)) put.0 in
    let one : IsAnswerAt c.args.log.now c.args.session c.args.script.now i (get_or c.args.answers.now i (Ok 0)) put.0 = (part, at, subst Answers number put.1) in
    let fields : c.put_answer_in.new.row ≡ put.0 = put.2 ∙ ap (λ l. l ++ put.0) c.clear.ensures in
    let Begun : List (List ℕ) → Type 0 = λ f. Begins (contents c.loop-place.sink) (contents c.write.new.sink) (c.loop-place.writer.text ++ record_text f) in
    let early : BeginsToWrite (g.W.Write.contents c.args.sink.now) (g.W.Write.contents c.write.new.sink) (OfFirst (AreAnswers c.args.log.now c.args.session c.args.script.now) c.args.answers.now) = (
      inv.0 ++ (put.0 ∷ []),
      (i + 1, answered-more c.args.log.now c.args.session c.args.script.now i c.args.answers.now inv.0 put.0 there inv.1 one),
      begins-push _ _ _ inv.0 _ inv.2 put.0 (subst Begun fields c.in_err-write.ensures.begun),
    ) in
    on_any_err _ early

pub returns-clause-written : goal.returns-clause-written
returns-clause-written g c =
    let inv = c.loop-place.invariant in
    let answers = c.args.answers.now in
    let done : length answers ≤ c.loop-place.place = c.loop-place-test.false in
    let are : List (Result ℕ Refusal) → Type 0 = λ l. AreAnswers c.args.log.now c.args.session c.args.script.now l inv.0 in
    let answered = subst are (take_all c.loop-place.place answers done) inv.1 in
    on_ok_weaker c.finish.result (λ rest. (inv.0, answered, sent-end _ _ _ inv.0 _ inv.2 rest)) c.finish.ensures.sent

pub returns-clause-begun : goal.returns-clause-begun
returns-clause-begun g c =
    let inv = c.loop-place.invariant in
    on_err_weaker c.finish.result (λ begun. (inv.0, (c.loop-place.place, inv.1), begins-end _ _ _ inv.0 _ inv.2 begun)) c.finish.ensures.begun
