use Rattle.std.proofs.Common.{◌≡◌, ◌<◌, ℕ, [], get_or, List, length, Option, Some, refl, sym, ap, subst, ◌∙◌, arith}
use Rattle.std.proofs.lemmas.List.{get_or_default}
use Rattle.std.proofs.lemmas.Option.{slice_get_read}
use Rattle.std.specs.List.{slice_get}
use Rattle.std.specs.Option.{option_map}
use Rattle.requests.specs.declared.script.Part.{Part}
use Rattle.files.specs.Sending.{BeginsToWrite, OfFirst, Writes}
use Rattle.files.proofs.Sent.{on_any_err}
use Rattle.terminals.specs.Answers.{AreAnswers}
use Rattle.tpcc.specs.Run.{BeginAllAnswers, script_of}
use Rattle.tpcc.proofs.AnswerRecords.{begins-more, prints-more, prints-none, same_count}
use Rattle.tpcc.proofs.run.print_answers.Goals as goal

pub bounds-scripts-session : goal.bounds-scripts-session
bounds-scripts-session g c =
    let even = same_count c.args.answers.now c.args.scripts.now c.requires.each in
    let there : c.loop-session.session < length c.args.answers.now = c.loop-session-test.true in
    omega (arith, even, there)

-- the script at an index is that of the session
script_is : (scripts : List (List Part)) (session : ℕ) (script parts : List Part) → session < length scripts → script ≡ get_or scripts session script → parts ≡ script → parts ≡ script_of scripts session
script_is scripts session script parts there at is = is ∙ at ∙ get_or_default scripts session script [] there

pub loop-session-init : goal.loop-session-init
loop-session-init g c = prints-none c.args.log.now c.args.scripts.now (g.A.Write.contents c.args.sink.now)

pub loop-session-preserved : goal.loop-session-preserved
loop-session-preserved g c =
    let contents = g.A.Write.contents in
    let session = c.loop-session.session in
    let there : session < length c.args.answers.now = c.loop-session-test.true in
    let is = script_is c.args.scripts.now session c.index-scripts-session.result c.parts-script.result.now (omega (arith, same_count c.args.answers.now c.args.scripts.now c.requires.each, c.loop-session-test.true)) c.index-scripts-session.is c.parts-script.ensures.value in
    let Written : List Part → Type 0 = λ l. Writes (contents c.loop-session.sink) (contents c.print_session.new.sink) (AreAnswers c.args.log.now session l c.index-answers-session.result) in
    prints-more c.args.log.now c.args.scripts.now (contents c.args.sink.now) (contents c.loop-session.sink) (contents c.print_session.new.sink) c.args.answers.now session c.index-answers-session.result there c.index-answers-session.is
    c.loop-session.invariant (subst Written is c.in_ok-print_session.ensures.printed)

pub returns-in_err-print_session-clause-begun : goal.returns-in_err-print_session-clause-begun
returns-in_err-print_session-clause-begun g c =
    let contents = g.A.Write.contents in
    let session = c.loop-session.session in
    let there : session < length c.args.answers.now = c.loop-session-test.true in
    let is = script_is c.args.scripts.now session c.index-scripts-session.result c.parts-script.result.now (omega (arith, same_count c.args.answers.now c.args.scripts.now c.requires.each, c.loop-session-test.true)) c.index-scripts-session.is c.parts-script.ensures.value in
    let Begun : List Part → Type 0 = λ l. BeginsToWrite (contents c.loop-session.sink) (contents c.print_session.new.sink) (OfFirst (AreAnswers c.args.log.now session l) c.index-answers-session.result) in
    let early : BeginsToWrite (contents c.args.sink.now) (contents c.print_session.new.sink) (BeginAllAnswers c.args.log.now c.args.scripts.now 0 c.args.answers.now) =
    begins-more c.args.log.now c.args.scripts.now (contents c.args.sink.now) (contents c.loop-session.sink) (contents c.print_session.new.sink) c.args.answers.now session c.index-answers-session.result there c.index-answers-session.is
    c.loop-session.invariant (subst Begun is c.in_err-print_session.ensures.begun) in
    on_any_err c.from_residual.result early

pub print_session-requires-clause-each : goal.print_session-requires-clause-each
print_session-requires-clause-each g c =
    let session = c.loop-session.session in
    let answered = slice_get_read c.args.answers.now (length c.args.answers.now) session c.index-answers-session.result refl c.loop-session-test.true c.index-answers-session.is in
    let asked = slice_get_read c.args.scripts.now (length c.args.scripts.now) session c.index-scripts-session.result refl (omega (arith, same_count c.args.answers.now c.args.scripts.now c.requires.each, c.loop-session-test.true)) c.index-scripts-session.is in
    let each = sym (ap (option_map length) answered) ∙ c.requires.each session ∙ ap (option_map length) asked in
    let even : length c.index-answers-session.result ≡ length c.index-scripts-session.result = cc in
    even ∙ ap length (sym c.parts-script.ensures.value)

pub print_session-requires-clause-placed : goal.print_session-requires-clause-placed
print_session-requires-clause-placed g c =
    c.requires.placed c.loop-session.session c.index-answers-session.result (slice_get_read c.args.answers.now (length c.args.answers.now) c.loop-session.session c.index-answers-session.result refl c.loop-session-test.true c.index-answers-session.is)
