use Rattle.std.proofs.Common.{◌≡◌, Bor, ℕ, refl, List, [], ◌∷◌, ◌++◌, length, take, sym, subst, ap, ◌∙◌, append-nil, append_assoc, arith}
use Rattle.std.proofs.lemmas.List.{take-append-le, take_all}
use Rattle.std.proofs.lemmas.Result.{on_err_weaker, on_ok_weaker}
use Rattle.files.specs.Sending.{Begins, BeginsToWrite, OfFirst, Sends}
use Rattle.files.specs.Written.{record_text}
use Rattle.files.proofs.Sent.{on_any_err}
use Rattle.files.proofs.Texts.{begins-end, begins-push, sends-push, sends-start, sent-end}
use Rattle.commit_log.specs.declared.entry.Entry.{Entry}
use Rattle.history.specs.declared.schedule.Output.{Output}
use Rattle.terminals.specs.Outputs.{NameEntries}
use Rattle.terminals.specs.LinesLeft.{line_of, lines_left}
use Rattle.terminals.specs.LockChanges.{AreLines, IsLine, Line, lines}
use Rattle.terminals.proofs.Listings.{listed-push}
use Rattle.terminals.proofs.outputs.write_outputs.Goals as goal

-- these lines are some first ones of all
first_ones : (log : List Entry) (all written left : List Line) (rows : List (List (List ℕ))) → written ++ left ≡ all → AreLines log written rows → OfFirst (AreLines log) all rows
first_ones log all written left rows parts are =
    let first : take (length written) all ≡ written = ap (take (length written)) (sym parts) ∙ take-append-le (length written) written left (omega arith) ∙ take_all (length written) written (omega arith) in
    (length written, subst (λ l. AreLines log l rows) (sym first) are)

-- one line more
one_more : (all written left later : List Line) (line : Line) → written ++ left ≡ all → left ≡ line ∷ later → (written ++ line ∷ []) ++ later ≡ all
one_more all written left later line parts next = append_assoc written (line ∷ []) later ∙ ap (λ l. written ++ l) (sym next) ∙ parts

pub loop-line-init : goal.loop-line-init
loop-line-init g c = record {
  so_far = ([], [], tt, refl, sends-start (g.W.Write.contents c.args.sink.now) c.new-writer.result.text (ap (λ w. w.text) c.new-writer.ensures));
  same = refl;
}

pub put_line-requires : goal.put_line-requires
put_line-requires g c = c.in-Some.ensures.below (length c.args.log.now) (subst (λ (outputs : List Output). NameEntries c.args.log.now outputs) (sym c.loop-line.invariant.same) c.requires)

pub loop-line-preserved : goal.loop-line-preserved
loop-line-preserved g c =
    let inv = c.loop-line.invariant.so_far in
    let contents = g.W.Write.contents in
    let line = line_of c.in-Some.line in
    let put = c.in_ok-put_line.ensures in
    let fields : c.put_line.new.row ≡ put.0 = put.2 ∙ ap (λ l. l ++ put.0) c.clear.ensures in
    let Sent : List (List ℕ) → Type 0 = λ f. Sends (contents c.loop-line.sink) (contents c.write.new.sink) (c.loop-line.writer.text ++ record_text f) c.write.new.self.text in
    record {
      so_far = (
        inv.0 ++ (put.0 ∷ []),
        inv.1 ++ (line ∷ []),
        listed-push (IsLine c.args.log.now) inv.1 inv.0 line put.0 inv.2 put.1,
        one_more (lines 0 c.args.reported.now c.args.changes.now) inv.1 (lines_left c.loop-line.left) (lines_left c.next.new.self) line inv.3 c.in-Some.ensures.some,
        sends-push _ _ _ inv.0 _ inv.4 put.0 c.write.new.self.text (subst Sent fields c.in_ok-write.ensures.sent),
      );
      same = ap (λ (outputs : Bor (List Output)). outputs.now) c.next.ensures.same ∙ c.loop-line.invariant.same;
    }

-- the line has no record
pub returns-in_err-put_line-clause-begun : goal.returns-in_err-put_line-clause-begun
returns-in_err-put_line-clause-begun g c =
    let inv = c.loop-line.invariant.so_far in
    let all = lines 0 c.args.reported.now c.args.changes.now in
    let early : BeginsToWrite (g.W.Write.contents c.args.sink.now) (g.W.Write.contents c.loop-line.sink) (OfFirst (AreLines c.args.log.now) all) =
    (inv.0, first_ones c.args.log.now all inv.1 (lines_left c.loop-line.left) inv.0 inv.3 inv.2, (c.loop-line.writer.text, inv.4)) in
    on_any_err _ early

-- its record was not written
pub returns-in_err-write-clause-begun : goal.returns-in_err-write-clause-begun
returns-in_err-write-clause-begun g c =
    let inv = c.loop-line.invariant.so_far in
    let contents = g.W.Write.contents in
    let line = line_of c.in-Some.line in
    let log = c.args.log.now in
    let all = lines 0 c.args.reported.now c.args.changes.now in
    let put = c.in_ok-put_line.ensures in
    let fields : c.put_line.new.row ≡ put.0 = put.2 ∙ ap (λ l. l ++ put.0) c.clear.ensures in
    let Begun : List (List ℕ) → Type 0 = λ f. Begins (contents c.loop-line.sink) (contents c.write.new.sink) (c.loop-line.writer.text ++ record_text f) in
    let early : BeginsToWrite (contents c.args.sink.now) (contents c.write.new.sink) (OfFirst (AreLines log) all) = (
      inv.0 ++ (put.0 ∷ []),
      first_ones log all (inv.1 ++ (line ∷ [])) (lines_left c.next.new.self) (inv.0 ++ (put.0 ∷ []))
          (one_more all inv.1 (lines_left c.loop-line.left) (lines_left c.next.new.self) line inv.3 c.in-Some.ensures.some) (listed-push (IsLine log) inv.1 inv.0 line put.0 inv.2 put.1),
      begins-push _ _ _ inv.0 _ inv.4 put.0 (subst Begun fields c.in_err-write.ensures.begun),
    ) in
    on_any_err _ early

pub returns-clause-written : goal.returns-clause-written
returns-clause-written g c =
    let inv = c.loop-line.invariant.so_far in
    let all = lines 0 c.args.reported.now c.args.changes.now in
    let whole : inv.1 ≡ all = sym (append-nil inv.1) ∙ ap (λ l. inv.1 ++ l) (sym c.in_default.ensures.none) ∙ inv.3 in
    on_ok_weaker c.finish.result (λ rest. (inv.0, subst (λ l. AreLines c.args.log.now l inv.0) whole inv.2, sent-end _ _ _ inv.0 _ inv.4 rest)) c.finish.ensures.sent

pub returns-clause-begun : goal.returns-clause-begun
returns-clause-begun g c =
    let inv = c.loop-line.invariant.so_far in
    let all = lines 0 c.args.reported.now c.args.changes.now in
    on_err_weaker c.finish.result (λ begun. (inv.0, first_ones c.args.log.now all inv.1 (lines_left c.loop-line.left) inv.0 inv.3 inv.2, begins-end _ _ _ inv.0 _ inv.4 begun)) c.finish.ensures.begun
