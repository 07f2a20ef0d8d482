use Rattle.std.proofs.Common.{◌≡◌, ◌≤◌, ◌<◌, ◌+◌, ℕ, List, [], ◌∷◌, ◌++◌, inl, inr, codes, length, refl, subst, ap, ◌∙◌}
use Rattle.std.specs.Fmt.{decimal}
use Rattle.std.proofs.lemmas.List.{take_all}
use Rattle.std.proofs.lemmas.Result.{on_err_weaker, on_ok_weaker}
use Rattle.files.specs.Sending.{Begins, BeginsToWrite, Sends}
use Rattle.files.specs.Written.{record_text}
use Rattle.files.proofs.Sent.{on_any_err}
use Rattle.files.proofs.Texts.{begins-end, begins-push, sends-push, sends-start, sent-end}
use Rattle.terminals.specs.Listing.{BeginsListing, end_fields}
use Rattle.terminals.specs.Numbered.{AreNumbered}
use Rattle.terminals.proofs.Numbered.{numbered-none, numbered-more}
use Rattle.terminals.proofs.listing.write.Goals as goal

pub loop-place-init : goal.loop-place-init
loop-place-init g c = ([], numbered-none g.T.WrittenRecord.is_record 0, sends-start (g.W.Write.contents c.args.sink.now) c.new-writer.result.text (ap (λ w. w.text) c.new-writer.ensures))

pub loop-place-preserved : goal.loop-place-preserved
loop-place-preserved g c =
    let inv = c.loop-place.invariant in
    let i = c.loop-place.place in
    let contents = g.W.Write.contents in
    let there : i < length c.args.items.now = c.loop-place-test.true in
    let put = c.in_ok-put.ensures in
    let fields : c.put.new.row ≡ put.0 = put.2 ∙ ap (λ l. l ++ put.0) c.clear.ensures in
    let Sent : List (List ℕ) → Type 0 = λ f. Sends (contents c.loop-place.sink) (contents c.write.new.sink) (c.loop-place.writer.text ++ record_text f) c.write.new.self.text in (
      inv.0 ++ (put.0 ∷ []),
      numbered-more g.T.WrittenRecord.is_record i c.args.items.now inv.0 c.index-items-place.result put.0 there c.index-items-place.is inv.1 put.1,
      sends-push _ _ _ inv.0 _ inv.2 put.0 c.write.new.self.text (subst Sent fields c.in_ok-write.ensures.sent),
    )

-- the item has no record
pub returns-in_err-put-clause-begun : goal.returns-in_err-put-clause-begun
returns-in_err-put-clause-begun g c =
    let inv = c.loop-place.invariant in
    let early : BeginsToWrite (g.W.Write.contents c.args.sink.now) (g.W.Write.contents c.loop-place.sink) (BeginsListing g.T.WrittenRecord.is_record c.args.items.now) =
    (inv.0, inl (c.loop-place.place, inv.1), (c.loop-place.writer.text, inv.2)) in
    on_any_err _ early

-- its record was not written
pub returns-in_err-write-clause-begun : goal.returns-in_err-write-clause-begun
returns-in_err-write-clause-begun g c =
    let inv = c.loop-place.invariant in
    let i = c.loop-place.place in
    let contents = g.W.Write.contents in
    let there : i < length c.args.items.now = c.loop-place-test.true in
    let put = c.in_ok-put.ensures in
    let fields : c.put.new.row ≡ put.0 = put.2 ∙ ap (λ l. l ++ put.0) c.clear.ensures in
    let Begun : List (List ℕ) → Type 0 = λ f. Begins (contents c.loop-place.sink) (contents c.write.new.sink) (c.loop-place.writer.text ++ record_text f) in
    let early : BeginsToWrite (g.W.Write.contents c.args.sink.now) (g.W.Write.contents c.write.new.sink) (BeginsListing g.T.WrittenRecord.is_record c.args.items.now) = (
      inv.0 ++ (put.0 ∷ []),
      inl (i + 1, numbered-more g.T.WrittenRecord.is_record i c.args.items.now inv.0 c.index-items-place.result put.0 there c.index-items-place.is inv.1 put.1),
      begins-push _ _ _ inv.0 _ inv.2 put.0 (subst Begun fields c.in_err-write.ensures.begun),
    ) in
    on_any_err _ early

-- there is no end record
pub returns-in_err-push-clause-begun : goal.returns-in_err-push-clause-begun
returns-in_err-push-clause-begun g c =
    let inv = c.loop-place.invariant in
    let early : BeginsToWrite (g.W.Write.contents c.args.sink.now) (g.W.Write.contents c.loop-place.sink) (BeginsListing g.T.WrittenRecord.is_record c.args.items.now) =
    (inv.0, inl (c.loop-place.place, inv.1), (c.loop-place.writer.text, inv.2)) in
    on_any_err _ early

pub returns-in_err-push_number-clause-begun : goal.returns-in_err-push_number-clause-begun
returns-in_err-push_number-clause-begun g c =
    let inv = c.loop-place.invariant in
    let early : BeginsToWrite (g.W.Write.contents c.args.sink.now) (g.W.Write.contents c.loop-place.sink) (BeginsListing g.T.WrittenRecord.is_record c.args.items.now) =
    (inv.0, inl (c.loop-place.place, inv.1), (c.loop-place.writer.text, inv.2)) in
    on_any_err _ early

-- it was not written
pub returns-in_err-write-2-clause-begun : goal.returns-in_err-write-2-clause-begun
returns-in_err-write-2-clause-begun g c =
    let inv = c.loop-place.invariant in
    let items = c.args.items.now in
    let contents = g.W.Write.contents in
    let end = end_fields (length items) in
    let done : length items ≤ c.loop-place.place = c.loop-place-test.false in
    let are : List g.row.T.Denot → Type 0 = λ l. AreNumbered g.T.WrittenRecord.is_record 0 l inv.0 in
    let fields : c.push_number.new.self ≡ end =
    c.in_ok-push_number.ensures.added
    ∙ ap (λ l. l ++ (decimal (length items) ∷ [])) (c.in_ok-push.ensures.added ∙ ap (λ l. l ++ (codes "END" ∷ [])) c.clear-2.ensures) in
    let Begun : List (List ℕ) → Type 0 = λ f. Begins (contents c.loop-place.sink) (contents c.write-2.new.sink) (c.loop-place.writer.text ++ record_text f) in
    let early : BeginsToWrite (g.W.Write.contents c.args.sink.now) (g.W.Write.contents c.write-2.new.sink) (BeginsListing g.T.WrittenRecord.is_record c.args.items.now) = (
      inv.0 ++ (end ∷ []),
      inr (inv.0, subst are (take_all c.loop-place.place items done) inv.1, refl),
      begins-push _ _ _ inv.0 _ inv.2 end (subst Begun fields c.in_err-write-2.ensures.begun),
    ) in
    on_any_err _ early

pub returns-clause-written : goal.returns-clause-written
returns-clause-written g c =
    let inv = c.loop-place.invariant in
    let items = c.args.items.now in
    let contents = g.W.Write.contents in
    let end = end_fields (length items) in
    let rows = inv.0 ++ (end ∷ []) in
    let done : length items ≤ c.loop-place.place = c.loop-place-test.false in
    let are : List g.row.T.Denot → Type 0 = λ l. AreNumbered g.T.WrittenRecord.is_record 0 l inv.0 in
    let reported = subst are (take_all c.loop-place.place items done) inv.1 in
    let fields : c.push_number.new.self ≡ end =
    c.in_ok-push_number.ensures.added
    ∙ ap (λ l. l ++ (decimal (length items) ∷ [])) (c.in_ok-push.ensures.added ∙ ap (λ l. l ++ (codes "END" ∷ [])) c.clear-2.ensures) in
    let Sent : List (List ℕ) → Type 0 = λ f. Sends (contents c.loop-place.sink) (contents c.write-2.new.sink) (c.loop-place.writer.text ++ record_text f) c.write-2.new.self.text in
    let all = sends-push _ _ _ inv.0 _ inv.2 end c.write-2.new.self.text (subst Sent fields c.in_ok-write-2.ensures.sent) in
    on_ok_weaker c.finish.result (λ rest. (rows, (inv.0, reported, refl), sent-end _ _ _ rows _ all rest)) c.finish.ensures.sent

pub returns-clause-begun : goal.returns-clause-begun
returns-clause-begun g c =
    let inv = c.loop-place.invariant in
    let items = c.args.items.now in
    let contents = g.W.Write.contents in
    let end = end_fields (length items) in
    let rows = inv.0 ++ (end ∷ []) in
    let done : length items ≤ c.loop-place.place = c.loop-place-test.false in
    let are : List g.row.T.Denot → Type 0 = λ l. AreNumbered g.T.WrittenRecord.is_record 0 l inv.0 in
    let reported = subst are (take_all c.loop-place.place items done) inv.1 in
    let fields : c.push_number.new.self ≡ end =
    c.in_ok-push_number.ensures.added
    ∙ ap (λ l. l ++ (decimal (length items) ∷ [])) (c.in_ok-push.ensures.added ∙ ap (λ l. l ++ (codes "END" ∷ [])) c.clear-2.ensures) in
    let Sent : List (List ℕ) → Type 0 = λ f. Sends (contents c.loop-place.sink) (contents c.write-2.new.sink) (c.loop-place.writer.text ++ record_text f) c.write-2.new.self.text in
    let all = sends-push _ _ _ inv.0 _ inv.2 end c.write-2.new.self.text (subst Sent fields c.in_ok-write-2.ensures.sent) in
    on_err_weaker c.finish.result (λ begun. (rows, inr (inv.0, reported, refl), begins-end _ _ _ rows _ all begun)) c.finish.ensures.begun
