use Rattle.std.proofs.Common.{◌≤◌, length, drop, refl, subst, arith}
use Rattle.std.proofs.lemmas.Result.{IfOk-weaker}
use Rattle.csv.specs.declared.parser.State.TheVariants as st
use Rattle.files.specs.declared.line.Line.TheVariants as line
use Rattle.files.specs.Line.{IsCut}
use Rattle.files.specs.Source.{ahead, at_hand}
use Rattle.files.proofs.NextRecord.{reads_kept, reads_whole}
use Rattle.files.proofs.Progress.{next_kept, next_plain}
use Rattle.files.proofs.Sources.{keeps-on}
use Rattle.files.proofs.records.Records.cut.Goals as goal

pub returns-in-Ends-clause-next : goal.returns-in-Ends-clause-next
returns-in-Ends-clause-next g c =
    let rem = g.R.Input.remaining in
    let inv = c.loop.invariant in
    let hand = at_hand c.loop.self.source in
    let read = c.at_hand.ensures in
    let most : length hand ≤ 65536 = rw read.value at read.fits in
    let spans = c.cut_line.new.spans.items in
    let count = c.in-Ends.count in
    let whole = subst (λ h. IsCut h spans (line.Ends count)) read.value (rw c.in-Ends.is at c.in_ok-count.ensures) in
    let before = ahead rem c.args.self.now.source in
    next_plain rem before _ whole.after hand (drop count hand) spans inv.2 inv.4 refl refl refl whole.is_between
    (reads_kept st.StartRecord whole.after before (ahead rem c.loop.self.source) _ _ _ inv.0 (reads_whole hand (rem c.loop.self.source.reader) spans count whole))
    (let size = whole.size in let within = whole.within in omega (arith, size, within, most))

pub returns-in-Quoted-clause-next : goal.returns-in-Quoted-clause-next
returns-in-Quoted-clause-next g c =
    let rem = g.R.Input.remaining in
    IfOk-weaker c.unquote.result _ _ (λ found next. next_kept rem (ahead rem c.args.self.now.source) (ahead rem c.loop.self.source) found c.unquote.new.self c.loop.invariant.0 next) c.unquote.ensures.next

pub returns-then-not-branch-clause-next : goal.returns-then-not-branch-clause-next
returns-then-not-branch-clause-next g c =
    let rem = g.R.Input.remaining in
    let keeps = keeps-on (ahead rem c.args.self.now.source) (ahead rem c.loop.self.source) (ahead rem c.more.new.self) c.loop.invariant.0 c.in_ok-more-in-Open.ensures.keeps in
    IfOk-weaker c.cut_last.result _ _ (λ found next. next_kept rem (ahead rem c.args.self.now.source) (ahead rem c.more.new.self) found c.cut_last.new.self keeps next) c.cut_last.ensures.next
