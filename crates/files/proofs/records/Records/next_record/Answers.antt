use Rattle.std.proofs.Common.{◌≡◌, [], false, refl, sym, subst, ◌∙◌, rules}
use Rattle.std.specs.Io.KnownBytes.{Keeps}
use Rattle.files.specs.Source.{ahead}
use Rattle.files.specs.Place.{text_left}
use Rattle.files.specs.declared.unquoted.State.TheVariants as own
use Rattle.std.proofs.lemmas.Result.{IfErr-weaker}
use Rattle.files.proofs.NextRecord.{reads_none, too_long_kept}
use Rattle.files.proofs.Progress.{left_is_unread, next_kept, next_none}
use Rattle.files.proofs.records.Records.next_record.Goals as goal

pub returns-else-branch-clause-next : goal.returns-else-branch-clause-next
returns-else-branch-clause-next g c =
    let rem = g.R.Input.remaining in
    let left = c.leave.ensures in
    let start = sym left.left ∙ left_is_unread rem c.leave.new.self left.none_taken in
    let begun = c.in_ok-begin.ensures in
    let keeps = subst (λ t. Keeps t (ahead rem c.begin.new.self)) (sym start) begun.unread in
    let skip = c.in_ok-skip_line_ends.ensures in
    let none : c.in_ok-skip_line_ends.field-0 ≡ false = search rules in
    let end = skip.none none in
    let mid = ahead rem c.begin.new.self in
    let known = rem c.skip_line_ends.new.self.reader in
    next_kept rem (text_left rem c.args.self.now) mid false _ keeps
    (next_none rem mid _ [] (skip.begun ∙ begun.begun) left.none_taken end.0
    (reads_none own.StartRecord mid known [] [] [] refl end.1 (rw end.0 at skip.tracks)))

pub returns-then-branch-clause-too_long : goal.returns-then-branch-clause-too_long
returns-then-branch-clause-too_long g c =
    let rem = g.R.Input.remaining in
    let left = c.leave.ensures in
    let start = sym left.left ∙ left_is_unread rem c.leave.new.self left.none_taken in
    let mid = ahead rem c.begin.new.self in
    let keeps = subst (λ t. Keeps t mid) (sym start) c.in_ok-begin.ensures.unread in
    IfErr-weaker c.cut.result _ _ (λ stop long is. too_long_kept (text_left rem c.args.self.now) mid (ahead rem c.skip_line_ends.new.self) keeps c.in_ok-skip_line_ends.ensures.tracks (long is)) c.cut.ensures.too_long
