use Rattle.std.proofs.Common.{◌≡◌, true, false, [], refl, rules, sym, ap, ◌∙◌}
use Rattle.files.specs.declared.unquoted.Unquoted.{Unquoted}
use Rattle.files.proofs.Progress.{next_none, next_quoted}
use Rattle.csv.specs.declared.parser.State.TheVariants as st
use Rattle.files.specs.Source.{ahead}
use Rattle.files.specs.Line.{is_in_record}
use Rattle.files.specs.Unquoted.{machine_state}
use Rattle.files.proofs.NextRecord.{in_turn_too_long, reads_none, reads_ended}
use Rattle.files.proofs.Unquoting.{ended_size, size_kept}
use Rattle.files.proofs.records.Records.unquote_last.Goals as goal

pub returns-then-is_too_long-clause-too_long : goal.returns-then-is_too_long-clause-too_long
returns-then-is_too_long-clause-too_long g c = λ _ before tracks.
    let r = c.args.self.now in
    let u = r.unquoted in
    in_turn_too_long (machine_state u.state) before (ahead g.R.Input.remaining r.source) u.bytes.items u.from r.spans.items c.requires.in_turn (c.is_too_long.ensures.0 (search rules)) tracks

pub returns-then-not-is_begun-clause-next : goal.returns-then-not-is_begun-clause-next
returns-then-not-is_begun-clause-next g c = λ before tracks.
    let r = c.args.self.now in
    let none : is_in_record (machine_state r.unquoted.state) ≡ false = sym c.is_begun.ensures ∙ (search rules) in
    next_none g.R.Input.remaining before _ [] c.requires.begun c.requires.none_taken c.requires.none_left
    (reads_none r.unquoted.state before (g.R.Input.remaining r.source.reader) _ [] _ none c.requires.ended (rw c.requires.none_left at tracks))

pub returns-clause-next : goal.returns-clause-next
returns-clause-next g c = λ before tracks.
    let r = c.args.self.now in
    let u = r.unquoted in
    let ended = c.in_ok-end_field.ensures in
    let some : is_in_record (machine_state u.state) ≡ true = sym c.is_begun.ensures ∙ (search rules) in
    next_quoted g.R.Input.remaining before _ st.StartRecord u.bytes.items _ c.requires.begun c.requires.quoted c.requires.none_taken
    (ap (λ (v : Unquoted). v.bytes.items) ended.same) ended.ended (λ text. refl)
    (rw c.requires.none_left (reads_ended (machine_state u.state) before (g.R.Input.remaining r.source.reader) u.bytes.items u.from r.spans.items some c.requires.ended (rw c.requires.none_left at tracks)))
    (size_kept c.is_too_long.result _ _ _ (ended_size (machine_state u.state) u.bytes.items u.from r.spans.items c.requires.in_turn) c.if-is_too_long.false c.is_too_long.ensures.1)
