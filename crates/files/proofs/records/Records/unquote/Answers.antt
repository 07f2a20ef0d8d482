use Rattle.std.proofs.Common.{◌≡◌, [], ◌∷◌, Ok, refl, ap, subst, ◌∙◌}
use Rattle.std.specs.Io.KnownBytes.{Keeps}
use Rattle.csv.specs.Reading.{default_config}
use Rattle.csv.specs.declared.parser.State.TheVariants as st
use Rattle.csv.proofs.ReadFacts.{tracks-fed, tracks-fed-end, tracks-keep}
use Rattle.files.specs.Source.{ahead, at_hand}
use Rattle.files.specs.Unquoted.{machine_state, fields_ended, field_begun}
use Rattle.files.proofs.NextRecord.{in_turn_too_long}
use Rattle.files.proofs.Progress.{next_quoted}
use Rattle.files.proofs.records.Records.unquote.Goals.{in-Some+in_ok-feed-in-Some+in-GoesOn, in-None+in_ok-more-in-None+else-not-branch}
use Rattle.files.proofs.records.Records.unquote.Goals as goal

pub returns-in-Ends-clause-next : goal.returns-in-Ends-clause-next
returns-in-Ends-clause-next g c =
    let rem = g.R.Input.remaining in
    let inv = c.loop.invariant in
    let r = c.loop.self in
    let u = r.unquoted in
    let v = c.feed.new.self in
    let before = ahead rem c.args.self.now.source in
    let byte = c.in-Some.ensures in
    let ends = c.in_ok-feed-in-Some.ensures.ends (ap Ok c.in-Ends.is) in
    let hand = at_hand c.next_byte.new.self in
    let tracks = rw byte.some at inv.0 in
    next_quoted rem before _ (machine_state v.state) v.bytes.items c.feed.new.spans.items (byte.begun ∙ inv.2) inv.4 inv.3 refl refl ends.0
    (rw byte.behind (tracks-fed-end default_config st.StartRecord (machine_state u.state) (machine_state v.state) (fields_ended u r.spans.items) (fields_ended v c.feed.new.spans.items) (field_begun u) (field_begun v) (c.in-Some.byte ∷ []) hand before (rem r.source.reader) tracks ends.2))
    ends.1

pub returns-in-TooLong-clause-too_long : goal.returns-in-TooLong-clause-too_long
returns-in-TooLong-clause-too_long g c = λ _.
    let rem = g.R.Input.remaining in
    let inv = c.loop.invariant in
    let r = c.loop.self in
    let u = r.unquoted in
    in_turn_too_long (machine_state u.state) (ahead rem c.args.self.now.source) (ahead rem r.source) u.bytes.items u.from r.spans.items inv.1
    (c.in_ok-feed-in-Some.ensures.too_long (ap Ok c.in-TooLong.is)) inv.0

pub loop-preserved : goal.loop-preserved
loop-preserved g c =
    let rem = g.R.Input.remaining in
    let inv = c.loop.invariant in
    let r = c.loop.self in
    let u = r.unquoted in
    let before = ahead rem c.args.self.now.source in
    elim c.match-next_byte.branch [
      | in-Some+in_ok-feed-in-Some+in-GoesOn w ↦
          let v = w.feed.new.self in
          let byte = w.in-Some.ensures in
          let goes = w.in_ok-feed-in-Some.ensures.goes_on (ap Ok w.in-GoesOn.is) in
          let hand = at_hand c.next_byte.new.self in
          let tracks = rw byte.some at inv.0 in
          rw (w.self-is) (
            rw byte.behind (tracks-fed default_config st.StartRecord (machine_state u.state) (machine_state v.state) (fields_ended u r.spans.items) (fields_ended v w.feed.new.spans.items) (field_begun u) (field_begun v) (w.in-Some.byte ∷ []) hand before (rem r.source.reader) tracks goes.1),
            goes.0,
            byte.begun ∙ inv.2,
            inv.3,
            inv.4,
            inv.5,
            λ fine. rw byte.behind (inv.6 fine),
          )
      | in-None+in_ok-more-in-None+else-not-branch w ↦
          let none = w.in-None.ensures in
          let more = w.in_ok-more-in-None.ensures in
          let empty = none.none in
          let same : ahead rem c.next_byte.new.self ≡ ahead rem r.source = rw (none.behind, empty.1, empty.0) refl in
          let tracks = tracks-keep default_config st.StartRecord (machine_state u.state) (fields_ended u r.spans.items) (field_begun u) before (ahead rem r.source) (ahead rem w.more.new.self) inv.0 (subst (λ t. Keeps t (ahead rem w.more.new.self)) same more.keeps) in
          rw (w.self-is) (tracks, inv.1, more.begun ∙ none.begun ∙ inv.2, inv.3, inv.4, inv.5, λ fine. (more.lasts (rw none.behind (inv.6 fine))).1)
    ]
