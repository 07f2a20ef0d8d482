use Rattle.std.proofs.Common.{[], subst, ◌∙◌}
use Rattle.csv.specs.Reading.{default_config}
use Rattle.csv.specs.declared.parser.State.TheVariants as state
use Rattle.csv.proofs.ReadFacts.{tracks-keep}
use Rattle.files.specs.Line.{IsFirst}
use Rattle.files.specs.Source.{ahead, at_hand}
use Rattle.files.specs.declared.source.First.TheVariants as first
use Rattle.files.proofs.Sources.{skipped}
use Rattle.files.proofs.source.Source.skip_line_ends.Goals.{in-LineEnd, in-None+in_ok-more-in-None+else-not-branch}
use Rattle.files.proofs.source.Source.skip_line_ends.Goals as goal

pub loop-preserved : goal.loop-preserved
loop-preserved g c =
    let inv = c.loop.invariant in
    elim c.match-first_of.branch [
      | in-LineEnd w ↦
          let is_first : IsFirst (at_hand c.loop.self) first.LineEnd = subst (λ bytes. IsFirst bytes first.LineEnd) c.at_hand.ensures.value (rw w.in-LineEnd.is at c.first_of.ensures) in
          rw (w.self-is, w.consume.ensures.left, w.consume.ensures.behind, w.consume.ensures.begun)
          (skipped (at_hand c.loop.self) (ahead g.R.Input.remaining c.args.self.now) (g.R.Input.remaining c.loop.self.reader) is_first inv.0, inv.1, inv.2)
      | in-None+in_ok-more-in-None+else-not-branch w ↦
          let more = w.in_ok-more-in-None.ensures in
          rw w.self-is (tracks-keep default_config state.StartRecord state.StartRecord [] [] (ahead g.R.Input.remaining c.args.self.now) (ahead g.R.Input.remaining c.loop.self) _ inv.0 more.keeps, more.begun ∙ inv.1, λ fine. (more.lasts (inv.2 fine)).1)
    ]
