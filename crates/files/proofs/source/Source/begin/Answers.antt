use Rattle.std.proofs.Common.{◌≡◌, true, false, refl, sym, ap, ◌∙◌}
use Rattle.files.specs.ByteOrder.{is_marked}
use Rattle.files.specs.Source.{ahead, at_hand}
use Rattle.files.proofs.Sources.{began}
use Rattle.files.proofs.source.Source.begin.Goals.{then-is_marked, else-is_marked}
use Rattle.files.proofs.source.Source.begin.Goals as goal

pub returns-clause-unread : goal.returns-clause-unread
returns-clause-unread g c =
    let three = c.in_ok-three_bytes.ensures in
    let mid = c.three_bytes.new.self in
    let test : c.is_marked.result ≡ is_marked (at_hand mid) = c.is_marked.ensures ∙ ap is_marked c.at_hand.ensures.value in
    rw c.if-self.false (elim c.if-is_marked.branch [
      | then-is_marked w ↦
          let marked : is_marked (at_hand mid) ≡ true = sym test ∙ w.if-is_marked.true in
          rw w.self-is (began (ahead g.R.Input.remaining c.args.self.now) (g.R.Input.remaining mid.reader) _ (at_hand mid) _ three.keeps three.three (rw marked w.consume.ensures.left) (ap g.R.Input.remaining w.consume.ensures.behind))
      | else-is_marked w ↦
          let marked : is_marked (at_hand mid) ≡ false = sym test ∙ w.if-is_marked.false in
          rw w.self-is (began (ahead g.R.Input.remaining c.args.self.now) (g.R.Input.remaining mid.reader) _ (at_hand mid) _ three.keeps three.three (rw marked refl) refl)
    ])
