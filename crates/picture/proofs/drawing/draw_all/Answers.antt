use Rattle.std.proofs.Common.{◌≡◌, ◌+◌, ◌<◌, ◌≤◌, ◌++◌, ℕ, List, Option, Some, length, take, drop, ap, subst, sym, ◌∙◌, take-append-drop}
use Rattle.std.proofs.lemmas.List.{take_all}
use Rattle.std.specs.Io.KnownBytes.{Appends}
use Rattle.std.specs.Prelude.{IfSome}
use Rattle.picture.specs.Drawing.{texts}
use Rattle.std.proofs.KnownBytes.{Appends-trans}
use Rattle.files.specs.Sending.{Begins}
use Rattle.files.proofs.Sent.{begins_after, begins_more, on_any_err}
use Rattle.picture.proofs.Texts.{appends-none, texts-more, texts-parted}
use Rattle.picture.proofs.drawing.draw_all.Goals as goal

pub loop-sign-init : goal.loop-sign-init
loop-sign-init g c = λ text known. appends-none text (g.W.Write.contents c.args.sink.now)

pub loop-sign-preserved : goal.loop-sign-preserved
loop-sign-preserved g c = λ text known.
    let i = c.loop-sign.sign-index in
    let signs = c.args.signs.now in
    let sign = c.sign-item.result in
    let first = g.W.Write.contents c.args.sink.now in
    let old = g.W.Write.contents c.loop-sign.sink in
    let new = g.W.Write.contents c.draw.new.sink in
    let there : i < length signs = c.loop-sign-test.true in
    let Draws : Option (List ℕ) → Type 0 = λ o. IfSome o (λ bytes. Appends old new bytes) in
    let drawn : Appends old new (text sign) = subst Draws (known sign) c.in_ok-draw.ensures.written in
    let Written : List ℕ → Type 0 = λ bytes. Appends first new bytes in
    subst Written (sym (texts-more text signs i sign there c.sign-item.is))
    (Appends-trans first old new (texts text (take i signs)) (text sign) (c.loop-sign.invariant text known) drawn)

pub returns-clause-written : goal.returns-clause-written
returns-clause-written g c = λ text known.
    let signs = c.args.signs.now in
    let done : length signs ≤ c.loop-sign.sign-index = c.loop-sign-test.false in
    let Written : List g.row.D.Denot → Type 0 =
    λ l. Appends (g.W.Write.contents c.args.sink.now) (g.W.Write.contents c.loop-sign.sink) (texts text l) in
    subst Written (take_all c.loop-sign.sign-index signs done) (c.loop-sign.invariant text known)

-- a sign is not drawn
pub returns-in_err-draw-clause-begun : goal.returns-in_err-draw-clause-begun
returns-in_err-draw-clause-begun g c =
    let first = g.W.Write.contents c.args.sink.now in
    let old = g.W.Write.contents c.loop-sign.sink in
    let new = g.W.Write.contents c.draw.new.sink in
    let signs = c.args.signs.now in
    let early : (text : g.row.D.Denot → List ℕ) → ((sign : g.row.D.Denot) → g.D.Display.output sign ≡ Some (text sign)) → Begins first new (texts text signs) = λ text known.
    let i = c.loop-sign.sign-index in
    let sign = c.sign-item.result in
    let there : i < length signs = c.loop-sign-test.true in
    let Draws : Option (List ℕ) → Type 0 = λ o. IfSome o (λ bytes. Begins old new bytes) in
    let begun : Begins old new (text sign) = subst Draws (known sign) c.in_err-draw.ensures.begun in
    let up_to : texts text (take i signs) ++ text sign ≡ texts text (take (i + 1) signs) = sym (texts-more text signs i sign there c.sign-item.is) in
    let all : texts text (take (i + 1) signs) ++ texts text (drop (i + 1) signs) ≡ texts text signs =
    sym (texts-parted text (take (i + 1) signs) (drop (i + 1) signs)) ∙ ap (texts text) (take-append-drop (i + 1) signs) in
    let drawn : Begins first new (texts text (take i signs) ++ text sign) = begins_after first old new (texts text (take i signs)) (text sign) (c.loop-sign.invariant text known) begun in
    subst (Begins first new) all (begins_more first new (texts text (take (i + 1) signs)) (texts text (drop (i + 1) signs)) (subst (Begins first new) up_to drawn)) in
    on_any_err c.from_residual.result early
