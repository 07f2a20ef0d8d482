use Rattle.std.proofs.Common.{◌≡◌, ◌<◌, ◌≤◌, ◌++◌, ◌∷◌, [], ℕ, List, Option, length, map, subst, sym, ap, ◌∙◌}
use Rattle.std.specs.Prelude.{IfSome}
use Rattle.std.specs.String.{string_bytes}
use Rattle.std.proofs.lemmas.List.{take_all}
use Rattle.tpcc.specs.Edges.{lines_text}
use Rattle.tpcc.proofs.LineTexts.{lines_text-more}
use Rattle.tpcc.proofs.streams.text_of.Goals as goal

pub loop-line-preserved : goal.loop-line-preserved
loop-line-preserved g c = λ text known.
    let i = c.loop-line.line-index in
    let lines = c.args.lines.now in
    let line = c.line-item.result in
    let there : i < length lines = c.loop-line-test.true in
    let old = string_bytes c.loop-line.whole in
    let new = string_bytes c.push_line.new.whole in
    let Adds : Option (List ℕ) → Type 0 = λ o. IfSome o (λ bytes. new ≡ old ++ (bytes ++ 10 ∷ [])) in
    let added : new ≡ old ++ (text line ++ 10 ∷ []) = subst Adds (known line) c.in_ok-push_line.ensures in
    added ∙ ap (λ l. l ++ (text line ++ 10 ∷ [])) (c.loop-line.invariant text known) ∙ sym (lines_text-more text lines i line there c.line-item.is)

pub returns : goal.returns
returns g c = λ text known.
    let lines = c.args.lines.now in
    let done : length lines ≤ c.loop-line.line-index = c.loop-line-test.false in
    c.loop-line.invariant text known ∙ ap (λ (l : List g.row.L.Denot). lines_text (map text l)) (take_all c.loop-line.line-index lines done)
