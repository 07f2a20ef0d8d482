use Rattle.std.proofs.Common.{◌++◌, chars, flat_map, refl, sym, ap, subst, ◌∙◌, append_assoc, append-nil}
use Rattle.std.proofs.lemmas.Grind.{put_two}
use Rattle.std.proofs.lemmas.List.{nil_from_length}
use Rattle.std.proofs.lemmas.Str.{IsUtf8-past_char, chars-nil, chars_past_char}
use Rattle.std.specs.Fmt.{HasWritten}
use Rattle.std.specs.Str.Iter.{chars_rest}
use Rattle.tpcc.specs.Escaped.{shown, shown_char}
use Rattle.tpcc.proofs.escaped.EscapedDisplay.fmt.Goals as goal

pub loop-character-preserved : goal.loop-character-preserved
loop-character-preserved g c =
    let held = c.loop-character.invariant in
    let parts = c.in-Some.ensures.steps.0 in
    let rest = chars_rest c.next.new.self in
    let next = chars_past_char _ rest c.in-Some.character held.0 parts in (
      IsUtf8-past_char _ _ c.in-Some.character held.0 parts,
      λ plain.
          let before = held.1 plain in
          let one = shown_char c.in-Some.character in
          let put = c.in_ok-put.ensures before.1.plain refl in (
            before.0 ++ one,
            put_two g.W.Write.write_str_gives c.args.f.now c.loop-character.f c.put.new.f before.0 one (before.0 ++ one) before.1 put refl,
            append_assoc before.0 one (shown rest) ∙ ap (λ l. before.0 ++ flat_map shown_char l) (sym next) ∙ before.2,
          ),
    )

pub returns-clause-writes : goal.returns-clause-writes
returns-clause-writes g c = λ plain ok.
    let before = c.loop-character.invariant.1 plain in
    let none = nil_from_length (chars_rest c.loop-character.character-iterator) c.in-None.ensures.steps.0.0 in
    let all = sym (append-nil before.0) ∙ ap (λ l. before.0 ++ flat_map shown_char l) (sym (ap chars none ∙ chars-nil)) ∙ before.2 in
    subst (λ bytes. HasWritten g.W.Write.write_str_gives c.args.f.now bytes c.loop-character.f) all before.1
