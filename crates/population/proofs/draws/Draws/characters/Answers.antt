use Rattle.std.proofs.Common.{◌≡◌, ◌<◌, ◌∷◌, [], true, take, length, length-take, refl, ap, rules, sym, ◌∙◌, arith}
use Rattle.std.specs.List.{list_all}
use Rattle.std.proofs.lemmas.Bool.{and_from}
use Rattle.std.proofs.lemmas.List.{take_more_set}
use Rattle.std.proofs.lemmas.List.Folds.{list_all-append}
use Rattle.rows.specs.Text.{is_printable_byte}
use Rattle.population.proofs.Texts.{fitting_is_text}
use Rattle.population.proofs.draws.Draws.characters.Goals as goal

pub loop-place-preserved : goal.loop-place-preserved
loop-place-preserved g c =
    let place = c.loop-place.place in
    let bytes = c.loop-place.bytes in
    let byte = c.character.result in
    let below : place < length bytes = omega (arith, c.loop-place.invariant.wide) in
    record {
      wide = search rules;
      each = λ kind h.
          ap (list_all kind) (take_more_set bytes place byte below)
          ∙ list_all-append kind (take place bytes) (byte ∷ [])
          ∙ and_from _ _ (c.loop-place.invariant.each kind h) (and_from (kind byte) true (c.character.ensures kind h) refl);
    }

-- what fits and is printable is a text, so there is no error
pub returns-in-Err : goal.returns-in-Err
returns-in-Err g c =
    let count = c.min-count.result in
    let bytes = c.loop-place.bytes in
    let all : c.loop-place.place ≡ count = omega arith in
    let printable : list_all is_printable_byte (take count bytes) ≡ true = ap (λ n. list_all is_printable_byte (take n bytes)) (sym all) ∙ c.loop-place.invariant.each is_printable_byte c.requires.printable in
    let text = c.from_bytes.ensures ∙ fitting_is_text g.row.WIDTH (take count bytes) printable (omega (arith, length-take count bytes)) in
    absurd (cc (sym text ∙ c.in-Err.is))
