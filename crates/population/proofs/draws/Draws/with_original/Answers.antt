use Rattle.std.proofs.Common.{◌≡◌, true, rules, refl, ap, ◌∙◌}
use Rattle.std.specs.Prelude.{codes}
use Rattle.std.specs.List.{list_all}
use Rattle.rows.specs.Text.{is_printable_byte}
use Rattle.population.specs.Rows.{is_letter_or_digit}
use Rattle.population.proofs.Texts.{list_all-part, list_all-drop, list_all-fitting}
use Rattle.population.proofs.draws.Draws.with_original.Goals as goal

pub push_fitting-requires : goal.push_fitting-requires
push_fitting-requires g c =
    let words = c.as_str-words.result.now in
    let printable : list_all is_printable_byte words ≡ true = ap (list_all is_printable_byte) c.as_str-words.ensures.bytes ∙ c.as_str-words.ensures.is_text.printable in
    let part : list_all is_printable_byte c.range.result.now ≡ true = ap (list_all is_printable_byte) c.range.ensures.value ∙ list_all-part is_printable_byte 0 c.random-place.result words printable in
    (search rules, part)

pub push_fitting-requires-3 : goal.push_fitting-requires-3
push_fitting-requires-3 g c =
    let words = c.as_str-words.result.now in
    let printable : list_all is_printable_byte words ≡ true = ap (list_all is_printable_byte) c.as_str-words.ensures.bytes ∙ c.as_str-words.ensures.is_text.printable in
    let part : list_all is_printable_byte c.range_from.result.now ≡ true = ap (list_all is_printable_byte) c.range_from.ensures.value ∙ list_all-drop is_printable_byte _ words printable in
    (search rules, part)

pub returns-clause-each : goal.returns-clause-each
returns-clause-each g c text =
    let kind = is_letter_or_digit in
    let words = c.as_str-words.result.now in
    let all : list_all kind words ≡ true = ap (list_all kind) c.as_str-words.ensures.bytes ∙ text in
    let before : list_all kind c.range.result.now ≡ true = ap (list_all kind) c.range.ensures.value ∙ list_all-part kind 0 c.random-place.result words all in
    let behind : list_all kind c.range_from.result.now ≡ true = ap (list_all kind) c.range_from.ensures.value ∙ list_all-drop kind _ words all in
    let first : list_all kind c.push_fitting.new.self ≡ true =
    ap (list_all kind) c.push_fitting.ensures ∙ list_all-fitting kind g.row.WIDTH c.new-original.result c.range.result.now (ap (list_all kind) c.new-original.ensures) before in
    let second : list_all kind c.push_fitting-2.new.self ≡ true = ap (list_all kind) c.push_fitting-2.ensures ∙ list_all-fitting kind g.row.WIDTH c.push_fitting.new.self (codes "ORIGINAL") first refl in
    ap (list_all kind) c.push_fitting-3.ensures ∙ list_all-fitting kind g.row.WIDTH c.push_fitting-2.new.self c.range_from.result.now second behind
