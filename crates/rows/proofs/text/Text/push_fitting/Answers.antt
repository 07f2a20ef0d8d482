use Rattle.std.proofs.Common.{◌≡◌, ◌+◌, ◌≤◌, ◌-◌, ◌++◌, min, length, take, ap, ◌∙◌, rules, arith}
use Rattle.std.specs.List.{list_all}
use Rattle.std.proofs.lemmas.List.{length-take}
use Rattle.rows.specs.Text.{is_printable_byte}
use Rattle.rows.proofs.Fitting.{append_fitting, list_all-take}
use Rattle.rows.proofs.text.Text.push_fitting.Goals as goal

pub write-requires : goal.write-requires
write-requires g c =
    let words = c.as_bytes.result.now in
    let room : c.len-len.result + length (take c.min-room.result words) ≤ g.row.WIDTH = omega (arith, length-take c.min-room.result words, c.len-len.ensures.fits) in
    let printable = ap (list_all is_printable_byte) c.as_bytes.ensures.value ∙ c.requires in
    (search rules, (c.len-len.ensures.value, (room, list_all-take is_printable_byte c.min-room.result words printable)))

pub returns : goal.returns
returns g c =
    let was = c.args.self.now in
    let words = c.args.words.now in
    let room : c.min-room.result ≡ min (g.row.WIDTH - length was) (length words) = omega (arith, c.len-len.ensures.value) in
    c.write.ensures ∙ ap (λ l. was ++ take c.min-room.result l) c.as_bytes.ensures.value
    ∙ append_fitting was words g.row.WIDTH c.min-room.result (omega (arith, c.len-len.ensures.value, c.len-len.ensures.fits)) room
