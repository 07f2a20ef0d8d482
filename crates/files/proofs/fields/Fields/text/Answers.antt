use Rattle.std.proofs.Common.{[]}
use Rattle.files.specs.Word.{text_read}
use Rattle.files.proofs.FieldsRead.{Stands, no_text}
use Rattle.files.proofs.KindsRead.{field_from}
use Rattle.files.proofs.fields.Fields.text.Goals as goal

pub returns-clause-field : goal.returns-clause-field
returns-clause-field g c =
    let b = c.bytes.ensures in
    let n = c.or_note.ensures in
    field_from (text_read g.row.WIDTH) [] c.new.result c.or_note.result c.args.self.now c.bytes.new.self c.or_note.new.self c.bytes.result.now c.read_text-text.result
    (Stands (no_text g.row.WIDTH)) c.read_text-text.ensures c.new.ensures b.left b.none b.some n.left n.ok n.err n.stands_in
