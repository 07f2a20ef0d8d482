use Rattle.std.proofs.Common.{◌≡◌, sym, arith}
use Rattle.std.proofs.Common.{refl, rules, ◌∙◌, Ok, Err}
use Rattle.files.specs.FieldRead.{whole_read}
use Rattle.files.specs.Taken.{fields_left, fault_of}
use Rattle.files.proofs.FieldsRead.{no_kind, field_is, given_by, whole_is}
use Rattle.files.proofs.fields.Fields.whole.Goals as goal

pub returns-in-Ok-clause-field : goal.returns-in-Ok-clause-field
returns-in-Ok-clause-field c =
    let f = c.args.self.now in
    let g = c.bytes.new.self in
    let parsed = c.read_whole.ensures in
    let low : c.from.result ≡ c.args.low = search rules in
    let high : c.from-2.result ≡ c.args.high = search rules in
    let read = whole_is c.from.result c.from-2.result c.bytes.result.now c.read_whole.result (omega (arith, high)) parsed.value parsed.range parsed.reads parsed.not_of_kind parsed.faults in
    let is = sym c.in-Ok.is ∙ (rw (low, high) at read) in
    field_is (whole_read c.args.low c.args.high) c.args.low c.in-Ok.number (fields_left f) (fields_left g) (fault_of f) (fault_of g) (fault_of g) c.bytes.result.now
    c.bytes.ensures.left c.bytes.ensures.none c.bytes.ensures.some (no_kind refl)
    (given_by (whole_read c.args.low c.args.high c.bytes.result.now) (Ok c.in-Ok.number) c.args.low c.in-Ok.number (fault_of g) (fault_of g) is (refl, refl))

pub returns-in-Err-clause-field : goal.returns-in-Err-clause-field
returns-in-Err-clause-field c =
    let f = c.args.self.now in
    let g = c.bytes.new.self in
    let n = c.note.new.self in
    let parsed = c.read_whole.ensures in
    let low : c.from.result ≡ c.args.low = search rules in
    let high : c.from-2.result ≡ c.args.high = search rules in
    let read = whole_is c.from.result c.from-2.result c.bytes.result.now c.read_whole.result (omega (arith, high)) parsed.value parsed.range parsed.reads parsed.not_of_kind parsed.faults in
    let is = sym c.in-Err.is ∙ (rw (low, high) at read) in
    field_is (whole_read c.args.low c.args.high) c.args.low c.args.low (fields_left f) (fields_left n) (fault_of f) (fault_of g) (fault_of n) c.bytes.result.now
    (c.note.ensures.left ∙ c.bytes.ensures.left) c.bytes.ensures.none c.bytes.ensures.some (no_kind refl)
    (given_by (whole_read c.args.low c.args.high c.bytes.result.now) (Err c.in-Err.kind) c.args.low c.args.low (fault_of g) (fault_of n) is (refl, c.note.ensures.fault))
