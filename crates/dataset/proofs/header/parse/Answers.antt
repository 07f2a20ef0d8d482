use Rattle.std.proofs.Common.{◌≡◌, codes, length, refl, sym, ◌∙◌, arith}
use Rattle.std.proofs.lemmas.Result.{err_from_is_err_and}
use Rattle.files.specs.FieldRead.{fields_view}
use Rattle.files.specs.Taken.{fault_of, fields_left}
use Rattle.dataset.proofs.HeaderFault.{IsBegun, header_begun, is_header, no_difference, no_header, not_five, other_name, unknown_format, word_of_format}
use Rattle.dataset.proofs.LetterFault.{some_word}
use Rattle.dataset.proofs.Taking.{same_word}
use Rattle.dataset.proofs.header.parse.Goals.{In-Some, then-left-ne5-via-then-left-ne5, then-left-ne5-via-else-left-ne5+then-ne}
use Rattle.dataset.proofs.header.parse.Goals as goal

pub returns-then-left-ne5-clause-exact : goal.returns-then-left-ne5-clause-exact
returns-then-left-ne5-clause-exact c = λ free.
    let left = fields_left c.args.fields.now in
    elim c.then-left-ne5.branch [
      | then-left-ne5-via-then-left-ne5 w ↦ no_header left (not_five left (λ five. omega arith))
      | then-left-ne5-via-else-left-ne5+then-ne w ↦
          let five : length left ≡ 5 = omega arith in
          no_header left (other_name left (fault_of c.args.fields.now) w.word.result.now (fields_view w.word.new.self) five w.word.ensures.field (λ e. no_difference w.word.result.now (codes "TPCC") w.ne.result w.ne.ensures e w.if-ne.true))
    ]

pub returns-in_default-clause-exact : goal.returns-in_default-clause-exact
returns-in_default-clause-exact c = λ free.
    let left = fields_left c.args.fields.now in
    let five : length left ≡ 5 = omega arith in
    let name = same_word c.word.result.now (codes "TPCC") c.ne.result c.ne.ensures c.if-ne.false in
    let one = some_word (codes "TPCC") 3 c.word.result.now left (fault_of c.args.fields.now) (fields_view c.word.new.self) refl name c.word.ensures.field in
    no_header left (unknown_format left (fields_left c.word.new.self) (fault_of c.word.new.self) (codes "TPCC") c.word-2.result.now (fields_view c.word-2.new.self) five one.left c.word-2.ensures.field
    (sym c.named.ensures ∙ c.in_default.is))

-- the name and the number of the format were taken
begun : (c : In-Some) → IsBegun c.in-Some.format c.args.fields.now c.word-2.new.self
begun c =
    let five : length (fields_left c.args.fields.now) ≡ 5 = omega arith in
    let name = same_word c.word.result.now (codes "TPCC") c.ne.result c.ne.ensures c.if-ne.false in
    let format = word_of_format c.in-Some.format c.word-2.result.now (sym c.named.ensures ∙ c.in-Some.is) in
    header_begun c.in-Some.format c.args.fields.now c.word.new.self c.word-2.new.self c.word.result.now c.word-2.result.now five name c.word.ensures.field format c.word-2.ensures.field

pub returns-in_err-scale-clause-exact : goal.returns-in_err-scale-clause-exact
returns-in_err-scale-clause-exact c = λ free.
    let start = begun (goal.at.returns-in_err-scale-clause-exact c).In-Some in
    let p = err_from_is_err_and c.from_residual.result c.from_residual.ensures.1 in
    rw (p.1, p.2) (start.reported ∙ c.in_err-scale.ensures.exact (start.fault ∙ free))

pub returns-clause-exact : goal.returns-clause-exact
returns-clause-exact c = λ free.
    let start = begun (goal.at.returns-clause-exact c).In-Some in
    start.reported ∙ (c.in_ok-scale.ensures.exact (start.fault ∙ free)).0

pub returns-clause-spelt : goal.returns-clause-spelt
returns-clause-spelt c =
    let start = begun (goal.at.returns-clause-spelt c).In-Some in
    let read = c.in_ok-scale.ensures.exact c.in_ok-scale.ensures.clean in
    is_header c.in-Some.format c.in_ok-scale.scale c.args.fields.now c.word-2.new.self start read.1 read.2
