use Rattle.std.proofs.Common.{◌≡◌, ◌<◌, ◌^◌, ◌∙◌, true, sym, ap, arith, decimal}
use Rattle.std.proofs.lemmas.Fmt.{parse-decimal}
use Rattle.std.proofs.lemmas.Result.{IfOk-weaker}
use Rattle.files.specs.Number.{is_number}
use Rattle.files.proofs.Numerals.{decimal-parsed, is_number-decimal}
use Rattle.files.proofs.ShortNumbers.{number_is_text}
use Rattle.files.proofs.numbers.read_any.Goals as goal

pub returns-then-not-is_number-clause-reads : goal.returns-then-not-is_number-clause-reads
returns-then-not-is_number-clause-reads c = λ n e lo hi.
    let small : n < 2 ^ 64 = omega arith in
    let spelt : is_number c.args.field.now ≡ true = rw e at (is_number-decimal n small) in
    cc

pub returns-in_default : goal.returns-in_default
returns-in_default c =
    let spelt : is_number c.args.field.now ≡ true = cc in
    absurd (c.in_default.ensures.cases.0 (number_is_text c.args.field.now spelt))

pub returns-in-Ok-parse-clause-value : goal.returns-in-Ok-parse-clause-value
returns-in-Ok-parse-clause-value c =
    let same = c.in-Ok.ensures.cases.0 in
    let spelt : is_number c.in-Ok.word.now ≡ true = cc in
    let value = decimal-parsed c.in-Ok.word.now c.parse.result c.parse.ensures.value.0 spelt c.in-Ok-parse.number c.in-Ok-parse.is in
    IfOk-weaker c.within.result _ _ (λ n read. ap decimal read.0 ∙ value ∙ same) c.within.ensures.range

pub returns-in-Ok-parse-clause-reads : goal.returns-in-Ok-parse-clause-reads
returns-in-Ok-parse-clause-reads c = λ n e lo hi.
    let small : n < 2 ^ 64 = omega arith in
    let read = parse-decimal 64 n c.in-Ok.word.now c.parse.result small small (c.in-Ok.ensures.cases.0 ∙ sym e) c.parse.ensures.value.0 in
    let same : c.in-Ok-parse.number ≡ n = cc in
    rw same at (c.within.ensures.reads (rw same lo) (rw same hi))

pub returns-in-Err-clause-reads : goal.returns-in-Err-clause-reads
returns-in-Err-clause-reads c = λ n e lo hi.
    let small : n < 2 ^ 64 = omega arith in
    let read = parse-decimal 64 n c.in-Ok.word.now c.parse.result small small (c.in-Ok.ensures.cases.0 ∙ sym e) c.parse.ensures.value.0 in
    cc
