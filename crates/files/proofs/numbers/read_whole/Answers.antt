use Rattle.std.proofs.Common.{◌≡◌, ◌<◌, ◌^◌, true, sym, ◌∙◌, arith}
use Rattle.std.proofs.lemmas.Fmt.{decimal_injective}
use Rattle.files.specs.Number.{is_number}
use Rattle.files.proofs.Numerals.{is_number-decimal}
use Rattle.files.proofs.numbers.read_whole.Goals as goal

pub returns-in-Some-clause-reads : goal.returns-in-Some-clause-reads
returns-in-Some-clause-reads c = λ n e lo hi.
    let spelt = c.in-Some.ensures in
    let small : n < 2 ^ 64 = omega arith in
    let same : c.in-Some.number ≡ n = decimal_injective c.in-Some.number n spelt.1 small (spelt.0 ∙ sym e) in
    rw same at (c.within.ensures.reads (rw same lo) (rw same hi))

pub returns-in-Some-clause-not_of_kind : goal.returns-in-Some-clause-not_of_kind
returns-in-Some-clause-not_of_kind c =
    let spelt = c.in-Some.ensures in
    let number : is_number c.args.field.now ≡ true = rw spelt.0 at (is_number-decimal c.in-Some.number spelt.1) in (
      λ bad. let kind = rw bad at c.within.ensures.faults in cc,
      λ no. cc,
    )
