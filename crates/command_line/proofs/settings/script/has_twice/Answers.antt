use Rattle.std.proofs.Common.{◌≤◌, ℕ, List, length, map, Bor, sym, arith}
use Rattle.std.proofs.lemmas.List.{length-map}
use Rattle.command_line.proofs.PathLists.{none_twice, one_more}
use Rattle.command_line.proofs.settings.script.has_twice.Goals as goal

pub loop-earlier-preserved : goal.loop-earlier-preserved
loop-earlier-preserved c =
    one_more c.args.files.now c.loop-earlier.earlier-index c.loop-place.place _ _ c.loop-place-test.true c.loop-earlier-test.true (sym c.if-are_one.ensures) c.loop-earlier.invariant

pub returns-clause-once : goal.returns-clause-once
returns-clause-once c = λ _.
    let files = map (λ (file : Bor (List ℕ)). file.now) c.args.files.now in
    let done : length files ≤ c.loop-place.place = omega (arith, c.loop-place-test.false, length-map {A = Bor (List ℕ)} {B = List ℕ} c.args.files.now (λ file. file.now)) in
    none_twice files c.loop-place.place done c.loop-place.invariant
