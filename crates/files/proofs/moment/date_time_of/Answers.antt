use Rattle.std.proofs.Common.{◌≡◌, pos, ◌*ℤ◌, arith, FitsSigned}
use Rattle.std.specs.Int.{w128}
use Rattle.std.proofs.lemmas.Int.{ints, to_z-of_z}
use Rattle.files.proofs.Moments.{whole_seconds}
use Rattle.files.proofs.moment.date_time_of.Goals as goal

pub returns-clause-second : goal.returns-clause-second
returns-clause-second c =
    let from : c.from-nanoseconds.result ≡ pos c.args.moment = cc in
    let high = c.seconds.ensures.high in
    let fits : FitsSigned w128 c.from-nanoseconds.result = rw from (omega (arith, ints)) in
    let product_fits : FitsSigned w128 (c.from-nanoseconds.result *ℤ pos 1_000_000_000) = rw from (omega (arith, ints)) in
    let nanos = simp to_z-of_z at c.from_nanosecond_in_range.ensures in
    (whole_seconds c.from_nanosecond_in_range.result c.args.moment (rw from at nanos)).0

pub returns-clause-whole : goal.returns-clause-whole
returns-clause-whole c =
    let from : c.from-nanoseconds.result ≡ pos c.args.moment = cc in
    let high = c.seconds.ensures.high in
    let fits : FitsSigned w128 c.from-nanoseconds.result = rw from (omega (arith, ints)) in
    let product_fits : FitsSigned w128 (c.from-nanoseconds.result *ℤ pos 1_000_000_000) = rw from (omega (arith, ints)) in
    let nanos = simp to_z-of_z at c.from_nanosecond_in_range.ensures in
    (whole_seconds c.from_nanosecond_in_range.result c.args.moment (rw from at nanos)).1
