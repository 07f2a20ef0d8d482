use Rattle.std.proofs.Common.{◌<◌, length, ap, arith}
use Rattle.std.proofs.lemmas.List.{get_or_default}
use Rattle.tickets.specs.Openings.{opened}
use Rattle.tickets.specs.Places.{place_of}
use Rattle.tickets.specs.Unset.{no_table, nothing}
use Rattle.tickets.proofs.OnePlace.{place_inside}
use Rattle.joint_tests.proofs.tests.slice.an_older_one_waits_and_is_granted.Goals as goal

pub waited_and_granted-recorded-requires-clause-names : goal.waited_and_granted-recorded-requires-clause-names
waited_and_granted-recorded-requires-clause-names g c = λ group d known.
    let openings = c.in_ok-openings.openings.items in
    let here : place_of group < length openings = omega (arith, place_inside c.in_ok-tables.tables.scale.warehouses group known, c.in_ok-openings.ensures.all_there) in
    let same = get_or_default openings (place_of group) (opened no_table no_table nothing) d here in
    (ap (λ o. o.committed) same, ap (λ o. o.work) same)
