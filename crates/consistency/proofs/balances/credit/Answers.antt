use Rattle.std.proofs.Common.{◌≡◌, ◌+◌, ◌*◌, ◌<◌, ◌^◌, get_or, length, Some, sym, ◌∙◌, arith}
use Rattle.std.proofs.lemmas.Int.{ints}
use Rattle.std.specs.Prelude.{pos}
use Rattle.schema.specs.Scale.{customer_slot}
use Rattle.consistency.specs.Totals.{IsWithin}
use Rattle.consistency.proofs.BalancesTotals.{there, totals-set, within-set, within-more}
use Rattle.consistency.proofs.balances.credit.Goals as goal

pub overflow_add-totals : goal.overflow_add-totals
overflow_add-totals c =
    let totals = c.args.totals.now in
    let slot = c.in-Some.slot in
    let at : customer_slot c.args.scale c.args.customer ≡ Some slot = sym c.customer_slot.ensures ∙ c.in-Some.is in
    let below : slot < length totals = c.requires.room c.args.customer slot at in
    let had : IsWithin (3 * 2 ^ 125) (get_or totals slot (pos 0)) = c.requires.within slot _ (there totals slot below) in
    omega (arith, ints)

pub returns-in-Some-clause-added : goal.returns-in-Some-clause-added
returns-in-Some-clause-added c =
    let totals = c.args.totals.now in
    let slot = c.in-Some.slot in
    let at : customer_slot c.args.scale c.args.customer ≡ Some slot = sym c.customer_slot.ensures ∙ c.in-Some.is in
    let below : slot < length totals = c.requires.room c.args.customer slot at in
    let had : IsWithin (3 * 2 ^ 125) (get_or totals slot (pos 0)) = c.requires.within slot _ (there totals slot below) in
    totals-set c.args.scale totals c.args.customer slot at below c.args.amount _ (omega (arith, ints))

pub returns-in-Some-clause-within : goal.returns-in-Some-clause-within
returns-in-Some-clause-within c =
    let totals = c.args.totals.now in
    let slot = c.in-Some.slot in
    let at : customer_slot c.args.scale c.args.customer ≡ Some slot = sym c.customer_slot.ensures ∙ c.in-Some.is in
    let below : slot < length totals = c.requires.room c.args.customer slot at in
    let had : IsWithin (3 * 2 ^ 125) (get_or totals slot (pos 0)) = c.requires.within slot _ (there totals slot below) in
    within-set c.args.scale totals c.args.customer slot at below c.args.amount _ (omega (arith, ints)) c.requires.amount

pub returns-in_default-clause-within : goal.returns-in_default-clause-within
returns-in_default-clause-within c = λ limit h. within-more limit (limit + 2 ^ 50) c.args.totals.now (omega arith) h
