use Rattle.std.proofs.Common.{◌<◌, sym, ap, ◌∙◌, subst}
use Rattle.agreement.proofs.Agreeing.{refills}
use Rattle.agreement.proofs.places.refill.Goals as goal

pub join_seat-requires : goal.join_seat-requires
join_seat-requires g c =
    let table = sym (ap (λ t. t.shared.table_id) c.deref.ensures) in
    (c.requires.place.at_table ∙ table, c.requires.beside.at_table ∙ table, c.requires.beside.no_slot, subst (λ t. 0 < t.words) table c.requires.place.some_word, refills _ _ _ _ _ _ c.requires.some)
