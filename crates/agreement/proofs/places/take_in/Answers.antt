use Rattle.std.proofs.Common.{◌<◌, sym, ap, ◌∙◌, subst}
use Rattle.agreement.proofs.Agreeing.{takes_in}
use Rattle.agreement.proofs.places.take_in.Goals as goal

pub join_seat-requires : goal.join_seat-requires
join_seat-requires g c =
    let table = sym (ap (λ t. t.shared.table_id) c.deref.ensures) in
    (c.requires.place.at_table ∙ table, c.requires.beside.at_table ∙ table, c.requires.beside.no_slot, subst (λ t. 0 < t.words) table c.requires.place.some_word, takes_in _ _ _ _ _ _ c.requires.some.0 c.requires.some.1)
