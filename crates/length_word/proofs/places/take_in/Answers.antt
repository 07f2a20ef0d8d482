use Rattle.std.proofs.Common.{◌<◌, sym, ap, ◌∙◌, subst}
use Rattle.length_word.proofs.Within.{notes}
use Rattle.length_word.proofs.places.take_in.Goals as goal

pub join_seat-requires : goal.join_seat-requires
join_seat-requires c =
    let table = sym (ap (λ t. t.shared.table_id) c.deref.ensures) in
    (c.requires.place.at_table ∙ table, c.requires.beside.at_table ∙ table, c.requires.beside.no_slot, subst (λ t. 0 < t.words) table c.requires.place.some_word, notes _ _ _ _)
