use Rattle.std.proofs.Common.{◌<◌, sym, ap, ◌∙◌, subst}
use Rattle.length_word.proofs.Within.{copies}
use Rattle.length_word.proofs.places.copy.Goals as goal

pub split_seat-requires : goal.split_seat-requires
split_seat-requires c =
    let table = sym (ap (λ t. t.shared.table_id) c.deref.ensures) in
    (c.requires.at_table ∙ table, subst (λ t. 0 < t.words) table c.requires.some_word, copies _ _)
