use Rattle.std.proofs.Common.{◌<◌, sym, ap, ◌∙◌, subst}
use Rattle.length_word.proofs.Within.{compares}
use Rattle.length_word.proofs.places.compare.Goals as goal

pub load-requires : goal.load-requires
load-requires c =
    let table = sym (ap (λ t. t.shared.table_id) c.deref.ensures) in
    (c.requires.place.at_table ∙ table, subst (λ t. 0 < t.words) table c.requires.place.some_word, compares _ _ _ c.requires.log)
