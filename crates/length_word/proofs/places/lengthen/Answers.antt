use Rattle.std.proofs.Common.{◌<◌, sym, ap, ◌∙◌, subst}
use Rattle.length_word.proofs.Within.{grows}
use Rattle.length_word.proofs.places.lengthen.Goals as goal

pub store-requires : goal.store-requires
store-requires c =
    let table = sym (ap (λ t. t.shared.table_id) c.deref.ensures) in
    (c.requires.place.at_table ∙ table, subst (λ t. 0 < t.words) table c.requires.place.some_word, grows _ _ _ _ c.requires.log (c.from.ensures ∙ c.requires.next))
