use Rattle.std.proofs.Common.{◌<◌, sym, ap, ◌∙◌, subst}
use Rattle.agreement.proofs.Agreeing.{cuts}
use Rattle.agreement.proofs.places.hand_back.Goals as goal

pub split_seat-requires : goal.split_seat-requires
split_seat-requires g c =
    let table = sym (ap (λ t. t.shared.table_id) c.deref.ensures) in
    (c.requires.place.at_table ∙ table, subst (λ t. 0 < t.words) table c.requires.place.some_word, cuts _ _ _ _ c.requires.enough)
