use Rattle.std.proofs.Common.{◌<◌, sym, ap, ◌∙◌, subst}
use Rattle.agreement.proofs.Agreeing.{looks}
use Rattle.agreement.proofs.places.look_round.Goals as goal

pub load-requires : goal.load-requires
load-requires g c =
    let table = sym (ap (λ t. t.shared.table_id) c.deref.ensures) in
    (c.requires.place.at_table ∙ table, subst (λ t. 0 < t.words) table c.requires.place.some_word, looks _ _ _ _ 0 (λ n. n) c.requires.some)
