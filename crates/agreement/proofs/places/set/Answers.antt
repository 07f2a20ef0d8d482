use Rattle.std.proofs.Common.{◌<◌, sym, ap, ◌∙◌, subst}
use Rattle.agreement.specs.Rule.{first_or}
use Rattle.agreement.proofs.Agreeing.{sets}
use Rattle.agreement.proofs.places.set.Goals as goal

pub load-requires : goal.load-requires
load-requires g c =
    let table = sym (ap (λ t. t.shared.table_id) c.deref.ensures) in
    (c.requires.place.at_table ∙ table, subst (λ t. 0 < t.words) table c.requires.place.some_word, sets _ _ _ _ 0 (λ n. n) (first_or c.args.place.now.me.0.value g.J.Chosen.value) c.requires.place.some_share c.requires.all)
