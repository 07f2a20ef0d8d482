use Rattle.std.proofs.Common.{◌∷◌, [], List, map, sym, subst, ◌∙◌}
use Rattle.std.proofs.lemmas.List.{map-append}
use Rattle.schema.specs.Entries.{entry}
use Rattle.dataset.specs.Records.{lines_fields}
use Rattle.dataset.specs.Writing.{Adds}
use Rattle.dataset.proofs.EntriesGiven.{given-all}
use Rattle.dataset.proofs.LinesPut.{lines-added, no-lines}
use Rattle.dataset.proofs.lines.put_all.Goals as goal

pub loop-key-init : goal.loop-key-init
loop-key-init c = no-lines c.args.out.now

pub loop-key-preserved : goal.loop-key-preserved
loop-key-preserved c =
    let adds : List _ → Type 0 = λ es. Adds (lines_fields es) c.args.out.now c.put_line.new.out in
    subst adds (sym (map-append entry c.loop-key.yielded ((c.in-Some.key, c.in-Some.row) ∷ [])))
    (lines-added (map entry c.loop-key.yielded) (c.in-Some.key, c.in-Some.row.now) c.loop-key.invariant c.in_ok-put_line.ensures)

pub returns : goal.returns
returns c =
    subst (λ es. Adds (lines_fields es) c.args.out.now c.loop-key.out)
    (sym (sym c.into_iter-key-iterator.ensures.into_iter_gives ∙ given-all (λ s. s) (λ s r t h. h) c.into_iter-key-iterator.result c.loop-key.yielded c.loop-key.key-iterator c.next.new.self c.loop-key.yielded_by c.in-None.ensures.steps))
    c.loop-key.invariant
