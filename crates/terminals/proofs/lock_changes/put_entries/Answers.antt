use Rattle.std.proofs.Common.{◌≤◌, ◌<◌, ◌++◌, length, take, flat_map, sym, ap, ◌∙◌}
use Rattle.std.proofs.lemmas.List.{append-nil, append_assoc, take_all}
use Rattle.terminals.specs.LockChanges.{entry_fields}
use Rattle.terminals.proofs.FieldsOfEach.{fields-more}
use Rattle.terminals.proofs.lock_changes.put_entries.Goals as goal

pub loop-entry-init : goal.loop-entry-init
loop-entry-init c = sym (append-nil c.args.row.now)

pub loop-entry-preserved : goal.loop-entry-preserved
loop-entry-preserved c =
    let i = c.loop-entry.entry-index in
    let row = c.args.row.now in
    let one = c.entry-item.result in
    let before = flat_map entry_fields (take i c.args.entries.now) in
    let there : i < length c.args.entries.now = c.loop-entry-test.true in
    let next = fields-more entry_fields i c.args.entries.now one there c.entry-item.is in
    c.in_ok-put_entry.ensures ∙ ap (λ l. l ++ entry_fields one) c.loop-entry.invariant ∙ append_assoc row before (entry_fields one) ∙ ap (λ l. row ++ l) (sym next)

pub returns : goal.returns
returns c =
    let done : length c.args.entries.now ≤ c.loop-entry.entry-index = c.loop-entry-test.false in
    c.loop-entry.invariant ∙ ap (λ l. c.args.row.now ++ flat_map entry_fields l) (take_all c.loop-entry.entry-index c.args.entries.now done)
