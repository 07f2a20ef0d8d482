use Rattle.std.proofs.Common.{◌≡◌, ◌+◌, ◌<◌, List, [], ◌∷◌, ◌++◌, length, set, sym, ap, ◌∙◌, subst}
use Rattle.length_word.specs.LengthView.{length_view}
use Rattle.commit_log.specs.declared.entry.Entry.{Entry}
use Rattle.commit_log.specs.Items.{entry_of, item, items_of, mine_of}
use Rattle.commit_log.specs.Kept.{IsBookOf, book_names, seat_at}
use Rattle.commit_log.proofs.Booking.{book_more, recorded}
use Rattle.commit_log.proofs.log_book.LogBook.log.Goals as goal

pub note-requires-clause-log : goal.note-requires-clause-log
note-requires-clause-log g c =
    let recorded = recorded _ _ _ _ _ c.self.invariant c.pass.inside.session c.index_mut.result.now c.pass.invariant.some_session c.index_mut.ensures.value in
    recorded ∙ ap (λ t. seat_at t.agreement.table t.value) (sym recorded)

pub note-requires-clause-pass : goal.note-requires-clause-pass
note-requires-clause-pass g c =
    let recorded = recorded _ _ _ _ _ c.self.invariant c.pass.inside.session c.index_mut.result.now c.pass.invariant.some_session c.index_mut.ensures.value in
    c.pass.invariant.mine_of_session ∙ ap (λ t. seat_at t.agreement.table c.pass.inside.mine.value) (sym recorded)

pub invariant_of-self : goal.invariant_of-self
invariant_of-self g c =
    let book = c.self.invariant in
    let session = c.pass.inside.session in
    let entries = c.self.inside.entries.items in
    let entry : Entry = entry_of session c.args.number c.args.request c.args.reply in
    let recorded = recorded _ _ _ _ _ book session c.index_mut.result.now c.pass.invariant.some_session c.index_mut.ensures.value in
    let place : c.entries-place.result ≡ length entries = c.entries-place.ensures ∙ ap (λ w. w.entries) book.recorded_length in
    let longer : c.reach_one_more.new.length ≡ length_view g.J.LogNames.length (length entries + 1) =
    c.reach_one_more.ensures.length ∙ ap (λ w. length_view w.table (w.entries + 1)) book.recorded_length in
    let seat : c.note.new.log ≡ seat_at (g.J.LogNames.mine session) (mine_of (items_of session entries ++ item (length entries) c.args.number c.args.request c.args.reply ∷ [])) =
    c.note.ensures.log
    ∙ ap (λ t. seat_at t.agreement.table (mine_of (t.value.items ++ item c.entries-place.result c.args.number c.args.request c.args.reply ∷ []))) recorded
    ∙ ap (λ n. seat_at (g.J.LogNames.mine session) (mine_of (items_of session entries ++ item n c.args.number c.args.request c.args.reply ∷ []))) place in
    let below : length entries < c.self.inside.most = subst (λ n. length entries < n) (sym book.limit) (subst (λ b. length b.entries < g.J.LogNames.most) (sym c.self.view_is) c.requires.below) in
    subst (λ (es : List Entry). IsBookOf (book_names g.J.LogNames.most g.J.LogNames.length g.J.LogNames.mine) c.self.inside.most es c.reach_one_more.new.length (set c.self.inside.mine.items session c.note.new.log)) (sym c.push_reserved.ensures.items)
    (book_more _ _ _ _ _ book entry c.note.new.log c.reach_one_more.new.length c.pass.invariant.some_session below longer seat)
