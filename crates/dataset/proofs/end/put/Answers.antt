use Rattle.std.proofs.Common.{codes, refl, rules, length, map, sum, ap, ◌∙◌}
use Rattle.std.proofs.lemmas.Result.{on_ok_weaker}
use Rattle.dataset.proofs.Texts.{adds-then, adds-number, adds-words}
use Rattle.dataset.proofs.end.put.Goals as goal

pub returns : goal.returns
returns c =
    let rows = c.args.rows.now in
    on_ok_weaker c.push_number-8.result (λ last.
    adds-then (adds-words (codes "END") (codes "END") refl c.in_ok-push.ensures.added)
    (adds-then (adds-number (length rows.items.items) _ (search rules) c.in_ok-push_number.ensures.added)
    (adds-then (adds-number (length rows.warehouses.items) _ (search rules) c.in_ok-push_number-2.ensures.added)
    (adds-then (adds-number (length rows.districts.items) _ (search rules) c.in_ok-push_number-3.ensures.added)
    (adds-then (adds-number (length rows.stocks.items) _ (search rules) c.in_ok-push_number-4.ensures.added)
    (adds-then (adds-number (length rows.customers.items) _ (search rules) c.in_ok-push_number-5.ensures.added)
    (adds-then (adds-number (sum (map length rows.histories.items)) _ (c.count.ensures ∙ ap (λ lists. sum (map length lists)) c.deref.ensures.value) c.in_ok-push_display.ensures.added)
    (adds-then (adds-number (length rows.orders.entries) _ (search rules) c.in_ok-push_number-6.ensures.added)
    (adds-then (adds-number (length rows.new_orders.entries) _ (search rules) c.in_ok-push_number-7.ensures.added)
    (adds-number (length rows.lines) _ (search rules) last)))))))))) c.push_number-8.ensures.added
