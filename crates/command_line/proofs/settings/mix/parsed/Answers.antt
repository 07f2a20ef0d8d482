use Rattle.std.proofs.Common.{◌≡◌, ◌≤◌, ℕ, length, true, false, None, Some, sym, subst, arith, lit<}
use Rattle.std.specs.Prelude.{IfSome, IsSome, slice_set, slice_index_or, unwrap_or}
use Rattle.std.proofs.lemmas.Iterator.Consumers.{YieldsList-turn, YieldsList-end}
use Rattle.std.proofs.lemmas.Iterator.Splits.{YieldsList-from_str_split}
use Rattle.std.proofs.lemmas.List.{length_push}
use Rattle.command_line.proofs.MixTexts.{Reads, reads-none, reads-more, fails_by_part, fails_by_kind, fails_by_numbers, is_text_of, parts_of}
use Rattle.command_line.proofs.settings.mix.parsed.Goals as goal

pub loop-word-init : goal.loop-word-init
loop-word-init c = reads-none c.args.words.now

pub returns-in_err-place-clause-none : goal.returns-in_err-place-clause-none
returns-in_err-place-clause-none c = λ _.
    let words = c.args.words.now in
    let t = YieldsList-turn (YieldsList-from_str_split {s = c.into_iter-word-iterator.result} 44 words (lit< tt) (cc) (cc) (cc)) c.loop-word.yielded _ c.loop-word.yielded_by _ _ c.in-Some.word c.in-Some.is c.next.ensures.steps in
    fails_by_part words c.loop-word.counts (length c.loop-word.yielded) c.loop-word.invariant c.in-Some.word.now t.0 t.1 (c.cards.ensures.none c.in_err-place.was)

pub returns-then-is_some-clause-none : goal.returns-then-is_some-clause-none
returns-then-is_some-clause-none c = λ _.
    let words = c.args.words.now in
    let t = YieldsList-turn (YieldsList-from_str_split {s = c.into_iter-word-iterator.result} 44 words (lit< tt) (cc) (cc) (cc)) c.loop-word.yielded _ c.loop-word.yielded_by _ _ c.in-Some.word c.in-Some.is c.next.ensures.steps in
    let one = c.in_ok-place.ensures.some in
    fails_by_kind words c.loop-word.counts (length c.loop-word.yielded) c.loop-word.invariant c.in-Some.word.now t.0 t.1 c.in_ok-place.place c.in_ok-place.count one.0 one.1 one.2
    (sym c.if-is_some.ensures)

pub loop-word-preserved : goal.loop-word-preserved
loop-word-preserved c =
    let words = c.args.words.now in
    let t = YieldsList-turn (YieldsList-from_str_split {s = c.into_iter-word-iterator.result} 44 words (lit< tt) (cc) (cc) (cc)) c.loop-word.yielded _ c.loop-word.yielded_by _ _ c.in-Some.word c.in-Some.is c.next.ensures.steps in
    let one = c.in_ok-place.ensures.some in
    let counts = slice_set c.loop-word.counts c.in_ok-place.place (Some c.in_ok-place.count) in
    subst (Reads words counts) (sym (length_push c.loop-word.yielded c.in-Some.word))
    (reads-more words c.loop-word.counts (length c.loop-word.yielded) c.loop-word.invariant c.in-Some.word.now t.0 t.1 c.in_ok-place.place c.in_ok-place.count one.0 one.1 one.2
    (sym c.if-is_some.ensures))

pub returns-clause-value : goal.returns-clause-value
returns-clause-value c =
    let words = c.args.words.now in
    let counts = c.loop-word.counts in
    let t = YieldsList-end (YieldsList-from_str_split {s = c.into_iter-word-iterator.result} 44 words (lit< tt) (cc) (cc) (cc)) c.loop-word.yielded _ c.loop-word.yielded_by _ _ c.in-None.is c.next.ensures.steps in
    let done : length (parts_of words) ≤ length c.loop-word.yielded = omega (arith, t.1) in
    let orders : c.unwrap_or.result ≡ unwrap_or (slice_index_or counts 0 None) 0 = cc in
    let payments : c.unwrap_or-2.result ≡ unwrap_or (slice_index_or counts 1 None) 0 = cc in
    let statuses : c.unwrap_or-3.result ≡ unwrap_or (slice_index_or counts 2 None) 0 = cc in
    let deliveries : c.unwrap_or-4.result ≡ unwrap_or (slice_index_or counts 3 None) 0 = cc in
    let levels : c.unwrap_or-5.result ≡ unwrap_or (slice_index_or counts 4 None) 0 = cc in
    is_text_of words counts (length c.loop-word.yielded) c.loop-word.invariant done c.checked_new.result
    (subst (λ (n : ℕ). IfSome c.checked_new.result (λ mix. mix.new_orders ≡ n)) orders c.checked_new.ensures.new_orders)
    (subst (λ (n : ℕ). IfSome c.checked_new.result (λ mix. mix.payments ≡ n)) payments c.checked_new.ensures.payments)
    (subst (λ (n : ℕ). IfSome c.checked_new.result (λ mix. mix.order_statuses ≡ n)) statuses c.checked_new.ensures.order_statuses)
    (subst (λ (n : ℕ). IfSome c.checked_new.result (λ mix. mix.deliveries ≡ n)) deliveries c.checked_new.ensures.deliveries)
    (subst (λ (n : ℕ). IfSome c.checked_new.result (λ mix. mix.stock_levels ≡ n)) levels c.checked_new.ensures.stock_levels)

pub returns-clause-none : goal.returns-clause-none
returns-clause-none c = λ none.
    let words = c.args.words.now in
    let counts = c.loop-word.counts in
    let t = YieldsList-end (YieldsList-from_str_split {s = c.into_iter-word-iterator.result} 44 words (lit< tt) (cc) (cc) (cc)) c.loop-word.yielded _ c.loop-word.yielded_by _ _ c.in-None.is c.next.ensures.steps in
    let done : length (parts_of words) ≤ length c.loop-word.yielded = omega (arith, t.1) in
    let orders : c.unwrap_or.result ≡ unwrap_or (slice_index_or counts 0 None) 0 = cc in
    let payments : c.unwrap_or-2.result ≡ unwrap_or (slice_index_or counts 1 None) 0 = cc in
    let statuses : c.unwrap_or-3.result ≡ unwrap_or (slice_index_or counts 2 None) 0 = cc in
    let deliveries : c.unwrap_or-4.result ≡ unwrap_or (slice_index_or counts 3 None) 0 = cc in
    let levels : c.unwrap_or-5.result ≡ unwrap_or (slice_index_or counts 4 None) 0 = cc in
    fails_by_numbers words counts (length c.loop-word.yielded) c.loop-word.invariant done
    (λ is. let no : false ≡ true = subst IsSome none (c.checked_new.ensures.fits.1 (
      omega (arith, orders, is.0),
      omega (arith, payments, is.1),
      omega (arith, statuses, is.2),
      omega (arith, deliveries, is.3),
      omega (arith, levels, is.4),
      omega (arith, orders, payments, statuses, deliveries, levels, is.5),
    )) in absurd cc)
