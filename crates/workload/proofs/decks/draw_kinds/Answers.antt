use Rattle.std.proofs.Common.{◌≡◌, ◌+◌, ◌-◌, ◌/◌, ◌≤◌, ◌++◌, List, [], length, take, sym, ap, ◌∙◌, arith}
use Rattle.std.proofs.lemmas.List.{append_assoc, append-nil}
use Rattle.std.proofs.lemmas.List.Sorted.{length_permutation}
use Rattle.workload.specs.declared.kind.Kind.{Kind}
use Rattle.workload.specs.Decks.{cards_of, decks_drawn, kinds_drawn}
use Rattle.workload.proofs.Dealt.{some_cards}
use Rattle.workload.proofs.Scripts.{decks-first, decks-none}
use Rattle.workload.proofs.decks.draw_kinds.Goals as goal

pub overflow_sub-decks : goal.overflow_sub-decks
overflow_sub-decks c = let same = ap length (c.as_mut_slice-cards.ensures.value ∙ c.in_ok-deck.ensures) in let some = some_cards c.args.mix in omega arith

pub nonzero_div-decks : goal.nonzero_div-decks
nonzero_div-decks c = let same = ap length (c.as_mut_slice-cards.ensures.value ∙ c.in_ok-deck.ensures) in let some = some_cards c.args.mix in omega arith

pub shuffle-requires : goal.shuffle-requires
shuffle-requires c =
    let same = ap length (c.as_mut_slice-cards.ensures.value ∙ c.in_ok-deck.ensures) in
    let some = some_cards c.args.mix in
    let size = c.loop.invariant.size in omega arith

pub loop-preserved : goal.loop-preserved
loop-preserved c =
    let size = length c.as_mut_slice-cards.result.now in
    let decks = (c.from.result + (size - 1)) / size in
    let left = decks - c.loop.counter in
    let some : 1 ≤ left = omega arith in
    let next = c.shuffle.new.items in
    let after = c.shuffle.new.self in
    let kinds = c.loop.kinds.items in
    let first = decks-first left c.loop.cards next c.loop.draws after some c.shuffle.ensures.value c.shuffle.ensures.generator in
    let less : decks - (c.loop.counter + 1) ≡ left - 1 = omega arith in
    record {
      dealt =
          ap (λ ks. ks ++ decks_drawn (decks - (c.loop.counter + 1)) next after) c.in_ok-extend_from_slice.ensures.items
          ∙ append_assoc kinds next (decks_drawn (decks - (c.loop.counter + 1)) next after)
          ∙ ap (λ n. kinds ++ (next ++ decks_drawn n next after)) less
          ∙ ap (λ ks. kinds ++ ks) (sym first)
          ∙ c.loop.invariant.dealt;
      size = length_permutation c.loop.cards next c.shuffle.ensures.permutation ∙ c.loop.invariant.size;
    }

pub returns : goal.returns
unfolding kinds_drawn
returns c =
    let cards = c.as_mut_slice-cards.result.now in
    let same : cards ≡ cards_of c.args.mix = c.as_mut_slice-cards.ensures.value ∙ c.in_ok-deck.ensures in
    let size = length cards in
    let decks = (c.from.result + (size - 1)) / size in
    let none : decks_drawn (decks - c.loop.counter) c.loop.cards c.loop.draws ≡ [] = decks-none (decks - c.loop.counter) c.loop.cards c.loop.draws (omega arith) in
    let all : c.loop.kinds.items ≡ decks_drawn decks cards c.args.draws.now =
    sym (append-nil c.loop.kinds.items) ∙ ap (λ ks. c.loop.kinds.items ++ ks) (sym none) ∙ c.loop.invariant.dealt in
    let count = c.args.count in
    let drawn : List Kind → List Kind = λ deck. take count (decks_drawn ((count + (length deck - 1)) / length deck) deck c.args.draws.now) in
    c.truncate.ensures.items ∙ ap (take count) all
    ∙ ap (λ n. take count (decks_drawn ((n + (size - 1)) / size) cards c.args.draws.now)) c.from.ensures
    ∙ ap drawn same
