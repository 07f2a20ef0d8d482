-- What is dealt from decks.
use Rattle.std.proofs.Common.{◌≡◌, ℕ, zero, suc, ◌+◌, ◌-◌, ◌*◌, ◌/◌, ◌≤◌, List, [], ◌∷◌, ◌++◌, length, drop, refl, ap, ◌∙◌, arith, length-append}
use Rattle.std.specs.Prelude.{All}
use Rattle.std.specs.List.{flat_map}
use Rattle.std.specs.List.Sorted.{IsPermutation}
use Rattle.std.proofs.lemmas.List.{length-replicate, length-take-le, take-append-drop}
use Rattle.std.proofs.lemmas.List.Elements.{All-nil, All-cons}
use Rattle.std.proofs.lemmas.List.Sorted.{IsPermutation-refl, IsPermutation-trans, length_permutation}
use Rattle.rand_pcg.specs.Lcg.{Lcg}
use Rattle.number_draws.specs.Words.{beyond}
use Rattle.number_draws.specs.Draws.{shuffled}
use Rattle.number_draws.proofs.Shuffles.{shuffled-permutation}
use Rattle.workload.specs.declared.kind.Kind.{Kind}
use Rattle.workload.specs.declared.mix.Mix.{Mix}
use Rattle.workload.specs.Decks.{cards_of, decks_drawn, kinds_drawn, AreDealt}

-- how many cards a deck has
pub length-cards : (mix : Mix) → length (cards_of mix) ≡ mix.new_orders + mix.payments + mix.order_statuses + mix.deliveries + mix.stock_levels
unfolding cards_of
length-cards mix = simp (length-append, length-replicate)

-- one at least, and at most 5,000
pub some_cards : (mix : Mix) → (1 ≤ length (cards_of mix)) × (length (cards_of mix) ≤ 5000)
some_cards mix = let limits = mix.limits in let count = length-cards mix in (omega arith, omega arith)

-- the next deck
next-permutation : (deck : List Kind) (generator : Lcg) → 1 ≤ length deck → IsPermutation deck (shuffled (length deck - 1) deck generator)
next-permutation deck generator h = shuffled-permutation (length deck - 1) deck generator (omega arith)

-- decks that follow one that is made of the cards are made of them too
are_decks : (count : ℕ) (cards deck : List Kind) (generator : Lcg) → 1 ≤ length deck → IsPermutation cards deck
    → (decks : List (List Kind)) × All (IsPermutation cards) decks × (decks_drawn count deck generator ≡ flat_map (λ deck. deck) decks)
unfolding decks_drawn
are_decks zero cards deck generator h same = ([], All-nil _, refl)
are_decks (suc count) cards deck generator h same =
    let next = shuffled (length deck - 1) deck generator in
    let once = next-permutation deck generator h in
    let many : 1 ≤ length next = omega (arith, length_permutation deck next once) in
    let made = IsPermutation-trans cards deck next same once in
    let rest = are_decks count cards next (beyond (length deck - 1) generator) many made in
    (next ∷ rest.0, All-cons (IsPermutation cards) next rest.0 made rest.1, ap (λ ks. next ++ ks) rest.2)

length-decks : (count : ℕ) (deck : List Kind) (generator : Lcg) → 1 ≤ length deck → length (decks_drawn count deck generator) ≡ count * length deck
unfolding decks_drawn
length-decks zero deck generator h = omega arith
length-decks (suc count) deck generator h =
    let next = shuffled (length deck - 1) deck generator in
    let after = beyond (length deck - 1) generator in
    let same : length next ≡ length deck = length_permutation deck next (next-permutation deck generator h) in
    let many : 1 ≤ length next = omega arith in
    let rest = length-decks count next after many in
    length-append next (decks_drawn count next after) ∙ (let e : length next + length (decks_drawn count next after) ≡ suc count * length deck = rw rest (rw same (omega arith)) in e)

-- as many decks as it takes are enough
enough : (count size : ℕ) → 1 ≤ size → count ≤ (count + (size - 1)) / size * size
enough count size h = omega arith

pub kinds-count : (mix : Mix) (count : ℕ) (generator : Lcg) → length (kinds_drawn mix count generator) ≡ count
unfolding kinds_drawn
kinds-count mix count generator =
    let cards = cards_of mix in
    let some = (some_cards mix).0 in
    let decks = (count + (length cards - 1)) / length cards in
    let many : count ≤ length (decks_drawn decks cards generator) = omega (arith, length-decks decks cards generator some, enough count (length cards) some) in
    length-take-le count (decks_drawn decks cards generator) many

pub kinds-dealt : (mix : Mix) (count : ℕ) (generator : Lcg) → AreDealt (cards_of mix) (kinds_drawn mix count generator)
unfolding kinds_drawn
kinds-dealt mix count generator =
    let cards = cards_of mix in
    let decks = (count + (length cards - 1)) / length cards in
    let all = decks_drawn decks cards generator in
    let made = are_decks decks cards cards generator (some_cards mix).0 (IsPermutation-refl cards) in
    (made.0, made.1, drop count all, take-append-drop count all ∙ made.2)
