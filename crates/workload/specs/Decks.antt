-- The decks of cards from which the kinds of requests are dealt (clause 5.2.4.2).
use Rattle.std.specs.Prelude.{◌≡◌, ℕ, zero, suc, ◌+◌, ◌-◌, ◌/◌, List, [], ◌++◌, length, take, replicate, All}
use Rattle.std.specs.List.{flat_map}
use Rattle.std.specs.List.Sorted.{IsPermutation}
use Rattle.rand_pcg.specs.Lcg.{Lcg}
use Rattle.number_draws.specs.Words.{beyond}
use Rattle.number_draws.specs.Draws.{shuffled}
use Rattle.workload.specs.declared.kind.Kind.{Kind}
use Rattle.workload.specs.declared.kind.Kind.TheVariants.{NewOrder, Payment, OrderStatus, Delivery, StockLevel}
use Rattle.workload.specs.declared.mix.Mix.{Mix}

-- the cards of a deck before its first shuffle, sorted by kind
unfoldable pub cards_of : Mix → List Kind
cards_of mix =
    replicate mix.new_orders NewOrder ++ replicate mix.payments Payment ++ replicate mix.order_statuses OrderStatus
    ++ replicate mix.deliveries Delivery ++ replicate mix.stock_levels StockLevel

-- The kinds are dealt from whole decks, one after another; each deck is these cards in some order. The remaining cards
-- of the last deck are not dealt.
abbrev pub AreDealt : List Kind → List Kind → Type 0
AreDealt cards kinds = (decks : List (List Kind)) × All (IsPermutation cards) decks × (left : List Kind) × (kinds ++ left ≡ flat_map (λ deck. deck) decks)

-- `count` decks, one after another: each is the one before, shuffled
unfoldable pub decks_drawn : ℕ → List Kind → Lcg → List Kind
decks_drawn zero deck generator = []
decks_drawn (suc count) deck generator =
    let next = shuffled (length deck - 1) deck generator in
    next ++ decks_drawn count next (beyond (length deck - 1) generator)

-- the kinds of `count` requests: the first cards of as many decks as needed
unfoldable pub kinds_drawn : Mix → ℕ → Lcg → List Kind
kinds_drawn mix count generator =
    let cards = cards_of mix in
    take count (decks_drawn ((count + (length cards - 1)) / length cards) cards generator)
