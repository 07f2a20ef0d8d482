-- The limits of the number of cards in a deck.
use Rattle.std.specs.Prelude.{ℕ, ◌+◌, ◌≤◌}

-- at most 1,000 cards of each kind, and at least one in all
abbrev pub IsMix : ℕ → ℕ → ℕ → ℕ → ℕ → Type 0
IsMix new_orders payments order_statuses deliveries stock_levels =
    (new_orders ≤ 1000) × (payments ≤ 1000) × (order_statuses ≤ 1000) × (deliveries ≤ 1000) × (stock_levels ≤ 1000)
    × (1 ≤ new_orders + payments + order_statuses + deliveries + stock_levels)
