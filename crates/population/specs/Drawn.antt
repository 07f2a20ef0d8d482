-- The first number of a seed.
use Rattle.std.specs.Prelude.{◌≡◌, ℕ, Option, Some}
use Rattle.number_draws.specs.Words.{seeded}
use Rattle.number_draws.specs.Draws.{random_of}
use Rattle.rows.specs.declared.records.Item.{Item}

-- I_IM_ID of the first item is the first number drawn from the seed, 1 to 10,000
abbrev pub IsFirstDrawn : ℕ → Option Item → Type 0
IsFirstDrawn seed item = (row : Item) → item ≡ Some row → row.im_id ≡ random_of 1 10000 (seeded seed)
