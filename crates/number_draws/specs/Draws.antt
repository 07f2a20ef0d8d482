-- The drawn numbers, as functions of the words of a generator (clause 2.1.6).
use Rattle.std.specs.Prelude.{ℕ, zero, suc, ◌+◌, ◌-◌, ◌%◌, List, bit_or, swap}
use Rattle.rand_pcg.specs.Lcg.{Lcg}
use Rattle.number_draws.specs.Words.{word, beyond}

-- from low to high, evenly: the remainder of one word by their count
abbrev pub random_of : ℕ → ℕ → Lcg → ℕ
random_of low high generator = low + word generator % (high - low + 1)

-- from low to high, but not evenly (clause 2.1.6: NURand with A = bits and C = constant)
abbrev pub nu_rand_of : ℕ → ℕ → ℕ → ℕ → Lcg → ℕ
nu_rand_of bits constant low high generator =
    low + (bit_or (random_of 0 bits generator) (random_of low high (beyond 1 generator)) + constant) % (high - low + 1)

-- the items after these exchanges: for each place from this one down to 1, the item there and the one at an evenly drawn
-- place up to there
unfoldable pub shuffled : {T : Type 0} → ℕ → List T → Lcg → List T
shuffled zero items generator = items
shuffled (suc place) items generator = shuffled place (swap items (suc place) (random_of 0 (suc place) generator)) (beyond 1 generator)
