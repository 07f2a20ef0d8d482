-- The words of a generator, and those of a seed.
use Rattle.std.specs.Prelude.{ℕ, zero, suc}
use Rattle.rand_core.specs.Pcg32Seed.{pcg32_seed}
use Rattle.rand_pcg.specs.Lcg.{Lcg}
use Rattle.rand_pcg.specs.Pcg.{pcg64, pcg64_of_seed}

-- the generator of a seed
unfoldable pub seeded : ℕ → Lcg
seeded seed = pcg64_of_seed (pcg32_seed 32 seed)

-- the generator's next word, of 64 bits
unfoldable pub word : Lcg → ℕ
word generator = (pcg64 generator).0

-- the generator after this number of words
unfoldable pub beyond : ℕ → Lcg → Lcg
beyond zero generator = generator
beyond (suc count) generator = beyond count (pcg64 generator).1
