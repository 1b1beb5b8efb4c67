-- The tape of a seed (chosen by this project). The generator is defined by the crate rand_pcg.
use Rattle.std.specs.Prelude.{ℕ, ◌%◌, List, map}
use Rattle.rand_core.specs.Steps.{first_words}
use Rattle.rand_core.specs.Pcg32Seed.{pcg32_seed}
use Rattle.rand_pcg.specs.Lcg.{Lcg}
use Rattle.rand_pcg.specs.Pcg.{pcg32, pcg32_of_seed}

-- the generator `Lcg64Xsh32::seed_from_u64(seed)`
abbrev pub seeded : ℕ → Lcg
seeded seed = pcg32_of_seed (pcg32_seed 16 seed)

-- the lowest byte of each of the generator's first 256 words
abbrev pub tape_of : ℕ → List ℕ
tape_of seed = map (λ word. word % 256) (first_words pcg32 256 (seeded seed))
