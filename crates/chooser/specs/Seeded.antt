-- The numbers of a generator that is made from a number, as a chooser gives them.
use Rattle.std.specs.Prelude.{ℕ, zero, suc, List, Option, None, Some}
use Rattle.rand_core.specs.Pcg32Seed.{pcg32_seed}
use Rattle.rand_pcg.specs.Lcg.{Lcg}
use Rattle.rand_pcg.specs.Pcg.{pcg64, pcg64_of_seed}

-- a chooser of the numbers of a generator
pub record PcgView : Type 0 where
  pub started : Option ℕ
  -- the numbers given since the last start
  pub given : List ℕ

-- the number that the generator is made from: before any start, 0
abbrev pub seed_of : Option ℕ → ℕ
seed_of None = 0
seed_of (Some number) = number

-- the generator that is made from a number
unfoldable pub seeded : ℕ → Lcg
seeded number = pcg64_of_seed (pcg32_seed 32 number)

-- the same, after it gave k words
unfoldable pub seeded_after : ℕ → ℕ → Lcg
seeded_after number zero = seeded number
seeded_after number (suc k) = (pcg64 (seeded_after number k)).1

-- its word at a place, counted from 0
unfoldable pub seeded_word : ℕ → ℕ → ℕ
seeded_word number k = (pcg64 (seeded_after number k)).0
