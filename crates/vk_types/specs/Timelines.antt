-- The values of timelines.
use Rattle.std.specs.Prelude.{ℕ, Bool, List, [], ◌∷◌, nat_le, slice_set, slice_index_or}
use Rattle.std.specs.List.{list_all}

-- each of these waits has its value reached (Vulkan 1.3, 7.4.2: waiting on a timeline semaphore)
abbrev pub reached : List ℕ → List (ℕ × ℕ) → Bool
reached timelines waits = list_all (λ (wait : ℕ × ℕ). nat_le wait.1 (slice_index_or timelines wait.0 0)) waits

-- the timelines after some were set (Vulkan 1.3, 7.4.1)
abbrev pub after_sets : List (ℕ × ℕ) → List ℕ → List ℕ
after_sets [] timelines = timelines
after_sets (pair ∷ pairs) timelines = after_sets pairs (slice_set timelines pair.0 pair.1)
