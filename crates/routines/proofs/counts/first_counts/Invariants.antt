-- The first numbers.
use Rattle.std.proofs.Common.{◌≡◌, ℕ, ◌<◌, ◌%◌, ◌^◌, length}
use Rattle.routines.specs.Puts.{number_at}
use Rattle.routines.proofs.counts.first_counts.Given as goal

abbrev pub invariant-loop-k : goal.invariant-loop-k
invariant-loop-k l =
    (length l.counts ≡ l.k) × ((j : ℕ) → j < l.k → number_at l.counts j ≡ number_at l.numbers j % 2 ^ 32)
