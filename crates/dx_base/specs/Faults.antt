-- Counts of faults, which a source, a sink and a device keep.
use Rattle.std.specs.Prelude.{ℕ, ◌≤◌, ◌<◌, ◌^◌, ◌-◌}

-- the count rose, or stands at the end of its type
pub record HasRisen (before now : ℕ) : Type 0 where
  pub kept : before ≤ now
  pub rose : before < 2 ^ 64 - 1 → before < now
