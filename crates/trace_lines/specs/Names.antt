-- The names of the objects that a run's output speaks of.
use Rattle.std.specs.Prelude.{ℕ, List, [], slice_get, Some, None}

-- the name of that place; empty where there is none
abbrev pub name_at : List (List ℕ) → ℕ → List ℕ
name_at names i = elim (slice_get names i) [ None ↦ [] | Some name ↦ name ]
