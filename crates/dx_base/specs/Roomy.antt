-- What contracts see of a `Room`.
use Rattle.std.specs.Prelude.{ℕ, List}

-- the items, and how many more can be appended without asking for memory
pub record Roomy (T : Type 0) : Type 0 where
  pub items : List T
  pub spare : ℕ
