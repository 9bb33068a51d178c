-- The words of all resources, each as a cell of memory.
use Rattle.std.specs.Prelude.{ℕ, Bool, ◌==◌, ◌&&◌}
use Rattle.dx_base.specs.declared.ids.ResourceId.{ResourceId}

-- a word of a subresource
pub record Cell : Type 0 where
  pub resource : ResourceId
  pub sub : ℕ
  pub word : ℕ

abbrev pub cell : ResourceId → ℕ → ℕ → Cell
cell resource sub word = record { resource = resource; sub = sub; word = word }

-- two cells are the same
abbrev pub same_cell : Cell → Cell → Bool
same_cell a b = (a.resource.0 == b.resource.0) && ((a.sub == b.sub) && (a.word == b.word))
