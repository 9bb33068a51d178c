-- What the parts of a table are.
use Rattle.std.specs.Prelude.{ℕ, ◌≡◌, ◌<◌, ◌^◌, List, length}
use Rattle.word_trees.specs.declared.nodes.Node.{Node}
use Rattle.word_trees.specs.Trees.{wide, nodes, IsTree}

pub record IsTable (depth width : ℕ) (ns : List Node) : Type 0 where
  pub tree : IsTree depth ns
  pub count : length ns ≡ nodes depth
  pub width_is : width ≡ wide depth
  pub small : width < 2 ^ 62
