use Rattle.std.proofs.Common.{◌≡◌, ◌≤◌, ◌<◌, ◌+◌, ◌*◌, ◌-◌}
use Rattle.word_trees.specs.Trees.{wide}
use Rattle.word_trees.proofs.table.Table.new.Given as goal

abbrev pub invariant-loop-width : goal.invariant-loop-width
invariant-loop-width l = (l.width ≡ wide l.depth) × (l.depth < l.width) × (l.width ≤ 2097152) × (l.width ≤ 2 * l.count + 1)

abbrev pub decreases-loop-width : goal.decreases-loop-width
decreases-loop-width l = l.count - l.width
