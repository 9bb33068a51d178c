use Rattle.std.proofs.Common.{ℕ, ◌<◌, ◌≤◌, length}
use Rattle.d3d_machine.specs.State.{words_at}
use Rattle.d3d_machine.proofs.words.longest.Given as goal

abbrev pub invariant-loop-list : goal.invariant-loop-list
invariant-loop-list l = (r : ℕ) → r < l.list-index → length (words_at l.lists r) ≤ l.most
