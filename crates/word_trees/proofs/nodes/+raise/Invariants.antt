use Rattle.word_trees.proofs.nodes.+raise.Given as goal

abbrev pub decreases-raise : goal.decreases-raise
decreases-raise l = l.depth
