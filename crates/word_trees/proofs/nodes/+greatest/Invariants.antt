use Rattle.word_trees.proofs.nodes.+greatest.Given as goal

abbrev pub decreases-greatest : goal.decreases-greatest
decreases-greatest l = l.depth
