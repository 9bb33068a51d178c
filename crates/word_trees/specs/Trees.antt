-- Trees over words, as lists of nodes: a node, then its left half, then its right half.
use Rattle.std.specs.Prelude.{ℕ, zero, suc, ◌+◌, ◌≡◌, max, List, [], ◌∷◌, ◌++◌, map, take, drop}
use Rattle.word_trees.specs.declared.nodes.Node.{Node}
use Rattle.word_trees.specs.Numbers.{greatest}

-- the words below a node
abbrev pub wide : ℕ → ℕ
wide zero = 1
wide (suc d) = wide d + wide d

-- the nodes of a tree
abbrev pub nodes : ℕ → ℕ
nodes zero = 1
nodes (suc d) = suc (nodes d + nodes d)

-- the numbers of the words
abbrev pub words : ℕ → List Node → List ℕ
words zero [] = []
words zero (x ∷ xs) = x.full ∷ []
words (suc d) [] = []
words (suc d) (x ∷ xs) = map (max x.full) (words d (take (nodes d) xs) ++ words d (drop (nodes d) xs))

-- at each node, `top` is the greatest number of its words, what stands above it left aside
abbrev pub IsTree : ℕ → List Node → Type 0
IsTree zero [] = ⊥
IsTree zero (x ∷ xs) = (x.top ≡ x.full) × (xs ≡ [])
IsTree (suc d) [] = ⊥
IsTree (suc d) (x ∷ xs) = (x.top ≡ greatest (words (suc d) (x ∷ xs))) × IsTree d (take (nodes d) xs) × IsTree d (drop (nodes d) xs)
