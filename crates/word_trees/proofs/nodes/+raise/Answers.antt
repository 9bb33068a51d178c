use Rattle.std.proofs.Common.{◌≤◌, ◌+◌, length, ◌-◌, ◌⊎◌, sym, subst, arith, refl}
use Rattle.word_trees.proofs.Trees.{deep_at, below, split}
use Rattle.word_trees.proofs.Raised.{raised_far, here_words, here_tree, join_split}
use Rattle.word_trees.proofs.nodes.+raise.Goals as goal

pub returns-then-is_apart-clause-words : goal.returns-then-is_apart-clause-words
returns-then-is_apart-clause-words t c =
    raised_far c.args.depth c.args.tree.now c.args.low c.args.first c.args.end c.args.number c.requires.nodes
    (subst (λ w. (c.args.end ≤ c.args.low) ⊎ (c.args.low + w ≤ c.args.first)) c.requires.width (c.is_apart.ensures.apart c.if-is_apart.true))

pub returns-then-is_inside-clause-words : goal.returns-then-is_inside-clause-words
returns-then-is_inside-clause-words t c =
    let h = c.is_inside.ensures.inside c.if-is_inside.true in
    here_words c.args.depth c.args.tree.now _ _ c.args.low c.args.first c.args.end c.args.number (record { full = 0; top = 0 }) c.requires.tree c.requires.nodes h.0
    (subst (λ w. c.args.low + w ≤ c.args.end) c.requires.width h.1) c.max-full.ensures

pub returns-then-is_inside-clause-tree : goal.returns-then-is_inside-clause-tree
returns-then-is_inside-clause-tree t c =
    let h = c.is_inside.ensures.inside c.if-is_inside.true in
    here_tree c.args.depth c.args.tree.now _ _ c.args.low c.args.first c.args.end c.args.number (record { full = 0; top = 0 }) c.requires.tree c.requires.nodes h.0
    (subst (λ w. c.args.low + w ≤ c.args.end) c.requires.width h.1) c.max-full.ensures c.max-top.ensures

pub split_at_mut-left-requires : goal.split_at_mut-left-requires
split_at_mut-left-requires t c =
    subst (λ y. c.args.width - 1 ≤ length y) (sym c.split_at_mut-root.ensures.back) (below c.args.depth c.args.width c.args.tree.now (deep_at c.args.depth c.args.width c.args.low c.args.first c.args.end c.requires.width c.requires.range (c.is_apart.ensures.near c.if-is_apart.false) (c.is_inside.ensures.else_not c.if-is_inside.false)) c.requires.tree c.requires.nodes c.requires.width).fits

pub raise-requires : goal.raise-requires
raise-requires t c =
    let s = (split (c.args.depth - 1) c.args.width c.args.tree.now _ _ _ c.split_at_mut-root.ensures.back c.split_at_mut-left.ensures.front c.split_at_mut-left.ensures.back
    (below c.args.depth c.args.width c.args.tree.now (deep_at c.args.depth c.args.width c.args.low c.args.first c.args.end c.requires.width c.requires.range (c.is_apart.ensures.near c.if-is_apart.false) (c.is_inside.ensures.else_not c.if-is_inside.false)) c.requires.tree c.requires.nodes c.requires.width)) in let q = (deep_at c.args.depth c.args.width c.args.low c.args.first c.args.end c.requires.width c.requires.range (c.is_apart.ensures.near c.if-is_apart.false) (c.is_inside.ensures.else_not c.if-is_inside.false)) in let d = c.decreases in let p = c.requires.places in
    (omega (arith, q, d), (s.tree_left, (s.left, (s.shape.half, (omega (arith, p), c.requires.range)))))

pub raise-requires-2 : goal.raise-requires-2
raise-requires-2 t c =
    let s = (split (c.args.depth - 1) c.args.width c.args.tree.now _ _ _ c.split_at_mut-root.ensures.back c.split_at_mut-left.ensures.front c.split_at_mut-left.ensures.back
    (below c.args.depth c.args.width c.args.tree.now (deep_at c.args.depth c.args.width c.args.low c.args.first c.args.end c.requires.width c.requires.range (c.is_apart.ensures.near c.if-is_apart.false) (c.is_inside.ensures.else_not c.if-is_inside.false)) c.requires.tree c.requires.nodes c.requires.width)) in let q = (deep_at c.args.depth c.args.width c.args.low c.args.first c.args.end c.requires.width c.requires.range (c.is_apart.ensures.near c.if-is_apart.false) (c.is_inside.ensures.else_not c.if-is_inside.false)) in let d = c.decreases in let p = c.requires.places in
    (omega (arith, q, d), (s.tree_right, (s.right, (s.shape.half, (omega (arith, p), c.requires.range)))))

pub returns-clause-words : goal.returns-clause-words
returns-clause-words t c =
    let n = c.is_apart.ensures.near c.if-is_apart.false in
    (join_split c.args.depth c.args.width c.args.tree.now _ _ _ _ _ _ _ _ c.args.low c.args.first c.args.end c.args.number (record { full = 0; top = 0 })
    (split (c.args.depth - 1) c.args.width c.args.tree.now _ _ _ c.split_at_mut-root.ensures.back c.split_at_mut-left.ensures.front c.split_at_mut-left.ensures.back
    (below c.args.depth c.args.width c.args.tree.now (deep_at c.args.depth c.args.width c.args.low c.args.first c.args.end c.requires.width c.requires.range (c.is_apart.ensures.near c.if-is_apart.false) (c.is_inside.ensures.else_not c.if-is_inside.false)) c.requires.tree c.requires.nodes c.requires.width))
    (deep_at c.args.depth c.args.width c.args.low c.args.first c.args.end c.requires.width c.requires.range (c.is_apart.ensures.near c.if-is_apart.false) (c.is_inside.ensures.else_not c.if-is_inside.false)) c.requires.tree c.requires.nodes c.requires.width c.split_at_mut-root.ensures.front c.raise.ensures.nodes refl c.max-top.ensures
    c.raise.ensures.words c.raise-2.ensures.words c.raise.ensures.tree c.raise-2.ensures.tree c.requires.range n.0 n.1).words

pub returns-clause-tree : goal.returns-clause-tree
returns-clause-tree t c =
    let n = c.is_apart.ensures.near c.if-is_apart.false in
    (join_split c.args.depth c.args.width c.args.tree.now _ _ _ _ _ _ _ _ c.args.low c.args.first c.args.end c.args.number (record { full = 0; top = 0 })
    (split (c.args.depth - 1) c.args.width c.args.tree.now _ _ _ c.split_at_mut-root.ensures.back c.split_at_mut-left.ensures.front c.split_at_mut-left.ensures.back
    (below c.args.depth c.args.width c.args.tree.now (deep_at c.args.depth c.args.width c.args.low c.args.first c.args.end c.requires.width c.requires.range (c.is_apart.ensures.near c.if-is_apart.false) (c.is_inside.ensures.else_not c.if-is_inside.false)) c.requires.tree c.requires.nodes c.requires.width))
    (deep_at c.args.depth c.args.width c.args.low c.args.first c.args.end c.requires.width c.requires.range (c.is_apart.ensures.near c.if-is_apart.false) (c.is_inside.ensures.else_not c.if-is_inside.false)) c.requires.tree c.requires.nodes c.requires.width c.split_at_mut-root.ensures.front c.raise.ensures.nodes refl c.max-top.ensures
    c.raise.ensures.words c.raise-2.ensures.words c.raise.ensures.tree c.raise-2.ensures.tree c.requires.range n.0 n.1).tree
