use Rattle.std.proofs.Common.{◌≤◌, ◌+◌, length, ◌-◌, ◌⊎◌, sym, subst, arith}
use Rattle.word_trees.proofs.Trees.{most_far, most_here, deep_at, below, split, most_split}
use Rattle.word_trees.proofs.nodes.+greatest.Goals as goal

pub returns-then-is_apart : goal.returns-then-is_apart
returns-then-is_apart t c = record {
  most = sym (most_far c.args.depth c.args.tree.now c.args.low c.args.first c.args.end c.requires.nodes
      (subst (λ w. (c.args.end ≤ c.args.low) ⊎ (c.args.low + w ≤ c.args.first)) c.requires.width (c.is_apart.ensures.apart c.if-is_apart.true)));
}

pub returns-then-is_inside : goal.returns-then-is_inside
returns-then-is_inside t c =
    let h = c.is_inside.ensures.inside c.if-is_inside.true in
    record {
      most = most_here c.args.depth c.args.tree.now _ c.args.low c.args.first c.args.end c.requires.tree c.requires.nodes h.0
          (subst (λ w. c.args.low + w ≤ c.args.end) c.requires.width h.1);
    }

pub split_at-requires-2 : goal.split_at-requires-2
split_at-requires-2 t c =
    subst (λ y. c.args.width - 1 ≤ length y) (sym c.split_at.ensures.back)
    (below c.args.depth c.args.width c.args.tree.now (deep_at c.args.depth c.args.width c.args.low c.args.first c.args.end c.requires.width c.requires.range (c.is_apart.ensures.near c.if-is_apart.false) (c.is_inside.ensures.else_not c.if-is_inside.false)) c.requires.tree c.requires.nodes c.requires.width).fits

pub greatest-before-requires : goal.greatest-before-requires
greatest-before-requires t c =
    let s = (split (c.args.depth - 1) c.args.width c.args.tree.now _ _ _ c.split_at.ensures.back c.split_at-2.ensures.front c.split_at-2.ensures.back
    (below c.args.depth c.args.width c.args.tree.now (deep_at c.args.depth c.args.width c.args.low c.args.first c.args.end c.requires.width c.requires.range (c.is_apart.ensures.near c.if-is_apart.false) (c.is_inside.ensures.else_not c.if-is_inside.false)) c.requires.tree c.requires.nodes c.requires.width)) in let q = (deep_at c.args.depth c.args.width c.args.low c.args.first c.args.end c.requires.width c.requires.range (c.is_apart.ensures.near c.if-is_apart.false) (c.is_inside.ensures.else_not c.if-is_inside.false)) in let d = c.decreases in let w = c.requires.width in let p = c.requires.places in
    (omega (arith, q, d), (s.tree_left, (s.left, (s.shape.half, (omega (arith, p), c.requires.range)))))

pub greatest-behind-requires : goal.greatest-behind-requires
greatest-behind-requires t c =
    let s = (split (c.args.depth - 1) c.args.width c.args.tree.now _ _ _ c.split_at.ensures.back c.split_at-2.ensures.front c.split_at-2.ensures.back
    (below c.args.depth c.args.width c.args.tree.now (deep_at c.args.depth c.args.width c.args.low c.args.first c.args.end c.requires.width c.requires.range (c.is_apart.ensures.near c.if-is_apart.false) (c.is_inside.ensures.else_not c.if-is_inside.false)) c.requires.tree c.requires.nodes c.requires.width)) in let q = (deep_at c.args.depth c.args.width c.args.low c.args.first c.args.end c.requires.width c.requires.range (c.is_apart.ensures.near c.if-is_apart.false) (c.is_inside.ensures.else_not c.if-is_inside.false)) in let d = c.decreases in let p = c.requires.places in
    (omega (arith, q, d), (s.tree_right, (s.right, (s.shape.half, (omega (arith, p), c.requires.range)))))

pub returns : goal.returns
returns t c =
    let n = c.is_apart.ensures.near c.if-is_apart.false in
    let h = most_split c.args.depth c.args.width c.args.tree.now c.split_at.result.1.now c.split_at-2.result.0.now c.split_at-2.result.1.now (record { full = 0; top = 0 }) c.args.low c.args.first c.args.end
    (split (c.args.depth - 1) c.args.width c.args.tree.now _ _ _ c.split_at.ensures.back c.split_at-2.ensures.front c.split_at-2.ensures.back
    (below c.args.depth c.args.width c.args.tree.now (deep_at c.args.depth c.args.width c.args.low c.args.first c.args.end c.requires.width c.requires.range (c.is_apart.ensures.near c.if-is_apart.false) (c.is_inside.ensures.else_not c.if-is_inside.false)) c.requires.tree c.requires.nodes c.requires.width)) (deep_at c.args.depth c.args.width c.args.low c.args.first c.args.end c.requires.width c.requires.range (c.is_apart.ensures.near c.if-is_apart.false) (c.is_inside.ensures.else_not c.if-is_inside.false)) c.requires.tree c.requires.nodes c.requires.width c.requires.range n.0 n.1 in
    let g1 = c.greatest-before.ensures.most in let g2 = c.greatest-behind.ensures.most in let m1 = c.max.ensures in let m2 = c.max-2.ensures in
    record { most = omega (arith, h, g1, g2, m1, m2) }
