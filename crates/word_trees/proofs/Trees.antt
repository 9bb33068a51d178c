-- the greatest of a range by the nodes of a tree
use Rattle.std.proofs.Common.{ℕ, zero, suc, ◌≤◌, ◌<◌, ◌≡◌, ◌+◌, ◌-◌, ◌/◌, max, List, [], ◌∷◌, ◌++◌, length, map, take, drop, get_or, true, cond, refl, ap, sym, arith, subst, ◌∙◌, ◌⊎◌, inl, inr}
use Rattle.std.proofs.lemmas.List.{length-take, length-drop, length-append}
use Rattle.word_trees.specs.declared.nodes.Node.{Node}
use Rattle.word_trees.specs.Numbers.{most, greatest, some_within}
use Rattle.word_trees.specs.Trees.{wide, nodes, words, IsTree}
use Rattle.word_trees.proofs.Numbers.{most_append, most_after, most_before, most_all, most_map, meets}

length_map : (f : ℕ) (xs : List ℕ) → length (map (max f) xs) ≡ length xs
length_map f [] = refl
length_map f (x ∷ xs) = ap suc (length_map f xs)

pub nodes_wide : (d : ℕ) → suc (nodes d) ≡ wide d + wide d
nodes_wide zero = refl
nodes_wide (suc d) = let h = nodes_wide d in omega (arith, h)

pub wide_some : (d : ℕ) → 0 < wide d
wide_some zero = omega arith
wide_some (suc d) = let h = wide_some d in omega (arith, h)

pub length_words : (d : ℕ) (ns : List Node) → length ns ≡ nodes d → length (words d ns) ≡ wide d
length_words zero [] e = absurd (omega (arith, e))
length_words zero (x ∷ xs) e = refl
length_words (suc d) [] e = absurd (omega (arith, e))
length_words (suc d) (x ∷ xs) e =
    let l : length xs ≡ nodes d + nodes d = omega (arith, e) in
    let t : length (take (nodes d) xs) ≡ nodes d = let h = length-take (nodes d) xs in omega (arith, h, l) in
    let u : length (drop (nodes d) xs) ≡ nodes d = let h = length-drop (nodes d) xs in omega (arith, h, l) in
    let h1 = length_words d (take (nodes d) xs) t in
    let h2 = length_words d (drop (nodes d) xs) u in
    let h3 = length_map x.full (words d (take (nodes d) xs) ++ words d (drop (nodes d) xs)) in
    let h4 = length-append (words d (take (nodes d) xs)) (words d (drop (nodes d) xs)) in
    omega (arith, h1, h2, h3, h4)

pub top_is : (d : ℕ) (ns : List Node) (z : Node) → IsTree d ns → (get_or ns 0 z).top ≡ greatest (words d ns)
top_is zero [] z t = absurd t
top_is zero (x ∷ xs) z t = let h = t.0 in omega (arith, h)
top_is (suc d) [] z t = absurd t
top_is (suc d) (x ∷ xs) z t = t.0

-- a tree that is wider than a word, by its parts
pub record Parts (d : ℕ) (x : Node) (xs : List Node) : Type 0 where
  pub left : length (take (nodes d) xs) ≡ nodes d
  pub right : length (drop (nodes d) xs) ≡ nodes d

parts : (d : ℕ) (x : Node) (xs : List Node) → suc (length xs) ≡ nodes (suc d) → Parts d x xs
parts d x xs e = record {
  left = let h = length-take (nodes d) xs in omega (arith, h, e);
  right = let h = length-drop (nodes d) xs in omega (arith, h, e);
}

pub most_step : (d : ℕ) (ns : List Node) (z : Node) (k a b : ℕ) → IsTree (suc d) ns → length ns ≡ nodes (suc d) → a < b → k < b → a < k + wide (suc d) →
    most k a b (words (suc d) ns) ≡ max (get_or ns 0 z).full (max (most k a b (words d (take (nodes d) (drop 1 ns)))) (most (k + wide d) a b (words d (drop (nodes d) (drop 1 ns)))))
most_step d [] z k a b t e l m n = absurd t
most_step d (x ∷ xs) z k a b t e l m n =
    let p = parts d x xs e in
    let ls : List ℕ = words d (take (nodes d) xs) in
    let rs : List ℕ = words d (drop (nodes d) xs) in
    let hl : length ls ≡ wide d = length_words d (take (nodes d) xs) p.left in
    let hr : length rs ≡ wide d = length_words d (drop (nodes d) xs) p.right in
    let ha = length-append ls rs in
    let s : some_within k a b (ls ++ rs) ≡ true = meets k a b (ls ++ rs) l m (omega (arith, n, hl, hr, ha)) (let g = wide_some d in omega (arith, g, hl, hr, ha)) in
    let h1 = most_map k a b x.full (ls ++ rs) in
    let h2 : most k a b (ls ++ rs) ≡ max (most k a b ls) (most (k + wide d) a b rs) = subst (λ y. most k a b (ls ++ rs) ≡ max (most k a b ls) (most (k + y) a b rs)) hl (most_append k a b ls rs) in
    let h3 : most k a b (map (max x.full) (ls ++ rs)) ≡ max x.full (most k a b (ls ++ rs)) = subst (λ y. most k a b (map (max x.full) (ls ++ rs)) ≡ max (cond y x.full 0) (most k a b (ls ++ rs))) s h1 in
    omega (arith, h2, h3)

pub most_far : (d : ℕ) (ns : List Node) (k a b : ℕ) → length ns ≡ nodes d → b ≤ k ⊎ k + wide d ≤ a → most k a b (words d ns) ≡ 0
most_far d ns k a b e (inl l) = most_after k a b (words d ns) l
most_far d ns k a b e (inr l) = let h = length_words d ns e in most_before k a b (words d ns) (omega (arith, h, l))

pub most_here : (d : ℕ) (ns : List Node) (z : Node) (k a b : ℕ) → IsTree d ns → length ns ≡ nodes d → a ≤ k → k + wide d ≤ b → (get_or ns 0 z).top ≡ most k a b (words d ns)
most_here d ns z k a b t e l m = let h = length_words d ns e in top_is d ns z t ∙ sym (most_all k a b (words d ns) l (omega (arith, h, m)))

-- what the halves of a tree are
pub record Halves (d : ℕ) (ns : List Node) : Type 0 where
  pub left : IsTree d (take (nodes d) (drop 1 ns))
  pub right : IsTree d (drop (nodes d) (drop 1 ns))
  pub nodes_left : length (take (nodes d) (drop 1 ns)) ≡ nodes d
  pub nodes_right : length (drop (nodes d) (drop 1 ns)) ≡ nodes d

pub halves : (d : ℕ) (ns : List Node) → IsTree (suc d) ns → length ns ≡ nodes (suc d) → Halves d ns
halves d [] t e = absurd t
halves d (x ∷ xs) t e = let p = parts d x xs e in record { left = t.1; right = t.2; nodes_left = p.left; nodes_right = p.right }

-- what the code knows of the halves of a tree
pub record Below (d width : ℕ) (ns : List Node) : Type 0 where
  pub half : width / 2 ≡ wide d
  pub split : width - 1 ≡ nodes d
  pub fits : width - 1 ≤ length (drop 1 ns)
  pub left : IsTree d (take (width - 1) (drop 1 ns))
  pub right : IsTree d (drop (width - 1) (drop 1 ns))
  pub nodes_left : length (take (width - 1) (drop 1 ns)) ≡ nodes d
  pub nodes_right : length (drop (width - 1) (drop 1 ns)) ≡ nodes d

below_next : (d width : ℕ) (ns : List Node) → IsTree (suc d) ns → length ns ≡ nodes (suc d) → width ≡ wide (suc d) → Below d width ns
below_next d width ns t e w =
    let h : Halves d ns = halves d ns t e in
    let g = nodes_wide d in
    let s : width - 1 ≡ nodes d = omega (arith, g, w) in
    let l = length-drop 1 ns in
    record {
      half = omega (arith, w);
      split = s;
      fits = omega (arith, l, e, s);
      left = subst (λ y. IsTree d (take y (drop 1 ns))) (sym s) h.left;
      right = subst (λ y. IsTree d (drop y (drop 1 ns))) (sym s) h.right;
      nodes_left = subst (λ y. length (take y (drop 1 ns)) ≡ nodes d) (sym s) h.nodes_left;
      nodes_right = subst (λ y. length (drop y (drop 1 ns)) ≡ nodes d) (sym s) h.nodes_right;
    }

pub below : (d width : ℕ) (ns : List Node) → d ≡ suc (d - 1) → IsTree d ns → length ns ≡ nodes d → width ≡ wide d → Below (d - 1) width ns
below d width ns q t e w =
    below_next (d - 1) width ns (subst (λ x. IsTree x ns) q t) (subst (λ x. length ns ≡ nodes x) q e) (subst (λ x. width ≡ wide x) q w)

pub most_below : (d width : ℕ) (ns : List Node) (z : Node) (k a b : ℕ) → d ≡ suc (d - 1) → IsTree d ns → length ns ≡ nodes d → width ≡ wide d → a < b → k < b → a < k + width →
    most k a b (words d ns) ≡ max (get_or ns 0 z).full
    (max (most k a b (words (d - 1) (take (width - 1) (drop 1 ns)))) (most (k + width / 2) a b (words (d - 1) (drop (width - 1) (drop 1 ns)))))
most_below d width ns z k a b q t e w l m n =
    let h : Below (d - 1) width ns = below d width ns q t e w in
    let g = most_step (d - 1) ns z k a b (subst (λ x. IsTree x ns) q t) (subst (λ x. length ns ≡ nodes x) q e) l m (let w2 = subst (λ x. width ≡ wide x) q w in omega (arith, n, w2)) in
    let g1 = subst (λ x. most k a b (words x ns) ≡ max (get_or ns 0 z).full (max (most k a b (words (d - 1) (take (nodes (d - 1)) (drop 1 ns)))) (most (k + wide (d - 1)) a b (words (d - 1) (drop (nodes (d - 1)) (drop 1 ns)))))) (sym q) g in
    let g2 = subst (λ y. most k a b (words d ns) ≡ max (get_or ns 0 z).full (max (most k a b (words (d - 1) (take y (drop 1 ns)))) (most (k + wide (d - 1)) a b (words (d - 1) (drop y (drop 1 ns)))))) (sym h.split) g1 in
    subst (λ y. most k a b (words d ns) ≡ max (get_or ns 0 z).full (max (most k a b (words (d - 1) (take (width - 1) (drop 1 ns)))) (most (k + y) a b (words (d - 1) (drop (width - 1) (drop 1 ns)))))) (sym h.half) g2

-- the same of the halves by names
pub record Split (d width : ℕ) (ns bs ls rs : List Node) : Type 0 where
  pub below_is : bs ≡ drop 1 ns
  pub left_is : ls ≡ take (width - 1) bs
  pub right_is : rs ≡ drop (width - 1) bs
  pub shape : Below d width ns
  pub tree_left : IsTree d ls
  pub tree_right : IsTree d rs
  pub left : length ls ≡ nodes d
  pub right : length rs ≡ nodes d

pub split : (d width : ℕ) (ns bs ls rs : List Node) → bs ≡ drop 1 ns → ls ≡ take (width - 1) bs → rs ≡ drop (width - 1) bs → Below d width ns → Split d width ns bs ls rs
split d width ns bs ls rs b l r h =
    let l2 : ls ≡ take (width - 1) (drop 1 ns) = subst (λ y. ls ≡ take (width - 1) y) b l in
    let r2 : rs ≡ drop (width - 1) (drop 1 ns) = subst (λ y. rs ≡ drop (width - 1) y) b r in
    record {
      below_is = b;
      left_is = l;
      right_is = r;
      shape = h;
      tree_left = subst (λ y. IsTree d y) (sym l2) h.left;
      tree_right = subst (λ y. IsTree d y) (sym r2) h.right;
      left = subst (λ y. length y ≡ nodes d) (sym l2) h.nodes_left;
      right = subst (λ y. length y ≡ nodes d) (sym r2) h.nodes_right;
    }

pub most_split : (d width : ℕ) (ns bs ls rs : List Node) (z : Node) (k a b : ℕ) → Split (d - 1) width ns bs ls rs → d ≡ suc (d - 1) → IsTree d ns → length ns ≡ nodes d → width ≡ wide d →
    a < b → k < b → a < k + width →
    most k a b (words d ns) ≡ max (get_or ns 0 z).full (max (most k a b (words (d - 1) ls)) (most (k + width / 2) a b (words (d - 1) rs)))
most_split d width ns bs ls rs z k a b s q t e w l m n =
    let l2 : ls ≡ take (width - 1) (drop 1 ns) = subst (λ y. ls ≡ take (width - 1) y) s.below_is s.left_is in
    let r2 : rs ≡ drop (width - 1) (drop 1 ns) = subst (λ y. rs ≡ drop (width - 1) y) s.below_is s.right_is in
    let g = most_below d width ns z k a b q t e w l m n in
    let g1 = subst (λ y. most k a b (words d ns) ≡ max (get_or ns 0 z).full (max (most k a b (words (d - 1) y)) (most (k + width / 2) a b (words (d - 1) (drop (width - 1) (drop 1 ns)))))) (sym l2) g in
    subst (λ y. most k a b (words d ns) ≡ max (get_or ns 0 z).full (max (most k a b (words (d - 1) ls)) (most (k + width / 2) a b (words (d - 1) y)))) (sym r2) g1

-- the range is neither apart from the tree's words nor around them
pub deep_at : (d width low first end : ℕ) → width ≡ wide d → first < end → (low < end) × (first < low + width) → ((first ≤ low) × (low + width ≤ end) → ⊥) → d ≡ suc (d - 1)
deep_at zero width low first end w l n m =
    absurd (m (let h = n.1 in omega (arith, w, h), let h = n.0 in omega (arith, w, h)))
deep_at (suc d) width low first end w l n m = omega arith
