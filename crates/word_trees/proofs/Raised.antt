-- raising the words of a tree by its nodes
use Rattle.std.proofs.Common.{ℕ, zero, suc, ◌≤◌, ◌<◌, ◌≡◌, ◌+◌, ◌-◌, ◌/◌, max, List, [], ◌∷◌, ◌++◌, length, map, take, drop, get_or, slice_set, cond, refl, ap, sym, arith, subst, ◌∙◌, ◌⊎◌, inl, inr}
use Rattle.std.proofs.Math.Seq.{take-append_seam, drop-append_seam}
use Rattle.word_trees.specs.declared.nodes.Node.{Node}
use Rattle.word_trees.specs.Numbers.{raised, greatest}
use Rattle.word_trees.specs.Trees.{wide, nodes, words, IsTree}
use Rattle.word_trees.proofs.Numbers.{meets, raised_append, raised_after, raised_before, raised_all, raised_map, greatest_raised}
use Rattle.word_trees.proofs.Trees.{length_words, wide_some, halves, Halves, Split}

pub raised_far : (d : ℕ) (ns : List Node) (k a b n : ℕ) → length ns ≡ nodes d → b ≤ k ⊎ k + wide d ≤ a → words d ns ≡ raised k a b n (words d ns)
raised_far d ns k a b n e (inl l) = sym (raised_after k a b n (words d ns) l)
raised_far d ns k a b n e (inr l) = let h = length_words d ns e in sym (raised_before k a b n (words d ns) (omega (arith, h, l)))

map_two : (n g f : ℕ) (xs : List ℕ) → f ≡ max g n → map (max f) xs ≡ map (max n) (map (max g) xs)
map_two n g f [] e = refl
map_two n g f (x ∷ xs) e =
    let h : max f x ≡ max n (max g x) = omega (arith, e) in
    ap (λ y. y ∷ map (max f) xs) h ∙ ap (λ t. max n (max g x) ∷ t) (map_two n g f xs e)

pub here_words : (d : ℕ) (ns : List Node) (f t k a b n : ℕ) (z : Node) → IsTree d ns → length ns ≡ nodes d → a ≤ k → k + wide d ≤ b → f ≡ max (get_or ns 0 z).full n →
    words d (slice_set ns 0 (record { full = f; top = t })) ≡ raised k a b n (words d ns)
here_words zero [] f t k a b n z s e l m g = absurd s
here_words zero (x ∷ xs) f t k a b n z s e l m g =
    let h : f ≡ max n x.full = omega (arith, g) in
    ap (λ y. y ∷ []) h ∙ sym (raised_all k a b n (x.full ∷ []) l m)
here_words (suc d) [] f t k a b n z s e l m g = absurd s
here_words (suc d) (x ∷ xs) f t k a b n z s e l m g =
    let h = length_words (suc d) (x ∷ xs) e in
    map_two n x.full f (words d (take (nodes d) xs) ++ words d (drop (nodes d) xs)) g ∙ sym (raised_all k a b n (words (suc d) (x ∷ xs)) l (omega (arith, h, m)))

raised_top : (k a b n : ℕ) (xs : List ℕ) → a < b → k < b → a < k + length xs → 0 < length xs → greatest (raised k a b n xs) ≡ max n (greatest xs)
raised_top k a b n xs l m q p =
    subst (λ y. greatest (raised k a b n xs) ≡ max (cond y n 0) (greatest xs)) (meets k a b xs l m q p) (greatest_raised k a b n xs)

pub here_tree : (d : ℕ) (ns : List Node) (f t k a b n : ℕ) (z : Node) → IsTree d ns → length ns ≡ nodes d → a ≤ k → k + wide d ≤ b → f ≡ max (get_or ns 0 z).full n → t ≡ max (get_or ns 0 z).top n →
    IsTree d (slice_set ns 0 (record { full = f; top = t }))
here_tree zero [] f t k a b n z s e l m g q = absurd s
here_tree zero (x ∷ xs) f t k a b n z s e l m g q = let h = s.0 in (omega (arith, g, q, h), s.1)
here_tree (suc d) [] f t k a b n z s e l m g q = absurd s
here_tree (suc d) (x ∷ xs) f t k a b n z s e l m g q =
    let w = here_words (suc d) (x ∷ xs) f t k a b n z s e l m g in
    let h = length_words (suc d) (x ∷ xs) e in
    let p = wide_some (suc d) in
    let r = raised_top k a b n (words (suc d) (x ∷ xs)) (omega (arith, l, m, p)) (omega (arith, l, m, p)) (omega (arith, h, l, p)) (omega (arith, h, p)) in
    let r2 = s.0 in
    let r3 : t ≡ greatest (raised k a b n (words (suc d) (x ∷ xs))) = omega (arith, r, r2, q) in
    (subst (λ y. t ≡ greatest y) (sym w) r3, s.1, s.2)

-- a tree from its root and its raised halves
pub join_words : (d : ℕ) (ns ls rs : List Node) (f t k a b n : ℕ) (z : Node) → IsTree (suc d) ns → length ns ≡ nodes (suc d) → length ls ≡ nodes d → f ≡ (get_or ns 0 z).full →
    words d ls ≡ raised k a b n (words d (take (nodes d) (drop 1 ns))) → words d rs ≡ raised (k + wide d) a b n (words d (drop (nodes d) (drop 1 ns))) →
    words (suc d) ((record { full = f; top = t }) ∷ (ls ++ rs)) ≡ raised k a b n (words (suc d) ns)
join_words d [] ls rs f t k a b n z s e l g u v = absurd s
join_words d (x ∷ xs) ls rs f t k a b n z s e l g u v =
    let h : Halves d (x ∷ xs) = halves d (x ∷ xs) s e in
    let wl : List ℕ = words d (take (nodes d) xs) in
    let wr : List ℕ = words d (drop (nodes d) xs) in
    let hl : length wl ≡ wide d = length_words d (take (nodes d) xs) h.nodes_left in
    let i1 : take (nodes d) (ls ++ rs) ≡ ls = subst (λ y. take y (ls ++ rs) ≡ ls) l (take-append_seam ls rs) in
    let i2 : drop (nodes d) (ls ++ rs) ≡ rs = subst (λ y. drop y (ls ++ rs) ≡ rs) l (drop-append_seam ls rs) in
    let j : raised k a b n (wl ++ wr) ≡ raised k a b n wl ++ raised (k + wide d) a b n wr = subst (λ y. raised k a b n (wl ++ wr) ≡ raised k a b n wl ++ raised (k + y) a b n wr) hl (raised_append k a b n wl wr) in
    let c1 : words d (take (nodes d) (ls ++ rs)) ++ words d (drop (nodes d) (ls ++ rs)) ≡ raised k a b n (wl ++ wr) =
    ap (λ y. words d y ++ words d (drop (nodes d) (ls ++ rs))) i1 ∙ ap (λ y. words d ls ++ words d y) i2 ∙ ap (λ y. y ++ words d rs) u ∙ ap (λ y. raised k a b n wl ++ y) v ∙ sym j in
    ap (λ y. map (max f) y) c1 ∙ ap (λ y. map (max y) (raised k a b n (wl ++ wr))) g ∙ sym (raised_map k a b n x.full (wl ++ wr))

pub join_tree : (d : ℕ) (ns ls rs : List Node) (f t k a b n : ℕ) (z : Node) → IsTree (suc d) ns → length ns ≡ nodes (suc d) → length ls ≡ nodes d → f ≡ (get_or ns 0 z).full → t ≡ max (get_or ns 0 z).top n →
    words d ls ≡ raised k a b n (words d (take (nodes d) (drop 1 ns))) → words d rs ≡ raised (k + wide d) a b n (words d (drop (nodes d) (drop 1 ns))) →
    IsTree d ls → IsTree d rs → a < b → k < b → a < k + wide (suc d) →
    IsTree (suc d) ((record { full = f; top = t }) ∷ (ls ++ rs))
join_tree d [] ls rs f t k a b n z s e l g q u v tl tr o m w = absurd s
join_tree d (x ∷ xs) ls rs f t k a b n z s e l g q u v tl tr o m w =
    let c = join_words d (x ∷ xs) ls rs f t k a b n z s e l g u v in
    let h = length_words (suc d) (x ∷ xs) e in
    let p = wide_some (suc d) in
    let r = raised_top k a b n (words (suc d) (x ∷ xs)) o m (omega (arith, h, w)) (omega (arith, h, p)) in
    let r2 = s.0 in
    let r3 : t ≡ greatest (raised k a b n (words (suc d) (x ∷ xs))) = omega (arith, r, r2, q) in
    let i1 : take (nodes d) (ls ++ rs) ≡ ls = subst (λ y. take y (ls ++ rs) ≡ ls) l (take-append_seam ls rs) in
    let i2 : drop (nodes d) (ls ++ rs) ≡ rs = subst (λ y. drop y (ls ++ rs) ≡ rs) l (drop-append_seam ls rs) in
    (subst (λ y. t ≡ greatest y) (sym c) r3, subst (λ y. IsTree d y) (sym i1) tl, subst (λ y. IsTree d y) (sym i2) tr)

root_is : (ns root : List Node) (f t : ℕ) (rest : List Node) → root ≡ take 1 ns → 0 < length ns →
    slice_set root 0 (record { full = f; top = t }) ++ rest ≡ (record { full = f; top = t }) ∷ rest
root_is [] root f t rest e l = absurd (omega (arith, l))
root_is (x ∷ xs) root f t rest e l = subst (λ y. slice_set y 0 (record { full = f; top = t }) ++ rest ≡ (record { full = f; top = t }) ∷ rest) (sym e) refl

-- the same in the names of the code
pub record Joined (d : ℕ) (old new : List Node) (k a b n : ℕ) : Type 0 where
  pub words : words d new ≡ raised k a b n (words d old)
  pub tree : IsTree d new

pub join_split : (d width : ℕ) (ns root bs ls rs ls2 rs2 : List Node) (f t k a b n : ℕ) (z : Node) → Split (d - 1) width ns bs ls rs → d ≡ suc (d - 1) → IsTree d ns → length ns ≡ nodes d → width ≡ wide d →
    root ≡ take 1 ns → length ls2 ≡ nodes (d - 1) → f ≡ (get_or ns 0 z).full → t ≡ max (get_or ns 0 z).top n →
    words (d - 1) ls2 ≡ raised k a b n (words (d - 1) ls) → words (d - 1) rs2 ≡ raised (k + width / 2) a b n (words (d - 1) rs) →
    IsTree (d - 1) ls2 → IsTree (d - 1) rs2 → a < b → k < b → a < k + width →
    Joined d ns (slice_set root 0 (record { full = f; top = t }) ++ (ls2 ++ rs2)) k a b n
join_split d width ns root bs ls rs ls2 rs2 f t k a b n z p q s e w ro l g h u v tl tr o m x =
    let s1 = subst (λ y. IsTree y ns) q s in
    let e1 = subst (λ y. length ns ≡ nodes y) q e in
    let w1 = subst (λ y. width ≡ wide y) q w in
    let sp = p.shape.split in
    let hf = p.shape.half in
    let le : ls ≡ take (nodes (d - 1)) (drop 1 ns) = subst (λ y. ls ≡ take y (drop 1 ns)) sp (subst (λ y. ls ≡ take (width - 1) y) p.below_is p.left_is) in
    let re : rs ≡ drop (nodes (d - 1)) (drop 1 ns) = subst (λ y. rs ≡ drop y (drop 1 ns)) sp (subst (λ y. rs ≡ drop (width - 1) y) p.below_is p.right_is) in
    let u1 : words (d - 1) ls2 ≡ raised k a b n (words (d - 1) (take (nodes (d - 1)) (drop 1 ns))) = subst (λ y. words (d - 1) ls2 ≡ raised k a b n (words (d - 1) y)) le u in
    let v1 : words (d - 1) rs2 ≡ raised (k + wide (d - 1)) a b n (words (d - 1) (drop (nodes (d - 1)) (drop 1 ns))) =
    subst (λ y. words (d - 1) rs2 ≡ raised (k + y) a b n (words (d - 1) (drop (nodes (d - 1)) (drop 1 ns)))) hf (subst (λ y. words (d - 1) rs2 ≡ raised (k + width / 2) a b n (words (d - 1) y)) re v) in
    let c = join_words (d - 1) ns ls2 rs2 f t k a b n z s1 e1 l g u1 v1 in
    let c2 = join_tree (d - 1) ns ls2 rs2 f t k a b n z s1 e1 l g h u1 v1 tl tr o m (omega (arith, w1, x)) in
    let r : slice_set root 0 (record { full = f; top = t }) ++ (ls2 ++ rs2) ≡ (record { full = f; top = t }) ∷ (ls2 ++ rs2) = root_is ns root f t (ls2 ++ rs2) ro (omega (arith, e1)) in
    record {
      words = subst (λ y. words d y ≡ raised k a b n (words d ns)) (sym r) (subst (λ y. words y ((record { full = f; top = t }) ∷ (ls2 ++ rs2)) ≡ raised k a b n (words y ns)) (sym q) c);
      tree = subst (λ y. IsTree d y) (sym r) (subst (λ y. IsTree y ((record { full = f; top = t }) ∷ (ls2 ++ rs2))) (sym q) c2);
    }
