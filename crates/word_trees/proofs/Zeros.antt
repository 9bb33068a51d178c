-- a tree of zeros
use Rattle.std.proofs.Common.{ℕ, zero, suc, ◌≤◌, ◌<◌, ◌≡◌, ◌+◌, ◌*◌, ◌-◌, ◌^◌, max, List, ◌∷◌, ◌++◌, length, map, take, drop, replicate, refl, ap, sym, arith, subst, ◌∙◌}
use Rattle.std.proofs.lemmas.List.{length-replicate}
use Rattle.std.proofs.Math.Seq.{take-append_seam, drop-append_seam}
use Rattle.word_trees.specs.declared.nodes.Node.{Node}
use Rattle.word_trees.specs.Numbers.{greatest}
use Rattle.word_trees.specs.Trees.{wide, nodes, words, IsTree}
use Rattle.word_trees.specs.Tables.{IsTable}
use Rattle.word_trees.proofs.Trees.{nodes_wide}

replicate_add : {A : Type 0} (x : A) (m n : ℕ) → replicate (m + n) x ≡ replicate m x ++ replicate n x
replicate_add x zero n = ap (λ k. replicate k x) (let e : 0 + n ≡ n = omega arith in e)
replicate_add x (suc m) n = let e : suc m + n ≡ suc (m + n) = omega arith in subst (λ k. replicate k x ≡ x ∷ (replicate m x ++ replicate n x)) (sym e) (ap (λ t. x ∷ t) (replicate_add x m n))

take_zeros : {A : Type 0} (x : A) (m n : ℕ) → take m (replicate (m + n) x) ≡ replicate m x
take_zeros x m n = subst (λ ys. take m ys ≡ replicate m x) (sym (replicate_add x m n)) (subst (λ k. take k (replicate m x ++ replicate n x) ≡ replicate m x) (length-replicate m x) (take-append_seam (replicate m x) (replicate n x)))

drop_zeros : {A : Type 0} (x : A) (m n : ℕ) → drop m (replicate (m + n) x) ≡ replicate n x
drop_zeros x m n = subst (λ ys. drop m ys ≡ replicate n x) (sym (replicate_add x m n)) (subst (λ k. drop k (replicate m x ++ replicate n x) ≡ replicate n x) (length-replicate m x) (drop-append_seam (replicate m x) (replicate n x)))

map_zeros : (n : ℕ) → map (max 0) (replicate n 0) ≡ replicate n 0
map_zeros zero = refl
map_zeros (suc n) = ap (λ t. 0 ∷ t) (map_zeros n)

greatest_zeros : (n : ℕ) → greatest (replicate n 0) ≡ 0
greatest_zeros zero = refl
greatest_zeros (suc n) = let h = greatest_zeros n in omega (arith, h)

abbrev no_node : Node
no_node = record { full = 0; top = 0 }

words_zeros : (d : ℕ) → words d (replicate (nodes d) (record { full = 0; top = 0 })) ≡ replicate (wide d) 0
words_zeros zero = refl
words_zeros (suc d) =
    ap (λ ys. map (max 0) (words d ys ++ words d (drop (nodes d) (replicate (nodes d + nodes d) no_node)))) (take_zeros no_node (nodes d) (nodes d))
    ∙ ap (λ ys. map (max 0) (words d (replicate (nodes d) no_node) ++ words d ys)) (drop_zeros no_node (nodes d) (nodes d))
    ∙ ap (λ ys. map (max 0) (ys ++ ys)) (words_zeros d)
    ∙ ap (λ ys. map (max 0) ys) (sym (replicate_add 0 (wide d) (wide d)))
    ∙ map_zeros (wide d + wide d)

tree_zeros : (d : ℕ) → IsTree d (replicate (nodes d) (record { full = 0; top = 0 }))
tree_zeros zero = (refl, refl)
tree_zeros (suc d) = (
  sym (ap greatest (words_zeros (suc d)) ∙ greatest_zeros (wide d + wide d)),
  subst (λ ys. IsTree d ys) (sym (take_zeros no_node (nodes d) (nodes d))) (tree_zeros d),
  subst (λ ys. IsTree d ys) (sym (drop_zeros no_node (nodes d) (nodes d))) (tree_zeros d),
)

count_is : (d w : ℕ) → w ≡ wide d → 2 * w - 1 ≡ nodes d
count_is d w e = let h = nodes_wide d in omega (arith, h, e)

pub zero_table : (d w : ℕ) → w ≡ wide d → w < 2 ^ 62 → IsTable d w (replicate (2 * w - 1) (record { full = 0; top = 0 }))
zero_table d w e l = record {
  tree = subst (λ k. IsTree d (replicate k no_node)) (sym (count_is d w e)) (tree_zeros d);
  count = length-replicate (2 * w - 1) no_node ∙ count_is d w e;
  width_is = e;
  small = l;
}

pub zero_words : (d w : ℕ) → w ≡ wide d → words d (replicate (2 * w - 1) (record { full = 0; top = 0 })) ≡ replicate w 0
zero_words d w e = subst (λ k. words d (replicate k no_node) ≡ replicate w 0) (sym (count_is d w e)) (subst (λ k. words d (replicate (nodes d) no_node) ≡ replicate k 0) (sym e) (words_zeros d))

pub zero_items : (d w : ℕ) (ns : List Node) → ns ≡ replicate (2 * w - 1) (record { full = 0; top = 0 }) → w ≡ wide d → words d ns ≡ replicate (length (words d ns)) 0
zero_items d w ns i e =
    let h : words d ns ≡ replicate w 0 = ap (λ ys. words d ys) i ∙ zero_words d w e in
    h ∙ ap (λ k. replicate k 0) (sym (ap length h ∙ length-replicate w 0))

pub zero_room : (d w n : ℕ) (ns : List Node) → ns ≡ replicate (2 * w - 1) (record { full = 0; top = 0 }) → w ≡ wide d → n ≤ w → n ≤ length (words d ns)
zero_room d w n ns i e l =
    let h : words d ns ≡ replicate w 0 = ap (λ ys. words d ys) i ∙ zero_words d w e in
    subst (λ ys. n ≤ length ys) (sym h) (subst (λ k. n ≤ k) (sym (length-replicate w 0)) l)

pub zero_waste : (d w n : ℕ) (ns : List Node) → ns ≡ replicate (2 * w - 1) (record { full = 0; top = 0 }) → w ≡ wide d → w ≤ n → length (words d ns) ≤ n
zero_waste d w n ns i e l =
    let h : words d ns ≡ replicate w 0 = ap (λ ys. words d ys) i ∙ zero_words d w e in
    subst (λ ys. length ys ≤ n) (sym h) (subst (λ k. k ≤ n) (sym (length-replicate w 0)) l)
