-- A table tells as much as the full list of touches.
use Rattle.std.proofs.Common.{ℕ, zero, suc, ◌≤◌, ◌<◌, ◌≡◌, ◌+◌, ◌==◌, ◌&&◌, ◌||◌, nat_le, nat_lt, max, min, List, [], ◌∷◌, ◌++◌, length, replicate, Bool, true, false, not, cond, refl, ap, sym, arith, subst, ◌∙◌, inl, inr}
use Rattle.std.proofs.lemmas.Bool.{cases_lt}
use Rattle.std.proofs.lemmas.List.{length-replicate}
use Rattle.std.specs.List.{list_any}
use Rattle.clocks.specs.declared.clock.Clock.{Clock}
use Rattle.clocks.specs.Clocks.{Act, OfQueue, OfThread, number, knows}
use Rattle.word_trees.specs.Numbers.{within, most, raised}
use Rattle.word_trees.proofs.Numbers.{length_raised}
use Rattle.d3d_judge.specs.Commands.{Range}
use Rattle.d3d_judge.specs.Tables.{number_of, is_of_queue, is_of_thread, conflicts_in, table, shares, unknown_in, table_unknown, AllInside, any_below, OfQueues, OfThreads, queue_unknown, thread_unknown}
use Rattle.d3d_judge.specs.Touches.{Touch, conflict, meets, is_operation, breaks_one, breaks_ten}

-- both ranges have the place
both : (k a b c d : ℕ) → (within k a b && within k c d) ≡ (within k (max a c) (min b d))
both k a b c d = grind arith

head_max : (t u v : Bool) (x n m : ℕ) → max (cond t (cond u (max n x) x) 0) (max (cond v n 0) m) ≡ max (cond ((t && u) || v) n 0) (max (cond t x 0) m)
head_max true true true x n m = omega arith
head_max true true false x n m = omega arith
head_max true false true x n m = omega arith
head_max true false false x n m = omega arith
head_max false true true x n m = omega arith
head_max false true false x n m = omega arith
head_max false false true x n m = omega arith
head_max false false false x n m = omega arith

-- a range that begins at a place or later
shift : (k a b : ℕ) → (within k a b || nat_lt (max a (suc k)) b) ≡ nat_lt (max a k) b
shift k a b = grind arith

pub most_raised : (k a b c d n : ℕ) (xs : List ℕ) → d ≤ k + length xs →
    most k a b (raised k c d n xs) ≡ max (cond (nat_lt (max (max a c) k) (min b d)) n 0) (most k a b xs)
most_raised k a b c d n [] l = let h : nat_lt (max (max a c) k) (min b d) ≡ false = grind (arith, l) in rw h refl
most_raised k a b c d n (x ∷ xs) l =
    rw (most_raised (suc k) a b c d n xs (omega (arith, l)))
    (head_max (within k a b) (within k c d) (nat_lt (max (max a c) (suc k)) (min b d)) x n (most (suc k) a b xs)
    ∙ ap (λ t. max (cond (t || nat_lt (max (max a c) (suc k)) (min b d)) n 0) (max (cond (within k a b) x 0) (most (suc k) a b xs))) (both k a b c d)
    ∙ ap (λ t. max (cond t n 0) (max (cond (within k a b) x 0) (most (suc k) a b xs))) (shift k (max a c) (min b d)))

above : (t : Bool) (known n m : ℕ) → nat_lt known (max (cond t n 0) m) ≡ ((t && not (nat_le n known)) || nat_lt known m)
above true known n m = grind arith
above false known n m = grind arith

or_false : (a : Bool) → (a || false) ≡ a
or_false true = refl
or_false false = refl

swap_or : (a b c : Bool) → (a || (b || c)) ≡ ((b || a) || c)
swap_or true true c = refl
swap_or true false c = refl
swap_or false true c = refl
swap_or false false c = refl

pub table_length : (pick : Touch → Bool) (p : Bool) (m : Touch) (zs : List ℕ) →
    length (cond p (raised 0 m.range.first (m.range.first + m.range.words) (number_of m.act) zs) zs) ≡ length zs
table_length pick true m zs = length_raised 0 m.range.first (m.range.first + m.range.words) (number_of m.act) zs
table_length pick false m zs = refl

-- one touch more in a table
one_more : (p : Bool) (known : ℕ) (r : Range) (m : Touch) (zs : List ℕ) → (p ≡ true → m.range.first + m.range.words ≤ length zs) →
    table_unknown known r (cond p (raised 0 m.range.first (m.range.first + m.range.words) (number_of m.act) zs) zs)
    ≡ ((p && (shares m.range r && not (nat_le (number_of m.act) known))) || table_unknown known r zs)
one_more false known r m zs h = refl
one_more true known r m zs h =
    let a = most_raised 0 r.first (r.first + r.words) m.range.first (m.range.first + m.range.words) (number_of m.act) zs (let l = h refl in omega (arith, l)) in
    let s : nat_lt (max (max r.first m.range.first) 0) (min (r.first + r.words) (m.range.first + m.range.words)) ≡ shares m.range r = grind arith in
    ap (λ y. nat_lt known y) a ∙ above (nat_lt (max (max r.first m.range.first) 0) (min (r.first + r.words) (m.range.first + m.range.words))) known (number_of m.act) (most 0 r.first (r.first + r.words) zs)
    ∙ ap (λ t. (t && not (nat_le (number_of m.act) known)) || table_unknown known r zs) s

pub tie_from : (pick : Touch → Bool) (known : ℕ) (r : Range) (made : List Touch) (zs : List ℕ) → AllInside pick (length zs) made →
    table_unknown known r (table pick made zs) ≡ (unknown_in pick known r made || table_unknown known r zs)
tie_from pick known r [] zs i = refl
tie_from pick known r (m ∷ ms) zs i =
    let next : List ℕ = cond (pick m) (raised 0 m.range.first (m.range.first + m.range.words) (number_of m.act) zs) zs in
    let l : length next ≡ length zs = table_length pick (pick m) m zs in
    let h = tie_from pick known r ms next (subst (λ n. AllInside pick n ms) (sym l) i.1) in
    let one = one_more (pick m) known r m zs i.0 in
    h ∙ ap (λ y. unknown_in pick known r ms || y) one
    ∙ swap_or (unknown_in pick known r ms) (pick m && (shares m.range r && not (nat_le (number_of m.act) known))) (table_unknown known r zs)

same_cond : (t : Bool) (z : ℕ) → cond t z z ≡ z
same_cond true z = refl
same_cond false z = refl

most_zeros : (k a b n : ℕ) → most k a b (replicate n 0) ≡ 0
most_zeros k a b zero = refl
most_zeros k a b (suc n) = let h = most_zeros (suc k) a b n in let g = same_cond (within k a b) 0 in omega (arith, h, g)

pub tie : (pick : Touch → Bool) (known : ℕ) (r : Range) (made : List Touch) (n : ℕ) → AllInside pick n made →
    unknown_in pick known r made ≡ table_unknown known r (table pick made (replicate n 0))
tie pick known r made n i =
    let h = tie_from pick known r made (replicate n 0) (subst (λ l. AllInside pick l made) (sym (length-replicate n 0)) i) in
    let z : table_unknown known r (replicate n 0) ≡ false = rw (most_zeros 0 r.first (r.first + r.words) n) (grind arith) in
    sym (h ∙ ap (λ y. unknown_in pick known r made || y) z ∙ or_false (unknown_in pick known r made))

pub table_append : (pick : Touch → Bool) (made : List Touch) (t : Touch) (zs : List ℕ) →
    table pick (made ++ t ∷ []) zs ≡ cond (pick t) (raised 0 t.range.first (t.range.first + t.range.words) (number_of t.act) (table pick made zs)) (table pick made zs)
table_append pick [] t zs = refl
table_append pick (m ∷ ms) t zs = table_append pick ms t (cond (pick m) (raised 0 m.range.first (m.range.first + m.range.words) (number_of m.act) zs) zs)

-- the only number that passes
any_none : (n : ℕ) (f : ℕ → Bool) → ((q : ℕ) → f q ≡ false) → any_below n f ≡ false
any_none zero f h = refl
any_none (suc n) f h = rw (h n) (any_none n f h)

pub any_same : (n : ℕ) (f g : ℕ → Bool) → ((q : ℕ) → f q ≡ g q) → any_below n f ≡ any_below n g
any_same zero f g h = refl
any_same (suc n) f g h = rw (h n) (ap (λ t. g n || t) (any_same n f g h))

pub is_same : (p q : ℕ) → p ≡ q → (p == q) ≡ true
is_same p q e = grind (arith, e)

pub is_other : (p q : ℕ) → (p ≡ q → ⊥) → (p == q) ≡ false
is_other p q n = grind (arith, n)

any_past : (n p : ℕ) (g : ℕ → Bool) → n ≤ p → any_below n (λ q. (p == q) && g q) ≡ false
any_past zero p g l = refl
any_past (suc n) p g l = rw (is_other p n (λ e. absurd (omega (arith, e, l)))) (any_past n p g (omega (arith, l)))

or_four : (a b c d : Bool) → ((a || b) || (c || d)) ≡ ((a || c) || (b || d))
or_four true b c d = refl
or_four false true true d = refl
or_four false true false d = refl
or_four false false c d = refl

any_or : (n : ℕ) (f g : ℕ → Bool) → (any_below n f || any_below n g) ≡ any_below n (λ q. f q || g q)
any_or zero f g = refl
any_or (suc n) f g = or_four (f n) (any_below n f) (g n) (any_below n g) ∙ ap (λ t. (f n || g n) || t) (any_or n f g)

any_one : (n p : ℕ) (g : ℕ → Bool) → p < n → any_below n (λ q. (p == q) && g q) ≡ g p
any_one zero p g l = absurd (omega (arith, l))
any_one (suc n) p g l =
    elim (cases_lt p n) [
      | inl m ↦ rw (is_other p n (λ e. absurd (omega (arith, e, m)))) (any_one n p g m)
      | inr m ↦ let e : p ≡ n = omega (arith, l, m) in
          rw (is_same p n e) (subst (λ y. (g y || any_below n (λ q. (p == q) && g q)) ≡ g p) e
          (rw (any_past n p g (omega (arith, e))) (or_false (g p))))
    ]

swap_any : {A : Type 0} (n : ℕ) (f : ℕ → A → Bool) (xs : List A) → list_any (λ x. any_below n (λ q. f q x)) xs ≡ any_below n (λ q. list_any (f q) xs)
swap_any n f [] = sym (any_none n (λ q. false) (λ q. refl))
swap_any n f (x ∷ xs) = rw (swap_any n f xs) (any_or n (λ q. f q x) (λ q. list_any (f q) xs))

and_four : (a b c e f : Bool) → (true && ((a && (b && (c && e))) && f)) ≡ ((a && (b && c)) && (e && f))
and_four true true true e f = refl
and_four true true false e f = refl
and_four true false c e f = refl
and_four false b c e f = refl

and_assoc : (a b c : Bool) → (a && (b && c)) ≡ ((a && b) && c)
and_assoc true b c = refl
and_assoc false b c = refl

-- one touch, by the queue that it is of
by_queue : (n : ℕ) (clock : Clock) (t : Touch) (a : Act) (m : Touch) → m.act ≡ a → ((q k : ℕ) → a ≡ OfQueue q k → q < n) →
    (is_operation a && (meets m t && not (knows clock a)))
    ≡ any_below n (λ q. (is_of_queue q a && (conflict m.doing t.doing && ((m.range.resource == t.range.resource) && (m.range.sub == t.range.sub))))
    && (shares m.range t.range && not (nat_le (number_of a) (number clock.queues q))))
by_queue n clock t (OfThread u k) m e b = sym (any_none n _ (λ q. refl))
by_queue n clock t (OfQueue p k) m e b =
    let same : Bool = (m.range.resource == t.range.resource) && (m.range.sub == t.range.sub) in
    let g : ℕ → Bool = λ q. (conflict m.doing t.doing && same) && (shares m.range t.range && not (nat_le k (number clock.queues q))) in
    and_four (conflict m.doing t.doing) (m.range.resource == t.range.resource) (m.range.sub == t.range.sub) (shares m.range t.range) (not (nat_le k (number clock.queues p)))
    ∙ (sym (any_one n p g (b p k refl))
    ∙ any_same n (λ q. (p == q) && g q) _ (λ q. and_assoc (p == q) (conflict m.doing t.doing && same) (shares m.range t.range && not (nat_le k (number clock.queues q)))))

each_queue : (n : ℕ) (clock : Clock) (made : List Touch) (t : Touch) → OfQueues n made →
    breaks_one clock made t ≡ list_any (λ m. any_below n (λ q. conflicts_in (is_of_queue q) t.doing t.range.resource t.range.sub m
    && (shares m.range t.range && not (nat_le (number_of m.act) (number clock.queues q))))) made
each_queue n clock [] t o = refl
each_queue n clock (m ∷ ms) t o =
    rw (by_queue n clock t m.act m refl o.0)
    (ap (λ y. any_below n (λ q. conflicts_in (is_of_queue q) t.doing t.range.resource t.range.sub m
    && (shares m.range t.range && not (nat_le (number_of m.act) (number clock.queues q)))) || y) (each_queue n clock ms t o.1))

-- B1 by the numbers of each queue that are not known
pub queue_tells : (n : ℕ) (clock : Clock) (made : List Touch) (t : Touch) → OfQueues n made →
    breaks_one clock made t ≡ any_below n (λ q. unknown_in (conflicts_in (is_of_queue q) t.doing t.range.resource t.range.sub) (number clock.queues q) t.range made)
queue_tells n clock made t o =
    each_queue n clock made t o
    ∙ swap_any n (λ q m. conflicts_in (is_of_queue q) t.doing t.range.resource t.range.sub m
    && (shares m.range t.range && not (nat_le (number_of m.act) (number clock.queues q)))) made

pub queue_tables_tell : (n words : ℕ) (clock : Clock) (made : List Touch) (t : Touch) → OfQueues n made →
    ((q : ℕ) → AllInside (conflicts_in (is_of_queue q) t.doing t.range.resource t.range.sub) words made) →
    breaks_one clock made t ≡ any_below n (queue_unknown words clock made t)
queue_tables_tell n words clock made t o i =
    queue_tells n clock made t o
    ∙ any_same n _ (queue_unknown words clock made t)
    (λ q. tie (conflicts_in (is_of_queue q) t.doing t.range.resource t.range.sub) (number clock.queues q) t.range made words (i q))

-- one touch, by the thread that it is of
by_thread : (n : ℕ) (clock : Clock) (t : Touch) (a : Act) (m : Touch) → m.act ≡ a → ((q k : ℕ) → a ≡ OfThread q k → q < n) →
    (not (is_operation a) && (meets m t && not (knows clock a)))
    ≡ any_below n (λ q. (is_of_thread q a && (conflict m.doing t.doing && ((m.range.resource == t.range.resource) && (m.range.sub == t.range.sub))))
    && (shares m.range t.range && not (nat_le (number_of a) (number clock.threads q))))
by_thread n clock t (OfQueue u k) m e b = sym (any_none n _ (λ q. refl))
by_thread n clock t (OfThread p k) m e b =
    let same : Bool = (m.range.resource == t.range.resource) && (m.range.sub == t.range.sub) in
    let g : ℕ → Bool = λ q. (conflict m.doing t.doing && same) && (shares m.range t.range && not (nat_le k (number clock.threads q))) in
    and_four (conflict m.doing t.doing) (m.range.resource == t.range.resource) (m.range.sub == t.range.sub) (shares m.range t.range) (not (nat_le k (number clock.threads p)))
    ∙ (sym (any_one n p g (b p k refl))
    ∙ any_same n (λ q. (p == q) && g q) _ (λ q. and_assoc (p == q) (conflict m.doing t.doing && same) (shares m.range t.range && not (nat_le k (number clock.threads q)))))

each_thread : (n : ℕ) (clock : Clock) (made : List Touch) (t : Touch) → OfThreads n made →
    breaks_ten clock made t ≡ list_any (λ m. any_below n (λ q. conflicts_in (is_of_thread q) t.doing t.range.resource t.range.sub m
    && (shares m.range t.range && not (nat_le (number_of m.act) (number clock.threads q))))) made
each_thread n clock [] t o = refl
each_thread n clock (m ∷ ms) t o =
    rw (by_thread n clock t m.act m refl o.0)
    (ap (λ y. any_below n (λ q. conflicts_in (is_of_thread q) t.doing t.range.resource t.range.sub m
    && (shares m.range t.range && not (nat_le (number_of m.act) (number clock.threads q)))) || y) (each_thread n clock ms t o.1))

-- B10 by the numbers of each thread that are not known
pub thread_tells : (n : ℕ) (clock : Clock) (made : List Touch) (t : Touch) → OfThreads n made →
    breaks_ten clock made t ≡ any_below n (λ q. unknown_in (conflicts_in (is_of_thread q) t.doing t.range.resource t.range.sub) (number clock.threads q) t.range made)
thread_tells n clock made t o =
    each_thread n clock made t o
    ∙ swap_any n (λ q m. conflicts_in (is_of_thread q) t.doing t.range.resource t.range.sub m
    && (shares m.range t.range && not (nat_le (number_of m.act) (number clock.threads q)))) made

pub thread_tables_tell : (n words : ℕ) (clock : Clock) (made : List Touch) (t : Touch) → OfThreads n made →
    ((q : ℕ) → AllInside (conflicts_in (is_of_thread q) t.doing t.range.resource t.range.sub) words made) →
    breaks_ten clock made t ≡ any_below n (thread_unknown words clock made t)
thread_tables_tell n words clock made t o i =
    thread_tells n clock made t o
    ∙ any_same n _ (thread_unknown words clock made t)
    (λ q. tie (conflicts_in (is_of_thread q) t.doing t.range.resource t.range.sub) (number clock.threads q) t.range made words (i q))
