-- the greatest of a range, and raising it
use Rattle.std.proofs.Common.{ℕ, suc, ◌≤◌, ◌<◌, ◌≡◌, ◌+◌, ◌||◌, max, List, [], ◌∷◌, ◌++◌, length, map, Bool, true, false, cond, refl, ap, arith, subst}
use Rattle.std.proofs.Common.{◌⊎◌, inl, inr}
use Rattle.std.proofs.lemmas.Bool.{cases_lt}
use Rattle.word_trees.specs.Numbers.{within, most, raised, greatest, some_within}

pub most_append : (k a b : ℕ) (xs ys : List ℕ) → most k a b (xs ++ ys) ≡ max (most k a b xs) (most (k + length xs) a b ys)
most_append k a b [] ys = grind arith
most_append k a b (x ∷ xs) ys =
    let h = most_append (suc k) a b xs ys in
    let e : suc k + length xs ≡ k + suc (length xs) = omega arith in
    let h2 = subst (λ p. most (suc k) a b (xs ++ ys) ≡ max (most (suc k) a b xs) (most p a b ys)) e h in
    omega (arith, h2)

out_low : (k a b : ℕ) → b ≤ k → within k a b ≡ false
out_low k a b l = grind (arith, l)

out_high : (k a b : ℕ) → k < a → within k a b ≡ false
out_high k a b l = grind (arith, l)

inside : (k a b : ℕ) → a ≤ k → k < b → within k a b ≡ true
inside k a b l m = grind (arith, l, m)

pub most_after : (k a b : ℕ) (xs : List ℕ) → b ≤ k → most k a b xs ≡ 0
most_after k a b [] l = refl
most_after k a b (x ∷ xs) l = rw (out_low k a b l) (let h = most_after (suc k) a b xs (omega (arith, l)) in omega (arith, h))

pub most_before : (k a b : ℕ) (xs : List ℕ) → k + length xs ≤ a → most k a b xs ≡ 0
most_before k a b [] l = refl
most_before k a b (x ∷ xs) l = rw (out_high k a b (omega (arith, l))) (let h = most_before (suc k) a b xs (omega (arith, l)) in omega (arith, h))

pub most_all : (k a b : ℕ) (xs : List ℕ) → a ≤ k → k + length xs ≤ b → most k a b xs ≡ greatest xs
most_all k a b [] l m = refl
most_all k a b (x ∷ xs) l m = rw (inside k a b l (omega (arith, m))) (let h = most_all (suc k) a b xs (omega (arith, l)) (omega (arith, m)) in omega (arith, h))

most_step : (t u : Bool) (f x m : ℕ) → max (cond t (max f x) 0) (max (cond u f 0) m) ≡ max (cond (t || u) f 0) (max (cond t x 0) m)
most_step true true f x m = omega arith
most_step true false f x m = omega arith
most_step false true f x m = omega arith
most_step false false f x m = omega arith

pub most_map : (k a b f : ℕ) (xs : List ℕ) → most k a b (map (max f) xs) ≡ max (cond (some_within k a b xs) f 0) (most k a b xs)
most_map k a b f [] = refl
most_map k a b f (x ∷ xs) =
    rw (most_map (suc k) a b f xs) (most_step (within k a b) (some_within (suc k) a b xs) f x (most (suc k) a b xs))

pub nat_split : {P : Type 0} (m n : ℕ) → (m < n → P) → (n ≤ m → P) → P
nat_split {P} m n f g = elim (cases_lt m n) [ inl l ↦ f l | inr l ↦ g l ]

or_intro : (a b : Bool) → (a ≡ false → b ≡ true) → (a || b) ≡ true
or_intro true b h = refl
or_intro false b h = h refl

bool_is : (t : Bool) → (t ≡ true) ⊎ (t ≡ false)
bool_is true = inl refl
bool_is false = inr refl

meets_some : (k a b : ℕ) (xs : List ℕ) → a < b → k < b → a < k + length xs → 0 < length xs → a ≤ k ⊎ k < a → some_within k a b xs ≡ true
meets_some k a b [] l m n p c = absurd (omega (arith, p))
meets_some k a b (x ∷ xs) l m n p (inl c) = rw (inside k a b c m) refl
meets_some k a b (x ∷ xs) l m n p (inr c) =
    rw (out_high k a b c) (meets_some (suc k) a b xs l (omega (arith, c, l)) (omega (arith, n)) (omega (arith, n, c)) (nat_split (suc k) a (λ g. inr g) (λ g. inl g)))

pub meets : (k a b : ℕ) (xs : List ℕ) → a < b → k < b → a < k + length xs → 0 < length xs → some_within k a b xs ≡ true
meets k a b xs l m n p = meets_some k a b xs l m n p (nat_split k a (λ h. inr h) (λ h. inl h))

pub length_raised : (k a b n : ℕ) (xs : List ℕ) → length (raised k a b n xs) ≡ length xs
length_raised k a b n [] = refl
length_raised k a b n (x ∷ xs) = let h = length_raised (suc k) a b n xs in omega (arith, h)

pub raised_append : (k a b n : ℕ) (xs ys : List ℕ) → raised k a b n (xs ++ ys) ≡ raised k a b n xs ++ raised (k + length xs) a b n ys
raised_append k a b n [] ys = let e : k ≡ k + 0 = omega arith in ap (λ p. raised p a b n ys) e
raised_append k a b n (x ∷ xs) ys =
    let h = raised_append (suc k) a b n xs ys in
    let e : suc k + length xs ≡ k + suc (length xs) = omega arith in
    ap (λ t. cond (within k a b) (max n x) x ∷ t) (subst (λ p. raised (suc k) a b n (xs ++ ys) ≡ raised (suc k) a b n xs ++ raised p a b n ys) e h)

pub raised_after : (k a b n : ℕ) (xs : List ℕ) → b ≤ k → raised k a b n xs ≡ xs
raised_after k a b n [] l = refl
raised_after k a b n (x ∷ xs) l = rw (out_low k a b l) (ap (λ t. x ∷ t) (raised_after (suc k) a b n xs (omega (arith, l))))

pub raised_before : (k a b n : ℕ) (xs : List ℕ) → k + length xs ≤ a → raised k a b n xs ≡ xs
raised_before k a b n [] l = refl
raised_before k a b n (x ∷ xs) l = rw (out_high k a b (omega (arith, l))) (ap (λ t. x ∷ t) (raised_before (suc k) a b n xs (omega (arith, l))))

pub raised_all : (k a b n : ℕ) (xs : List ℕ) → a ≤ k → k + length xs ≤ b → raised k a b n xs ≡ map (max n) xs
raised_all k a b n [] l m = refl
raised_all k a b n (x ∷ xs) l m = rw (inside k a b l (omega (arith, m))) (ap (λ t. max n x ∷ t) (raised_all (suc k) a b n xs (omega (arith, l)) (omega (arith, m))))

max_swap : (t : Bool) (n f x : ℕ) → cond t (max n (max f x)) (max f x) ≡ max f (cond t (max n x) x)
max_swap true n f x = omega arith
max_swap false n f x = refl

pub raised_map : (k a b n f : ℕ) (xs : List ℕ) → raised k a b n (map (max f) xs) ≡ map (max f) (raised k a b n xs)
raised_map k a b n f [] = refl
raised_map k a b n f (x ∷ xs) =
    rw (raised_map (suc k) a b n f xs) (ap (λ y. y ∷ map (max f) (raised (suc k) a b n xs)) (max_swap (within k a b) n f x))

raise_max : (t u : Bool) (n x g : ℕ) → max (cond t (max n x) x) (max (cond u n 0) g) ≡ max (cond (t || u) n 0) (max x g)
raise_max true true n x g = omega arith
raise_max true false n x g = omega arith
raise_max false true n x g = omega arith
raise_max false false n x g = omega arith

pub greatest_raised : (k a b n : ℕ) (xs : List ℕ) → greatest (raised k a b n xs) ≡ max (cond (some_within k a b xs) n 0) (greatest xs)
greatest_raised k a b n [] = refl
greatest_raised k a b n (x ∷ xs) =
    rw (greatest_raised (suc k) a b n xs) (raise_max (within k a b) (some_within (suc k) a b xs) n x (greatest xs))
