-- Numbers in lists, as the code finds and sets them.
use Rattle.std.proofs.Common.{ℕ, zero, suc, ◌≡◌, ◌<◌, ◌+◌, refl, ap, List, [], ◌∷◌, length, get_or, slice_set, max, arith, subst, add-one, ◌≤◌}
use Rattle.clocks.specs.Clocks.{number, numbered, greater}

pub number_found : (xs : List ℕ) (p d : ℕ) → p < length xs → get_or xs p d ≡ number xs p
number_found [] p d l = absurd (omega arith)
number_found (x ∷ xs) zero d l = refl
number_found (x ∷ xs) (suc p) d l = number_found xs p d (omega arith)

pub number_past : (xs : List ℕ) (p : ℕ) → (p < length xs → ⊥) → number xs p ≡ 0
number_past [] p h = refl
number_past (x ∷ xs) zero h = absurd (h (omega arith))
number_past (x ∷ xs) (suc p) h = number_past xs p (λ l. h (omega (arith, l)))

pub set_is_numbered : (xs : List ℕ) (p n : ℕ) → p < length xs → slice_set xs p n ≡ numbered p n xs
set_is_numbered [] p n l = absurd (omega arith)
set_is_numbered (x ∷ xs) zero n l = refl
set_is_numbered (x ∷ xs) (suc p) n l = ap (λ t. x ∷ t) (set_is_numbered xs p n (omega arith))

-- the greater number at each place before one, as the loop makes it
abbrev pub raised_before : ℕ → List ℕ → List ℕ → List ℕ
raised_before zero xs ys = xs
raised_before (suc i) [] ys = []
raised_before (suc i) (x ∷ xs) [] = x ∷ xs
raised_before (suc i) (x ∷ xs) (y ∷ ys) = max x y ∷ raised_before i xs ys

pub length_before : (i : ℕ) (xs ys : List ℕ) → length (raised_before i xs ys) ≡ length xs
length_before zero xs ys = refl
length_before (suc i) [] ys = refl
length_before (suc i) (x ∷ xs) [] = refl
length_before (suc i) (x ∷ xs) (y ∷ ys) = ap suc (length_before i xs ys)

pub raised_more : (i : ℕ) (xs ys : List ℕ) (n a b : ℕ) → i < length xs → length xs ≡ length ys → n ≡ max (get_or (raised_before i xs ys) i a) (get_or ys i b) →
    slice_set (raised_before i xs ys) i n ≡ raised_before (suc i) xs ys
raised_more i [] ys n a b l e h = absurd (omega arith)
raised_more i (x ∷ xs) [] n a b l e h = cc
raised_more zero (x ∷ xs) (y ∷ ys) n a b l e h = ap (λ t. t ∷ xs) h
raised_more (suc i) (x ∷ xs) (y ∷ ys) n a b l e h = ap (λ t. max x y ∷ t) (raised_more i xs ys n a b (omega arith) (omega (arith, e)) h)

pub raised_all : (i : ℕ) (xs ys : List ℕ) → length xs ≤ i → length xs ≡ length ys → raised_before i xs ys ≡ greater xs ys
raised_all zero [] [] l e = refl
raised_all (suc i) [] [] l e = refl
raised_all i [] (y ∷ ys) l e = cc
raised_all i (x ∷ xs) [] l e = cc
raised_all zero (x ∷ xs) (y ∷ ys) l e = absurd (omega (arith, l))
raised_all (suc i) (x ∷ xs) (y ∷ ys) l e = ap (λ t. max x y ∷ t) (raised_all i xs ys (omega (arith, l)) (omega (arith, e)))

-- one place more of the loop
pub raised_next : (i : ℕ) (xs ys zs : List ℕ) (n a b : ℕ) → zs ≡ raised_before i xs ys → i < length xs → length xs ≡ length ys → n ≡ max (get_or zs i a) (get_or ys i b) →
    slice_set zs i n ≡ raised_before (i + 1) xs ys
raised_next i xs ys zs n a b z l e h = rw (add-one i) (rw z (raised_more i xs ys n a b l e (subst (λ t. n ≡ max (get_or t i a) (get_or ys i b)) z h)))
