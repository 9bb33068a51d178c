-- What stands from one place of a list on and before another.
use Rattle.std.proofs.Common.{ℕ, zero, suc, ◌≡◌, ◌≤◌, refl, ap, List, [], ◌∷◌, ◌++◌, length, drop, slice_get, Some, arith}
use Rattle.fence_timeline.specs.Runs.{between}

module _ {A : Type 0} where
  -- in two parts
  pub between_split : (xs : List A) (a b c : ℕ) → a ≤ b → b ≤ c → between a c xs ≡ between a b xs ++ between b c xs
  between_split xs zero zero c low high = refl
  between_split xs (suc a) zero c low high = absurd (omega arith)
  between_split xs a (suc b) zero low high = absurd (omega arith)
  between_split [] zero (suc b) (suc c) low high = refl
  between_split [] (suc a) (suc b) (suc c) low high = refl
  between_split (x ∷ xs) zero (suc b) (suc c) low high = ap (λ t. x ∷ t) (between_split xs zero b c (omega arith) (omega arith))
  between_split (x ∷ xs) (suc a) (suc b) (suc c) low high = between_split xs a b c (omega arith) (omega arith)

  -- nothing, where the second place is not behind the first
  pub between_none : (xs : List A) (a b : ℕ) → b ≤ a → between a b xs ≡ []
  between_none xs zero zero le = refl
  between_none xs (suc a) zero le = refl
  between_none xs zero (suc b) le = absurd (omega arith)
  between_none [] (suc a) (suc b) le = refl
  between_none (x ∷ xs) (suc a) (suc b) le = between_none xs a b (omega arith)

  -- one item
  pub between_one : (xs : List A) (i : ℕ) (x : A) → slice_get xs i ≡ Some x → between i (suc i) xs ≡ x ∷ []
  between_one [] zero x is = absurd (cc)
  between_one [] (suc i) x is = absurd (cc)
  between_one (y ∷ xs) zero x is = let same : y ≡ x = grind arith in ap (λ t. t ∷ []) same
  between_one (y ∷ xs) (suc i) x is = between_one xs i x is

  -- the last item apart
  pub between_last : (xs : List A) (a i : ℕ) (x : A) → a ≤ i → slice_get xs i ≡ Some x → between a (suc i) xs ≡ between a i xs ++ x ∷ []
  between_last xs a i x low is = rw (between_split xs a i (suc i) low (omega arith), between_one xs i x is) refl

  -- all up to the end
  pub between_all : (xs : List A) (a n : ℕ) → length xs ≤ n → between a n xs ≡ drop a xs
  between_all [] zero zero le = refl
  between_all [] zero (suc n) le = refl
  between_all [] (suc a) zero le = refl
  between_all [] (suc a) (suc n) le = refl
  between_all (x ∷ xs) a zero le = absurd (omega arith)
  between_all (x ∷ xs) zero (suc n) le = ap (λ t. x ∷ t) (between_all xs zero n (omega arith))
  between_all (x ∷ xs) (suc a) (suc n) le = between_all xs a n (omega arith)

  -- what is appended behind the second place changes nothing
  pub between_front : (xs ys : List A) (a b : ℕ) → b ≤ length xs → between a b (xs ++ ys) ≡ between a b xs
  between_front xs ys a zero le = refl
  between_front [] ys a (suc b) le = absurd (omega arith)
  between_front (x ∷ xs) ys zero (suc b) le = ap (λ t. x ∷ t) (between_front xs ys zero b (omega arith))
  between_front (x ∷ xs) ys (suc a) (suc b) le = between_front xs ys a b (omega arith)

  -- behind the first item
  pub between_rest : (x : A) (xs : List A) (a b : ℕ) → between (suc a) (suc b) (x ∷ xs) ≡ between a b xs
  between_rest x xs a b = refl
