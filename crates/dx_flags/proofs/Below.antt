-- Facts of all numbers below a bound, found by trying each.
use Rattle.std.proofs.Common.{◌≡◌, ℕ, zero, suc, ◌<◌, ◌≤◌, Bool, true, false, ◌&&◌, ◌==◌, nat_lt, bit_and, arith, refl, subst, sym, inl, inr, ◌⊎◌}
use Rattle.std.proofs.lemmas.Nat.{and_le_l}

-- a test passes at each number below a bound
abbrev pub all_below : ℕ → (ℕ → Bool) → Bool
all_below zero test = true
all_below (suc n) test = test n && all_below n test

both : (a b : Bool) → (a && b) ≡ true → (a ≡ true) × (b ≡ true)
both true b h = (refl, h)
both false b h = cc

last_or_below : (k n : ℕ) → k < suc n → (k ≡ n) ⊎ (k < n)
last_or_below k n h = grind (arith, h)

-- so it passes at one of them
pub at_below : (n : ℕ) (test : ℕ → Bool) → all_below n test ≡ true → (k : ℕ) → k < n → test k ≡ true
at_below zero test all k h = absurd (omega (arith, h))
at_below (suc n) test all k h =
    elim (last_or_below k n h) [
      | inl e ↦ subst (λ i. test i ≡ true) (sym e) ((both (test n) (all_below n test) all).0)
      | inr less ↦ at_below n test ((both (test n) (all_below n test) all).1) k less
    ]

-- two tests agree
abbrev pub same : Bool → Bool → Bool
same true b = b
same false true = false
same false false = true

pub same_is : (a b : Bool) → same a b ≡ true → a ≡ b
same_is true true h = refl
same_is true false h = cc
same_is false true h = cc
same_is false false h = refl

-- a greater number is another
pub is_other : (n m : ℕ) → m < n → (n == m) ≡ false
is_other n m h = grind (arith, h)

-- a number that is not below a bound
pub not_below : (n m : ℕ) → m ≤ n → nat_lt n m ≡ false
not_below n m h = grind (arith, h)

-- a set with a greater bit than those of another has more than it has in common with it
pub not_inside : (bits n : ℕ) → bits < n → (bit_and bits n == n) ≡ false
not_inside bits n h = let less : bit_and bits n ≤ bits = and_le_l bits n in grind (arith, h, less)
