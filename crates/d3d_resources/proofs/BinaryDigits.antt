-- The number of a number's binary digits is the least whose power of two is above it.
use Rattle.std.proofs.Common.{◌≡◌, ℕ, zero, suc, ◌+◌, ◌*◌, ◌/◌, ◌<◌, ◌≤◌, ◌^◌, length, arith, add-one, inl, inr, ne_eqb, eq-eqb}
use Rattle.std.proofs.lemmas.Bool.{cases_lt, cases_eq}
use Rattle.std.proofs.lemmas.List.{length-append}
use Rattle.std.specs.Int.Digits.{digits_with_fuel}
use Rattle.std.proofs.Math.Nat.{pow-suc}
use Rattle.std.proofs.Math.Pow.{pow_mono}
use Rattle.d3d_resources.specs.Digits.{binary_digits, IsDigits}

-- two numbers that are both the least are one
same_digits : (n d e : ℕ) → IsDigits n d → IsDigits n e → d ≡ e
same_digits n d e p q = let a = p.least e q.above in let b = q.least d p.above in omega arith

-- the highest digit lies below each power that is above the number
above_highest : (n d k : ℕ) → 2 ^ d ≤ n → n < 2 ^ k → suc d ≤ k
above_highest n d k low high =
    elim (cases_lt d k) [ inl h ↦ omega arith | inr h ↦ let m : 2 ^ k ≤ 2 ^ d = pow_mono h in absurd (omega arith) ]

-- a number is counted to its highest digit
pub digits_from_highest : (n d : ℕ) → 2 ^ d ≤ n → n < 2 * 2 ^ d → IsDigits n (d + 1)
digits_from_highest n d low high =
    record { above = rw (add-one, pow-suc 2 d) (omega arith); least = λ k h. rw add-one (above_highest n d k low h) }

-- 0 has no digit
pub no_digits : (n : ℕ) → n ≡ 0 → IsDigits n 0
no_digits n h = record { above = omega arith; least = λ k p. omega arith }

half_least : (n d : ℕ) → 0 < n → IsDigits (n / 2) d → (k : ℕ) → n < 2 ^ k → suc d ≤ k
half_least n d h p zero q = absurd (omega arith)
half_least n d h p (suc k) q = let l = p.least k (omega (arith, pow-suc 2 k)) in omega arith

-- a number has one digit more than its half
half_digits : (n d : ℕ) → 0 < n → IsDigits (n / 2) d → IsDigits n (suc d)
half_digits n d h p = record { above = let a = p.above in omega (arith, pow-suc 2 d); least = half_least n d h p }

-- the digits of std, by induction on their bound
fuel_digits : (fuel n : ℕ) → n ≤ fuel → IsDigits n (length (digits_with_fuel 2 fuel n))
fuel_digits zero n h = no_digits n (omega arith)
fuel_digits (suc fuel) n h = elim (cases_eq n 0) [
  | inl e ↦ rw (eq-eqb n 0 e) (no_digits n e)
  | inr e ↦ rw (ne_eqb n 0 e, length-append, add-one) (half_digits n _ (omega arith) (fuel_digits fuel (n / 2) (omega arith)))
]

-- what `binary_digits` is
pub digits_are : (n : ℕ) → IsDigits n (binary_digits n)
unfolding binary_digits
digits_are n = fuel_digits n n (omega arith)

-- the least number whose power of two is above a number counts its digits
pub counts_digits : (n d : ℕ) → IsDigits n d → d ≡ binary_digits n
counts_digits n d p = same_digits n d (binary_digits n) p (digits_are n)
