-- The test of a bit in a set.
use Rattle.std.proofs.Common.{◌≡◌, ℕ, ◌<◌, ◌*◌, ◌^◌, ◌==◌, ◌||◌, bit_and, bit_or, arith, ◌⊎◌, inl, inr}
use Rattle.std.specs.Int.{bit_at}
use Rattle.std.proofs.lemmas.Nat.{pow_pos}
use Rattle.std.proofs.lemmas.Nat.Bits.{and_pow, bit_at_or, bit_at-lt}

low : (x : ℕ) → x < 2 → (x ≡ 0) ⊎ (x ≡ 1)
low x h = grind (arith, h)

whole : (m x : ℕ) → 0 < m → x < 2 → (x * m == m) ≡ (x == 1)
whole m x above h = elim (low x h) [ inl none ↦ rw none (grind (arith, above)) | inr one ↦ rw one (grind (arith, above)) ]

-- a bit is in a set where its place is 1
has_bit : (n k : ℕ) → (bit_and n (2 ^ k) == 2 ^ k) ≡ (bit_at n k == 1)
has_bit n k = rw (and_pow n k) (whole (2 ^ k) (bit_at n k) (pow_pos k) (bit_at-lt n k))

-- a bit is in a union where it is in one of the two
pub union_has : (a b k : ℕ) → (bit_and (bit_or a b) (2 ^ k) == 2 ^ k) ≡ ((bit_and a (2 ^ k) == 2 ^ k) || (bit_and b (2 ^ k) == 2 ^ k))
union_has a b k = rw (has_bit (bit_or a b) k, has_bit a k, has_bit b k, bit_at_or a b k) (grind (arith, bit_at-lt a k, bit_at-lt b k))
