-- Sets of stages that have nothing in common with another set.
use Rattle.std.proofs.Common.{◌≡◌, ℕ, zero, suc, ◌≤◌, ◌==◌, false, ◌&&◌, bit_and, bit_or, arith, ap, refl}
use Rattle.std.proofs.lemmas.Nat.Bits.{bit_at_and, bit_at_or, same_from_bits}
use Rattle.std.proofs.lemmas.Nat.{le_or_l}
use Rattle.std.proofs.Math.Dec.{eqb-suc-zero}
use Rattle.std.specs.Int.{bit_at}
use Rattle.std.specs.Int.Bits.{or_zero_l}

-- what two sets have in common with a third
pub and_over_or : (a b c : ℕ) → bit_and (bit_or a b) c ≡ bit_or (bit_and a c) (bit_and b c)
and_over_or a b c = same_from_bits (bit_and (bit_or a b) c) (bit_or (bit_and a c) (bit_and b c)) (λ i.
    rw (bit_at_and (bit_or a b) c i, bit_at_or a b i, bit_at_or (bit_and a c) (bit_and b c) i, bit_at_and a c i, bit_at_and b c i) (omega arith))

-- a number above 0 is not 0
not_zero : (a b : ℕ) → suc a ≤ b → (b == 0) ≡ false
not_zero a zero h = absurd (omega (arith, h))
not_zero a (suc b) h = eqb-suc-zero b

-- a union is empty only where both sets are
or_zero : (a b : ℕ) → (bit_or a b == 0) ≡ ((a == 0) && (b == 0))
or_zero zero b = rw (or_zero_l b) refl
or_zero (suc a) b = rw (not_zero a (bit_or (suc a) b) (le_or_l (suc a) b), eqb-suc-zero a) refl

-- a union has nothing in common with a set only where neither part has
pub or_apart : (a b c : ℕ) → (bit_and (bit_or a b) c == 0) ≡ ((bit_and a c == 0) && (bit_and b c == 0))
or_apart a b c = rw (and_over_or a b c) (or_zero (bit_and a c) (bit_and b c))

-- a set joined twice
pub or_twice : (a b : ℕ) → bit_or (bit_or a b) b ≡ bit_or a b
or_twice a b = same_from_bits (bit_or (bit_or a b) b) (bit_or a b) (λ i. rw (bit_at_or (bit_or a b) b i, bit_at_or a b i) (omega arith))

-- a set that another one holds is held by what holds more
pub or_past : (a b c : ℕ) → bit_or a c ≡ a → bit_or (bit_or a b) c ≡ bit_or a b
or_past a b c h =
    same_from_bits (bit_or (bit_or a b) c) (bit_or a b) (λ i.
    let held : bit_at (bit_or a c) i ≡ bit_at a i = ap (λ (x : ℕ). bit_at x i) h in
    let bits = rw (bit_at_or a c i) at held in
    rw (bit_at_or (bit_or a b) c i, bit_at_or a b i) (omega (arith, bits)))
