-- Extents of mips past all bits of the image's.
use Rattle.std.proofs.Common.{ℕ, ◌≡◌, ◌<◌, ◌≤◌, ◌^◌, ◌/◌, ◌∙◌, ap, max, arith}
use Rattle.std.proofs.Math.Nat.{div-eq_of_lt, pow-le-pow_right}

pub past_all_bits : (extent mip : ℕ) → extent < 2 ^ 32 → 32 ≤ mip → max 1 (extent / 2 ^ mip) ≡ 1
past_all_bits extent mip small past =
    let power : 2 ^ 32 ≤ 2 ^ mip = pow-le-pow_right (omega arith) past in
    let less : extent < 2 ^ mip = omega (arith, small, power) in
    ap (λ t. max 1 t) (div-eq_of_lt less) ∙ omega arith
