-- The rows of a footprint lie inside their buffer, in words as in bytes.
use Rattle.std.proofs.Common.{◌≡◌, ℕ, ◌+◌, ◌-◌, ◌*◌, ◌/◌, ◌%◌, ◌≤◌, ◌^◌, ◌==◌, min, true, nat_le, subst, sym, ap, ◌∙◌, arith, eqb-true}
use Rattle.std.proofs.lemmas.Bool.{and_parts, leb-true}
use Rattle.std.proofs.lemmas.Nat.{mul-le}
use Rattle.std.proofs.Math.Nat.{mul_assoc}
use Rattle.dx_base.specs.declared.kinds.Home.{Home}
use Rattle.d3d_resources.specs.declared.mips.Extents.{Extents}
use Rattle.d3d_resources.specs.declared.resources.Resource.{Resource}
use Rattle.d3d_resources.specs.declared.resources.Resource.TheVariants.{Buffer}
use Rattle.d3d_resources.specs.Mips.{AreExtents}
use Rattle.d3d_resources.specs.Footprints.{fits_buffer, placed, IsFootprintIn}

-- the pitch in words, cut to the greatest
abbrev words_apart : ℕ → ℕ
words_apart pitch = min (pitch / 4) (2 ^ 32 - 1)

-- the last row's end in words, from that in bytes
end_in_words : (width rows size offset pitch : ℕ) → offset % 4 ≡ 0 → pitch % 4 ≡ 0 → offset + pitch * rows + 4 * width ≤ 4 * size
    → offset / 4 + words_apart pitch * rows + width ≤ size
end_in_words width rows size offset pitch a b h =
    let cut : words_apart pitch * rows ≤ (pitch / 4) * rows = mul-le (words_apart pitch) rows (pitch / 4) rows (omega arith) (omega arith) in
    let whole : pitch ≡ 4 * (pitch / 4) = omega arith in
    let bytes : pitch * rows ≡ 4 * ((pitch / 4) * rows) = ap (λ x. x * rows) whole ∙ mul_assoc 4 (pitch / 4) rows in
    omega (arith, cut, bytes)

-- so it is of what `footprint` answers
pub is_footprint_in : {r : Resource} {home : Home} {size : ℕ} (e : Extents) (offset pitch : ℕ) → r ≡ Buffer home size → AreExtents e
    → fits_buffer e size offset pitch ≡ true → IsFootprintIn r (placed e offset pitch)
is_footprint_in {r} {home} {size} e offset pitch is extents fits =
    let a = and_parts (offset % 512 == 0) _ fits in
    let b = and_parts (pitch % 256 == 0) _ a.1 in
    let c = and_parts (nat_le (4 * e.width) pitch) (nat_le (offset + pitch * (e.height - 1) + 4 * e.width) (4 * size)) b.1 in
    let at : offset % 4 ≡ 0 = omega (arith, eqb-true (offset % 512) 0 a.0) in
    let step : pitch % 4 ≡ 0 = omega (arith, eqb-true (pitch % 256) 0 b.0) in
    let row = leb-true (4 * e.width) pitch c.0 in
    subst (λ x. IsFootprintIn x (placed e offset pitch)) (sym is) (record {
      apart = omega arith;
      inside = end_in_words e.width (e.height - 1) size offset pitch at step (leb-true _ (4 * size) c.1);
    })
