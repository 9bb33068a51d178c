-- What a valid texture has: few mips and layers, and no subresource above the limit of words.
use Rattle.std.proofs.Common.{◌≡◌, ℕ, zero, suc, ◌+◌, ◌*◌, ◌%◌, ◌<◌, ◌≤◌, max, Bool, true, subst, sym, arith, inl, inr, nat_le, nat_lt}
use Rattle.std.proofs.lemmas.Bool.{and_parts, leb-true, ltb-true, cases_eq}
use Rattle.std.proofs.lemmas.Nat.{mul-le, mod_below}
use Rattle.d3d_resources.specs.declared.resources.Resource.{Resource}
use Rattle.d3d_resources.specs.declared.resources.Resource.TheVariants.{Texture}
use Rattle.d3d_resources.specs.declared.resources.Start.{Start}
use Rattle.d3d_resources.specs.Digits.{binary_digits}
use Rattle.d3d_resources.specs.Mips.{words_of_mip, words_of_mips}
use Rattle.d3d_resources.specs.Textures.{is_start, is_texture_shape, is_mip_count, is_layer_count, is_extent, words_of_texture}
use Rattle.d3d_resources.specs.Resources.{IsResource}
use Rattle.d3d_resources.proofs.BinaryDigits.{digits_are}

-- the limits that a texture keeps
pub record KeepsLimits (width height mips layers : ℕ) : Type 0 where
  pub some_mip : 0 < mips
  pub few_mips : mips ≤ 13
  pub some_layer : 0 < layers
  pub few_subs : mips * layers ≤ 832
  pub few_words : words_of_mips width height mips * layers ≤ 262144

-- a number up to 4096 has at most 13 binary digits
few_digits : (n : ℕ) → n ≤ 4096 → binary_digits n ≤ 13
few_digits n h = (digits_are n).least 13 (omega arith)

-- a texture that may be made keeps them
shape_keeps_limits : (width height mips layers : ℕ) → is_texture_shape width height mips layers ≡ true → KeepsLimits width height mips layers
shape_keeps_limits width height mips layers h =
    let a = and_parts (is_extent width) _ h in
    let b = and_parts (is_extent height) _ a.1 in
    let c = and_parts (is_mip_count width height mips) _ b.1 in
    let d = and_parts (is_layer_count layers) (nat_le (words_of_texture width height mips layers) 262144) c.1 in
    let wide = leb-true width 4096 (and_parts (nat_lt 0 width) _ a.0).1 in
    let high = leb-true height 4096 (and_parts (nat_lt 0 height) _ b.0).1 in
    let mip = and_parts (nat_lt 0 mips) (nat_le mips (binary_digits (max width height))) c.0 in
    let layer = and_parts (nat_lt 0 layers) (nat_le layers 64) d.0 in
    let most = few_digits (max width height) (grind (arith, wide, high)) in
    let few : mips ≤ 13 = omega (arith, leb-true mips _ mip.1, most) in
    record {
      some_mip = ltb-true 0 mips mip.0;
      few_mips = few;
      some_layer = ltb-true 0 layers layer.0;
      few_subs = mul-le mips layers 13 64 few (leb-true layers 64 layer.1);
      few_words = leb-true _ 262144 d.1;
    }

-- so does one in a variable
pub texture_keeps_limits : {r : Resource} {start : Start} {width height mips layers : ℕ} {shared : Bool} → IsResource r
    → r ≡ Texture start width height mips layers shared → KeepsLimits width height mips layers
texture_keeps_limits {r} {start} {width} {height} {mips} {layers} {shared} valid e =
    let v : IsResource (Texture start width height mips layers shared) = subst IsResource e valid in
    shape_keeps_limits width height mips layers (and_parts (is_start start) (is_texture_shape width height mips layers) v).1

-- a mip is one of the first mips
mip_le_mips : (width height m mips : ℕ) → m < mips → words_of_mip width height m ≤ words_of_mips width height mips
mip_le_mips width height m zero h = absurd (omega arith)
mip_le_mips width height m (suc mips) h = elim (cases_eq m mips) [
  | inl e ↦ subst (λ k. words_of_mip width height k ≤ words_of_mips width height mips + words_of_mip width height mips) (sym e) (omega arith)
  | inr e ↦ let l = mip_le_mips width height m mips (omega arith) in omega arith
]

-- so a subresource is at most the whole
pub sub_le_limit : (width height mips layers sub : ℕ) → KeepsLimits width height mips layers
    → words_of_mip width height (sub % mips) ≤ 262144
sub_le_limit width height mips layers sub k =
    let one = mip_le_mips width height (sub % mips) mips (mod_below sub mips k.some_mip) in
    let all : words_of_mips width height mips * 1 ≤ words_of_mips width height mips * layers =
    mul-le (words_of_mips width height mips) 1 (words_of_mips width height mips) layers (omega arith) k.some_layer in
    omega (arith, one, all, k.few_words)
