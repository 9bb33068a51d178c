-- A texture's subresources have together the words of its mips once for each layer.
use Rattle.std.proofs.Common.{◌≡◌, ℕ, zero, suc, ◌+◌, ◌*◌, ◌%◌, ◌≤◌, Bool, subst, sym, ap, ◌∙◌, arith, add-zero, add-suc, add_assoc, refl}
use Rattle.std.proofs.lemmas.Nat.{mod-mul-add}
use Rattle.std.proofs.Math.Nat.{mul_comm, suc-mul, zero-mul}
use Rattle.d3d_resources.specs.declared.resources.Resource.{Resource}
use Rattle.d3d_resources.specs.declared.resources.Resource.TheVariants.{Texture}
use Rattle.d3d_resources.specs.declared.resources.Start.{Start}
use Rattle.d3d_resources.specs.Mips.{words_of_mip, words_of_mips}
use Rattle.d3d_resources.specs.Textures.{words_of_texture}
use Rattle.d3d_resources.specs.Resources.{subs_of, words_of_subs}

module _ (start : Start) (width height mips layers : ℕ) (shared : Bool) where
  abbrev texture : Resource
  texture = Texture start width height mips layers shared

  abbrev layer : ℕ
  layer = words_of_mips width height mips

  -- the first mips of a layer, behind whole layers
  mips_behind : (before k : ℕ) → words_of_subs texture (before * mips) ≡ before * layer → k ≤ mips
      → words_of_subs texture (before * mips + k) ≡ before * layer + words_of_mips width height k
  mips_behind before zero whole h = rw (add-zero (before * mips), add-zero (before * layer)) whole
  mips_behind before (suc k) whole h =
      let rest = mips_behind before k whole (omega arith) in
      let mip : (before * mips + k) % mips ≡ k = mod-mul-add before mips k (omega arith) in
      rw (add-suc, mip) (ap (λ x. x + words_of_mip width height k) rest ∙ add_assoc (before * layer) _ _)

  -- whole layers
  whole_layers : (before : ℕ) → words_of_subs texture (before * mips) ≡ before * layer
  whole_layers zero = rw (zero-mul mips, zero-mul layer) refl
  whole_layers (suc before) =
      rw (suc-mul before mips, suc-mul before layer) (mips_behind before mips (whole_layers before) (omega arith))

-- all subresources of a resource that is a texture
pub sum_of_subs : {resource : Resource} {start : Start} {width height mips layers : ℕ} {shared : Bool}
    → resource ≡ Texture start width height mips layers shared → words_of_texture width height mips layers ≡ words_of_subs resource (subs_of resource)
sum_of_subs {resource} {start} {width} {height} {mips} {layers} {shared} is =
    subst (λ r. words_of_texture width height mips layers ≡ words_of_subs r (subs_of r)) (sym is)
    (rw (mul_comm mips layers, mul_comm _ layers) (sym (whole_layers start width height mips layers shared layers)))
