-- The mips of a texture: their extents and their words.
use Rattle.std.specs.Prelude.{ℕ, zero, suc, ◌+◌, ◌*◌, ◌/◌, ◌^◌, ◌≤◌, max}
use Rattle.d3d_resources.specs.declared.mips.Extents.{Extents}

-- an extent of a mip: the texture's, halved once for each mip before it, and at least 1 (Vulkan 1.3, 12.3)
abbrev pub extent_of_mip : ℕ → ℕ → ℕ
extent_of_mip extent mip = max 1 (extent / 2 ^ mip)

-- the extents of a mip
abbrev pub extents_of_mip : ℕ → ℕ → ℕ → Extents
extents_of_mip width height mip = record { width = extent_of_mip width mip; height = extent_of_mip height mip }

-- the words of a mip
abbrev pub words_of_mip : ℕ → ℕ → ℕ → ℕ
words_of_mip width height mip = extent_of_mip width mip * extent_of_mip height mip

-- the words of the first mips together, in one layer
abbrev pub words_of_mips : ℕ → ℕ → ℕ → ℕ
words_of_mips width height zero = 0
words_of_mips width height (suc mips) = words_of_mips width height mips + words_of_mip width height mips

-- extents that a mip of a texture may have
pub record AreExtents (extents : Extents) : Type 0 where
  pub wide : 1 ≤ extents.width
  pub high : 1 ≤ extents.height
  pub width : extents.width ≤ 4096
  pub height : extents.height ≤ 4096
