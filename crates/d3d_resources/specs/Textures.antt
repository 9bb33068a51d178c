-- Textures: which extents, mips, layers and starting states or layouts one may have.
use Rattle.std.specs.Prelude.{ℕ, ◌*◌, ◌&&◌, nat_lt, nat_le, max, Bool, true, false, Result}
use Rattle.dx_base.specs.declared.hresult.Hresult.{Hresult}
use Rattle.dx_flags.specs.declared.layouts.Layout.{Layout}
use Rattle.dx_flags.specs.declared.layouts.Layout.TheVariants.{Undefined, Common, GenericRead, UnorderedAccess, ShaderResource, CopySource, CopyDest}
use Rattle.dx_flags.specs.States.{is_valid}
use Rattle.d3d_resources.specs.declared.resources.Start.{Start}
use Rattle.d3d_resources.specs.declared.resources.Start.TheVariants.{Legacy, Enhanced}
use Rattle.d3d_resources.specs.declared.resources.Resource.{Resource}
use Rattle.d3d_resources.specs.declared.resources.Resource.TheVariants.{Texture}
use Rattle.d3d_resources.specs.Answers.{valid_or_refused}
use Rattle.d3d_resources.specs.Digits.{binary_digits}
use Rattle.d3d_resources.specs.Mips.{words_of_mips}

-- a texture may be that wide or high
abbrev pub is_extent : ℕ → Bool
is_extent extent = nat_lt 0 extent && nat_le extent 4096

-- a texture may have that many mips: at least one, and no more than the greater extent has binary digits
abbrev pub is_mip_count : ℕ → ℕ → ℕ → Bool
is_mip_count width height mips = nat_lt 0 mips && nat_le mips (binary_digits (max width height))

-- a texture may have that many layers
abbrev pub is_layer_count : ℕ → Bool
is_layer_count layers = nat_lt 0 layers && nat_le layers 64

-- the words of all subresources of a texture together
abbrev pub words_of_texture : ℕ → ℕ → ℕ → ℕ → ℕ
words_of_texture width height mips layers = words_of_mips width height mips * layers

-- a texture may have these extents, mips and layers: at most 262,144 words in all
abbrev pub is_texture_shape : ℕ → ℕ → ℕ → ℕ → Bool
is_texture_shape width height mips layers =
    is_extent width && (is_extent height && (is_mip_count width height mips
    && (is_layer_count layers && nat_le (words_of_texture width height mips layers) 262144)))

-- a texture may start in that layout: in any but UNDEFINED
abbrev pub is_first_layout : Layout → Bool
is_first_layout Undefined = false
is_first_layout Common = true
is_first_layout GenericRead = true
is_first_layout UnorderedAccess = true
is_first_layout ShaderResource = true
is_first_layout CopySource = true
is_first_layout CopyDest = true

-- a texture may start so: in a valid state, or in a layout
abbrev pub is_start : Start → Bool
is_start (Legacy state) = is_valid state
is_start (Enhanced layout) = is_first_layout layout

-- what `texture` answers
abbrev pub texture_of : Start → ℕ → ℕ → ℕ → ℕ → Bool → Result Resource Hresult
texture_of start width height mips layers shared =
    valid_or_refused (is_start start && is_texture_shape width height mips layers) (Texture start width height mips layers shared)
