-- Resources: which are valid, and their subresources.
use Rattle.std.specs.Prelude.{ℕ, zero, suc, ◌+◌, ◌*◌, ◌%◌, ◌&&◌, nat_lt, nat_le, cond, Bool, IsTrue, Option, Some, None}
use Rattle.d3d_resources.specs.declared.mips.Extents.{Extents}
use Rattle.d3d_resources.specs.declared.resources.Resource.{Resource}
use Rattle.d3d_resources.specs.declared.resources.Resource.TheVariants.{Buffer, Texture}
use Rattle.d3d_resources.specs.Mips.{extents_of_mip, words_of_mip}
use Rattle.d3d_resources.specs.Textures.{is_start, is_texture_shape, words_of_texture}

-- a resource is one that `buffer` or `texture` answers
abbrev pub is_resource : Resource → Bool
is_resource (Buffer home size) = nat_lt 0 size && nat_le size 262144
is_resource (Texture start width height mips layers shared) = is_start start && is_texture_shape width height mips layers

-- the same as a condition of calls
abbrev pub IsResource : Resource → Type 0
IsResource resource = IsTrue (is_resource resource)

-- the words of a resource, in all its subresources together
abbrev pub words_of_resource : Resource → ℕ
words_of_resource (Buffer home size) = size
words_of_resource (Texture start width height mips layers shared) = words_of_texture width height mips layers

-- how many subresources a resource has: a buffer is one, and each layer of a texture has its mips
abbrev pub subs_of : Resource → ℕ
subs_of (Buffer home size) = 1
subs_of (Texture start width height mips layers shared) = mips * layers

-- the words of a subresource. Its index is its mip plus its layer times the number of mips
abbrev pub words_of_sub : Resource → ℕ → ℕ
words_of_sub (Buffer home size) sub = size
words_of_sub (Texture start width height mips layers shared) sub = words_of_mip width height (sub % mips)

-- the words of the first subresources together
abbrev pub words_of_subs : Resource → ℕ → ℕ
words_of_subs resource zero = 0
words_of_subs resource (suc subs) = words_of_subs resource subs + words_of_sub resource subs

-- the extents of a texture's subresource, where there is one of that index; a buffer has none
abbrev pub extents_of : Resource → ℕ → Option Extents
extents_of (Buffer home size) sub = None
extents_of (Texture start width height mips layers shared) sub =
    cond (nat_lt sub (mips * layers)) (Some (extents_of_mip width height (sub % mips))) None
