-- Footprints: how the rows of a texture's subresource lie in a buffer.
use Rattle.std.specs.Prelude.{ℕ, ◌+◌, ◌-◌, ◌*◌, ◌/◌, ◌%◌, ◌^◌, ◌==◌, ◌&&◌, ◌≤◌, nat_le, min, Bool, Result, Err, Some, None}
use Rattle.dx_base.specs.declared.hresult.Hresult.{Hresult}
use Rattle.dx_base.specs.declared.hresult.Hresult.TheVariants.{InvalidArg}
use Rattle.d3d_resources.specs.declared.footprints.Footprint.{Footprint}
use Rattle.d3d_resources.specs.declared.mips.Extents.{Extents}
use Rattle.d3d_resources.specs.declared.resources.Resource.{Resource}
use Rattle.d3d_resources.specs.declared.resources.Resource.TheVariants.{Buffer, Texture}
use Rattle.d3d_resources.specs.Answers.{valid_or_refused}
use Rattle.d3d_resources.specs.Resources.{words_of_resource, extents_of}

-- rows of these extents, a pitch apart, lie in a buffer of that many words (D3D12_TEXTURE_DATA_PITCH_ALIGNMENT and its kin)
abbrev pub fits_buffer : Extents → ℕ → ℕ → ℕ → Bool
fits_buffer extents size offset pitch =
    (offset % 512 == 0) && ((pitch % 256 == 0) && (nat_le (4 * extents.width) pitch
    && nat_le (offset + pitch * (extents.height - 1) + 4 * extents.width) (4 * size)))

-- the same rows in words. A pitch of 2^32 words or more, which a single row may have, is cut to 2^32 - 1
abbrev pub placed : Extents → ℕ → ℕ → Footprint
placed extents offset pitch =
    record { first = offset / 4; pitch = min (pitch / 4) (2 ^ 32 - 1); width = extents.width; height = extents.height }

-- what `footprint` answers, of rows of these extents
abbrev pub footprint_in : Resource → Extents → ℕ → ℕ → Result Footprint Hresult
footprint_in (Buffer home size) extents offset pitch = valid_or_refused (fits_buffer extents size offset pitch) (placed extents offset pitch)
footprint_in (Texture start width height mips layers shared) extents offset pitch = Err InvalidArg

-- what `footprint` answers: a texture's subresource that is there, in a buffer
abbrev pub footprint_of : Resource → ℕ → Resource → ℕ → ℕ → Result Footprint Hresult
footprint_of texture sub buffer offset pitch =
    elim (extents_of texture sub) [ None ↦ Err InvalidArg | Some extents ↦ footprint_in buffer extents offset pitch ]

-- the rows of a footprint do not overlap, and lie inside the buffer
pub record IsFootprintIn (buffer : Resource) (footprint : Footprint) : Type 0 where
  pub apart : footprint.width ≤ footprint.pitch
  pub inside : footprint.first + footprint.pitch * (footprint.height - 1) + footprint.width ≤ words_of_resource buffer
