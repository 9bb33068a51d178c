-- Views of buffers and of textures.
use Rattle.std.specs.Prelude.{ℕ, ◌+◌, ◌*◌, ◌/◌, ◌%◌, ◌==◌, ◌&&◌, ◌<◌, ◌≤◌, nat_lt, nat_le, Bool, true, false, Result, Ok, Err, Some, None}
use Rattle.dx_base.specs.declared.hresult.Hresult.{Hresult}
use Rattle.dx_base.specs.declared.hresult.Hresult.TheVariants.{InvalidArg}
use Rattle.dx_base.specs.declared.ids.ResourceId.{ResourceId}
use Rattle.dx_base.specs.declared.kinds.Class.{Class}
use Rattle.dx_base.specs.declared.kinds.Class.TheVariants.{Cbv, Srv, Uav}
use Rattle.dx_base.specs.declared.kinds.Home.{Home}
use Rattle.dx_base.specs.declared.kinds.Home.TheVariants.{Upload, Readback, Legacy, Enhanced}
use Rattle.dx_base.specs.declared.kinds.View.{View}
use Rattle.d3d_resources.specs.declared.mips.Extents.{Extents}
use Rattle.d3d_resources.specs.declared.resources.Resource.{Resource}
use Rattle.d3d_resources.specs.declared.resources.Resource.TheVariants.{Buffer, Texture}
use Rattle.d3d_resources.specs.Answers.{valid_or_refused}
use Rattle.d3d_resources.specs.Resources.{subs_of, words_of_sub, extents_of}

-- a range of bytes is not empty, begins and ends at multiples of a unit, and lies inside a buffer of that many words
abbrev pub is_range_of : ℕ → ℕ → ℕ → ℕ → Bool
is_range_of unit size offset bytes =
    nat_lt 0 bytes && ((offset % unit == 0) && ((bytes % unit == 0) && nat_le (offset + bytes) (4 * size)))

-- a view of that class may have that range of a buffer of that many words (D3D12_CONSTANT_BUFFER_VIEW_DESC and its kin)
abbrev pub is_view_range : Class → ℕ → ℕ → ℕ → Bool
is_view_range Cbv size offset bytes = nat_le bytes 65536 && is_range_of 256 size offset bytes
is_view_range Srv size offset bytes = is_range_of 4 size offset bytes
is_view_range Uav size offset bytes = is_range_of 4 size offset bytes

-- the device may write a buffer through unordered access views: not one that the host writes or reads
abbrev pub has_unordered_access : Home → Bool
has_unordered_access Upload = false
has_unordered_access Readback = false
has_unordered_access Legacy = true
has_unordered_access Enhanced = true

-- a buffer with that home may have a view of that class
abbrev pub has_class : Home → Class → Bool
has_class home Cbv = true
has_class home Srv = true
has_class home Uav = has_unordered_access home

-- what `buffer_view` answers
abbrev pub buffer_view_of : Class → ResourceId → Resource → ℕ → ℕ → Result View Hresult
buffer_view_of class id (Buffer home size) offset bytes =
    valid_or_refused (has_class home class && is_view_range class size offset bytes)
    (record { class = class; resource = id; sub = 0; first = offset / 4; words = bytes / 4 })
buffer_view_of class id (Texture start width height mips layers shared) offset bytes = Err InvalidArg

-- the view of all words of a subresource of these extents, row by row
abbrev pub whole_view : Class → ResourceId → ℕ → Extents → View
whole_view class id sub extents =
    record { class = class; resource = id; sub = sub; first = 0; words = extents.width * extents.height }

-- what `texture_view` answers
abbrev pub texture_view_of : Class → ResourceId → Resource → ℕ → Result View Hresult
texture_view_of class id resource sub =
    elim (extents_of resource sub) [ None ↦ Err InvalidArg | Some extents ↦ Ok (whole_view class id sub extents) ]

-- the words of a view are words of a subresource that the resource has
pub record IsViewOf (resource : Resource) (view : View) : Type 0 where
  pub exists : view.sub < subs_of resource
  pub inside : view.first + view.words ≤ words_of_sub resource view.sub
