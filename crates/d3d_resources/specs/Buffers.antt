-- Buffers: their sizes.
use Rattle.std.specs.Prelude.{ℕ, ◌/◌, ◌%◌, ◌==◌, ◌&&◌, nat_lt, nat_le, Bool, Result}
use Rattle.dx_base.specs.declared.hresult.Hresult.{Hresult}
use Rattle.dx_base.specs.declared.kinds.Home.{Home}
use Rattle.d3d_resources.specs.declared.resources.Resource.{Resource}
use Rattle.d3d_resources.specs.declared.resources.Resource.TheVariants.{Buffer}
use Rattle.d3d_resources.specs.Answers.{valid_or_refused}

-- a buffer may have that many bytes: whole words, at least one, and at most 1,048,576 bytes
abbrev pub is_buffer_size : ℕ → Bool
is_buffer_size bytes = nat_lt 0 bytes && ((bytes % 4 == 0) && nat_le bytes 1048576)

-- what `buffer` answers
abbrev pub buffer_of : Home → ℕ → Result Resource Hresult
buffer_of home bytes = valid_or_refused (is_buffer_size bytes) (Buffer home (bytes / 4))
