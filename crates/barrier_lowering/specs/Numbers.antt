-- The numbers that resources have on the device: the live buffers and the live textures are numbered, each for themselves, in
-- order of ids.
use Rattle.std.specs.Prelude.{ℕ, suc, ◌≡◌, ◌<◌, Bool, true, false, List, [], ◌∷◌, length, take, slice_get, Option, Some, None, if◌then◌else◌}
use Rattle.d3d_resources.specs.declared.resources.Resource.{Resource}
use Rattle.d3d_resources.specs.declared.resources.Resource.TheVariants.{Buffer, Texture}
use Rattle.barrier_lowering.specs.declared.numbers.Sort.{Sort}
use Rattle.barrier_lowering.specs.declared.numbers.Sort.TheVariants.{Buffers, Images}
use Rattle.barrier_lowering.specs.declared.numbers.Numbers.{Numbers as Tables}

-- a resource is live and of a sort
abbrev pub is_of : Sort → Option Resource → Bool
is_of sort None = false
is_of Buffers (Some (Buffer home words)) = true
is_of Buffers (Some (Texture start width height mips layers shared)) = false
is_of Images (Some (Buffer home words)) = false
is_of Images (Some (Texture start width height mips layers shared)) = true

-- how many live resources of a sort there are
abbrev pub count_of : Sort → List (Option Resource) → ℕ
count_of sort [] = 0
count_of sort (r ∷ rs) = if is_of sort r then suc (count_of sort rs) else count_of sort rs

-- the number of a resource among those of a sort: how many of them come before its id
abbrev pub number_of : Sort → List (Option Resource) → ℕ → ℕ
number_of sort rs id = count_of sort (take id rs)

-- the number of a buffer, and that of a texture's image
abbrev pub buffer_number : List (Option Resource) → ℕ → ℕ
buffer_number rs id = number_of Buffers rs id

abbrev pub image_number : List (Option Resource) → ℕ → ℕ
image_number rs id = number_of Images rs id

-- a table has the number of each resource
pub record AreNumbers (sort : Sort) (rs : List (Option Resource)) (numbers : List ℕ) : Type 0 where
  pub count : length numbers ≡ length rs
  pub each : (id : ℕ) → id < length rs → slice_get numbers id ≡ Some (number_of sort rs id)

-- both tables have them
pub record AreNumbersOf (rs : List (Option Resource)) (tables : Tables) : Type 0 where
  pub buffers : AreNumbers Buffers rs tables.buffers
  pub images : AreNumbers Images rs tables.images
