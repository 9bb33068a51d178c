-- Words of the device's buffers as memory: the device has the live buffers alone, the memory a list for each resource.
use Rattle.std.specs.Prelude.{ℕ, List, [], ◌∷◌, Option, Some, None}
use Rattle.d3d_machine.specs.declared.world.World.{World}
use Rattle.d3d_machine.specs.declared.world.Resource.{Resource}

-- the words of each resource, by those of the live ones in order; a dead one has none
abbrev pub spread : List (Option Resource) → List (List ℕ) → List (List ℕ)
spread [] words = []
spread (None ∷ rs) words = [] ∷ spread rs words
spread (Some r ∷ rs) [] = [] ∷ spread rs []
spread (Some r ∷ rs) (x ∷ words) = x ∷ spread rs words

-- the memory that words of the device's buffers are
abbrev pub memory_of : World → List (List ℕ) → List (List ℕ)
memory_of w words = spread w.resources words
