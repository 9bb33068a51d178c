-- The world of a trace.
use Rattle.std.specs.Prelude.{ℕ, ◌/◌, List, [], ◌∷◌, ◌++◌, Option, Some, None, if◌then◌else◌}
use Rattle.dx_base.specs.declared.kinds.ListType.{ListType}
use Rattle.d3d_machine.specs.declared.world.Resource.{Resource}
use Rattle.d3d_machine.specs.declared.world.Resource.TheVariants.{Buffer}
use Rattle.d3d_machine.specs.declared.world.World.{World}
use Rattle.trace_lines.specs.declared.object.Declared.{Declared}
use Rattle.trace_lines.specs.declared.object.Declared.TheVariants as declared
use Rattle.trace_lines.specs.Kinds.{is_refused_size}
use Rattle.trace_text.specs.Values.{Value}

-- the queue, the fence, the resource, the allocator or the list that a declaration makes; a resource whose creation is
-- refused is dead
abbrev pub queue_in : Declared → List ListType
queue_in (declared.Queue t) = t ∷ []
queue_in _ = []

abbrev pub fence_in : Declared → List ℕ
fence_in (declared.Fence v) = v ∷ []
fence_in _ = []

abbrev pub resource_in : Declared → List (Option Resource)
resource_in (declared.Buffer h n) = (if is_refused_size n then None else Some (Buffer h (n / 4))) ∷ []
resource_in _ = []

abbrev pub allocator_in : Declared → List ListType
allocator_in (declared.Allocator t) = t ∷ []
allocator_in _ = []

abbrev pub list_in : Declared → List ListType
list_in (declared.List t) = t ∷ []
list_in _ = []

-- a world with one more object behind those of its kind; whether it is refused may depend on what the world has
abbrev pub with_object : World → Declared → World
with_object w d = record w {
  queues = w.queues ++ queue_in d;
  fences = w.fences ++ fence_in d;
  resources = w.resources ++ resource_in d;
  allocators = w.allocators ++ allocator_in d;
  lists = w.lists ++ list_in d;
}

-- a world with declared objects, one behind the other
unfoldable pub objects_from : World → List Declared → World
objects_from w [] = w
objects_from w (d ∷ ds) = objects_from (with_object w d) ds

-- a world of nothing
abbrev pub no_objects : World
no_objects = record { queues = []; fences = []; resources = []; allocators = []; lists = []; scripts = [] }

-- the declared objects by kind, each in order of declaration, and no scripts
abbrev pub objects_of : List Declared → World
objects_of ds = objects_from no_objects ds

-- the world of a trace: its objects, and the script of each thread
abbrev pub world_of_value : Value → World
world_of_value v = record (objects_of v.declared) { scripts = v.scripts }
