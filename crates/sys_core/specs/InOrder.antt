-- Batches of at most one copy, whose commands the device does in order.
use Rattle.std.specs.Prelude.{◌&&◌, ◌||◌, not, nat_le, Bool, true, false, List, [], ◌∷◌, length, if◌then◌else◌}
use Rattle.std.specs.List.{list_all}
use Rattle.d3d_machine.specs.declared.events.Operation.{Operation}
use Rattle.d3d_machine.specs.declared.events.Operation.TheVariants.{Execute, Signal}
use Rattle.vk_types.specs.declared.commands.VkCommand.{VkCommand}
use Rattle.vk_types.specs.declared.commands.VkCommand.TheVariants.{Barrier, Copy, CopyImage, CopyIn, CopyOut, Clear, Dispatch}
use Rattle.vk_types.specs.Stages.{meets, copy_stage}
use Rattle.vk_port.specs.declared.lanes.Running.{Running}
use Rattle.vk_port.specs.Enabled.{undone}

-- an operation has at most one command
abbrev pub is_single : Operation → Bool
is_single (Execute cs) = nat_le (length cs) 1
is_single (Signal f v) = true

abbrev pub is_barrier : VkCommand → Bool
is_barrier (Barrier from made to seen change) = true
is_barrier (Copy to to_first from from_first words) = false
is_barrier (CopyImage to to_sub to_layout from from_sub from_layout) = false
is_barrier (CopyIn image sub layout buffer first pitch) = false
is_barrier (CopyOut buffer first pitch image sub layout) = false
is_barrier (Clear target word) = false
is_barrier (Dispatch routine count t0 t1 u0 b0) = false

-- a barrier that waits for copies, or a copy of a buffer
abbrev pub is_ordinary : VkCommand → Bool
is_ordinary (Barrier from made to seen change) = meets copy_stage from
is_ordinary (Copy to to_first from from_first words) = true
is_ordinary (CopyImage to to_sub to_layout from from_sub from_layout) = false
is_ordinary (CopyIn image sub layout buffer first pitch) = false
is_ordinary (CopyOut buffer first pitch image sub layout) = false
is_ordinary (Clear target word) = false
is_ordinary (Dispatch routine count t0 t1 u0 b0) = false

-- a barrier for which copies wait
abbrev pub holds_copies : VkCommand → Bool
holds_copies (Barrier from made to seen change) = meets to copy_stage
holds_copies (Copy to to_first from from_first words) = false
holds_copies (CopyImage to to_sub to_layout from from_sub from_layout) = false
holds_copies (CopyIn image sub layout buffer first pitch) = false
holds_copies (CopyOut buffer first pitch image sub layout) = false
holds_copies (Clear target word) = false
holds_copies (Dispatch routine count t0 t1 u0 b0) = false

-- at most one command is no barrier
abbrev pub has_one_at_most : List VkCommand → Bool
has_one_at_most [] = true
has_one_at_most (c ∷ cs) = if is_barrier c then has_one_at_most cs else list_all is_barrier cs

-- a barrier for which copies wait stands first
abbrev pub opens : List VkCommand → Bool
opens [] = true
opens (c ∷ cs) = holds_copies c

-- the commands of a batch of at most one copy
abbrev pub is_short : List VkCommand → Bool
is_short cs = opens cs && (list_all is_ordinary cs && has_one_at_most cs)

-- no command of a batch is done
abbrev pub is_untouched : Running → Bool
is_untouched r = list_all (λ mark. not mark) r.done

-- only barriers of a batch are left
abbrev pub is_spent : Running → Bool
is_spent r = list_all is_barrier (undone r)

-- each batch is short, and where a later one has begun, only barriers of it are left
abbrev pub are_in_order : List Running → Bool
are_in_order [] = true
are_in_order (r ∷ rs) = is_short r.batch.commands && ((is_spent r || list_all is_untouched rs) && are_in_order rs)
