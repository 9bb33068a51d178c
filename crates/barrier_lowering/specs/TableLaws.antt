-- The laws of the tables of stages and accesses by which a lowered scope keeps the order that its barriers promise.
use Rattle.std.specs.Prelude.{◌≡◌, ◌≢◌, ◌==◌, Bool, true, false, List, Option, Some, bit_or}
use Rattle.dx_base.specs.declared.kinds.ListType.{ListType}
use Rattle.d3d_resources.specs.declared.resources.Resource.{Resource}
use Rattle.dx_flags.specs.declared.atoms.Kind.{Kind}
use Rattle.dx_flags.specs.declared.atoms.Part.{Part}
use Rattle.dx_flags.specs.Kinds.{has_kind}
use Rattle.dx_flags.specs.Parts.{has_part}
use Rattle.enhanced_barriers.specs.declared.barriers.Barrier.{Barrier}
use Rattle.enhanced_barriers.specs.Legal.{is_legal}
use Rattle.lower_tables.specs.Made.{stage_of_part, is_made_by}
use Rattle.vk_types.specs.declared.accesses.Access.{Access}
use Rattle.vk_types.specs.declared.accesses.Access.TheVariants.{MemoryRead, MemoryWrite}
use Rattle.vk_types.specs.declared.accesses.Accesses.{Accesses}
use Rattle.vk_types.specs.declared.layouts.Change.{Change}
use Rattle.vk_types.specs.declared.layouts.VkLayout.TheVariants.{Undefined}
use Rattle.vk_types.specs.declared.stages.Stage.TheVariants.{AllCommands}
use Rattle.vk_types.specs.declared.stages.Stages.{Stages}
use Rattle.vk_types.specs.Accesses.{access_bit}
use Rattle.vk_types.specs.Stages.{meets, only_stage}
use Rattle.vk_types.specs.Whole.{memory_access, stands_for_access}
use Rattle.barrier_lowering.specs.Barriers.{lowered_barrier}
use Rattle.barrier_lowering.specs.Laws.{first_scope, second_scope}
use Rattle.barrier_lowering.specs.Layouts.{change_in}

-- the stage of a part's commands, and all stages of the device
abbrev pub part_stage : Part → Stages
part_stage part = only_stage (stage_of_part part)

abbrev pub device_stages : Stages
device_stages = only_stage AllCommands

-- a memory access writes
abbrev pub is_write : Access → Bool
is_write access = access_bit (memory_access access) == access_bit MemoryWrite

-- the accesses that the barriers round a batch name: every write, and every read and write of memory
abbrev pub every_write : Accesses
every_write = record { 0 = access_bit MemoryWrite }

abbrev pub every_access : Accesses
every_access = record { 0 = bit_or (access_bit MemoryRead) (access_bit MemoryWrite) }

-- the laws
pub record TablesKeepOrder : Type 0 where
  -- a part's stage is one stage of the device
  pub one : (part : Part) (a b : Stages) → meets a (part_stage part) ≡ true → meets (part_stage part) b ≡ true → meets a b ≡ true
  pub device : (part : Part) → meets device_stages (part_stage part) ≡ true
  pub of_device : (part : Part) → meets (part_stage part) device_stages ≡ true
  -- a part of a barrier's sync has its stage in the scope of that side
  pub before_part : (rs : List (Option Resource)) (barrier : Barrier) (part : Part) →
      has_part part barrier.sync_before ≡ true → meets (part_stage part) (first_scope (lowered_barrier rs barrier)).0 ≡ true
  pub after_part : (rs : List (Option Resource)) (barrier : Barrier) (part : Part) →
      has_part part barrier.sync_after ≡ true → meets (second_scope (lowered_barrier rs barrier)).0 (part_stage part) ≡ true
  -- what a kind of a barrier's access makes is in the scope of that side
  pub made_kind : (rs : List (Option Resource)) (barrier : Barrier) (kind : Kind) (access : Access) →
      has_kind kind barrier.access_before ≡ true → is_made_by kind access ≡ true → stands_for_access (first_scope (lowered_barrier rs barrier)).1 access ≡ true
  pub seen_kind : (rs : List (Option Resource)) (barrier : Barrier) (kind : Kind) (access : Access) →
      has_kind kind barrier.access_after ≡ true → is_made_by kind access ≡ true → stands_for_access (second_scope (lowered_barrier rs barrier)).1 access ≡ true
  -- what a kind makes is named by the barriers round a batch
  pub some_write : (kind : Kind) (access : Access) → is_made_by kind access ≡ true → is_write access ≡ true → stands_for_access every_write access ≡ true
  pub some_read : (kind : Kind) (access : Access) → is_made_by kind access ≡ true → is_write access ≡ false → stands_for_access every_access access ≡ true
  -- both scopes of a legal barrier have a stage of the device
  pub before_device : (rs : List (Option Resource)) (barrier : Barrier) (list : ListType) (shared : Bool) →
      is_legal barrier list shared ≡ true → meets device_stages (first_scope (lowered_barrier rs barrier)).0 ≡ true
  pub after_device : (rs : List (Option Resource)) (barrier : Barrier) (list : ListType) (shared : Bool) →
      is_legal barrier list shared ≡ true → meets (second_scope (lowered_barrier rs barrier)).0 device_stages ≡ true
  -- no legal barrier leaves an image in UNDEFINED
  pub known : (rs : List (Option Resource)) (barrier : Barrier) (list : ListType) (shared : Bool) (change : Change) →
      is_legal barrier list shared ≡ true → change_in (lowered_barrier rs barrier) ≡ Some change → change.new ≢ Undefined
