-- Worked rows of the rules: each broken, and just kept.
use Rattle.std.specs.Prelude.{◌≡◌, [], ◌∷◌, ◌++◌, Some, None}
use Rattle.dx_base.specs.declared.kinds.Routine.TheVariants.{Fill, Move}
use Rattle.vk_types.specs.declared.commands.VkCommand.TheVariants.{Barrier, Copy, CopyImage, CopyIn, CopyOut, Clear}
use Rattle.vk_types.specs.declared.layouts.VkLayout.TheVariants.{Undefined, General, ShaderReadOnlyOptimal, TransferSrcOptimal, TransferDstOptimal}
use Rattle.vk_types.specs.declared.registers.Register.TheVariants.{Unbound, Constant, Fixed, Slot}
use Rattle.vk_types.specs.declared.steps.VkStep.TheVariants.{Submit, Pass, Command, Bump, HostWrite, HostRead, Update}
use Rattle.vk_types.specs.Stages.{copy_stage, compute_stage}
use Rattle.vk_sync_rules.specs.declared.rules.VkRule.TheVariants.{V1, V2, V3, V4, V5, V6, V7, V8, V9, V10}
use Rattle.vk_sync_rules.specs.AccessSets.{all_stages, all_accesses, no_accesses, every_write, host_stage, host_reads, copy_reads, copy_writes, shader_reads, storage_writes}
use Rattle.vk_sync_rules.specs.Examples.{barrier, leading, trailing, between, change, from_nothing, image_copy, copy, dispatch, batch, begin, run, runs, wrote, broken, wide_broken}

-- V1 on one queue
pub record OrderRows : Type 0 where
  -- a write behind a write
  pub writes : broken (runs (copy ∷ copy ∷ [])) ≡ Some V1
  pub writes_apart : broken (runs (copy ∷ between ∷ copy ∷ [])) ≡ None
  pub writes_other_stage : broken (runs (copy ∷ barrier compute_stage storage_writes copy_stage copy_writes ∷ copy ∷ [])) ≡ Some V1
  pub writes_no_access : broken (runs (copy ∷ barrier copy_stage copy_reads copy_stage copy_writes ∷ copy ∷ [])) ≡ Some V1
  pub writes_unnamed_after : broken (runs (copy ∷ barrier copy_stage copy_writes copy_stage no_accesses ∷ copy ∷ [])) ≡ None
  -- a barrier takes no command behind it
  pub writes_before_barrier : broken (begin (copy ∷ copy ∷ between ∷ []) ++ run 1 ∷ run 2 ∷ []) ≡ Some V1
  -- a read behind a write
  pub reads : broken (runs (copy ∷ barrier copy_stage copy_writes copy_stage copy_writes ∷ Copy 0 0 1 0 4 ∷ [])) ≡ Some V1
  pub reads_apart : broken (runs (copy ∷ barrier copy_stage copy_writes copy_stage copy_reads ∷ Copy 0 0 1 0 4 ∷ [])) ≡ None
  -- a write behind a read asks for order alone
  pub read_then_write : broken (runs (Copy 1 0 0 0 2 ∷ Copy 0 0 1 2 2 ∷ [])) ≡ Some V1
  pub read_then_write_apart : broken (runs (Copy 1 0 0 0 2 ∷ barrier copy_stage no_accesses copy_stage no_accesses ∷ Copy 0 0 1 2 2 ∷ [])) ≡ None
  -- barriers are chained by the stage between them alone
  pub chained : broken (runs (Clear (Fixed 3) 7 ∷ barrier compute_stage storage_writes compute_stage no_accesses ∷ barrier compute_stage no_accesses copy_stage copy_reads ∷ Copy 0 0 1 0 4 ∷ [])) ≡ None
  pub not_chained : broken (runs (Clear (Fixed 3) 7 ∷ barrier compute_stage storage_writes compute_stage no_accesses ∷ barrier copy_stage no_accesses copy_stage copy_reads ∷ Copy 0 0 1 0 4 ∷ [])) ≡ Some V1
  -- a copy within one buffer
  pub over_itself : broken (runs (Copy 0 1 0 0 2 ∷ [])) ≡ Some V1
  pub beside_itself : broken (runs (Copy 0 2 0 0 2 ∷ [])) ≡ None
  -- two registers
  pub registers : broken (runs (dispatch Move 2 (Fixed 0) (Fixed 1) Unbound ∷ [])) ≡ Some V1
  pub registers_apart : broken (runs (dispatch Move 2 (Fixed 0) (Fixed 2) Unbound ∷ [])) ≡ None
  pub registers_used : broken (runs (dispatch Move 1 (Fixed 0) (Fixed 1) Unbound ∷ [])) ≡ None
  -- rows of a copy that lie over one another
  pub rows_over : wide_broken (runs (from_nothing General ∷ CopyOut 0 0 1 0 0 General ∷ [])) ≡ Some V1
  pub rows_apart : wide_broken (runs (from_nothing General ∷ CopyOut 0 0 2 0 0 General ∷ [])) ≡ None
  pub rows_read_twice : wide_broken (runs (from_nothing General ∷ CopyIn 0 0 General 0 0 0 ∷ [])) ≡ None
  -- no words conflict with nothing
  pub no_words : broken (runs (copy ∷ Copy 0 0 1 2 0 ∷ [])) ≡ None
  -- a layout change: its first scope, and what its own barrier makes available
  pub change_unordered : broken (runs (from_nothing General ∷ image_copy General General ∷ change compute_stage no_accesses General TransferDstOptimal ∷ [])) ≡ Some V1
  pub change_unavailable : broken (runs (from_nothing General ∷ image_copy General General ∷ change copy_stage copy_reads General TransferDstOptimal ∷ [])) ≡ Some V1
  pub change_ordered : broken (runs (from_nothing General ∷ image_copy General General ∷ change copy_stage copy_writes General TransferDstOptimal ∷ [])) ≡ None

-- V1 between the host and queues, and between queues
pub record WaitRows : Type 0 where
  -- a write of the host
  pub host_then_copy : broken (wrote ∷ runs (copy ∷ [])) ≡ None
  pub host_too_late : broken (Submit (batch 0 0 [] (copy ∷ []) ((0, 1) ∷ [])) ∷ wrote ∷ Pass 0 0 ∷ run 1 ∷ []) ≡ Some V1
  pub copy_then_host : broken (runs (copy ∷ []) ++ wrote ∷ []) ≡ Some V1
  pub ended_then_host : broken (runs (copy ∷ []) ++ Bump 0 0 ∷ wrote ∷ []) ≡ None
  pub host_of_no_words : broken (runs (copy ∷ []) ++ HostWrite 0 2 [] ∷ []) ≡ None
  -- two queues
  pub no_wait : broken (runs (copy ∷ []) ++ Bump 0 0 ∷ Submit (batch 1 1 [] (copy ∷ []) []) ∷ Pass 1 1 ∷ Command 1 1 1 [] ∷ []) ≡ Some V1
  pub wait : broken (runs (copy ∷ []) ++ Bump 0 0 ∷ Submit (batch 1 1 ((0, 1) ∷ []) (copy ∷ []) []) ∷ Pass 1 1 ∷ Command 1 1 1 [] ∷ []) ≡ None
  -- a wait does not cover a value above its own
  pub low_wait :
      broken (begin [] ++ Submit (batch 0 1 [] (copy ∷ []) ((0, 2) ∷ [])) ∷ Bump 0 0 ∷ Pass 0 1 ∷ Command 0 1 1 [] ∷ Bump 0 1
      ∷ Submit (batch 1 1 ((0, 1) ∷ []) (copy ∷ []) []) ∷ Pass 1 1 ∷ Command 1 1 1 [] ∷ []) ≡ Some V1
  pub high_wait :
      broken (begin [] ++ Submit (batch 0 1 [] (copy ∷ []) ((0, 2) ∷ [])) ∷ Bump 0 0 ∷ Pass 0 1 ∷ Command 0 1 1 [] ∷ Bump 0 1
      ∷ Submit (batch 1 1 ((0, 2) ∷ []) (copy ∷ []) []) ∷ Pass 1 1 ∷ Command 1 1 1 [] ∷ []) ≡ None
  -- an end does not signal the accesses of the next batch
  pub next_batch :
      broken (begin [] ++ Submit (batch 0 1 [] (copy ∷ []) ((0, 2) ∷ [])) ∷ Pass 0 1 ∷ Command 0 1 1 [] ∷ Bump 0 0
      ∷ Submit (batch 1 1 ((0, 1) ∷ []) (copy ∷ []) []) ∷ Pass 1 1 ∷ Command 1 1 1 [] ∷ []) ≡ Some V1

-- V2 and V3
pub record LayoutRows : Type 0 where
  pub undefined : broken (runs (image_copy General General ∷ [])) ≡ Some V2
  pub general : broken (runs (from_nothing General ∷ image_copy General General ∷ [])) ≡ None
  pub other_named : broken (runs (from_nothing General ∷ image_copy General TransferSrcOptimal ∷ [])) ≡ Some V2
  pub not_allowed : broken (runs (from_nothing TransferSrcOptimal ∷ image_copy TransferSrcOptimal TransferSrcOptimal ∷ [])) ≡ Some V2
  pub reads_read_only : broken (runs (from_nothing ShaderReadOnlyOptimal ∷ dispatch Move 2 (Fixed 4) (Fixed 3) Unbound ∷ [])) ≡ None
  pub writes_read_only : broken (runs (from_nothing ShaderReadOnlyOptimal ∷ dispatch Fill 2 Unbound (Fixed 5) (Constant 7) ∷ [])) ≡ Some V2
  pub writes_general : broken (runs (from_nothing General ∷ dispatch Fill 2 Unbound (Fixed 5) (Constant 7) ∷ [])) ≡ None
  -- the layout is the current one, and not that before the change
  pub behind_change :
      broken (runs (from_nothing TransferDstOptimal ∷ change all_stages every_write TransferDstOptimal General ∷ image_copy General General ∷ [])) ≡ None
  pub old_layout : broken (runs (from_nothing General ∷ change all_stages every_write TransferSrcOptimal General ∷ [])) ≡ Some V3
  pub current_layout : broken (runs (from_nothing General ∷ change all_stages every_write General TransferSrcOptimal ∷ [])) ≡ None
  pub from_undefined : broken (runs (from_nothing General ∷ from_nothing TransferSrcOptimal ∷ [])) ≡ None

-- V4, V5 and V9
pub record SubmitRows : Type 0 where
  pub no_rise : broken (Submit (batch 0 0 [] [] ((0, 0) ∷ [])) ∷ []) ≡ Some V4
  pub rise : broken (Submit (batch 0 0 [] [] ((0, 1) ∷ [])) ∷ []) ≡ None
  -- pending values count
  pub pending : broken (Submit (batch 0 0 [] [] ((0, 5) ∷ [])) ∷ Submit (batch 0 1 [] [] ((0, 5) ∷ [])) ∷ []) ≡ Some V4
  pub above_pending : broken (Submit (batch 0 0 [] [] ((0, 5) ∷ [])) ∷ Submit (batch 0 1 [] [] ((0, 6) ∷ [])) ∷ []) ≡ None
  pub far : broken (Submit (batch 0 0 [] [] ((0, 2147483648) ∷ [])) ∷ []) ≡ Some V5
  pub near : broken (Submit (batch 0 0 [] [] ((0, 2147483647) ∷ [])) ∷ []) ≡ None
  pub far_wait : broken (Submit (batch 0 0 ((0, 2147483648) ∷ []) [] []) ∷ []) ≡ Some V5
  -- a wait that is pending keeps later values near to its own
  pub far_from_pending :
      broken (Submit (batch 1 1 ((0, 1) ∷ []) [] []) ∷ Submit (batch 0 0 [] [] ((0, 5) ∷ [])) ∷ Pass 0 0 ∷ Bump 0 0
      ∷ Submit (batch 0 1 [] [] ((0, 2147483649) ∷ [])) ∷ []) ≡ Some V5
  pub near_again :
      broken (Submit (batch 1 1 ((0, 1) ∷ []) [] []) ∷ Submit (batch 0 0 [] [] ((0, 5) ∷ [])) ∷ Pass 0 0 ∷ Bump 0 0 ∷ Pass 1 1
      ∷ Submit (batch 0 1 [] [] ((0, 2147483649) ∷ [])) ∷ []) ≡ None
  -- the numbers of the first queue begin with 0, those of another one with 1
  pub first_queue : broken (Submit (batch 0 1 [] [] []) ∷ []) ≡ Some V9
  pub second_queue : broken (Submit (batch 1 0 [] [] []) ∷ []) ≡ Some V9
  pub numbered : broken (Submit (batch 0 0 [] [] []) ∷ Submit (batch 1 1 [] [] []) ∷ Submit (batch 0 1 [] [] []) ∷ []) ≡ None
  pub gap : broken (Submit (batch 0 0 [] [] []) ∷ Submit (batch 0 2 [] [] []) ∷ []) ≡ Some V9

-- V6, V7 and V8
pub record CommandRows : Type 0 where
  pub in_use : broken (begin (Clear (Slot 0 3) 7 ∷ []) ++ Update 0 3 ∷ []) ≡ Some V6
  pub in_use_when_done : broken (begin (Clear (Slot 0 3) 7 ∷ []) ++ Command 0 0 1 (0 ∷ []) ∷ Update 0 3 ∷ []) ≡ Some V6
  pub not_in_use : broken (begin (Clear (Slot 0 3) 7 ∷ []) ++ Update 0 2 ∷ Command 0 0 1 (0 ∷ []) ∷ Bump 0 0 ∷ Update 0 3 ∷ []) ≡ None
  pub past_end : broken (runs (Copy 1 1 0 0 4 ∷ [])) ≡ Some V7
  pub to_end : broken (runs (Copy 1 1 0 0 3 ∷ [])) ≡ None
  pub no_words_past_end : broken (runs (Copy 1 5 0 0 0 ∷ [])) ≡ Some V7
  pub no_words_at_end : broken (runs (Copy 1 4 0 0 0 ∷ [])) ≡ None
  -- past an end no access is made, so nothing else is asked
  pub makes_none : broken (runs (copy ∷ []) ++ HostWrite 1 1 (0 ∷ 0 ∷ 0 ∷ 0 ∷ []) ∷ []) ≡ Some V7
  pub host_past_end : broken (HostRead 0 1 (0 ∷ 0 ∷ 0 ∷ 0 ∷ []) ∷ []) ≡ Some V7
  pub host_to_end : broken (HostRead 0 0 (0 ∷ 0 ∷ 0 ∷ 0 ∷ []) ∷ []) ≡ None
  pub view_past_end : broken (runs (Clear (Fixed 6) 7 ∷ [])) ≡ Some V7
  pub view_not_used : broken (runs (dispatch Fill 2 (Fixed 6) (Fixed 6) (Constant 7) ∷ [])) ≡ None
  pub no_sub : broken (runs (CopyImage 0 2 General 0 0 General ∷ [])) ≡ Some V7
  pub no_sub_to_change : broken (runs (Barrier all_stages no_accesses all_stages no_accesses (Some (record { image = 0; sub = Some 2; old = Undefined; new = General })) ∷ [])) ≡ Some V7
  pub no_support : broken (runs (barrier compute_stage copy_writes all_stages all_accesses ∷ [])) ≡ Some V8
  pub no_support_behind : broken (runs (barrier all_stages every_write copy_stage shader_reads ∷ [])) ≡ Some V8
  pub host_read_of_commands : broken (runs (barrier all_stages every_write all_stages host_reads ∷ [])) ≡ Some V8
  pub host_read_of_host : broken (runs (barrier all_stages every_write host_stage host_reads ∷ [])) ≡ None
  pub memory_everywhere : broken (runs (barrier copy_stage every_write host_stage all_accesses ∷ [])) ≡ None

-- V10
pub record HostRows : Type 0 where
  pub early : broken (runs (leading ∷ copy ∷ trailing ∷ []) ++ HostRead 1 0 (0 ∷ 0 ∷ 0 ∷ 0 ∷ []) ∷ []) ≡ Some V10
  pub ended : broken (runs (leading ∷ copy ∷ trailing ∷ []) ++ Bump 0 0 ∷ HostRead 1 0 (0 ∷ 0 ∷ 0 ∷ 0 ∷ []) ∷ []) ≡ None
  pub no_barrier : broken (runs (leading ∷ copy ∷ []) ++ Bump 0 0 ∷ HostRead 1 0 (0 ∷ 0 ∷ 0 ∷ 0 ∷ []) ∷ []) ≡ Some V10
  pub no_host_stage : broken (runs (copy ∷ barrier all_stages every_write all_stages all_accesses ∷ []) ++ Bump 0 0 ∷ HostRead 1 0 (0 ∷ []) ∷ []) ≡ Some V10
  -- what a later batch shows is seen once that one has ended
  pub shown_early : broken (runs (copy ∷ []) ++ Bump 0 0 ∷ Submit (batch 0 1 [] (trailing ∷ []) []) ∷ Pass 0 1 ∷ Command 0 1 1 [] ∷ HostRead 1 0 (0 ∷ []) ∷ []) ≡ Some V10
  pub shown : broken (runs (copy ∷ []) ++ Bump 0 0 ∷ Submit (batch 0 1 [] (trailing ∷ []) []) ∷ Pass 0 1 ∷ Command 0 1 1 [] ∷ Bump 0 1 ∷ HostRead 1 0 (0 ∷ []) ∷ []) ≡ None
  pub other_words : broken (runs (Copy 1 0 0 0 2 ∷ []) ++ HostRead 1 2 (0 ∷ 0 ∷ []) ∷ []) ≡ None
  pub own_write : broken (wrote ∷ HostRead 0 0 (5 ∷ []) ∷ []) ≡ None
  pub read_by_device : broken (runs (copy ∷ []) ++ HostRead 0 0 (0 ∷ []) ∷ []) ≡ None
  pub no_words : broken (runs (copy ∷ []) ++ HostRead 1 2 [] ∷ []) ≡ None
