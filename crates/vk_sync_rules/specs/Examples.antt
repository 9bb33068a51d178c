-- The devices, commands and steps of the worked rows.
use Rattle.std.specs.Prelude.{ℕ, ◌+◌, Bool, true, ◌&&◌, List, [], ◌∷◌, ◌++◌, length, Option, Some, None}
use Rattle.dx_base.specs.declared.kinds.Class.TheVariants.{Srv, Uav}
use Rattle.dx_base.specs.declared.kinds.Home.TheVariants.{Enhanced}
use Rattle.dx_base.specs.declared.kinds.Routine.{Routine}
use Rattle.vk_types.specs.declared.accesses.Accesses.{Accesses}
use Rattle.vk_types.specs.declared.batches.Batch.{Batch}
use Rattle.vk_types.specs.declared.commands.VkCommand.{VkCommand}
use Rattle.vk_types.specs.declared.commands.VkCommand.TheVariants.{Barrier, Copy, CopyImage, Dispatch}
use Rattle.vk_types.specs.declared.layouts.VkLayout.{VkLayout}
use Rattle.vk_types.specs.declared.layouts.VkLayout.TheVariants.{Undefined}
use Rattle.vk_types.specs.declared.plan.DevicePlan.{DevicePlan}
use Rattle.vk_types.specs.declared.plan.PlanBuffer.{PlanBuffer}
use Rattle.vk_types.specs.declared.plan.PlanView.TheVariants as view
use Rattle.vk_types.specs.declared.registers.Count.TheVariants.{Number}
use Rattle.vk_types.specs.declared.registers.Register.{Register}
use Rattle.vk_types.specs.declared.registers.Register.TheVariants.{Unbound}
use Rattle.vk_types.specs.declared.stages.Stages.{Stages}
use Rattle.vk_types.specs.declared.steps.VkStep.{VkStep}
use Rattle.vk_types.specs.declared.steps.VkStep.TheVariants.{Submit, Pass, Command, HostWrite}
use Rattle.vk_types.specs.Stages.{copy_stage}
use Rattle.vk_sync_rules.specs.declared.rules.VkRule.{VkRule}
use Rattle.vk_sync_rules.specs.AccessSets.{all_stages, all_accesses, every_write, no_accesses, host_stage, host_reads, copy_writes}
use Rattle.vk_sync_rules.specs.EnabledSteps.{is_enabled}
use Rattle.vk_sync_rules.specs.Rules.{after_step, after_steps}
use Rattle.vk_sync_rules.specs.VkState.{VkState, first_state}

-- two buffers of four words
abbrev pub four_words : PlanBuffer
four_words = record { words = 4; home = Enhanced }

-- an image of two by one texels, with two layers; a heap of four slots; two queues and two timelines
abbrev pub plan : DevicePlan
plan = record {
  buffers = four_words ∷ four_words ∷ [];
  images = record { width = 2; height = 1; mips = 1; layers = 2 } ∷ [];
  heaps = 4 ∷ [];
  views = view.Buffer Srv 0 0 2 ∷ view.Buffer Uav 0 1 2 ∷ view.Buffer Uav 0 2 2 ∷ view.Buffer Uav 1 0 4 ∷ view.Image Srv 0 0 ∷ view.Image Uav 0 1 ∷ view.Buffer Uav 1 2 4 ∷ [];
  queues = 2;
  timelines = 2;
}

abbrev pub at_first : VkState
at_first = first_state plan

-- an image of two by two texels in one layer, and a buffer of eight words
abbrev pub wide_plan : DevicePlan
wide_plan = record {
  buffers = record { words = 8; home = Enhanced } ∷ [];
  images = record { width = 2; height = 2; mips = 2; layers = 1 } ∷ [];
  heaps = [];
  views = [];
  queues = 1;
  timelines = 1;
}

abbrev pub wide : VkState
wide = first_state wide_plan

-- barriers
abbrev pub barrier : Stages → Accesses → Stages → Accesses → VkCommand
barrier from made to seen = Barrier from made to seen None

abbrev pub leading : VkCommand
leading = barrier all_stages every_write all_stages all_accesses

abbrev pub trailing : VkCommand
trailing = barrier all_stages every_write host_stage host_reads

abbrev pub between : VkCommand
between = barrier copy_stage copy_writes copy_stage copy_writes

-- a change of the layout of both subresources of the image, with these accesses before and every access behind
abbrev pub change : Stages → Accesses → VkLayout → VkLayout → VkCommand
change from made old new = Barrier from made all_stages all_accesses (Some (record { image = 0; sub = None; old = old; new = new }))

abbrev pub from_nothing : VkLayout → VkCommand
from_nothing new = change all_stages no_accesses Undefined new

-- a copy of the one subresource into the other
abbrev pub image_copy : VkLayout → VkLayout → VkCommand
image_copy to from = CopyImage 0 1 to 0 0 from

abbrev pub copy : VkCommand
copy = Copy 1 0 0 0 4

-- a dispatch of one register each
abbrev pub dispatch : Routine → ℕ → Register → Register → Register → VkCommand
dispatch routine n t0 u0 b0 = Dispatch routine (Number n) t0 Unbound u0 b0

-- a batch of a queue
abbrev pub batch : ℕ → ℕ → List (ℕ × ℕ) → List VkCommand → List (ℕ × ℕ) → Batch
batch q n waits cs sets = record { queue = q; number = n; waits = waits; commands = cs; sets = sets }

-- the first batch of the first queue is submitted and passes, and sets timeline 0 to 1
abbrev pub begin : List VkCommand → List VkStep
begin cs = Submit (batch 0 0 [] cs ((0, 1) ∷ [])) ∷ Pass 0 0 ∷ []

-- its commands, with no loads
abbrev pub run : ℕ → VkStep
run k = Command 0 0 k []

-- the first commands of the first batch, in order, behind those of a list
abbrev pub run_all : ℕ → List VkCommand → List VkStep
run_all k [] = []
run_all k (c ∷ cs) = run k ∷ run_all (k + 1) cs

-- the first batch runs as a whole, and does not end
abbrev pub runs : List VkCommand → List VkStep
runs cs = begin cs ++ run_all 1 cs

-- the host writes 5, 6, 7 and 8 into buffer 0
abbrev pub wrote : VkStep
wrote = HostWrite 0 0 (5 ∷ 6 ∷ 7 ∷ 8 ∷ [])

-- the first rule that steps break
abbrev pub broken : List VkStep → Option VkRule
broken ss = (after_steps at_first ss).broken

abbrev pub wide_broken : List VkStep → Option VkRule
wide_broken ss = (after_steps wide ss).broken

-- the numbers behind steps
abbrev pub buffers : List VkStep → List (List (Option ℕ))
buffers ss = (after_steps at_first ss).numbers.buffers

abbrev pub images : List VkStep → List (List (List (Option ℕ)))
images ss = (after_steps at_first ss).numbers.images

-- how many accesses steps leave
abbrev pub count_accesses : List VkStep → ℕ
count_accesses ss = length (after_steps at_first ss).accesses

-- each step can be taken when its turn comes
abbrev pub all_enabled : VkState → List VkStep → Bool
all_enabled v [] = true
all_enabled v (s ∷ ss) = is_enabled v s && all_enabled (after_step v s) ss
