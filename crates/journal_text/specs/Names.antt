-- Which objects of a device a line names.
use Rattle.std.specs.Prelude.{ℕ, ◌+◌, ◌*◌, ◌^◌, ◌&&◌, nat_lt, nat_le, Bool, true, false, List, length, slice_get, Option, Some, None}
use Rattle.std.specs.List.{list_all}
use Rattle.vk_types.specs.declared.batches.Batch.{Batch}
use Rattle.vk_types.specs.declared.commands.VkCommand.{VkCommand}
use Rattle.vk_types.specs.declared.commands.VkCommand.TheVariants as command
use Rattle.vk_types.specs.declared.layouts.Change.{Change}
use Rattle.vk_types.specs.declared.plan.DevicePlan.{DevicePlan}
use Rattle.vk_types.specs.declared.plan.PlanImage.{PlanImage}
use Rattle.vk_types.specs.declared.plan.PlanView.{PlanView}
use Rattle.vk_types.specs.declared.plan.PlanView.TheVariants as view
use Rattle.vk_types.specs.declared.registers.Count.{Count}
use Rattle.vk_types.specs.declared.registers.Count.TheVariants as count
use Rattle.vk_types.specs.declared.registers.Register.{Register}
use Rattle.vk_types.specs.declared.registers.Register.TheVariants as register
use Rattle.vk_types.specs.declared.steps.VkStep.{VkStep}
use Rattle.vk_types.specs.declared.steps.VkStep.TheVariants as step
use Rattle.journal_text.specs.declared.item.Item.{Item}
use Rattle.journal_text.specs.declared.item.Item.TheVariants as item

-- an object is there
abbrev pub has_buffer : DevicePlan → ℕ → Bool
has_buffer plan buffer = nat_lt buffer (length plan.buffers)

abbrev pub has_image : DevicePlan → ℕ → Bool
has_image plan image = nat_lt image (length plan.images)

abbrev pub has_view : DevicePlan → ℕ → Bool
has_view plan view = nat_lt view (length plan.views)

abbrev pub has_queue : DevicePlan → ℕ → Bool
has_queue plan queue = nat_lt queue plan.queues

-- a slot is inside its heap
abbrev pub is_in_heap : Option ℕ → ℕ → Bool
is_in_heap None slot = false
is_in_heap (Some slots) slot = nat_lt slot slots

abbrev pub has_slot : DevicePlan → ℕ → ℕ → Bool
has_slot plan heap slot = is_in_heap (slice_get plan.heaps heap) slot

-- a subresource is one of its image
abbrev pub is_in_image : Option PlanImage → ℕ → Bool
is_in_image None sub = false
is_in_image (Some image) sub = nat_lt sub (image.mips * image.layers)

-- the timelines of waits and sets are there
abbrev pub has_timelines : DevicePlan → List (ℕ × ℕ) → Bool
has_timelines plan pairs = list_all (λ (p : ℕ × ℕ). nat_lt p.0 plan.timelines) pairs

-- the view that a slot gave, if it gave one, is there; an answer is one more than the view's number, or 0
abbrev pub has_answers : DevicePlan → List ℕ → Bool
has_answers plan loaded = list_all (λ (a : ℕ). nat_le a (length plan.views)) loaded

-- a view's buffer, or the subresource of its image
abbrev pub is_named_view : DevicePlan → PlanView → Bool
is_named_view plan (view.Buffer class buffer first words) = has_buffer plan buffer
is_named_view plan (view.Image class image sub) = is_in_image (slice_get plan.images image) sub

-- what a register names
abbrev pub is_named_register : DevicePlan → Register → Bool
is_named_register plan register.Unbound = true
is_named_register plan (register.Constant word) = true
is_named_register plan (register.Root buffer first) = has_buffer plan buffer
is_named_register plan (register.Fixed view) = has_view plan view
is_named_register plan (register.Slot heap slot) = has_slot plan heap slot

abbrev pub is_named_count : DevicePlan → Count → Bool
is_named_count plan (count.Number n) = true
is_named_count plan (count.Word buffer word most) = has_buffer plan buffer

abbrev pub is_named_change : DevicePlan → Option Change → Bool
is_named_change plan None = true
is_named_change plan (Some change) = has_image plan change.image

-- the objects of a command
abbrev pub is_named_command : DevicePlan → VkCommand → Bool
is_named_command plan (command.Barrier from made to seen change) = is_named_change plan change
is_named_command plan (command.Copy to to_first from from_first words) = has_buffer plan to && has_buffer plan from
is_named_command plan (command.CopyImage to to_sub to_layout from from_sub from_layout) = has_image plan to && has_image plan from
is_named_command plan (command.CopyIn image sub layout buffer first pitch) = has_image plan image && has_buffer plan buffer
is_named_command plan (command.CopyOut buffer first pitch image sub layout) = has_buffer plan buffer && has_image plan image
is_named_command plan (command.Clear target word) = is_named_register plan target
is_named_command plan (command.Dispatch routine count t0 t1 u0 b0) =
    is_named_count plan count
    && (is_named_register plan t0 && (is_named_register plan t1 && (is_named_register plan u0 && is_named_register plan b0)))

-- the queue and the timelines of a batch
abbrev pub is_named_batch : DevicePlan → Batch → Bool
is_named_batch plan batch = has_queue plan batch.queue && (has_timelines plan batch.waits && has_timelines plan batch.sets)

-- the objects of a step, those of a batch's commands left out
abbrev pub is_named_step : DevicePlan → VkStep → Bool
is_named_step plan (step.Submit batch) = is_named_batch plan batch
is_named_step plan (step.Pass q n) = has_queue plan q
is_named_step plan (step.Command q n k loaded) = has_queue plan q && has_answers plan loaded
is_named_step plan (step.Bump q n) = has_queue plan q
is_named_step plan (step.HostWrite buffer first words) = has_buffer plan buffer
is_named_step plan (step.HostRead buffer first words) = has_buffer plan buffer
is_named_step plan (step.Update heap slot) = has_slot plan heap slot

-- each object that a line names is there, by the objects before it
abbrev pub is_named : DevicePlan → Item → Bool
is_named plan item.Header = true
is_named plan (item.Buffer buffer) = true
is_named plan (item.Image image) = true
is_named plan (item.Heap slots) = true
is_named plan (item.View view) = is_named_view plan view
is_named plan (item.Queues queues timelines) = true
is_named plan (item.Submit batch commands) = is_named_batch plan batch
is_named plan (item.Step step) = is_named_step plan step
is_named plan (item.Command command) = is_named_command plan command
is_named plan item.End = true

-- the texels of an image's first mip, or the word behind a view, pass 32 bits
abbrev pub is_large_image : PlanImage → Bool
is_large_image image = nat_le (2 ^ 32) (image.width * image.height)

abbrev pub is_large_view : PlanView → Bool
is_large_view (view.Buffer class buffer first words) = nat_le (2 ^ 32) (first + words)
is_large_view (view.Image class image sub) = false

abbrev pub is_large : Item → Bool
is_large item.Header = false
is_large (item.Buffer buffer) = false
is_large (item.Image image) = is_large_image image
is_large (item.Heap slots) = false
is_large (item.View view) = is_large_view view
is_large (item.Queues queues timelines) = false
is_large (item.Submit batch commands) = false
is_large (item.Step step) = false
is_large (item.Command command) = false
is_large item.End = false
