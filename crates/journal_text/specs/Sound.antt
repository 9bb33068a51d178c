-- Journals that may be written: each number is one of its field.
use Rattle.std.specs.Prelude.{ℕ, ◌^◌, ◌&&◌, not, nat_lt, Bool, true, length, Option, Some, None}
use Rattle.std.specs.List.{list_all}
use Rattle.vk_types.specs.declared.batches.Batch.{Batch}
use Rattle.vk_types.specs.declared.commands.VkCommand.{VkCommand}
use Rattle.vk_types.specs.declared.commands.VkCommand.TheVariants as command
use Rattle.vk_types.specs.declared.layouts.Change.{Change}
use Rattle.vk_types.specs.declared.plan.DevicePlan.{DevicePlan}
use Rattle.vk_types.specs.declared.plan.PlanBuffer.{PlanBuffer}
use Rattle.vk_types.specs.declared.plan.PlanImage.{PlanImage}
use Rattle.vk_types.specs.declared.plan.PlanView.{PlanView}
use Rattle.vk_types.specs.declared.plan.PlanView.TheVariants as view
use Rattle.vk_types.specs.declared.steps.VkStep.{VkStep}
use Rattle.vk_types.specs.declared.steps.VkStep.TheVariants as step
use Rattle.journal_words.specs.SoundWords.{is_access_set, is_narrow, is_sound_count, is_sound_pair, is_sound_register, is_sound_sub, is_stage_set, is_wide}
use Rattle.journal_text.specs.Names.{is_large_image, is_large_view, is_named_command, is_named_step}
use Rattle.journal_text.specs.Printing.{commands_of}

-- the numbers of a change of layout
abbrev pub is_sound_change : Option Change → Bool
is_sound_change None = true
is_sound_change (Some c) = is_narrow c.image && is_sound_sub c.sub

-- the numbers and sets of a command
abbrev pub is_sound_command : VkCommand → Bool
is_sound_command (command.Barrier from made to seen change) =
    is_stage_set from.0 && (is_access_set made.0 && (is_stage_set to.0 && (is_access_set seen.0 && is_sound_change change)))
is_sound_command (command.Copy to to_first from from_first words) =
    is_narrow to && (is_narrow to_first && (is_narrow from && (is_narrow from_first && is_narrow words)))
is_sound_command (command.CopyImage to to_sub to_layout from from_sub from_layout) =
    is_narrow to && (is_narrow to_sub && (is_narrow from && is_narrow from_sub))
is_sound_command (command.CopyIn image sub layout buffer first pitch) =
    is_narrow image && (is_narrow sub && (is_narrow buffer && (is_narrow first && is_narrow pitch)))
is_sound_command (command.CopyOut buffer first pitch image sub layout) =
    is_narrow buffer && (is_narrow first && (is_narrow pitch && (is_narrow image && is_narrow sub)))
is_sound_command (command.Clear target word) = is_sound_register target && is_narrow word
is_sound_command (command.Dispatch routine count t0 t1 u0 b0) =
    is_sound_count count && (is_sound_register t0 && (is_sound_register t1 && (is_sound_register u0 && is_sound_register b0)))

-- the numbers of a step
abbrev pub is_sound_batch : Batch → Bool
is_sound_batch b =
    is_narrow b.queue
    && (is_wide b.number
    && (is_narrow (length b.commands)
    && (list_all is_sound_pair b.waits && (list_all is_sound_pair b.sets && list_all is_sound_command b.commands))))

abbrev pub is_sound_step : VkStep → Bool
is_sound_step (step.Submit b) = is_sound_batch b
is_sound_step (step.Pass q n) = is_narrow q && is_wide n
is_sound_step (step.Command q n k loaded) = is_narrow q && (is_wide n && (is_narrow k && list_all is_narrow loaded))
is_sound_step (step.Bump q n) = is_narrow q && is_wide n
is_sound_step (step.HostWrite buffer first words) = is_narrow buffer && (is_narrow first && list_all is_narrow words)
is_sound_step (step.HostRead buffer first words) = is_narrow buffer && (is_narrow first && list_all is_narrow words)
is_sound_step (step.Update heap slot) = is_narrow heap && is_narrow slot

-- the numbers of objects; an image's texels and the word behind a view have 32 bits, too
abbrev pub is_sound_buffer : PlanBuffer → Bool
is_sound_buffer b = is_narrow b.words

abbrev pub is_sound_image : PlanImage → Bool
is_sound_image i =
    is_narrow i.width && (is_narrow i.height && (is_narrow i.mips && (is_narrow i.layers && not (is_large_image i))))

abbrev pub is_sound_view : PlanView → Bool
is_sound_view (view.Buffer class buffer first words) =
    is_narrow buffer && (is_narrow first && (is_narrow words && not (is_large_view (view.Buffer class buffer first words))))
is_sound_view (view.Image class image sub) = is_narrow image && is_narrow sub

-- what a step names is there, its commands' objects included
abbrev pub names_all : DevicePlan → VkStep → Bool
names_all plan s = is_named_step plan s && list_all (is_named_command plan) (commands_of s)
