-- What the words of a line of each form say.
use Rattle.std.specs.Prelude.{ℕ, ◌==◌, List, [], length, codes, Option, Some, None, Result, if◌then◌else◌}
use Rattle.line_forms.specs.declared.cause.Cause.{Cause}
use Rattle.line_forms.specs.Reading.{word_of}
use Rattle.vk_types.specs.declared.commands.VkCommand.{VkCommand}
use Rattle.vk_types.specs.declared.commands.VkCommand.TheVariants as command
use Rattle.vk_types.specs.declared.layouts.Change.{Change}
use Rattle.vk_types.specs.declared.plan.PlanView.{PlanView}
use Rattle.vk_types.specs.declared.plan.PlanView.TheVariants as view
use Rattle.vk_types.specs.declared.steps.VkStep.{VkStep}
use Rattle.vk_types.specs.declared.steps.VkStep.TheVariants as step
use Rattle.dx_base.specs.declared.kinds.Class.{Class}
use Rattle.journal_words.specs.declared.form.Form.{Form}
use Rattle.journal_words.specs.declared.form.Form.TheVariants as form
use Rattle.journal_text.specs.declared.item.Item.{Item}
use Rattle.journal_text.specs.declared.item.Item.TheVariants as item
use Rattle.journal_words.specs.Fields.{pair_of}
use Rattle.journal_words.specs.LineWords.{Left, accesses_next, all_next, all_or_next, class_next, count_next, data_next, finished, home_next, layout_next, literal_next, number_next, pairs_before, register_next, routine_next, stages_next, viewed_next, wide_next}
use Rattle.journal_words.specs.Words.{narrow_of}

-- commands: `barrier STAGES ACCESSES STAGES ACCESSES`, with `I SUB OLD NEW` behind it where it changes a layout
abbrev pub change_next : Left → Change × Left
change_next l =
    let image = number_next l in
    let sub = all_or_next image.1 in
    let old = layout_next sub.1 in
    let new = layout_next old.1 in
    (record { image = image.0; sub = sub.0; old = old.0; new = new.0 }, new.1)

abbrev pub some_change : Change × Left → Option Change × Left
some_change p = (Some p.0, p.1)

abbrev pub change_or_none : Left → Option Change × Left
change_or_none l = if length l.words == 0 then (None, l) else some_change (change_next l)

abbrev pub barrier_next : Left → VkCommand × Left
barrier_next l =
    let from = stages_next l in
    let made = accesses_next from.1 in
    let to = stages_next made.1 in
    let seen = accesses_next to.1 in
    let change = change_or_none seen.1 in
    (command.Barrier (record { 0 = from.0 }) (record { 0 = made.0 }) (record { 0 = to.0 }) (record { 0 = seen.0 }) change.0, change.1)

-- `copy B FIRST C FIRST WORDS`
abbrev pub copy_next : Left → VkCommand × Left
copy_next l =
    let to = number_next l in
    let to_first = number_next to.1 in
    let from = number_next to_first.1 in
    let from_first = number_next from.1 in
    let words = number_next from_first.1 in
    (command.Copy to.0 to_first.0 from.0 from_first.0 words.0, words.1)

-- `copyimage I SUB LAYOUT J SUB LAYOUT`
abbrev pub copy_image_next : Left → VkCommand × Left
copy_image_next l =
    let to = number_next l in
    let to_sub = number_next to.1 in
    let to_layout = layout_next to_sub.1 in
    let from = number_next to_layout.1 in
    let from_sub = number_next from.1 in
    let from_layout = layout_next from_sub.1 in
    (command.CopyImage to.0 to_sub.0 to_layout.0 from.0 from_sub.0 from_layout.0, from_layout.1)

-- `copyin I SUB LAYOUT B FIRST PITCH`
abbrev pub copy_in_next : Left → VkCommand × Left
copy_in_next l =
    let image = number_next l in
    let sub = number_next image.1 in
    let layout = layout_next sub.1 in
    let buffer = number_next layout.1 in
    let first = number_next buffer.1 in
    let pitch = number_next first.1 in
    (command.CopyIn image.0 sub.0 layout.0 buffer.0 first.0 pitch.0, pitch.1)

-- `copyout B FIRST PITCH I SUB LAYOUT`
abbrev pub copy_out_next : Left → VkCommand × Left
copy_out_next l =
    let buffer = number_next l in
    let first = number_next buffer.1 in
    let pitch = number_next first.1 in
    let image = number_next pitch.1 in
    let sub = number_next image.1 in
    let layout = layout_next sub.1 in
    (command.CopyOut buffer.0 first.0 pitch.0 image.0 sub.0 layout.0, layout.1)

-- `clear REG WORD`
abbrev pub clear_next : Left → VkCommand × Left
clear_next l =
    let target = register_next l in
    let word = data_next target.1 in
    (command.Clear target.0 word.0, word.1)

-- `dispatch ROUTINE COUNT REG REG REG REG`
abbrev pub dispatch_next : Left → VkCommand × Left
dispatch_next l =
    let routine = routine_next l in
    let count = count_next routine.1 in
    let t0 = register_next count.1 in
    let t1 = register_next t0.1 in
    let u0 = register_next t1.1 in
    let b0 = register_next u0.1 in
    (command.Dispatch routine.0 count.0 t0.0 t1.0 u0.0 b0.0, b0.1)

-- objects: `buffer WORDS HOME`
abbrev pub buffer_next : Left → Item × Left
buffer_next l =
    let words = number_next l in
    let home = home_next words.1 in
    (item.Buffer (record { words = words.0; home = home.0 }), home.1)

-- `image W H MIPS LAYERS`
abbrev pub image_next : Left → Item × Left
image_next l =
    let width = number_next l in
    let height = number_next width.1 in
    let mips = number_next height.1 in
    let layers = number_next mips.1 in
    (item.Image (record { width = width.0; height = height.0; mips = mips.0; layers = layers.0 }), layers.1)

-- `heap SLOTS`
abbrev pub heap_next : Left → Item × Left
heap_next l =
    let slots = number_next l in
    (item.Heap slots.0, slots.1)

-- `view CLASS buffer B FIRST WORDS`
abbrev pub buffer_view_next : Class → Left → PlanView × Left
buffer_view_next class l =
    let buffer = number_next l in
    let first = number_next buffer.1 in
    let words = number_next first.1 in
    (view.Buffer class buffer.0 first.0 words.0, words.1)

-- `view CLASS image I SUB`
abbrev pub image_view_next : Class → Left → PlanView × Left
image_view_next class l =
    let image = number_next l in
    let sub = number_next image.1 in
    (view.Image class image.0 sub.0, sub.1)

abbrev pub view_next : Left → PlanView × Left
view_next l =
    let class = class_next l in
    let viewed = viewed_next class.1 in
    if viewed.0 then image_view_next class.0 viewed.1 else buffer_view_next class.0 viewed.1

-- `queues N timelines N`
abbrev pub queues_next : Left → Item × Left
queues_next l =
    let queues = number_next l in
    let timelines = number_next (literal_next (codes "timelines") queues.1) in
    (item.Queues queues.0 timelines.0, timelines.1)

-- steps: `submit Q N C waits T:V.. sets T:V..`
abbrev pub submit_next : Left → Item × Left
submit_next l =
    let queue = number_next l in
    let number = wide_next queue.1 in
    let commands = number_next number.1 in
    let waits = pairs_before (codes "sets") (literal_next (codes "waits") commands.1) in
    let sets = all_next pair_of (literal_next (codes "sets") waits.1) in
    (item.Submit (record { queue = queue.0; number = number.0; waits = waits.0; commands = []; sets = sets.0 }) commands.0, sets.1)

-- `pass Q N`
abbrev pub pass_next : Left → VkStep × Left
pass_next l =
    let queue = number_next l in
    let number = wide_next queue.1 in
    (step.Pass queue.0 number.0, number.1)

-- `bump Q N`
abbrev pub bump_next : Left → VkStep × Left
bump_next l =
    let queue = number_next l in
    let number = wide_next queue.1 in
    (step.Bump queue.0 number.0, number.1)

-- `command Q N K V..`
abbrev pub command_next : Left → VkStep × Left
command_next l =
    let queue = number_next l in
    let number = wide_next queue.1 in
    let place = number_next number.1 in
    let loaded = all_next narrow_of place.1 in
    (step.Command queue.0 number.0 place.0 loaded.0, loaded.1)

-- `hostwrite B FIRST W..`
abbrev pub host_write_next : Left → VkStep × Left
host_write_next l =
    let buffer = number_next l in
    let first = number_next buffer.1 in
    let words = all_next word_of first.1 in
    (step.HostWrite buffer.0 first.0 words.0, words.1)

-- `hostread B FIRST W..`
abbrev pub host_read_next : Left → VkStep × Left
host_read_next l =
    let buffer = number_next l in
    let first = number_next buffer.1 in
    let words = all_next word_of first.1 in
    (step.HostRead buffer.0 first.0 words.0, words.1)

-- `update H S`
abbrev pub update_next : Left → VkStep × Left
update_next l =
    let heap = number_next l in
    let slot = number_next heap.1 in
    (step.Update heap.0 slot.0, slot.1)

-- a view, a step and a command as what a line says
abbrev pub as_view : PlanView × Left → Item × Left
as_view p = (item.View p.0, p.1)

abbrev pub as_step : VkStep × Left → Item × Left
as_step p = (item.Step p.0, p.1)

abbrev pub as_command : VkCommand × Left → Item × Left
as_command p = (item.Command p.0, p.1)

-- what a line of a form says, by the words behind its first one
abbrev pub item_next : Form → Left → Item × Left
item_next form.Header l = (item.Header, literal_next (codes "1") l)
item_next form.Buffer l = buffer_next l
item_next form.Image l = image_next l
item_next form.Heap l = heap_next l
item_next form.View l = as_view (view_next l)
item_next form.Queues l = queues_next l
item_next form.Submit l = submit_next l
item_next form.Pass l = as_step (pass_next l)
item_next form.Bump l = as_step (bump_next l)
item_next form.Command l = as_step (command_next l)
item_next form.HostWrite l = as_step (host_write_next l)
item_next form.HostRead l = as_step (host_read_next l)
item_next form.Update l = as_step (update_next l)
item_next form.Barrier l = as_command (barrier_next l)
item_next form.Copy l = as_command (copy_next l)
item_next form.CopyImage l = as_command (copy_image_next l)
item_next form.CopyIn l = as_command (copy_in_next l)
item_next form.CopyOut l = as_command (copy_out_next l)
item_next form.Clear l = as_command (clear_next l)
item_next form.Dispatch l = as_command (dispatch_next l)
item_next form.End l = (item.End, l)

-- what words say by a form; else the earliest cause among them
abbrev pub read_finished : Item × Left → Result Item Cause
read_finished p = finished p.0 p.1

unfoldable pub item_of : Form → List (List ℕ) → Result Item Cause
item_of f ws = read_finished (item_next f (record { words = ws; cause = None }))
