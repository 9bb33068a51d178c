-- The text of a journal.
use Rattle.std.specs.Prelude.{ℕ, List, [], ◌∷◌, ◌++◌, map, length, codes, decimal, Option, Some, None}
use Rattle.std.specs.List.{flat_map}
use Rattle.line_forms.specs.Lines.{hex_word, line_text}
use Rattle.vk_types.specs.declared.batches.Batch.{Batch}
use Rattle.vk_types.specs.declared.commands.VkCommand.{VkCommand}
use Rattle.vk_types.specs.declared.commands.VkCommand.TheVariants as command
use Rattle.vk_types.specs.declared.layouts.Change.{Change}
use Rattle.vk_types.specs.declared.plan.DevicePlan.{DevicePlan}
use Rattle.vk_types.specs.declared.plan.PlanBuffer.{PlanBuffer}
use Rattle.vk_types.specs.declared.plan.PlanImage.{PlanImage}
use Rattle.vk_types.specs.declared.plan.PlanView.{PlanView}
use Rattle.vk_types.specs.declared.plan.PlanView.TheVariants as view
use Rattle.vk_types.specs.declared.steps.VkStep.{VkStep}
use Rattle.vk_types.specs.declared.steps.VkStep.TheVariants as step
use Rattle.journal_words.specs.PrintedWords.{count_word, pair_word, register_word, sub_word}
use Rattle.journal_words.specs.Tables.{access_rows, class_word, home_word, layout_word, routine_word, stage_rows}
use Rattle.journal_words.specs.Words.{set_word}

-- a change of layout, where there is one
abbrev pub change_words : Option Change → List (List ℕ)
change_words None = []
change_words (Some c) = decimal c.image ∷ sub_word c.sub ∷ layout_word c.old ∷ layout_word c.new ∷ []

-- the words of a command's line
abbrev pub command_words : VkCommand → List (List ℕ)
command_words (command.Barrier from made to seen change) =
    codes "barrier" ∷ set_word stage_rows from.0 ∷ set_word access_rows made.0 ∷ set_word stage_rows to.0 ∷ set_word access_rows seen.0 ∷ change_words change
command_words (command.Copy to to_first from from_first words) =
    codes "copy" ∷ decimal to ∷ decimal to_first ∷ decimal from ∷ decimal from_first ∷ decimal words ∷ []
command_words (command.CopyImage to to_sub to_layout from from_sub from_layout) =
    codes "copyimage" ∷ decimal to ∷ decimal to_sub ∷ layout_word to_layout ∷ decimal from ∷ decimal from_sub ∷ layout_word from_layout ∷ []
command_words (command.CopyIn image sub layout buffer first pitch) =
    codes "copyin" ∷ decimal image ∷ decimal sub ∷ layout_word layout ∷ decimal buffer ∷ decimal first ∷ decimal pitch ∷ []
command_words (command.CopyOut buffer first pitch image sub layout) =
    codes "copyout" ∷ decimal buffer ∷ decimal first ∷ decimal pitch ∷ decimal image ∷ decimal sub ∷ layout_word layout ∷ []
command_words (command.Clear target word) = codes "clear" ∷ register_word target ∷ hex_word word ∷ []
command_words (command.Dispatch routine count t0 t1 u0 b0) =
    codes "dispatch" ∷ routine_word routine ∷ count_word count ∷ register_word t0 ∷ register_word t1 ∷ register_word u0 ∷ register_word b0 ∷ []

-- the words of a batch's line
abbrev pub batch_words : Batch → List (List ℕ)
batch_words b =
    codes "submit" ∷ decimal b.queue ∷ decimal b.number ∷ decimal (length b.commands) ∷ codes "waits"
    ∷ (map pair_word b.waits ++ codes "sets" ∷ map pair_word b.sets)

-- the words of a step's line
abbrev pub step_words : VkStep → List (List ℕ)
step_words (step.Submit b) = batch_words b
step_words (step.Pass q n) = codes "pass" ∷ decimal q ∷ decimal n ∷ []
step_words (step.Command q n k loaded) = codes "command" ∷ decimal q ∷ decimal n ∷ decimal k ∷ map decimal loaded
step_words (step.Bump q n) = codes "bump" ∷ decimal q ∷ decimal n ∷ []
step_words (step.HostWrite buffer first words) = codes "hostwrite" ∷ decimal buffer ∷ decimal first ∷ map hex_word words
step_words (step.HostRead buffer first words) = codes "hostread" ∷ decimal buffer ∷ decimal first ∷ map hex_word words
step_words (step.Update heap slot) = codes "update" ∷ decimal heap ∷ decimal slot ∷ []

-- the commands of a step, which stand on lines of their own
abbrev pub commands_of : VkStep → List VkCommand
commands_of (step.Submit b) = b.commands
commands_of (step.Pass q n) = []
commands_of (step.Command q n k loaded) = []
commands_of (step.Bump q n) = []
commands_of (step.HostWrite buffer first words) = []
commands_of (step.HostRead buffer first words) = []
commands_of (step.Update heap slot) = []

-- the lines of objects
abbrev pub buffer_words : PlanBuffer → List (List ℕ)
buffer_words b = codes "buffer" ∷ decimal b.words ∷ home_word b.home ∷ []

abbrev pub image_words : PlanImage → List (List ℕ)
image_words i = codes "image" ∷ decimal i.width ∷ decimal i.height ∷ decimal i.mips ∷ decimal i.layers ∷ []

abbrev pub heap_words : ℕ → List (List ℕ)
heap_words slots = codes "heap" ∷ decimal slots ∷ []

abbrev pub view_words : PlanView → List (List ℕ)
view_words (view.Buffer class buffer first words) =
    codes "view" ∷ class_word class ∷ codes "buffer" ∷ decimal buffer ∷ decimal first ∷ decimal words ∷ []
view_words (view.Image class image sub) = codes "view" ∷ class_word class ∷ codes "image" ∷ decimal image ∷ decimal sub ∷ []

abbrev pub queues_words : DevicePlan → List (List ℕ)
queues_words plan = codes "queues" ∷ decimal plan.queues ∷ codes "timelines" ∷ decimal plan.timelines ∷ []

-- the texts of lines
unfoldable pub command_text : VkCommand → List ℕ
command_text c = line_text (command_words c)

unfoldable pub step_text : VkStep → List ℕ
step_text s = line_text (step_words s) ++ flat_map command_text (commands_of s)

unfoldable pub buffer_text : PlanBuffer → List ℕ
buffer_text b = line_text (buffer_words b)

unfoldable pub image_text : PlanImage → List ℕ
image_text i = line_text (image_words i)

unfoldable pub heap_text : ℕ → List ℕ
heap_text slots = line_text (heap_words slots)

unfoldable pub view_text : PlanView → List ℕ
view_text v = line_text (view_words v)

-- the objects of a device, and how many queues and timelines it has
unfoldable pub plan_text : DevicePlan → List ℕ
plan_text plan =
    flat_map buffer_text plan.buffers
    ++ (flat_map image_text plan.images ++ (flat_map heap_text plan.heaps ++ (flat_map view_text plan.views ++ line_text (queues_words plan))))

-- the text of a journal: the header, the plan, the steps and the end
unfoldable pub journal_text : DevicePlan → List VkStep → List ℕ
journal_text plan steps =
    line_text (codes "vkjournal" ∷ codes "1" ∷ []) ++ (plan_text plan ++ (flat_map step_text steps ++ line_text (codes "end" ∷ [])))
