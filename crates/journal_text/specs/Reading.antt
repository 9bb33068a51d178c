-- What a line does to what was read before it.
use Rattle.std.specs.Prelude.{ℕ, ◌-◌, ◌==◌, Bool, false, true, List, [], ◌∷◌, ◌++◌, drop, Option, Some, None, Result, Ok, Err, if◌then◌else◌}
use Rattle.line_forms.specs.declared.cause.Cause.{Cause}
use Rattle.line_forms.specs.declared.cause.Cause.TheVariants as cause
use Rattle.vk_types.specs.declared.batches.Batch.{Batch}
use Rattle.vk_types.specs.declared.commands.VkCommand.{VkCommand}
use Rattle.vk_types.specs.declared.plan.DevicePlan.{DevicePlan}
use Rattle.vk_types.specs.declared.steps.VkStep.TheVariants as step
use Rattle.journal_words.specs.declared.form.Form.{Form}
use Rattle.journal_words.specs.declared.form.LineClass.TheVariants as class
use Rattle.journal_text.specs.declared.item.Item.{Item}
use Rattle.journal_text.specs.declared.item.Item.TheVariants as item
use Rattle.journal_text.specs.declared.reading.OpenBatch.{OpenBatch}
use Rattle.journal_text.specs.declared.reading.Reading.{Reading}
use Rattle.journal_words.specs.Forms.{class_of, form_of, same_class}
use Rattle.journal_text.specs.Items.{item_of}
use Rattle.journal_text.specs.Names.{is_large, is_named}

-- a plan of nothing
abbrev pub no_plan : DevicePlan
no_plan = record { buffers = []; images = []; heaps = []; views = []; queues = 0; timelines = 0 }

-- nothing is read
abbrev pub opening : Reading
opening = record { due = class.Header; ended = false; plan = no_plan; steps = []; batch = None }

-- a batch with so many commands still to come; it is submitted where none is
abbrev pub submitted : Reading → Batch → ℕ → Reading
submitted r b left =
    if left == 0 then record r { due = class.Step; steps = r.steps ++ step.Submit b ∷ []; batch = None }
    else record r { due = class.Command; batch = Some (record { batch = b; left = left }) }

-- a batch with one more command
abbrev pub with_command : VkCommand → Batch → Batch
with_command c b = record b { commands = b.commands ++ c ∷ [] }

abbrev pub commanded : Reading → Option OpenBatch → VkCommand → Reading
commanded r None c = r
commanded r (Some o) c = submitted r (with_command c o.batch) (o.left - 1)

-- what a line adds
abbrev pub with_item : Reading → Item → Reading
with_item r item.Header = record r { due = class.Plan }
with_item r (item.Buffer buffer) = record r { plan = record r.plan { buffers = r.plan.buffers ++ buffer ∷ [] } }
with_item r (item.Image image) = record r { plan = record r.plan { images = r.plan.images ++ image ∷ [] } }
with_item r (item.Heap slots) = record r { plan = record r.plan { heaps = r.plan.heaps ++ slots ∷ [] } }
with_item r (item.View view) = record r { plan = record r.plan { views = r.plan.views ++ view ∷ [] } }
with_item r (item.Queues queues timelines) = record r { due = class.Step; plan = record r.plan { queues = queues; timelines = timelines } }
with_item r (item.Submit batch commands) = submitted r batch commands
with_item r (item.Step s) = record r { steps = r.steps ++ s ∷ [] }
with_item r (item.Command c) = commanded r r.batch c
with_item r item.End = record r { ended = true }

-- what was read with one more line, where no number of it is too large and each object that it names is there
unfoldable pub taken_of : Reading → Item → Result Reading Cause
taken_of r i = if is_large i then Err cause.Number else (if is_named r.plan i then Ok (with_item r i) else Err cause.Name)

abbrev pub and_then : {A B : Type 0} → Result A Cause → (A → Result B Cause) → Result B Cause
and_then (Ok x) f = f x
and_then (Err c) f = Err c

-- a line of a form may stand there: it is of the class that is due
abbrev pub may_stand : Reading → Form → Bool
may_stand r f = same_class (class_of f) r.due

-- what was read with one more line of a form
unfoldable pub with_form : Reading → Form → List (List ℕ) → Result Reading Cause
with_form r f ws = if may_stand r f then and_then (item_of f (drop 1 ws)) (taken_of r) else Err cause.Form

abbrev pub by_form : Reading → Option Form → List (List ℕ) → Result Reading Cause
by_form r None ws = Err cause.Form
by_form r (Some f) ws = with_form r f ws

-- what was read with one more line of words, or why it is refused
unfoldable pub with_words : Reading → List (List ℕ) → Result Reading Cause
with_words r ws = by_form r (form_of ws) ws
