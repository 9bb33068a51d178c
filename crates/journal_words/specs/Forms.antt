-- The forms of lines, by their first words.
use Rattle.std.specs.Prelude.{ℕ, ◌==◌, List, [], ◌∷◌, codes, Bool, Option, None}
use Rattle.trace_words.specs.Rows.{row_of}
use Rattle.journal_words.specs.declared.form.Form.{Form}
use Rattle.journal_words.specs.declared.form.Form.TheVariants as form
use Rattle.journal_words.specs.declared.form.LineClass.{LineClass}
use Rattle.journal_words.specs.declared.form.LineClass.TheVariants as class

-- the first word of each form
abbrev pub first_words : List (List ℕ × Form)
first_words =
    (codes "vkjournal", form.Header)
    ∷ (codes "buffer", form.Buffer)
    ∷ (codes "image", form.Image)
    ∷ (codes "heap", form.Heap)
    ∷ (codes "view", form.View)
    ∷ (codes "queues", form.Queues)
    ∷ (codes "submit", form.Submit)
    ∷ (codes "pass", form.Pass)
    ∷ (codes "bump", form.Bump)
    ∷ (codes "command", form.Command)
    ∷ (codes "hostwrite", form.HostWrite)
    ∷ (codes "hostread", form.HostRead)
    ∷ (codes "update", form.Update)
    ∷ (codes "barrier", form.Barrier)
    ∷ (codes "copy", form.Copy)
    ∷ (codes "copyimage", form.CopyImage)
    ∷ (codes "copyin", form.CopyIn)
    ∷ (codes "copyout", form.CopyOut)
    ∷ (codes "clear", form.Clear)
    ∷ (codes "dispatch", form.Dispatch)
    ∷ (codes "end", form.End)
    ∷ []

-- the form of a line of words
unfoldable pub form_of : List (List ℕ) → Option Form
form_of [] = None
form_of (w ∷ ws) = row_of first_words w

-- what a line of each form is about
abbrev pub class_of : Form → LineClass
class_of form.Header = class.Header
class_of form.Buffer = class.Plan
class_of form.Image = class.Plan
class_of form.Heap = class.Plan
class_of form.View = class.Plan
class_of form.Queues = class.Plan
class_of form.Submit = class.Step
class_of form.Pass = class.Step
class_of form.Bump = class.Step
class_of form.Command = class.Step
class_of form.HostWrite = class.Step
class_of form.HostRead = class.Step
class_of form.Update = class.Step
class_of form.Barrier = class.Command
class_of form.Copy = class.Command
class_of form.CopyImage = class.Command
class_of form.CopyIn = class.Command
class_of form.CopyOut = class.Command
class_of form.Clear = class.Command
class_of form.Dispatch = class.Command
class_of form.End = class.Step

-- the place of each class among all
abbrev pub class_code : LineClass → ℕ
class_code class.Header = 0
class_code class.Plan = 1
class_code class.Step = 2
class_code class.Command = 3

abbrev pub same_class : LineClass → LineClass → Bool
same_class a b = class_code a == class_code b
