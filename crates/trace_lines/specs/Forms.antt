-- The forms of lines: for each the parts of its words, and what stands behind them.
use Rattle.std.specs.Prelude.{ℕ, List, [], ◌∷◌, codes}
use Rattle.line_forms.specs.declared.choice.Choices.TheVariants as choices
use Rattle.line_forms.specs.declared.kind.Kind.TheVariants as kind
use Rattle.line_forms.specs.declared.part.Rest.TheVariants.{Nothing, Names, Words}
use Rattle.line_forms.specs.Parts.{Place, Word, Name, NewName, Number, Choice, Row}
use Rattle.trace_lines.specs.declared.form.Class.{Class}
use Rattle.trace_lines.specs.declared.form.Class.TheVariants as class
use Rattle.trace_lines.specs.declared.form.Form.{Form}
use Rattle.trace_lines.specs.declared.form.Form.TheVariants as form

-- a form of parts alone
abbrev pub only : List Place → Row
only ps = record { parts = ps; rest = Nothing }

-- the parts of each form
abbrev pub form_row : Form → Row
form_row form.Header = only (Word (codes "d3dtrace") ∷ Word (codes "1") ∷ [])
form_row form.Queue = only (Word (codes "queue") ∷ NewName ∷ Choice choices.Type ∷ [])
form_row form.Fence = only (Word (codes "fence") ∷ NewName ∷ Number ∷ [])
form_row form.Buffer = only (Word (codes "buffer") ∷ NewName ∷ Choice choices.Home ∷ Number ∷ [])
form_row form.Allocator = only (Word (codes "allocator") ∷ NewName ∷ Choice choices.Type ∷ [])
form_row form.List = only (Word (codes "list") ∷ NewName ∷ Choice choices.Type ∷ [])
form_row form.Thread = only (Word (codes "thread") ∷ NewName ∷ [])
form_row form.Write = record { parts = Word (codes "write") ∷ Name kind.Resource ∷ Number ∷ []; rest = Words }
form_row form.Reset = only (Word (codes "reset") ∷ Name kind.List ∷ Name kind.Allocator ∷ [])
form_row form.Copy = only (Word (codes "copy") ∷ Name kind.List ∷ Name kind.Resource ∷ Number ∷ Name kind.Resource ∷ Number ∷ Number ∷ [])
form_row form.Close = only (Word (codes "close") ∷ Name kind.List ∷ [])
form_row form.Execute = record { parts = Word (codes "execute") ∷ Name kind.Queue ∷ []; rest = Names kind.List }
form_row form.Signal = only (Word (codes "signal") ∷ Name kind.Queue ∷ Name kind.Fence ∷ Number ∷ [])
form_row form.HostSignal = only (Word (codes "hostsignal") ∷ Name kind.Fence ∷ Number ∷ [])
form_row form.HostWait = only (Word (codes "hostwait") ∷ Name kind.Fence ∷ Number ∷ [])
form_row form.Value = only (Word (codes "value") ∷ Name kind.Fence ∷ [])
form_row form.Read = only (Word (codes "read") ∷ Name kind.Resource ∷ Number ∷ Number ∷ [])
form_row form.End = only (Word (codes "end") ∷ [])

-- all forms, in the order in which they are tried
abbrev pub forms : List Form
forms =
    form.Header
    ∷ form.Queue
    ∷ form.Fence
    ∷ form.Buffer
    ∷ form.Allocator
    ∷ form.List
    ∷ form.Thread
    ∷ form.Write
    ∷ form.Reset
    ∷ form.Copy
    ∷ form.Close
    ∷ form.Execute
    ∷ form.Signal
    ∷ form.HostSignal
    ∷ form.HostWait
    ∷ form.Value
    ∷ form.Read
    ∷ form.End
    ∷ []

-- what a line of each form does in a trace
abbrev pub class_of : Form → Class
class_of form.Header = class.Header
class_of form.Queue = class.Queue
class_of form.Fence = class.Declaration
class_of form.Buffer = class.Declaration
class_of form.Allocator = class.Declaration
class_of form.List = class.Declaration
class_of form.Thread = class.Thread
class_of form.Write = class.Call
class_of form.Reset = class.Call
class_of form.Copy = class.Call
class_of form.Close = class.Call
class_of form.Execute = class.Call
class_of form.Signal = class.Call
class_of form.HostSignal = class.Call
class_of form.HostWait = class.Call
class_of form.Value = class.Call
class_of form.Read = class.Call
class_of form.End = class.End
