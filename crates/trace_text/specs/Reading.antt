-- What a line does to what was read before it.
use Rattle.std.specs.Prelude.{ℕ, ◌==◌, ◌||◌, nat_lt, nat_le, Bool, true, false, List, [], ◌∷◌, ◌++◌, length, Option, Some, None, Result, Ok, Err, if◌then◌else◌}
use Rattle.std.specs.Str.{bytes_eq}
use Rattle.indexmap.specs.IndexMap.{insert_entry}
use Rattle.line_forms.specs.declared.cause.Cause.{Cause}
use Rattle.line_forms.specs.declared.cause.Cause.TheVariants as cause
use Rattle.trace_lines.specs.declared.item.Item.{Item}
use Rattle.trace_lines.specs.declared.item.Item.TheVariants as item
use Rattle.trace_lines.specs.declared.form.Class.{Class}
use Rattle.trace_lines.specs.declared.form.Class.TheVariants as class
use Rattle.trace_text.specs.declared.reading.Reading.{Reading}
use Rattle.line_forms.specs.declared.kind.Kind.{Kind}
use Rattle.line_forms.specs.declared.kind.Kind.TheVariants as kind
use Rattle.line_forms.specs.Causes.{wrapped}
use Rattle.line_forms.specs.Finding.{form_for}
use Rattle.line_forms.specs.Reading.{Naming, read_row}
use Rattle.trace_lines.specs.declared.form.Form.{Form}
use Rattle.trace_lines.specs.Forms.{forms, form_row, class_of}
use Rattle.trace_lines.specs.Formed.{made}
use Rattle.trace_lines.specs.Things.{Names, number_named, new_name}
use Rattle.trace_lines.specs.Kinds.{count_of, next_thing, is_one_too_many}
use Rattle.trace_lines.specs.Later.{is_later}
use Rattle.trace_text.specs.Scripts.{is_call_too_many, with_call}

-- nothing is read
abbrev pub opening : Reading
opening = record { begun = false; ended = false; names = []; declared = []; scripts = [] }

-- there is a queue
abbrev pub has_queue : Reading → Bool
has_queue r = nat_lt 0 (count_of kind.Queue r.declared)

-- there is a thread
abbrev pub has_thread : Reading → Bool
has_thread r = nat_lt 0 (length r.scripts)

-- a second queue and a second thread come later
abbrev pub is_second : Reading → Class → Bool
is_second r class.Header = false
is_second r class.Queue = has_queue r
is_second r class.Declaration = false
is_second r class.Thread = has_thread r
is_second r class.Call = false
is_second r class.End = false

-- a second header, a declaration behind a thread, and a call before the first thread
abbrev pub is_misplaced : Reading → Class → Bool
is_misplaced r class.Header = r.begun
is_misplaced r class.Queue = nat_lt 0 (length r.scripts)
is_misplaced r class.Declaration = nat_lt 0 (length r.scripts)
is_misplaced r class.Thread = false
is_misplaced r class.Call = length r.scripts == 0
is_misplaced r class.End = false

abbrev pub is_header : Class → Bool
is_header class.Header = true
is_header class.Queue = false
is_header class.Declaration = false
is_header class.Thread = false
is_header class.Call = false
is_header class.End = false

-- why a line of a form may not stand there: it comes later, it is misplaced, or it is the first and not the header
unfoldable pub fault_of_place : Reading → Class → Option Cause
fault_of_place r c =
    if is_second r c then Some cause.Later
    else (if is_misplaced r c then Some cause.Order else (if r.begun || is_header c then None else Some cause.Form))

abbrev pub is_formless : Cause → Bool
is_formless cause.Size = false
is_formless cause.Line = false
is_formless cause.Cut = false
is_formless cause.After = false
is_formless cause.Later = false
is_formless cause.Order = false
is_formless cause.Form = true
is_formless cause.Number = false
is_formless cause.Again = false
is_formless cause.Name = false
is_formless cause.Limit = false

-- a line of no form is told first, then one that may not stand there, and then any other cause
unfoldable pub placed_of : Option Cause → Result Item Cause → Result Item Cause
placed_of None found = found
placed_of (Some place) (Ok i) = Err place
placed_of (Some place) (Err e) = if is_formless e then Err e else Err place

-- a line passes a limit
unfoldable pub is_over : Reading → Item → Bool
is_over r item.Header = false
is_over r (item.Declares n d) = is_one_too_many r.declared d
is_over r (item.Starts n) = nat_le 16 (length r.scripts)
is_over r (item.Calls c) = is_call_too_many r.scripts c
is_over r item.Ends = false

-- what a line adds
unfoldable pub with_item : Reading → Item → Reading
with_item r item.Header = record r { begun = true }
with_item r (item.Declares n d) =
    record r { names = insert_entry bytes_eq r.names n (next_thing r.declared d); declared = r.declared ++ d ∷ [] }
with_item r (item.Starts n) =
    record r { names = insert_entry bytes_eq r.names n (record { kind = kind.Thread; number = length r.scripts }); scripts = r.scripts ++ [] ∷ [] }
with_item r (item.Calls c) = record r { scripts = with_call r.scripts c }
with_item r item.Ends = record r { ended = true }

-- what was read with one more line, where it passes no limit
unfoldable pub taken_of : Reading → Item → Result Reading Cause
taken_of r i = if is_over r i then Err cause.Limit else Ok (with_item r i)

abbrev pub and_then : {A B : Type 0} → Result A Cause → (A → Result B Cause) → Result B Cause
and_then (Ok x) f = f x
and_then (Err e) f = Err e

-- the number of the object of that kind that a word names; a part names no thread
abbrev pub object_named : Names → Kind → List ℕ → Result ℕ Cause
object_named names kind.Queue w = number_named kind.Queue names w
object_named names kind.Fence w = number_named kind.Fence names w
object_named names kind.Resource w = number_named kind.Resource names w
object_named names kind.Allocator w = number_named kind.Allocator names w
object_named names kind.List w = number_named kind.List names w
object_named names kind.Thread w = Err cause.Name

-- what words name: the objects that are declared, and a name that is not yet
abbrev pub naming_of : Names → Naming
naming_of names = record { number = object_named names; fresh = new_name names }

-- what words mean by a form
unfoldable pub read_item : Names → Form → List (List ℕ) → Result Item Cause
read_item names f ws = wrapped (made f) (read_row (naming_of names) (form_row f) ws)

-- what a line means where it stands, or why it is refused
unfoldable pub meant_of : Reading → Form → List (List ℕ) → Result Item Cause
meant_of r f ws = placed_of (fault_of_place r (class_of f)) (read_item r.names f ws)

-- what was read with one more line of a form; or why it is refused
abbrev pub by_form : Reading → Option Form → List (List ℕ) → Result Reading Cause
by_form r None ws = Err cause.Form
by_form r (Some f) ws = and_then (meant_of r f ws) (taken_of r)

-- what was read with one more line of words, or why it is refused
unfoldable pub with_words : Reading → List (List ℕ) → Result Reading Cause
with_words r ws = if is_later ws then Err cause.Later else by_form r (form_for form_row forms ws) ws
