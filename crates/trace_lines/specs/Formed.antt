-- Lines by their forms: what a line means, and the line that means it.
use Rattle.std.specs.Prelude.{ℕ, List, [], ◌∷◌, map}
use Rattle.dx_base.specs.declared.ids.ListId.{ListId}
use Rattle.d3d_machine.specs.declared.calls.Call.{Call}
use Rattle.d3d_machine.specs.declared.calls.Call.TheVariants as call
use Rattle.d3d_machine.specs.declared.calls.Record.TheVariants.{Copy}
use Rattle.line_forms.specs.declared.choice.Choice.TheVariants as choice
use Rattle.line_forms.specs.declared.form.Line.{Line}
use Rattle.line_forms.specs.declared.part.PartValue.{PartValue}
use Rattle.line_forms.specs.declared.part.PartValue.TheVariants.{AsItStands, Id, NewName, Number, Chosen}
use Rattle.line_forms.specs.Choices.{type_in, home_in}
use Rattle.line_forms.specs.Printing.{line_words, text_of}
use Rattle.line_forms.specs.Values.{id_at, name_at as new_name_at, number_at, choice_at}
use Rattle.trace_lines.specs.declared.form.Form.{Form}
use Rattle.trace_lines.specs.declared.form.Form.TheVariants as form
use Rattle.trace_lines.specs.declared.item.Item.{Item}
use Rattle.trace_lines.specs.declared.item.Item.TheVariants.{Header, Declares, Starts, Calls, Ends}
use Rattle.trace_lines.specs.declared.object.Declared.{Declared}
use Rattle.trace_lines.specs.declared.object.Declared.TheVariants as declared
use Rattle.trace_lines.specs.Forms.{form_row}
use Rattle.trace_lines.specs.Known.{KnownNames, known_of}

-- a line by its form and what its parts mean
pub record Formed : Type 0 where
  pub form : Form
  pub line : Line

abbrev pub formed : Form → List PartValue → List ℕ → Formed
formed f vs xs = record { form = f; line = record { values = vs; rest = xs } }

-- the line of an object, of a call, and each line
abbrev pub object_formed : List ℕ → Declared → Formed
object_formed n (declared.Queue t) = formed form.Queue (AsItStands ∷ NewName n ∷ Chosen (choice.Type t) ∷ []) []
object_formed n (declared.Fence v) = formed form.Fence (AsItStands ∷ NewName n ∷ Number v ∷ []) []
object_formed n (declared.Buffer h b) = formed form.Buffer (AsItStands ∷ NewName n ∷ Chosen (choice.Home h) ∷ Number b ∷ []) []
object_formed n (declared.Allocator t) = formed form.Allocator (AsItStands ∷ NewName n ∷ Chosen (choice.Type t) ∷ []) []
object_formed n (declared.List t) = formed form.List (AsItStands ∷ NewName n ∷ Chosen (choice.Type t) ∷ []) []

abbrev pub call_formed : Call → Formed
call_formed (call.Recording l (Copy d doff s soff n)) =
    formed form.Copy (AsItStands ∷ Id l.0 ∷ Id d.0 ∷ Number doff ∷ Id s.0 ∷ Number soff ∷ Number n ∷ []) []
call_formed (call.Close l) = formed form.Close (AsItStands ∷ Id l.0 ∷ []) []
call_formed (call.Reset l a) = formed form.Reset (AsItStands ∷ Id l.0 ∷ Id a.0 ∷ []) []
call_formed (call.Execute q ls) = formed form.Execute (AsItStands ∷ Id q.0 ∷ []) (map (λ l. l.0) ls)
call_formed (call.Signal q f v) = formed form.Signal (AsItStands ∷ Id q.0 ∷ Id f.0 ∷ Number v ∷ []) []
call_formed (call.HostSignal f v) = formed form.HostSignal (AsItStands ∷ Id f.0 ∷ Number v ∷ []) []
call_formed (call.HostWait f v) = formed form.HostWait (AsItStands ∷ Id f.0 ∷ Number v ∷ []) []
call_formed (call.Value f) = formed form.Value (AsItStands ∷ Id f.0 ∷ []) []
call_formed (call.Write b o ws) = formed form.Write (AsItStands ∷ Id b.0 ∷ Number o ∷ []) ws
call_formed (call.Read b o n) = formed form.Read (AsItStands ∷ Id b.0 ∷ Number o ∷ Number n ∷ []) []

abbrev pub item_formed : Item → Formed
item_formed Header = formed form.Header (AsItStands ∷ AsItStands ∷ []) []
item_formed (Declares n d) = object_formed n d
item_formed (Starts n) = formed form.Thread (AsItStands ∷ NewName n ∷ []) []
item_formed (Calls c) = call_formed c
item_formed Ends = formed form.End (AsItStands ∷ []) []

-- the list of a number
abbrev pub list_named : ℕ → ListId
list_named n = record { 0 = n }

-- what a line of each form means, by the places of its values
abbrev pub made : Form → Line → Item
made form.Header line = Header
made form.Queue line = Declares (new_name_at line.values 1) (declared.Queue (type_in (choice_at line.values 2)))
made form.Fence line = Declares (new_name_at line.values 1) (declared.Fence (number_at line.values 2))
made form.Buffer line =
    Declares (new_name_at line.values 1) (declared.Buffer (home_in (choice_at line.values 2)) (number_at line.values 3))
made form.Allocator line = Declares (new_name_at line.values 1) (declared.Allocator (type_in (choice_at line.values 2)))
made form.List line = Declares (new_name_at line.values 1) (declared.List (type_in (choice_at line.values 2)))
made form.Thread line = Starts (new_name_at line.values 1)
made form.Write line = Calls (call.Write (record { 0 = id_at line.values 1 }) (number_at line.values 2) line.rest)
made form.Reset line = Calls (call.Reset (record { 0 = id_at line.values 1 }) (record { 0 = id_at line.values 2 }))
made form.Copy line =
    Calls (call.Recording (record { 0 = id_at line.values 1 }) (Copy (record { 0 = id_at line.values 2 }) (number_at line.values 3)
    (record { 0 = id_at line.values 4 }) (number_at line.values 5) (number_at line.values 6)))
made form.Close line = Calls (call.Close (record { 0 = id_at line.values 1 }))
made form.Execute line = Calls (call.Execute (record { 0 = id_at line.values 1 }) (map list_named line.rest))
made form.Signal line =
    Calls (call.Signal (record { 0 = id_at line.values 1 }) (record { 0 = id_at line.values 2 }) (number_at line.values 3))
made form.HostSignal line = Calls (call.HostSignal (record { 0 = id_at line.values 1 }) (number_at line.values 2))
made form.HostWait line = Calls (call.HostWait (record { 0 = id_at line.values 1 }) (number_at line.values 2))
made form.Value line = Calls (call.Value (record { 0 = id_at line.values 1 }))
made form.Read line = Calls (call.Read (record { 0 = id_at line.values 1 }) (number_at line.values 2) (number_at line.values 3))
made form.End line = Ends

-- the words of a line
abbrev pub formed_words : KnownNames → Formed → List (List ℕ)
formed_words known f = line_words (known_of known) (form_row f.form) f.line

abbrev pub item_words : KnownNames → Item → List (List ℕ)
item_words known i = formed_words known (item_formed i)

-- a line
unfoldable pub item_text : KnownNames → Item → List ℕ
item_text known i = text_of (known_of known) (form_row (item_formed i).form) (item_formed i).line
