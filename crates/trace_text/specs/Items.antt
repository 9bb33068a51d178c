-- The lines of a trace.
use Rattle.std.specs.Prelude.{ℕ, List, [], ◌∷◌, ◌++◌, map, flat_map, length, drop}
use Rattle.d3d_machine.specs.declared.calls.Call.{Call}
use Rattle.trace_lines.specs.declared.item.Item.{Item}
use Rattle.trace_lines.specs.declared.item.Item.TheVariants.{Header, Declares, Starts, Calls, Ends}
use Rattle.trace_lines.specs.declared.object.Declared.{Declared}
use Rattle.trace_lines.specs.Formed.{item_text}
use Rattle.trace_lines.specs.Known.{known_names}
use Rattle.trace_text.specs.Values as trace

-- the lines that declare objects
unfoldable pub object_items : List (List ℕ) → List Declared → List Item
object_items [] ds = []
object_items (n ∷ ns) [] = []
object_items (n ∷ ns) (d ∷ ds) = Declares n d ∷ object_items ns ds

-- the lines of threads, each thread with its calls
unfoldable pub thread_items : List (List ℕ) → List (List Call) → List Item
thread_items [] ss = []
thread_items (n ∷ ns) [] = []
thread_items (n ∷ ns) (s ∷ ss) = Starts n ∷ (map Calls s ++ thread_items ns ss)

-- the lines of a trace: the header, the objects, the threads with their calls, and the last line
abbrev pub items_of : trace.Value → List Item
items_of v =
    Header ∷ (object_items v.names v.declared ++ (thread_items (drop (length v.declared) v.names) v.scripts ++ Ends ∷ []))

-- the text of a trace: no comments, no empty lines, and data words of eight digits
unfoldable pub trace_text : trace.Value → List ℕ
trace_text v = flat_map (item_text (known_names v.names v.declared)) (items_of v)
