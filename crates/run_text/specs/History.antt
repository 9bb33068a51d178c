-- The text of a history: a line for each event.
use Rattle.std.specs.Prelude.{ℕ, List, [], ◌∷◌, map, flat_map, length, drop, decimal, codes}
use Rattle.dx_base.specs.Hresult.{code_of}
use Rattle.d3d_machine.specs.declared.calls.Reply.{Reply}
use Rattle.d3d_machine.specs.declared.calls.Reply.TheVariants as reply
use Rattle.d3d_machine.specs.declared.events.Event.{Event}
use Rattle.d3d_machine.specs.declared.events.Event.TheVariants as event
use Rattle.run_text.specs.declared.names.Names.{Names}
use Rattle.trace_lines.specs.declared.object.Declared.{Declared}
use Rattle.line_forms.specs.declared.kind.Kind.TheVariants as kind
use Rattle.trace_lines.specs.Known.{names_of_kind}
use Rattle.trace_lines.specs.Names.{name_at}
use Rattle.line_forms.specs.Lines.{hex_word, line_text}
use Rattle.trace_text.specs.Values.{Value}

-- the names of a trace's threads, queues and fences, each list in the order of numbers; those of threads stand last
abbrev pub names_from : List (List ℕ) → List Declared → Names
names_from names ds = record {
  threads = drop (length ds) names;
  queues = names_of_kind kind.Queue names ds;
  fences = names_of_kind kind.Fence names ds;
}

abbrev pub names_in : Value → Names
names_in v = names_from v.names v.declared

-- the words of a call's reply
abbrev pub reply_words : Reply → List (List ℕ)
reply_words reply.Done = codes "ok" ∷ []
reply_words (reply.Value v) = codes "value" ∷ decimal v ∷ []
reply_words (reply.Words ws) = codes "words" ∷ map hex_word ws
reply_words (reply.Error e) = hex_word (code_of e) ∷ []

-- the words of an event; a thread and a queue are written as their names
abbrev pub event_words : Names → Event → List (List ℕ)
event_words names (event.Call t c r) = codes "call" ∷ name_at names.threads t.0 ∷ reply_words r
event_words names (event.Awake t) = codes "awake" ∷ name_at names.threads t.0 ∷ []
event_words names (event.Queue q) = codes "queue" ∷ name_at names.queues q.0 ∷ []

-- a line for an event
unfoldable pub event_text : Names → Event → List ℕ
event_text names e = line_text (event_words names e)

-- the text of a history
abbrev pub history_text : Value → List Event → List ℕ
history_text v h = flat_map (event_text (names_in v)) h
