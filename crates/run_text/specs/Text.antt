-- The output of a run: lines of words.
use Rattle.std.specs.Prelude.{ℕ, zero, suc, ◌+◌, ◌/◌, ◌%◌, ◌==◌, List, [], ◌∷◌, ◌++◌, map, flat_map, decimal, codes, Option, Some, None, if◌then◌else◌}
use Rattle.line_forms.specs.declared.cause.Cause.{Cause}
use Rattle.line_forms.specs.Causes.{cause_word}
use Rattle.line_forms.specs.Lines.{hex_word, line_text}
use Rattle.dx_base.specs.Hresult.{code_of}
use Rattle.dx_base.specs.declared.steps.Torn.{Torn}
use Rattle.d3d_machine.specs.declared.calls.Reply.{Reply}
use Rattle.d3d_machine.specs.declared.calls.Reply.TheVariants as reply
use Rattle.d3d_machine.specs.declared.events.Event.{Event}
use Rattle.d3d_machine.specs.declared.events.Event.TheVariants as event
use Rattle.run_text.specs.declared.names.Ending.{Ending}
use Rattle.run_text.specs.declared.names.Names.{Names}
use Rattle.verdicts.specs.declared.rules.Rule.{Rule}
use Rattle.run_text.specs.declared.status.Status.{Status}
use Rattle.run_text.specs.declared.status.Status.TheVariants as status
use Rattle.trace_lines.specs.Names.{name_at}
use Rattle.verdicts.specs.Rules.{rule_word}

-- the lines of a thread's call of that number, by its reply: none where the call has nothing to say
unfoldable pub reply_lines : List ℕ → ℕ → Reply → List (List (List ℕ))
reply_lines name k reply.Done = []
reply_lines name k (reply.Value v) = (name ∷ decimal k ∷ codes "value" ∷ decimal v ∷ []) ∷ []
reply_lines name k (reply.Words ws) = (name ∷ decimal k ∷ codes "words" ∷ map hex_word ws) ∷ []
reply_lines name k (reply.Error e) = (name ∷ decimal k ∷ hex_word (code_of e) ∷ []) ∷ []

-- the lines of a thread's answered calls, the first of which has that number
unfoldable pub answer_lines : List ℕ → ℕ → List Reply → List (List (List ℕ))
answer_lines name k [] = []
answer_lines name k (r ∷ rs) = reply_lines name k r ++ answer_lines name (k + 1) rs

-- the reply of an event, where it is a call of that thread
abbrev pub replies_by : ℕ → Event → List Reply
replies_by t (event.Call u c r) = if (u.0 == t) then r ∷ [] else []
replies_by t (event.Awake u) = []
replies_by t (event.Queue q) = []

-- the replies that a thread's calls had, in order
unfoldable pub replies_in : ℕ → List Event → List Reply
replies_in t [] = []
replies_in t (e ∷ h) = replies_by t e ++ replies_in t h

-- the lines of the answered calls of threads, of which the first has that number; a thread's calls count from 1
unfoldable pub call_lines : ℕ → List (List ℕ) → List Event → List (List (List ℕ))
call_lines t [] h = []
call_lines t (name ∷ names) h = answer_lines name 1 (replies_in t h) ++ call_lines (t + 1) names h

-- the lines of fences' values, of which the first is of the fence of that number
unfoldable pub fence_lines : List (List ℕ) → ℕ → List ℕ → List (List (List ℕ))
fence_lines names f [] = []
fence_lines names f (v ∷ vs) = (codes "fence" ∷ name_at names f ∷ decimal v ∷ []) ∷ fence_lines names (f + 1) vs

-- a line for each object of those numbers
unfoldable pub stalled_lines : List ℕ → List (List ℕ) → List ℕ → List (List (List ℕ))
stalled_lines kind names [] = []
stalled_lines kind names (i ∷ is) = (codes "stalled" ∷ kind ∷ name_at names i ∷ []) ∷ stalled_lines kind names is

-- `usage K`
abbrev pub usage_line : ℕ → List (List ℕ)
usage_line k = codes "usage" ∷ decimal k ∷ []

-- `refused line N CAUSE`
abbrev pub refused_line : ℕ → Cause → List (List ℕ)
refused_line n c = codes "refused" ∷ codes "line" ∷ decimal n ∷ cause_word c ∷ []

-- `broken RULE EVENT`
abbrev pub broken_line : Rule → ℕ → List (List ℕ)
broken_line r n = codes "broken" ∷ rule_word r ∷ decimal n ∷ []

-- `torn HEAP SLOT DECLARED FOUND`
abbrev pub torn_line : Torn → List (List ℕ)
torn_line x = codes "torn" ∷ decimal x.heap ∷ decimal x.slot ∷ decimal x.declared ∷ decimal x.found ∷ []

-- the lines of the answered calls, then those of the fences' last values
unfoldable pub run_lines : Names → List Event → Ending → List (List (List ℕ))
run_lines names h ending = call_lines 0 names.threads h ++ fence_lines names.fences 0 ending.fences

-- the lines of unfinished threads, then those of queues that are not empty
unfoldable pub left_lines : Names → Ending → List (List (List ℕ))
left_lines names ending =
    stalled_lines (codes "thread") names.threads ending.threads ++ stalled_lines (codes "queue") names.queues ending.queues

-- the lines that a run's output has
unfoldable pub output_lines : Names → Status → List Event → Ending → List (List (List ℕ))
output_lines names status.Done h ending = run_lines names h ending
output_lines names status.Stalled h ending = run_lines names h ending ++ left_lines names ending
output_lines names (status.Usage k) h ending = usage_line k ∷ []
output_lines names (status.Refused n c) h ending = refused_line n c ∷ []
output_lines names status.ReadFault h ending = (codes "read" ∷ codes "fault" ∷ []) ∷ []
output_lines names status.WriteFault h ending = []
output_lines names (status.Broken r n) h ending = call_lines 0 names.threads h ++ broken_line r n ∷ []
output_lines names (status.Torn x) h ending = call_lines 0 names.threads h ++ torn_line x ∷ []
output_lines names status.DeviceLost h ending = call_lines 0 names.threads h ++ (codes "device" ∷ codes "lost" ∷ codes "887a0005" ∷ []) ∷ []
output_lines names status.Memory h ending = (codes "out" ∷ codes "of" ∷ codes "memory" ∷ codes "8007000e" ∷ []) ∷ []

-- the output of a run
unfoldable pub output_text : Names → Status → List Event → Ending → List ℕ
output_text names s h ending = flat_map line_text (output_lines names s h ending)

-- the whole output where it says nothing of the run, and memory may be wanting
abbrev pub plain_text : Status → Option (List ℕ)
plain_text status.Done = None
plain_text status.Stalled = None
plain_text (status.Usage k) = None
plain_text (status.Refused n c) = None
plain_text status.ReadFault = Some (codes "read fault\n")
plain_text status.WriteFault = None
plain_text (status.Broken r n) = None
plain_text (status.Torn x) = None
plain_text status.DeviceLost = None
plain_text status.Memory = Some (codes "out of memory 8007000e\n")
