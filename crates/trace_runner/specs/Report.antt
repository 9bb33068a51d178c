-- What the report of a run says: what it read, how it ended, and what it wrote.
use Rattle.std.specs.Prelude.{ℕ, ◌≡◌, ◌⊎◌, List, [], length, Option, Some, None, IfSome, Result, Ok, Err, Bool, false}
use Rattle.std.specs.Io.KnownBytes.{Appends}
use Rattle.dx_base.specs.Faults.{HasRisen}
use Rattle.dx_base.specs.declared.steps.Step.{Step}
use Rattle.d3d_machine.specs.declared.world.World.{World}
use Rattle.d3d_machine.specs.declared.events.Event.{Event}
use Rattle.d3d_machine.specs.Play.{AreOfScripts, IsRun, IsRunButWords, IsFinished, state_after}
use Rattle.text_io.specs.Prefix.{AppendsPart}
use Rattle.run_text.specs.declared.outcome.Outcome.{Outcome}
use Rattle.line_forms.specs.declared.cause.Cause.{Cause}
use Rattle.run_text.specs.declared.status.Status.{Status}
use Rattle.run_text.specs.declared.status.Status.TheVariants as status
use Rattle.run_text.specs.Output.{output_of, refused_of}
use Rattle.trace_text.specs.Values.{Value, value_of}
use Rattle.trace_text.specs.WorldOf.{world_of_value}
use Rattle.verdicts.specs.declared.rules.Verdict.{Verdict}
use Rattle.verdicts.specs.declared.rules.Verdict.TheVariants.{Clean}
use Rattle.vk_port.specs.DeviceView.{DeviceView}
use Rattle.vk_port.specs.Machine.{shown}
use Rattle.sys_core.specs.declared.faults.SysFault.{SysFault}
use Rattle.sys_core.specs.declared.faults.SysFault.TheVariants as fault
use Rattle.sys_core.specs.declared.over.Over.{Over}
use Rattle.sys_core.specs.declared.over.Over.TheVariants as over
use Rattle.sys_core.specs.Ahead.{IsCalm}
use Rattle.sys_core.specs.Consistent.{IsDevice}
use Rattle.sys_core.specs.Laws.{CanGoOn}
use Rattle.sys_core.specs.Opened.{IsUnopened}
use Rattle.sys_core.specs.Steps.{enabled_of}
use Rattle.trace_runner.specs.Rounds.{IsOfRounds}
use Rattle.trace_runner.specs.Steps.{Went}
use Rattle.trace_runner.specs.declared.log.Log.{Log}
use Rattle.trace_runner.specs.declared.words.Words.{Words}
use Rattle.trace_runner.specs.Words.{said_by}

-- what a call was given: the words, the bytes that the source told, and the counts of faults of the source before and after
pub record Given : Type 0 where
  pub words : List (List ℕ)
  pub told : Option (List ℕ)
  pub source : ℕ × ℕ

-- what a run left: the choices, the steps taken, the history, the fences' last values, the device before and after, and the
-- verdict
pub record Left : Type 0 where
  pub choices : List ℕ
  pub taken : List Step
  pub history : List Event
  pub fences : List ℕ
  pub before : DeviceView
  pub device : DeviceView
  pub verdict : Verdict

-- what a run left, by its parts
abbrev pub left_by : Log → List Event → List ℕ → DeviceView → DeviceView → Left
left_by log history fences before device = record {
  choices = log.choices.items;
  taken = log.taken.items;
  history = history;
  fences = fences;
  before = before;
  device = device;
  verdict = Clean;
}

-- a text that says something: the one that the source had, where it tells it
pub record IsRead (told : Option (List ℕ)) (v : Value) : Type 0 where
  pub text : List ℕ
  pub says : value_of text ≡ Ok v
  pub given : IfSome told (λ all. value_of all ≡ Ok v)

-- the words are of the form of the program
pub record AreGood (words : List (List ℕ)) : Type 0 where
  pub said : Words
  pub good : said_by words ≡ Ok said

-- nothing has happened: there is no choice and no event, and the device has no batch
pub record IsUntouched (l : Left) : Type 0 where
  pub choices : l.choices ≡ []
  pub taken : l.taken ≡ []
  pub events : l.history ≡ []
  pub batches : l.device.state.journal ≡ []

-- nothing has happened, and the device has no plan, or the world's objects as they are at first
pub record IsUnbegun (w : World) (l : Left) : Type 0 where
  pub untouched : IsUntouched l
  pub unopened : IsUnopened w l.device

-- the verdict is Clean, as it is for now; the choices lead to the history and the device by the steps that were taken, which
-- are counted; the history is a run but for words, in which each thread's calls are the first of its script, and a run with
-- its words where it is calm, and so in a world of rounds; the device has the batches that its operations lower to
pub record IsUnderway (w : World) (l : Left) : Type 0 where
  pub clean : l.verdict ≡ Clean
  pub went : Went w l.before.rest l.choices l.taken l.history l.device
  pub run : IsRunButWords w l.history
  pub scripts : AreOfScripts w l.history
  pub calm : IsCalm w l.history → IsRun w l.history
  pub rounds : IsOfRounds w → IsRun w l.history
  pub device : IsDevice w l.history (shown l.device.state)

-- what a run leaves that was cut short
abbrev pub IsLeft : World → Left → Type 0
IsLeft w l = IsUnbegun w l ⊎ IsUnderway w l

-- a run took its last step
pub record IsThrough (w : World) (l : Left) : Type 0 where
  pub underway : IsUnderway w l
  pub equal : length l.choices ≡ length l.taken
  pub values : l.fences ≡ (state_after w l.history).desk.fences

-- each script has ended, no thread waits, and each queue is empty
pub record IsDone (w : World) (l : Left) : Type 0 where
  pub through : IsThrough w l
  pub finished : IsFinished w (state_after w l.history).desk

-- a script or a queue is not finished, and neither the system nor the Direct3D machine has a step; so the world is none of
-- rounds
pub record IsStalled (w : World) (l : Left) : Type 0 where
  pub through : IsThrough w l
  pub unfinished : IsFinished w (state_after w l.history).desk → ⊥
  pub no_step : length (enabled_of w l.history l.verdict (shown l.device.state) l.device.offered) ≡ 0
  pub stuck : CanGoOn w l.history → ⊥
  pub no_rounds : IsOfRounds w → ⊥

-- the run of a world: it was finished or stalled, or cut short by the device or for memory
abbrev pub Ran : World → Left → Status → Type 0
Ran w l status.Done = IsDone w l
Ran w l status.Stalled = IsStalled w l
Ran w l (status.Usage k) = ⊥
Ran w l (status.Refused n why) = ⊥
Ran w l status.ReadFault = ⊥
Ran w l status.WriteFault = ⊥
Ran w l (status.Broken r n) = ⊥
Ran w l (status.Torn x) = ⊥
Ran w l status.DeviceLost = HasRisen l.before.faults l.device.faults × IsLeft w l
Ran w l status.Memory = IsLeft w l

-- a trace was read, and its world was run
pub record IsRunOf (told : Option (List ℕ)) (l : Left) (s : Status) (v : Value) : Type 0 where
  pub read : IsRead told v
  pub ran : Ran (world_of_value v) l s

abbrev pub OfTrace : (Value → Type 0) → Option Value → Type 0
OfTrace P None = ⊥
OfTrace P (Some v) = P v

-- a call that ended before a trace was read, or whose trace was refused: nothing has happened, and the device has no plan
pub record IsStopped (t : Option Value) (l : Left) : Type 0 where
  pub no_trace : t ≡ None
  pub untouched : IsUntouched l
  pub no_plan : l.device.plan ≡ None

-- what a status says of what a call was given, of the trace that was read, and of what the run left
abbrev pub Says : Given → Option Value → Left → Status → Type 0
Says g t l status.Done = AreGood g.words × OfTrace (IsRunOf g.told l status.Done) t
Says g t l status.Stalled = AreGood g.words × OfTrace (IsRunOf g.told l status.Stalled) t
Says g t l (status.Usage k) = (said_by g.words ≡ Err k) × IsStopped t l
Says g t l (status.Refused n why) = AreGood g.words × (IfSome g.told (λ all. value_of all ≡ Err (n, why)) × IsStopped t l)
Says g t l status.ReadFault = AreGood g.words × (HasRisen g.source.0 g.source.1 × IsStopped t l)
Says g t l status.WriteFault = ⊥
Says g t l (status.Broken r n) = ⊥
Says g t l (status.Torn x) = ⊥
Says g t l status.DeviceLost = AreGood g.words × OfTrace (IsRunOf g.told l status.DeviceLost) t
Says g t l status.Memory = IsStopped t l ⊎ (AreGood g.words × OfTrace (IsRunOf g.told l status.Memory) t)

-- the world of a trace was run, or was not for want of memory
abbrev pub RanTrace : Value → Option Value → Left → Status → Type 0
RanTrace v None l s = (s ≡ status.Memory) × IsStopped None l
RanTrace v (Some x) l s = (x ≡ v) × Ran (world_of_value v) l s

-- the status of a run that a fault ended
abbrev pub ended_by : SysFault → Status
ended_by fault.Memory = status.Memory
ended_by fault.Lost = status.DeviceLost

-- the status of a run that took its last step
abbrev pub status_at : Over → Status
status_at over.Running = status.Memory
status_at over.Done = status.Done
status_at over.Stalled = status.Stalled
status_at over.Broken = status.Memory
status_at over.Torn = status.Memory

-- the status and the fences' values of a run: it took its last step, whose values are those, or a fault ended it
abbrev pub Ends : Result Over SysFault → List ℕ → (Status × List ℕ) → Type 0
Ends (Ok o) values r = ((r.0 ≡ status_at o) × (r.1 ≡ values)) ⊎ (r.0 ≡ status.Memory)
Ends (Err e) values r = r.0 ≡ ended_by e

-- the words ask for the history
abbrev pub is_shown : Result Words ℕ → Bool
is_shown (Ok said) = said.shown
is_shown (Err k) = false

-- the declarations of a trace whose creation is refused
abbrev pub refused_in : Option Value → List ℕ
refused_in None = []
refused_in (Some v) = refused_of v

-- what came of the call, by its status
abbrev pub outcome_of : Given → Option Value → Left → Status → Outcome
outcome_of g t l s = record {
  status = s;
  shown = is_shown (said_by g.words);
  history = l.history;
  refused = refused_in t;
  fences = l.fences;
}

-- the whole text was written, or a write failed and a part of it was
abbrev pub Writes : Option (List ℕ) → Option (List ℕ) → (ℕ × ℕ) → List ℕ → Status → Status → Type 0
Writes before after sink text meant s =
    ((s ≡ meant) × Appends before after text) ⊎ ((s ≡ status.WriteFault) × (AppendsPart before after text × HasRisen sink.0 sink.1))

-- what was written tells the status that the run had, or that memory was refused
pub record IsWritten (sink : ℕ × ℕ) (before after : Option (List ℕ)) (t : Option Value) (o : Outcome) (s : Status) : Type 0 where
  pub meant : Status
  pub same : (meant ≡ o.status) ⊎ (meant ≡ status.Memory)
  pub text : Writes before after sink (output_of t (record o { status = meant })) meant s

-- a report: the trace that was read, the values of fences, the status that the run had before its output was written,
-- and what was written
pub record IsReport (g : Given) (sink : ℕ × ℕ) (before after : Option (List ℕ)) (left : List ℕ → Left) (s : Status) : Type 0 where
  pub trace : Option Value
  pub fences : List ℕ
  pub meant : Status
  pub says : Says g trace (left fences) meant
  pub text : Writes before after sink (output_of trace (outcome_of g trace (left fences) meant)) meant s

-- the status where the words are not of the form: that, or what a fault of the sink and want of memory make of it
abbrev pub IsUsageAt : ℕ → Status → Type 0
IsUsageAt k status.Done = ⊥
IsUsageAt k status.Stalled = ⊥
IsUsageAt k (status.Usage n) = n ≡ k
IsUsageAt k (status.Refused n why) = ⊥
IsUsageAt k status.ReadFault = ⊥
IsUsageAt k status.WriteFault = Unit {0}
IsUsageAt k (status.Broken r n) = ⊥
IsUsageAt k (status.Torn x) = ⊥
IsUsageAt k status.DeviceLost = ⊥
IsUsageAt k status.Memory = Unit {0}

-- the status where the words are of the form and the text is refused: that, or what a fault of the source or of the sink and
-- want of memory make of it
abbrev pub IsRefusalAt : ℕ × Cause → Status → Type 0
IsRefusalAt p status.Done = ⊥
IsRefusalAt p status.Stalled = ⊥
IsRefusalAt p (status.Usage n) = ⊥
IsRefusalAt p (status.Refused n why) = (n, why) ≡ p
IsRefusalAt p status.ReadFault = Unit {0}
IsRefusalAt p status.WriteFault = Unit {0}
IsRefusalAt p (status.Broken r n) = ⊥
IsRefusalAt p (status.Torn x) = ⊥
IsRefusalAt p status.DeviceLost = ⊥
IsRefusalAt p status.Memory = Unit {0}

-- a call that ends before a trace is run
abbrev pub IsUnrun : Status → Type 0
IsUnrun status.Done = ⊥
IsUnrun status.Stalled = ⊥
IsUnrun (status.Usage n) = Unit {0}
IsUnrun (status.Refused n why) = Unit {0}
IsUnrun status.ReadFault = Unit {0}
IsUnrun status.WriteFault = ⊥
IsUnrun (status.Broken r n) = ⊥
IsUnrun (status.Torn x) = ⊥
IsUnrun status.DeviceLost = ⊥
IsUnrun status.Memory = ⊥

-- a trace is given: the words are of the form of the program, and the source's text is in the grammar where the source
-- tells it
pub record IsTraceGiven (words : List (List ℕ)) (told : Option (List ℕ)) : Type 0 where
  pub good : AreGood words
  pub says : IfSome told (λ all. (v : Value) × (value_of all ≡ Ok v))

-- no fault is told in a call: the counts of faults of the source, of the sink and of the device have not risen
pub record IsFaultless (source sink device : ℕ × ℕ) : Type 0 where
  pub reads : HasRisen source.0 source.1 → ⊥
  pub writes : HasRisen sink.0 sink.1 → ⊥
  pub runs : HasRisen device.0 device.1 → ⊥

-- the status where a trace is given and no fault is told
abbrev pub IsComplete : Status → Type 0
IsComplete status.Done = Unit {0}
IsComplete status.Stalled = Unit {0}
IsComplete (status.Usage n) = ⊥
IsComplete (status.Refused n why) = ⊥
IsComplete status.ReadFault = ⊥
IsComplete status.WriteFault = ⊥
IsComplete (status.Broken r n) = ⊥
IsComplete (status.Torn x) = ⊥
IsComplete status.DeviceLost = ⊥
IsComplete status.Memory = Unit {0}
