-- What a run is at its end, and what a call says of it.
use Rattle.std.proofs.Common.{ℕ, ◌≡◌, ◌<◌, ◌≤◌, ◌-◌, ◌^◌, ◌∙◌, sym, ap, subst, refl, arith, List, length, take, Some, None, Option, ◌⊎◌, inl, inr, IsSome, IfSome, IfOk, IfErr, OnOk, Result, Ok, Err, Bor}
use Rattle.std.specs.Option.{option_copied, unwrap_or}
use Rattle.std.proofs.lemmas.Bool.Decides.{leb_tells}
use Rattle.dx_base.specs.Faults.{HasRisen}
use Rattle.d3d_machine.specs.declared.world.World.{World}
use Rattle.d3d_machine.specs.Play.{state_after}
use Rattle.line_forms.specs.declared.cause.Cause.{Cause}
use Rattle.run_text.specs.declared.status.Status.{Status}
use Rattle.run_text.specs.declared.status.Status.TheVariants as status
use Rattle.run_text.specs.declared.outcome.Outcome.{Outcome}
use Rattle.run_text.specs.Output.{output_of}
use Rattle.trace_text.specs.Values.{Value, value_of}
use Rattle.trace_text.specs.WorldOf.{world_of_value}
use Rattle.sys_core.specs.declared.faults.SysFault.{SysFault}
use Rattle.sys_core.specs.declared.faults.SysFault.TheVariants as fault
use Rattle.sys_core.specs.declared.over.Over.{Over}
use Rattle.sys_core.specs.declared.over.Over.TheVariants as over
use Rattle.sys_core.specs.Ahead.{IsWhole}
use Rattle.sys_core.specs.Keeps.{IsSystem}
use Rattle.sys_core.specs.Over.{IsOver}
use Rattle.sys_core.specs.Steps.{enabled_of}
use Rattle.verdicts.specs.declared.rules.Verdict.TheVariants.{Clean}
use Rattle.sys_core.specs.Answered.{HasCause, HasFaultCause}
use Rattle.vk_port.specs.Machine.{shown}
use Rattle.sys_core.proofs.Progress.{machine_goes}
use Rattle.trace_text.proofs.TakenBytes.{first_bytes}
use Rattle.trace_runner.specs.declared.words.Words.{Words}
use Rattle.trace_runner.specs.Report.{Given, Left, IsRead, AreGood, IsUnbegun, IsUnderway, IsThrough, IsLeft, Ran, RanTrace, IsRunOf, OfTrace, IsStopped, Says, ended_by, status_at, Ends, Writes, IsWritten, IsReport, IsUsageAt, IsRefusalAt, IsUnrun, IsTraceGiven, IsFaultless, IsComplete, outcome_of, is_shown, refused_in}
use Rattle.trace_runner.specs.Steps.{Went}
use Rattle.trace_runner.specs.Words.{said_by}
use Rattle.d3d_machine.proofs.Places.{runs_follow_scripts}
use Rattle.sys_core.specs.Laws.{CanGoOn}
use Rattle.trace_runner.proofs.OfRounds.{rounds_are_calm, rounds_go_on}

-- a run that took steps
underway : (w : World) (l : Left) → l.verdict ≡ Clean → Went w l.before.rest l.choices l.taken l.history l.device → IsSystem w l.history l.device.state → IsWhole w l.history l.device.state → IsUnderway w l
underway w l clean went system whole = record {
  clean = clean;
  went = went;
  run = system.run;
  scripts = runs_follow_scripts w l.history system.run;
  calm = whole.run;
  rounds = λ of. whole.run (rounds_are_calm w l.history of system.run);
  device = system.device;
}

through : (w : World) (l : Left) (values : List ℕ) → IsUnderway w l → length l.choices ≡ length l.taken → l.fences ≡ values → values ≡ (state_after w l.history).desk.fences → IsThrough w l
through w l values under equal is are = record { underway = under; equal = equal; values = is ∙ are }

ran_over : (w : World) (l : Left) (o : Over) (s : Status) → IsSystem w l.history l.device.state → IsThrough w l → IsOver w l.history l.verdict (shown l.device.state) l.device.offered o → (o ≡ over.Done) ⊎ (o ≡ over.Stalled) →
    s ≡ status_at o → Ran w l s
ran_over w l over.Running s system is far last at = elim last [
  | inl e ↦ absurd (cc)
  | inr e ↦ absurd (cc)
]
ran_over w l over.Done s system is far last at = subst (Ran w l) (sym at) (record { through = is; finished = far.0 })
ran_over w l over.Stalled s system is far last at =
    let stuck : CanGoOn w l.history → ⊥ = λ can. omega (arith, subst (λ x. length (enabled_of w l.history x (shown l.device.state) l.device.offered) ≡ 0) is.underway.clean far.1, machine_goes w l.history (shown l.device.state) l.device.offered system.queues system.run system.device can) in
    subst (Ran w l) (sym at)
    (record {
      through = is;
      unfinished = far.0;
      no_step = far.1;
      stuck = stuck;
      no_rounds = λ of. elim (rounds_go_on w l.history of system.run) [ inl done ↦ far.0 done | inr can ↦ stuck can ];
    })
ran_over w l over.Broken s system is far last at = elim last [
  | inl e ↦ absurd (cc)
  | inr e ↦ absurd (cc)
]
ran_over w l over.Torn s system is far last at = absurd far

ran_fault : (w : World) (l : Left) (e : SysFault) (s : Status) → IsUnderway w l → HasFaultCause e l.before.faults l.device.faults → s ≡ ended_by e → Ran w l s
ran_fault w l fault.Memory s under cause at = subst (Ran w l) (sym at) (inr under)
ran_fault w l fault.Lost s under cause at = subst (Ran w l) (sym at) (cause, inr under)

-- the run is finished or stalled where no step is left, and else cut short
pub ran_end : (w : World) (l : Left) (s : Status) (end : Result Over SysFault) → l.verdict ≡ Clean → Went w l.before.rest l.choices l.taken l.history l.device → IsSystem w l.history l.device.state → IsWhole w l.history l.device.state →
    IfOk end (λ o. IsOver w l.history l.verdict (shown l.device.state) l.device.offered o) → IfOk end (λ o. (o ≡ over.Done) ⊎ (o ≡ over.Stalled)) → OnOk end (length l.choices ≡ length l.taken) →
    HasCause l.before.faults l.device.faults end → Ends end (state_after w l.history).desk.fences (s, l.fences) → Ran w l s
ran_end w l s (Ok o) clean went system whole far last equal cause (inl done) =
    ran_over w l o s system (through w l (state_after w l.history).desk.fences (underway w l clean went system whole) equal done.1 refl) far last done.0
ran_end w l s (Ok o) clean went system whole far last equal cause (inr memory) = subst (Ran w l) (sym memory) (inr (underway w l clean went system whole))
ran_end w l s (Err e) clean went system whole far last equal cause at = ran_fault w l e s (underway w l clean went system whole) cause at

-- a run that was refused before its first step
pub ran_none : (w : World) (l : Left) (e : SysFault) (s : Status) → IsUnbegun w l → HasFaultCause e l.before.faults l.device.faults → s ≡ ended_by e → Ran w l s
ran_none w l fault.Memory s none cause at = subst (Ran w l) (sym at) (inl none)
ran_none w l fault.Lost s none cause at = subst (Ran w l) (sym at) (cause, inl none)

risen_before : (a b now : ℕ) → a ≤ b → HasRisen b now → HasRisen a now
risen_before a b now less risen = record {
  kept = omega (arith, less, risen.kept);
  rose = λ small. by_room small;
}
  where
    by_room : a < 2 ^ 64 - 1 → a < now
    by_room small = elim (leb_tells b a) [ inl same ↦ omega (arith, less, same.1, risen.rose (omega (arith, small, same.1))) | inr above ↦ omega (arith, above.1, risen.kept) ]

-- a fault has its cause since before, too
pub fault_since : (e : SysFault) (a b c : ℕ) → a ≤ b → HasFaultCause e b c → HasFaultCause e a c
fault_since fault.Memory a b c le cause = tt
fault_since fault.Lost a b c le cause = risen_before a b c le cause

pub cause_since : (r : Result Over SysFault) (a b c : ℕ) → a ≤ b → HasCause b c r → HasCause a c r
cause_since (Ok o) a b c le cause = tt
cause_since (Err e) a b c le cause = fault_since e a b c le cause

-- what the first bytes say, the source's text says
pub given_value : (told : Option (List ℕ)) (bytes text : List ℕ) (r : Result Value (ℕ × Cause)) → text ≡ bytes → IfSome told (λ all. bytes ≡ take 16777217 all) → value_of text ≡ r →
    IfSome told (λ all. value_of all ≡ r)
given_value None bytes text r same first says = tt
given_value (Some all) bytes text r same first says = sym (first_bytes all) ∙ ap value_of (sym first) ∙ ap value_of (sym same) ∙ says

-- what the run of a trace says
pub says_ran : (g : Given) (t : Option Value) (l : Left) (s : Status) (v : Value) → AreGood g.words → IsRead g.told v → RanTrace v t l s → Says g t l s
says_ran g None l s v good read ran = subst (Says g None l) (sym ran.0) (inl ran.1)
says_ran g (Some x) l s v good read ran =
    let is : IsRunOf g.told l s x = subst (IsRunOf g.told l s) (sym ran.0) (record { read = read; ran = ran.1 }) in
    by_status s is
  where
    by_status : (s : Status) → IsRunOf g.told l s x → Says g (Some x) l s
    by_status status.Done is = (good, is)
    by_status status.Stalled is = (good, is)
    by_status (status.Usage k) is = absurd is.ran
    by_status (status.Refused n why) is = absurd is.ran
    by_status status.ReadFault is = absurd is.ran
    by_status status.WriteFault is = absurd is.ran
    by_status (status.Broken r n) is = absurd is.ran
    by_status (status.Torn y) is = absurd is.ran
    by_status status.DeviceLost is = (good, is)
    by_status status.Memory is = inr (good, is)

left_of : (w : World) (l : Left) (s : Status) → Ran w l s → IsLeft w l
left_of w l status.Done is = inr is.through.underway
left_of w l status.Stalled is = inr is.through.underway
left_of w l (status.Usage k) is = absurd is
left_of w l (status.Refused n why) is = absurd is
left_of w l status.ReadFault is = absurd is
left_of w l status.WriteFault is = absurd is
left_of w l (status.Broken r n) is = absurd is
left_of w l (status.Torn x) is = absurd is
left_of w l status.DeviceLost is = is.1
left_of w l status.Memory is = is

cut : (told : Option (List ℕ)) (l : Left) (s : Status) (v : Value) → IsRunOf told l s v → IsRunOf told l status.Memory v
cut told l s v is = record { read = is.read; ran = left_of (world_of_value v) l s is.ran }

of_cut : (told : Option (List ℕ)) (l : Left) (s : Status) (t : Option Value) → OfTrace (IsRunOf told l s) t → OfTrace (IsRunOf told l status.Memory) t
of_cut told l s None is = is
of_cut told l s (Some v) is = cut told l s v is

-- where memory is refused behind a run, the call says so
says_memory : (g : Given) (t : Option Value) (l : Left) (s : Status) → Says g t l s → Says g t l status.Memory
says_memory g t l status.Done is = inr (is.0, of_cut g.told l status.Done t is.1)
says_memory g t l status.Stalled is = inr (is.0, of_cut g.told l status.Stalled t is.1)
says_memory g t l (status.Usage k) is = inl is.1
says_memory g t l (status.Refused n why) is = inl is.1.1
says_memory g t l status.ReadFault is = inl is.1.1
says_memory g t l status.WriteFault is = absurd is
says_memory g t l (status.Broken r n) is = absurd is
says_memory g t l (status.Torn x) is = absurd is
says_memory g t l status.DeviceLost is = inr (is.0, of_cut g.told l status.DeviceLost t is.1)
says_memory g t l status.Memory is = is

pub says_meant : (g : Given) (t : Option Value) (l : Left) (was meant : Status) → Says g t l was → (meant ≡ was) ⊎ (meant ≡ status.Memory) → Says g t l meant
says_meant g t l was meant says (inl same) = subst (Says g t l) (sym same) says
says_meant g t l was meant says (inr memory) = subst (Says g t l) (sym memory) (says_memory g t l was says)

bad_words : (words : List (List ℕ)) (k : ℕ) → said_by words ≡ Err k → AreGood words → ⊥
bad_words words k bad good = let e : Err k ≡ Ok good.said = sym bad ∙ good.good in cc

-- where the words are not of the form, the status says so
usage_meant : (g : Given) (t : Option Value) (l : Left) (k : ℕ) (s : Status) → said_by g.words ≡ Err k → Says g t l s → IsUsageAt k s
usage_meant g t l k status.Done bad is = absurd (bad_words g.words k bad is.0)
usage_meant g t l k status.Stalled bad is = absurd (bad_words g.words k bad is.0)
usage_meant g t l k (status.Usage n) bad is = let e : Err n ≡ Err k = sym is.0 ∙ bad in cc
usage_meant g t l k (status.Refused n why) bad is = absurd (bad_words g.words k bad is.0)
usage_meant g t l k status.ReadFault bad is = absurd (bad_words g.words k bad is.0)
usage_meant g t l k status.WriteFault bad is = absurd is
usage_meant g t l k (status.Broken r n) bad is = absurd is
usage_meant g t l k (status.Torn x) bad is = absurd is
usage_meant g t l k status.DeviceLost bad is = absurd (bad_words g.words k bad is.0)
usage_meant g t l k status.Memory bad is = tt

written_or : (P : Status → Type 0) (before after : Option (List ℕ)) (sink : ℕ × ℕ) (text : List ℕ) (meant s : Status) → P meant → P status.WriteFault → Writes before after sink text meant s → P s
written_or P before after sink text meant s here failed (inl whole) = subst P (sym whole.0) here
written_or P before after sink text meant s here failed (inr part) = subst P (sym part.0) failed

pub usage_of : (g : Given) (sink : ℕ × ℕ) (before after : Option (List ℕ)) (left : List ℕ → Left) (s : Status) → IsReport g sink before after left s → IfErr (said_by g.words) (λ k. IsUsageAt k s)
usage_of g sink before after left s report = by_words (said_by g.words) refl
  where
    by_words : (r : Result Words ℕ) → said_by g.words ≡ r → IfErr r (λ k. IsUsageAt k s)
    by_words (Ok said) is = tt
    by_words (Err k) is = written_or (IsUsageAt k) before after sink _ report.meant s (usage_meant g report.trace (left report.fences) k report.meant is report.says) tt report.text

reads_none : (told : Option (List ℕ)) (p : ℕ × Cause) (v : Value) (all : List ℕ) → told ≡ Some all → value_of all ≡ Err p → IsRead told v → ⊥
reads_none told p v all is refused read =
    let given : value_of all ≡ Ok v = subst (λ o. IfSome o (λ xs. value_of xs ≡ Ok v)) is read.given in
    let e : Err p ≡ Ok v = sym refused ∙ given in
    cc

of_none : (told : Option (List ℕ)) (p : ℕ × Cause) (all : List ℕ) (l : Left) (s : Status) (t : Option Value) → told ≡ Some all → value_of all ≡ Err p → OfTrace (IsRunOf told l s) t → ⊥
of_none told p all l s None is refused run = run
of_none told p all l s (Some v) is refused run = reads_none told p v all is refused run.read

-- where the words are of the form and the text is refused, the status says so
refused_meant : (g : Given) (t : Option Value) (l : Left) (p : ℕ × Cause) (all : List ℕ) (s : Status) → AreGood g.words → g.told ≡ Some all → value_of all ≡ Err p → Says g t l s → IsRefusalAt p s
refused_meant g t l p all status.Done good told refused is = absurd (of_none g.told p all l status.Done t told refused is.1)
refused_meant g t l p all status.Stalled good told refused is = absurd (of_none g.told p all l status.Stalled t told refused is.1)
refused_meant g t l p all (status.Usage k) good told refused is = absurd (bad_words g.words k is.0 good)
refused_meant g t l p all (status.Refused n why) good told refused is =
    let here : value_of all ≡ Err (n, why) = subst (λ o. IfSome o (λ xs. value_of xs ≡ Err (n, why))) told is.1.0 in
    let e : Err (n, why) ≡ Err p = sym here ∙ refused in
    cc
refused_meant g t l p all status.ReadFault good told refused is = tt
refused_meant g t l p all status.WriteFault good told refused is = absurd is
refused_meant g t l p all (status.Broken r n) good told refused is = absurd is
refused_meant g t l p all (status.Torn x) good told refused is = absurd is
refused_meant g t l p all status.DeviceLost good told refused is = absurd (of_none g.told p all l status.DeviceLost t told refused is.1)
refused_meant g t l p all status.Memory good told refused is = tt

pub refused_of : (g : Given) (sink : ℕ × ℕ) (before after : Option (List ℕ)) (left : List ℕ → Left) (s : Status) → IsReport g sink before after left s →
    IfOk (said_by g.words) (λ _. IfSome g.told (λ all. IfErr (value_of all) (λ p. IsRefusalAt p s)))
refused_of g sink before after left s report = by_words (said_by g.words) refl
  where
    by_value : (said : Words) → said_by g.words ≡ Ok said → (all : List ℕ) → g.told ≡ Some all → (r : Result Value (ℕ × Cause)) → value_of all ≡ r → IfErr r (λ p. IsRefusalAt p s)
    by_value said good all told (Ok v) is = tt
    by_value said good all told (Err p) is =
        written_or (IsRefusalAt p) before after sink _ report.meant s
        (refused_meant g report.trace (left report.fences) p all report.meant (record { said = said; good = good }) told is report.says) tt report.text

    by_told : (said : Words) → said_by g.words ≡ Ok said → (o : Option (List ℕ)) → g.told ≡ o → IfSome o (λ all. IfErr (value_of all) (λ p. IsRefusalAt p s))
    by_told said good None is = tt
    by_told said good (Some all) is = by_value said good all is (value_of all) refl

    by_words : (r : Result Words ℕ) → said_by g.words ≡ r → IfOk r (λ _. IfSome g.told (λ all. IfErr (value_of all) (λ p. IsRefusalAt p s)))
    by_words (Ok said) is = by_told said is g.told refl
    by_words (Err k) is = tt

-- a trace that was run has no status of a call that ends before
pub is_run : (v : Value) (t : Option Value) (l : Left) (s : Status) → RanTrace v t l s → IsUnrun s → ⊥
is_run v None l s ran unrun = subst IsUnrun ran.0 unrun
is_run v (Some x) l s ran unrun = by_status s ran.1 unrun
  where
    by_status : (s : Status) → Ran (world_of_value v) l s → IsUnrun s → ⊥
    by_status status.Done ran unrun = unrun
    by_status status.Stalled ran unrun = unrun
    by_status (status.Usage k) ran unrun = ran
    by_status (status.Refused n why) ran unrun = ran
    by_status status.ReadFault ran unrun = ran
    by_status status.WriteFault ran unrun = ran
    by_status (status.Broken r n) ran unrun = ran
    by_status (status.Torn y) ran unrun = ran
    by_status status.DeviceLost ran unrun = unrun
    by_status status.Memory ran unrun = unrun

-- the source's text says something where it says that
pub says_some : (told : Option (List ℕ)) (v : Value) → IfSome told (λ all. value_of all ≡ Ok v) → IfSome told (λ all. (u : Value) × (value_of all ≡ Ok u))
says_some None v says = tt
says_some (Some all) v says = (v, says)

-- where the report has such a status, the run had it
pub unrun_meant : (sink : ℕ × ℕ) (before after : Option (List ℕ)) (t : Option Value) (o : Outcome) (s : Status) → IsWritten sink before after t o s → IsUnrun s → IsUnrun o.status
unrun_meant sink before after t o s written unrun = by_text written.text
  where
    by_text : Writes before after sink (output_of t (record o { status = written.meant })) written.meant s → IsUnrun o.status
    by_text (inl whole) = elim written.same [
      | inl same ↦ subst IsUnrun same (subst IsUnrun whole.0 unrun)
      | inr memory ↦ absurd (subst IsUnrun memory (subst IsUnrun whole.0 unrun))
    ]
    by_text (inr part) = absurd (subst IsUnrun part.0 unrun)

said_twice : (told : Option (List ℕ)) (p : ℕ × Cause) → IsSome told → IfSome told (λ all. value_of all ≡ Err p) → IfSome told (λ all. (v : Value) × (value_of all ≡ Ok v)) → ⊥
said_twice None p some refused says = absurd (cc)
said_twice (Some all) p some refused says = let e : Err p ≡ Ok says.0 = sym refused ∙ says.1 in cc

lost_risen : (told : Option (List ℕ)) (l : Left) (t : Option Value) → OfTrace (IsRunOf told l status.DeviceLost) t → HasRisen l.before.faults l.device.faults
lost_risen told l None is = absurd is
lost_risen told l (Some v) is = is.ran.0

-- where a trace is given and no fault is told, the run is done, stalled or out of memory
complete_meant : (g : Given) (t : Option Value) (l : Left) (s : Status) → IsTraceGiven g.words g.told → IsSome g.told → (HasRisen g.source.0 g.source.1 → ⊥) →
    (HasRisen l.before.faults l.device.faults → ⊥) → Says g t l s → IsComplete s
complete_meant g t l status.Done given some reads runs is = tt
complete_meant g t l status.Stalled given some reads runs is = tt
complete_meant g t l (status.Usage k) given some reads runs is = absurd (bad_words g.words k is.0 given.good)
complete_meant g t l (status.Refused n why) given some reads runs is = absurd (said_twice g.told (n, why) some is.1.0 given.says)
complete_meant g t l status.ReadFault given some reads runs is = absurd (reads is.1.0)
complete_meant g t l status.WriteFault given some reads runs is = absurd is
complete_meant g t l (status.Broken r n) given some reads runs is = absurd is
complete_meant g t l (status.Torn x) given some reads runs is = absurd is
complete_meant g t l status.DeviceLost given some reads runs is = absurd (runs (lost_risen g.told l t is.1))
complete_meant g t l status.Memory given some reads runs is = tt

pub complete_of : (g : Given) (sink : ℕ × ℕ) (before after : Option (List ℕ)) (left : List ℕ → Left) (s : Status) → (report : IsReport g sink before after left s) →
    IsTraceGiven g.words g.told → IsSome g.told → IsFaultless g.source sink ((left report.fences).before.faults, (left report.fences).device.faults) → IsComplete s
complete_of g sink before after left s report given some none = by_text report.text
  where
    by_text : Writes before after sink (output_of report.trace (outcome_of g report.trace (left report.fences) report.meant)) report.meant s → IsComplete s
    by_text (inl whole) = subst IsComplete (sym whole.0) (complete_meant g report.trace (left report.fences) report.meant given some none.reads none.runs report.says)
    by_text (inr part) = absurd (none.writes part.1.1)

-- the text that is there
text_there : (o : Option (Bor (List ℕ))) (d : Bor (List ℕ)) (line text : List ℕ) → option_copied o ≡ Some line → IfSome o (λ x. x.now ≡ text) → (unwrap_or o d).now ≡ text
text_there None d line text some is = absurd (cc)
text_there (Some x) d line text some is = is

-- the same, of what was taken
pub there : (o : Option (Bor (List ℕ))) (x d : Bor (List ℕ)) (line text : List ℕ) → option_copied o ≡ Some line → IfSome o (λ y. y.now ≡ text) → x ≡ unwrap_or o d → x.now ≡ text
there o x d line text some is taken = ap (λ (y : Bor (List ℕ)). y.now) taken ∙ text_there o d line text some is

-- a refused text, by what the call left
pub refusal_says : (g : Given) (t : Option Value) (l : Left) (s : Status) (n : ℕ) (why : Cause) → AreGood g.words → IfSome g.told (λ all. value_of all ≡ Err (n, why)) → IsStopped t l →
    s ≡ status.Refused n why → Says g t l s
refusal_says g t l s n why good told stopped is = subst (Says g t l) (sym is) (good, (told, stopped))

-- a call whose output is written reports what was written
pub reported : (g : Given) (sink : ℕ × ℕ) (before after : Option (List ℕ)) (t : Option Value) (l : Left) (o : Outcome) (s : Status) → Says g t l o.status → o.history ≡ l.history →
    o.fences ≡ l.fences → o.shown ≡ is_shown (said_by g.words) → o.refused ≡ refused_in t → IsWritten sink before after t o s → IsReport g sink before after (λ f. record l { fences = f }) s
reported g sink before after t l o s says history fences shown refused written =
    let meant : Status = written.meant in
    record {
      trace = t;
      fences = l.fences;
      meant = meant;
      says = says_meant g t l o.status meant says written.same;
      text =
          subst (λ x. Writes before after sink (output_of t (record { status = meant; shown = x; history = l.history; refused = refused_in t; fences = l.fences })) meant s) shown
          (subst (λ x. Writes before after sink (output_of t (record { status = meant; shown = o.shown; history = l.history; refused = x; fences = l.fences })) meant s) refused
          (subst (λ x. Writes before after sink (output_of t (record { status = meant; shown = o.shown; history = x; refused = o.refused; fences = l.fences })) meant s) history
          (subst (λ x. Writes before after sink (output_of t (record { status = meant; shown = o.shown; history = o.history; refused = o.refused; fences = x })) meant s) fences written.text)));
    }
