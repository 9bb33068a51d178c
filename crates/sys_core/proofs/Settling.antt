-- In a calm history each copy reads what was written, and so does the host.
use Rattle.std.proofs.Common.{ℕ, zero, suc, ◌≡◌, ◌<◌, ◌≤◌, ◌+◌, ◌-◌, ◌*◌, ◌/◌, ◌∙◌, refl, sym, ap, subst, arith, List, [], ◌∷◌, length, map, drop, replicate, Option, Some, None, Bool, true, false, is_some, slice_get, inl, inr}
use Rattle.std.specs.Prelude.{nat_lt, nat_le, ◌&&◌}
use Rattle.std.specs.List.{list_all, slice_index_or}
use Rattle.std.proofs.lemmas.Bool.{cases_lt, lt-ltb, ltb-true, le-ltb, le-leb, leb-true}
use Rattle.std.proofs.lemmas.List.{length-map, length-drop}
use Rattle.dx_base.specs.Effects.{At, unless}
use Rattle.dx_base.specs.Lists.{changed_at, put, range_of}
use Rattle.dx_base.specs.declared.hresult.Hresult.{Hresult}
use Rattle.dx_base.proofs.Lists.{and_both, and_of, all_append}
use Rattle.d3d_machine.specs.declared.world.World.{World}
use Rattle.d3d_machine.specs.declared.world.Resource.{Resource}
use Rattle.d3d_machine.specs.declared.calls.Call.{Call}
use Rattle.d3d_machine.specs.declared.calls.Call.TheVariants as call
use Rattle.d3d_machine.specs.declared.calls.Record.{Record}
use Rattle.d3d_machine.specs.declared.calls.Record.TheVariants as record_of
use Rattle.d3d_machine.specs.declared.calls.Reply.{Reply}
use Rattle.d3d_machine.specs.declared.events.Command.{Command}
use Rattle.d3d_machine.specs.declared.events.Listed.{Listed}
use Rattle.d3d_machine.specs.declared.events.Operation.{Operation}
use Rattle.d3d_machine.specs.declared.events.Operation.TheVariants.{Execute, Signal}
use Rattle.d3d_machine.specs.declared.events.Event.{Event}
use Rattle.d3d_machine.specs.World.{IsWorld, resource_of, words_of_resource, words_in}
use Rattle.d3d_machine.specs.State.{words_at}
use Rattle.d3d_machine.specs.CallEffects.{does}
use Rattle.d3d_machine.specs.Effects.{done}
use Rattle.d3d_machine.specs.Good.{is_good_record, is_good_command, is_good_operation}
use Rattle.d3d_machine.specs.Operations.{operations, counter}
use Rattle.d3d_machine.specs.Play.{IsRunButWords, state_after}
use Rattle.d3d_machine.specs.Replies.{refusal_by}
use Rattle.d3d_machine.proofs.Good.{operations_are_good}
use Rattle.d3d_machine.proofs.Named.{all_at}
use Rattle.vk_types.specs.declared.batches.Batch.{Batch}
use Rattle.vk_types.specs.declared.commands.VkCommand.{VkCommand}
use Rattle.vk_types.specs.declared.commands.VkCommand.TheVariants.{Barrier, Copy, CopyImage, CopyIn, CopyOut, Clear, Dispatch}
use Rattle.vk_types.specs.declared.plan.DevicePlan.{DevicePlan}
use Rattle.vk_types.specs.declared.plan.PlanBuffer.{PlanBuffer}
use Rattle.vk_types.specs.declared.steps.VkStep.{VkStep}
use Rattle.vk_types.specs.declared.steps.VkStep.TheVariants as vk
use Rattle.vk_sync_rules.specs.declared.ranges.VkResource.TheVariants.{Buffer}
use Rattle.vk_sync_rules.specs.Commands.{passes_end}
use Rattle.vk_sync_rules.specs.EnabledSteps.{is_enabled}
use Rattle.vk_sync_rules.specs.Machines.{known_numbers}
use Rattle.vk_sync_rules.specs.NextState.{host_passes_end}
use Rattle.vk_sync_rules.specs.Numbers.{Numbers}
use Rattle.vk_sync_rules.specs.Rules.{after_step as after_vk_step}
use Rattle.vk_sync_rules.specs.Sizes.{words_in as words_of_plan}
use Rattle.vk_sync_rules.specs.VkState.{VkState as Machine, first_state as first_machine, batch_in, command_at, counts_of, no_counts}
use Rattle.vk_port.specs.declared.steps.Stepped.{Stepped}
use Rattle.vk_port.specs.declared.steps.Stepped.TheVariants.{Passed, Ran, Bumped, Free}
use Rattle.vk_port.specs.After.{after_command, after_found}
use Rattle.vk_port.specs.Agreement.{Agree, host_numbers}
use Rattle.vk_port.specs.Journal.{command_fits, of_queue, first_number}
use Rattle.vk_port.specs.Machine.{shown, vk_step, after_stepped}
use Rattle.vk_port.specs.Meaning.{IsEnabled}
use Rattle.vk_port.specs.Offers.{IsInside}
use Rattle.vk_port.specs.Reads.{AreKnown}
use Rattle.vk_port.specs.Settled.{copies_words, IsSimple, IsSettled, HasFinished}
use Rattle.vk_port.specs.VkState.{VkState}
use Rattle.vk_port.proofs.ReadAnswers.{answers_are_words}
use Rattle.vk_port.proofs.ReadNumbers.{inside_passes_no_end, steps_keep, host_writes_known}
use Rattle.vk_port.proofs.Settled.{settled_copies_known, host_reads_settled}
use Rattle.vk_port.proofs.SettledSteps.{first_settled, stays_settled}
use Rattle.sys_core.specs.Ahead.{IsQuiet, is_good_access}
use Rattle.sys_core.specs.Consistent.{IsDevice, finished_of}
use Rattle.sys_core.specs.Host.{after_store, after_load, told_words}
use Rattle.sys_core.specs.InOrder.{is_single}
use Rattle.sys_core.specs.Opened.{opened}
use Rattle.sys_core.specs.Lowering.{plan_buffers, plan_number, plan_of_world, startup, lower_record, lower_commands, lowered_commands, trailing, opening_batches}
use Rattle.sys_core.specs.Machine.{words_count, IsMachine, HasBuffers}
use Rattle.sys_core.specs.Memory.{memory_of}
use Rattle.sys_core.specs.Stands.{StandsAt}
use Rattle.sys_core.specs.Steps.{after_submits}
use Rattle.vk_port.specs.Words.{first_words, words_after}
use Rattle.sys_core.proofs.Ahead.{called_now, first_buffers}
use Rattle.sys_core.proofs.AheadSteps.{words_stored}
use Rattle.sys_core.proofs.Buffers.{has_buffers, plan_long}
use Rattle.sys_core.proofs.Fitting.{IsGoodCopy, good_copy}
use Rattle.sys_core.proofs.Inside.{read_lives, write_lives, write_inside}
use Rattle.sys_core.proofs.Lowered.{IsBatch, lowered_member, of_queue_member}
use Rattle.sys_core.proofs.MachineBatches.{IsRunning, running_is, queues_many, ended_is}
use Rattle.vk_port.proofs.MachineSizes.{command_does}
use Rattle.sys_core.proofs.MachineSteps.{first_is, startup_goes, step_enabled, step_fits, machine_store}
use Rattle.vk_sync_rules.proofs.FirstState.{devices_begin}
use Rattle.vk_sync_rules.specs.declared.counts.Counts.{Counts}
use Rattle.sys_core.proofs.Spread.{memory_read, lives_at, number_within}
use Rattle.sys_core.proofs.Startup.{begins_of, opening_is, opening_none}

-- known words have the sizes of the world's buffers
pub known_sizes : (w : World) (m : Machine) (words : List (List ℕ)) → IsMachine w m → AreKnown m words → map length words ≡ map words_count (plan_buffers w.resources)
known_sizes w m words is known = sym (each words) ∙ sym (ap (map length) known) ∙ is.sizes
  where
    each : (xs : List (List ℕ)) → map length (map known_numbers xs) ≡ map length xs
    each [] = refl
    each (x ∷ xs) = ap (λ n. n ∷ map length (map known_numbers xs)) (length-map x (λ (k : ℕ). Some k)) ∙ ap (λ ns. length x ∷ ns) (each xs)

-- the words of a copy lie inside its buffers
abbrev lies_inside : DevicePlan → ℕ → ℕ → ℕ → Bool
lies_inside plan b first count = nat_lt b (length plan.buffers) && nat_le (first + count) (words_of_plan plan (Buffer b))

abbrev copies_inside : DevicePlan → VkCommand → Bool
copies_inside plan (Barrier from made to seen change) = true
copies_inside plan (Copy to to_first from from_first count) = lies_inside plan to to_first count && lies_inside plan from from_first count
copies_inside plan (CopyImage to to_sub to_layout from from_sub from_layout) = true
copies_inside plan (CopyIn image sub layout buffer first pitch) = true
copies_inside plan (CopyOut buffer first pitch image sub layout) = true
copies_inside plan (Clear target word) = true
copies_inside plan (Dispatch routine count t0 t1 u0 b0) = true

-- a range of a live resource lies inside its buffer
range_inside : (w : World) (b offset bytes : ℕ) → is_some (resource_of w b) ≡ true → offset + bytes ≤ 4 * words_in w b → lies_inside (plan_of_world w) (plan_number w b) (offset / 4) (bytes / 4) ≡ true
range_inside w b offset bytes lives within = by_resource (resource_of w b) refl lives
  where
    by_resource : (o : Option Resource) → resource_of w b ≡ o → is_some o ≡ true → lies_inside (plan_of_world w) (plan_number w b) (offset / 4) (bytes / 4) ≡ true
    by_resource None is some = absurd (cc)
    by_resource (Some r) is some =
        let long : words_in w b ≡ words_of_resource r = ap (λ (o : Option Resource). elim o [ None ↦ 0 | Some x ↦ words_of_resource x ]) is in
        and_of (nat_lt (plan_number w b) (length (plan_buffers w.resources))) (nat_le (offset / 4 + bytes / 4) (words_of_plan (plan_of_world w) (Buffer (plan_number w b))))
        (lt-ltb (plan_number w b) (length (plan_buffers w.resources)) (number_within w.resources b r (lives_at w b r is)))
        (le-leb (offset / 4 + bytes / 4) (words_of_plan (plan_of_world w) (Buffer (plan_number w b))) (omega (arith, within, long, plan_long w b r is)))

commands_inside : (w : World) (cs : List Command) → list_all (is_good_command w) cs ≡ true → list_all (copies_inside (plan_of_world w)) (lower_commands w cs) ≡ true
commands_inside w [] good = refl
commands_inside w (c ∷ cs) good =
    let both : (is_good_command w c ≡ true) × (list_all (is_good_command w) cs ≡ true) = and_both (is_good_command w c) (list_all (is_good_command w) cs) good in
    and_of (copies_inside (plan_of_world w) (lower_record w c.what)) (list_all (copies_inside (plan_of_world w)) (lower_commands w cs)) (by_record c.what both.0) (commands_inside w cs both.1)
  where
    by_record : (r : Record) → is_good_record w r ≡ true → copies_inside (plan_of_world w) (lower_record w r) ≡ true
    by_record (record_of.Copy d doff s soff bytes) good =
        let is : IsGoodCopy w d.0 doff s.0 soff bytes = good_copy w d.0 doff s.0 soff bytes good in
        and_of (lies_inside (plan_of_world w) (plan_number w d.0) (doff / 4) (bytes / 4)) (lies_inside (plan_of_world w) (plan_number w s.0) (soff / 4) (bytes / 4))
        (range_inside w d.0 doff bytes is.to_lives is.to_end) (range_inside w s.0 soff bytes is.from_lives is.from_end)

lowered_inside : (w : World) (o : Operation) → is_good_operation w o ≡ true → list_all (copies_inside (plan_of_world w)) (lowered_commands w o) ≡ true
lowered_inside w (Execute cs) good = all_append (copies_inside (plan_of_world w)) (lower_commands w cs) (trailing ∷ []) (commands_inside w cs good) refl
lowered_inside w (Signal f v) good = refl

-- a batch of the journal that has a command copies inside its buffers
batch_inside : (w : World) (h : List Event) (v : VkState) (q i k : ℕ) (b : Batch) (c : VkCommand) → IsDevice w h v → 0 < length w.queues → slice_get (of_queue q v.journal) i ≡ Some b →
    slice_get b.commands k ≡ Some c → copies_inside (plan_of_world w) c ≡ true
batch_inside w h v q i k b c device some at command =
    let member : (j : ℕ) × (slice_get v.journal j ≡ Some b) × (b.queue ≡ q) = of_queue_member q v.journal i b at in
    by_place member.0 (ap (λ (js : List Batch). slice_get js member.0) (sym (begins_of w h v device.stands some)) ∙ member.1)
  where
    by_place : (j : ℕ) → slice_get (startup w ∷ device.stands.rest) j ≡ Some b → copies_inside (plan_of_world w) c ≡ true
    by_place zero here = absurd (let e : startup w ≡ b = grind arith in let none : None ≡ Some c = ap (λ (x : Batch). slice_get x.commands k) e ∙ command in cc)
    by_place (suc j) there =
        let found : (o : Operation) × IsBatch w h b o = lowered_member w h 0 (opening_batches w) device.stands.rest j b device.stands.lowered_rest there in
        let good : is_good_operation w found.0 ≡ true =
        all_at (is_good_operation w) (operations w h b.queue) (b.number - 1) found.0 (operations_are_good w h b.queue) found.1.called in
        all_at (copies_inside (plan_of_world w)) (lowered_commands w found.0) k c (lowered_inside w found.0 good) (ap (λ cs. slice_get cs k) (sym found.1.commands) ∙ command)

-- known words are known after a command of a settled queue, too
known_command : (w : World) (m : Machine) (q n k : ℕ) (c : VkCommand) (words : List (List ℕ)) → m.plan ≡ plan_of_world w → command_fits m.plan c ≡ true → copies_inside (plan_of_world w) c ≡ true →
    command_at m q (record { number = n; index = k }) ≡ Some c →
    ((to to_first from from_first count : ℕ) → c ≡ Copy to to_first from from_first count → passes_end m.plan [] (Copy to to_first from from_first count) ≡ false →
    AreKnown (after_vk_step m (vk.Command q n k [])) (changed_at (put to_first (range_of from_first count (slice_index_or words from []))) to words)) →
    AreKnown m words → AreKnown (after_vk_step m (vk.Command q n k [])) (after_command c words)
known_command w m q n k (Barrier from made to seen None) words plan fits inside at copy known =
    ap (λ (ns : Numbers). ns.buffers) ((steps_keep m).barrier q n k [] from made to seen at) ∙ known
known_command w m q n k (Barrier from made to seen (Some change)) words plan fits inside at copy known = absurd (cc)
known_command w m q n k (Copy to to_first from from_first count) words plan fits inside at copy known =
    let p : DevicePlan = plan_of_world w in
    let both : (lies_inside p to to_first count ≡ true) × (lies_inside p from from_first count ≡ true) = and_both (lies_inside p to to_first count) (lies_inside p from from_first count) inside in
    let t : (nat_lt to (length p.buffers) ≡ true) × (nat_le (to_first + count) (words_of_plan p (Buffer to)) ≡ true) = and_both (nat_lt to (length p.buffers)) (nat_le (to_first + count) (words_of_plan p (Buffer to))) both.0 in
    let f : (nat_lt from (length p.buffers) ≡ true) × (nat_le (from_first + count) (words_of_plan p (Buffer from)) ≡ true) = and_both (nat_lt from (length p.buffers)) (nat_le (from_first + count) (words_of_plan p (Buffer from))) both.1 in
    copy to to_first from from_first count refl
    (ap (λ x. passes_end x [] (Copy to to_first from from_first count)) plan
    ∙ inside_passes_no_end p [] to to_first from from_first count (ltb-true to (length p.buffers) t.0) (leb-true (to_first + count) (words_of_plan p (Buffer to)) t.1)
    (ltb-true from (length p.buffers) f.0) (leb-true (from_first + count) (words_of_plan p (Buffer from)) f.1))
known_command w m q n k (CopyImage to to_sub to_layout from from_sub from_layout) words plan fits inside at copy known = absurd (cc)
known_command w m q n k (CopyIn image sub layout buffer first pitch) words plan fits inside at copy known = absurd (cc)
known_command w m q n k (CopyOut buffer first pitch image sub layout) words plan fits inside at copy known = absurd (cc)
known_command w m q n k (Clear target word) words plan fits inside at copy known = absurd (cc)
known_command w m q n k (Dispatch routine count t0 t1 u0 b0) words plan fits inside at copy known = absurd (cc)

-- what a step of the device leaves of known words, and of a settled queue
pub record StaysKnown (m : Machine) (q : ℕ) (s : Stepped) (words : List (List ℕ)) : Type 0 where
  pub known : AreKnown (after_stepped m s []) (words_after (shown m) s words)
  pub settled : IsSettled (after_stepped m s []) q

-- the step of a queue, where it is a command
abbrev pub IsOn : ℕ → Stepped → Type 0
IsOn q (Passed p n) = Unit {0}
IsOn q (Ran p n k) = p ≡ q
IsOn q (Bumped p n) = Unit {0}
IsOn q Free = Unit {0}

pub known_step : (w : World) (h : List Event) (m : Machine) (q : ℕ) (s : Stepped) (words : List (List ℕ)) → IsDevice w h (shown m) → IsMachine w m → IsEnabled (shown m) s → 0 < length w.queues →
    IsOn q s → IsSettled m q → AreKnown m words → StaysKnown m q s words
known_step w h m q (Passed p n) words device is enabled some on settled known =
    let step : (x : VkStep) × (vk_step (Passed p n) [] ≡ Some x) × (is_enabled m x ≡ true) = step_enabled w m (Passed p n) is enabled in
    let same : step.0 ≡ vk.Pass p n = grind arith in
    record {
      known = ap (λ (ns : Numbers). ns.buffers) ((steps_keep m).pass p n) ∙ known;
      settled = stays_settled m q (vk.Pass p n) is.begins settled (subst (λ x. is_enabled m x ≡ true) same step.2) tt tt;
    }
known_step w h m q (Ran p n k) words device is e some on settled known =
    let step : (x : VkStep) × (vk_step (Ran p n k) [] ≡ Some x) × (is_enabled m x ≡ true) = step_enabled w m (Ran p n k) is e in
    let same : step.0 ≡ vk.Command p n k [] = grind arith in
    let enabled : is_enabled m (vk.Command p n k []) ≡ true = subst (λ x. is_enabled m x ≡ true) same step.2 in
    let runs : IsRunning m p n k e = running_is m p n k device.valid e in
    let fits : command_fits m.plan e.command ≡ true = command_does m p (record { number = n; index = k }) e.command is.counted.fit runs.command in
    let here : IsSettled m p = subst (IsSettled m) (sym on) settled in
    record {
      known = subst (λ o. AreKnown (after_vk_step m (vk.Command p n k [])) (after_found o words)) (sym runs.seen)
          (known_command w m p n k e.command words is.plan fits (batch_inside w h (shown m) p runs.index (k - 1) e.running.batch e.command device some runs.at e.is_command) runs.command
          (λ to to_first from from_first count copy ends. settled_copies_known m p n k [] to to_first from from_first count words is.begins here (runs.command ∙ ap (λ c. Some c) copy) enabled ends known) known);
      settled = stays_settled m q (vk.Command p n k []) is.begins settled enabled tt on;
    }
known_step w h m q (Bumped p n) words device is enabled some on settled known =
    let step : (x : VkStep) × (vk_step (Bumped p n) [] ≡ Some x) × (is_enabled m x ≡ true) = step_enabled w m (Bumped p n) is enabled in
    let same : step.0 ≡ vk.Bump p n = grind arith in
    record {
      known = ap (λ (ns : Numbers). ns.buffers) ((steps_keep m).end p n) ∙ known;
      settled = stays_settled m q (vk.Bump p n) is.begins settled (subst (λ x. is_enabled m x ≡ true) same step.2) (step_fits w h m (Bumped p n) (vk.Bump p n) device is enabled refl) tt;
    }
known_step w h m q Free words device is enabled some on settled known = absurd enabled

-- the batch of an operation of at most one command is simple
pub simple_batch : (w : World) (b : Batch) (o : Operation) (s : ℕ × ℕ) → b.commands ≡ lowered_commands w o → b.sets ≡ s ∷ [] → is_single o ≡ true → IsSimple b
simple_batch w b (Signal f v) s commands sets single = inl commands
simple_batch w b (Execute cs) s commands sets single = inr (record {
  copies = lower_commands w cs;
  commands = commands;
  single = omega (arith, length-map cs (λ (c : Command). lower_record w c.what), leb-true (length cs) 1 single);
  plain = plain cs;
  pair = s;
  sets = ap (λ ss. slice_get ss 0) sets;
})
  where
    by_record : (r : Record) → copies_words (lower_record w r) ≡ true
    by_record (record_of.Copy d doff s soff bytes) = refl

    plain : (cs : List Command) → list_all copies_words (lower_commands w cs) ≡ true
    plain [] = refl
    plain (c ∷ cs) = and_of (copies_words (lower_record w c.what)) (list_all copies_words (lower_commands w cs)) (by_record c.what) (plain cs)

-- where no called operation is incomplete, each batch that has commands has ended
pub quiet_finished : (w : World) (h : List Event) (m : Machine) → IsRunButWords w h → IsDevice w h (shown m) → IsMachine w m → IsQuiet (state_after w h) → HasFinished m 0
quiet_finished w h m run device is quiet n b found left =
    elim (cases_lt 0 (length w.queues)) [
      | inl some ↦ with_queue some
      | inr none ↦
          let few : length m.queues ≤ 0 = omega (arith, sym (queues_many m), device.objects.lanes, none) in
          let none_there : (counts_of m 0).submitted ≡ 0 = no_queue m.queues few in
          absurd (omega (arith, is.begins.passed.numbered 0 n b found, none_there))
    ]
  where
    no_queue : (qs : List Counts) → length qs ≤ 0 → (slice_index_or qs 0 no_counts).submitted ≡ 0
    no_queue [] few = refl
    no_queue (x ∷ qs) few = absurd (omega (arith, few))

    with_queue : 0 < length w.queues → b.commands ≡ []
    with_queue some =
        let rest : List Batch = device.stands.rest in
        let at : StandsAt w h rest (shown m) 0 = device.stands.queues 0 some in
        let mine : m.journal ≡ startup w ∷ rest = begins_of w h (shown m) device.stands some in
        let called : drop (counter h 0) (operations w h 0) ≡ [] = sym (called_now w h run some) ∙ quiet.none_called 0 in
        let through : length (operations w h 0) - counter h 0 ≡ 0 = sym (length-drop (counter h 0) (operations w h 0)) ∙ ap length called in
        let queue : 0 < length m.queues = omega (arith, queues_many m, device.objects.lanes, some) in
        let ended : (counts_of m 0).ended ≡ first_number 0 + finished_of (shown m) 0 = ended_is m 0 is.counted queue in
        let below : n < (counts_of m 0).submitted = is.begins.passed.numbered 0 n b found in
        let long : length (of_queue 0 m.journal) ≡ suc (length (of_queue 0 rest)) = ap (λ j. length (of_queue 0 j)) mine in
        let zeroth : n ≡ 0 = omega (arith, below, is.counted.next 0 queue, long, ended, left, device.finished 0 some, through, at.of_called) in
        let same : Some (startup w) ≡ Some b = sym (ap (λ j. batch_in 0 0 j) mine) ∙ ap (λ i. batch_in 0 i m.journal) (sym zeroth) ∙ found in
        let is_b : startup w ≡ b = grind arith in
        ap (λ (x : Batch). x.commands) (sym is_b)

-- what a call reads, where it is not refused
record ReadsGood (w : World) (c : Call) (r : Option Hresult) (x : At (ℕ × ℕ)) : Type 0 where
  good : is_good_access r c ≡ true
  live : (y : Resource) × (resource_of w x.place ≡ Some y)

reads_good : (w : World) (lists : List Listed) (c : Call) (r : Option Hresult) (x : At (ℕ × ℕ)) → refusal_by w lists c ≡ r → unless (does c).reads r ≡ Some x → ReadsGood w c r x
reads_good w lists (call.Recording l what) r x is at = absurd (cc)
reads_good w lists (call.Close l) r x is at = absurd (cc)
reads_good w lists (call.Reset l a) r x is at = absurd (cc)
reads_good w lists (call.Execute q ls) r x is at = absurd (cc)
reads_good w lists (call.Signal q f n) r x is at = absurd (cc)
reads_good w lists (call.HostSignal f n) r x is at = absurd (cc)
reads_good w lists (call.HostWait f n) r x is at = absurd (cc)
reads_good w lists (call.Value f) r x is at = absurd (cc)
reads_good w lists (call.Write b offset ws) r x is at = absurd (cc)
reads_good w lists (call.Read b offset bytes) (Some e) x is at = absurd (cc)
reads_good w lists (call.Read b offset bytes) None x is at =
    let lives : (y : Resource) × (resource_of w b.0 ≡ Some y) = read_lives w b.0 offset bytes is in
    let place : b.0 ≡ x.place = ap (λ (o : Option (At (ℕ × ℕ))). elim o [ None ↦ 0 | Some y ↦ y.place ]) at in
    record { good = refl; live = (lives.0, ap (resource_of w) (sym place) ∙ lives.1) }

-- what a call stores
record StoresGood (w : World) (m : Machine) (c : Call) (r : Option Hresult) (x : At (ℕ × List ℕ)) : Type 0 where
  good : is_good_access r c ≡ true
  inside : host_passes_end m (plan_number w x.place) x.what.0 (length x.what.1) ≡ false

stores_good : (w : World) (m : Machine) (lists : List Listed) (c : Call) (r : Option Hresult) (x : At (ℕ × List ℕ)) → m.plan ≡ plan_of_world w → HasBuffers w m → refusal_by w lists c ≡ r →
    unless (does c).stores r ≡ Some x → StoresGood w m c r x
stores_good w m lists (call.Recording l what) r x plan has is at = absurd (cc)
stores_good w m lists (call.Close l) r x plan has is at = absurd (cc)
stores_good w m lists (call.Reset l a) r x plan has is at = absurd (cc)
stores_good w m lists (call.Execute q ls) r x plan has is at = absurd (cc)
stores_good w m lists (call.Signal q f n) r x plan has is at = absurd (cc)
stores_good w m lists (call.HostSignal f n) r x plan has is at = absurd (cc)
stores_good w m lists (call.HostWait f n) r x plan has is at = absurd (cc)
stores_good w m lists (call.Value f) r x plan has is at = absurd (cc)
stores_good w m lists (call.Read b offset bytes) r x plan has is at = absurd (cc)
stores_good w m lists (call.Write b offset ws) (Some e) x plan has is at = absurd (cc)
stores_good w m lists (call.Write b offset ws) None x plan has is at =
    let lives : (y : Resource) × (resource_of w b.0 ≡ Some y) = write_lives w b.0 offset (length ws) is in
    let inside : IsInside m (plan_number w b.0) (offset / 4) (length ws) = write_inside w m b.0 offset (length ws) has is in
    let same : record { place = b.0; what = (offset / 4, ws) } ≡ x = grind arith in
    subst (λ y. StoresGood w m (call.Write b offset ws) None y) same
    (record {
      good = refl;
      inside = ap (λ p. nat_lt (words_of_plan p (Buffer (plan_number w b.0))) (offset / 4 + length ws)) plan
          ∙ le-ltb (words_of_plan (plan_of_world w) (Buffer (plan_number w b.0))) (offset / 4 + length ws) (omega (arith, inside.range_is, has.long b.0 lives.0 lives.1, plan_long w b.0 lives.0 lives.1));
    })

-- the machine's words and the queue after what a call stores
store_kept : (w : World) (m : Machine) (o : Option (At (ℕ × List ℕ))) (words : List (List ℕ)) → IsMachine w m → IsSettled m 0 → AreKnown m words →
    ((x : At (ℕ × List ℕ)) → o ≡ Some x → HasFinished m 0 × (host_passes_end m (plan_number w x.place) x.what.0 (length x.what.1) ≡ false)) →
    IsSettled (after_store w m o) 0 × AreKnown (after_store w m o) (words_stored w o words)
store_kept w m None words is settled known where_stored = (settled, known)
store_kept w m (Some x) words is settled known where_stored =
    let good : HasFinished m 0 × (host_passes_end m (plan_number w x.place) x.what.0 (length x.what.1) ≡ false) = where_stored x refl in (
      stays_settled m 0 (vk.HostWrite (plan_number w x.place) x.what.0 x.what.1) is.begins settled refl tt good.0,
      host_writes_known m (plan_number w x.place) x.what.0 x.what.1 words good.1 known,
    )

finished_stays : (w : World) (m : Machine) (o : Option (At (ℕ × List ℕ))) → HasFinished m 0 → HasFinished (after_store w m o) 0
finished_stays w m None is = is
finished_stays w m (Some x) is = is

load_kept : (w : World) (m : Machine) (o : Option (At (ℕ × ℕ))) (r : Reply) (words : List (List ℕ)) → IsMachine w m → IsSettled m 0 → AreKnown m words →
    ((x : At (ℕ × ℕ)) → o ≡ Some x → HasFinished m 0) → IsSettled (after_load w m o r) 0 × AreKnown (after_load w m o r) words
load_kept w m None r words is settled known where_read = (settled, known)
load_kept w m (Some x) r words is settled known where_read = (
  stays_settled m 0 (vk.HostRead (plan_number w x.place) x.what.0 (told_words r)) is.begins settled refl tt (where_read x refl),
  ap (λ (ns : Numbers). ns.buffers) ((steps_keep m).host_read (plan_number w x.place) x.what.0 (told_words r)) ∙ known,
)

-- a call that is served, whose accesses come where each batch that has commands has ended
pub call_kept : (w : World) (m : Machine) (lists : List Listed) (c : Call) (r : Reply) (words : List (List ℕ)) → IsWorld w → IsMachine w m → IsSettled m 0 → AreKnown m words →
    ((is_good_access (refusal_by w lists c) c ≡ true) → HasFinished m 0) →
    IsSettled (after_load w (after_store w m (done w lists c).stores) (done w lists c).reads r) 0
    × AreKnown (after_load w (after_store w m (done w lists c).stores) (done w lists c).reads r) (words_stored w (done w lists c).stores words)
call_kept w m lists c r words world is settled known quiet =
    let o : Option (At (ℕ × List ℕ)) = (done w lists c).stores in
    let u : Machine = after_store w m o in
    let has : HasBuffers w m = has_buffers w m world is.sizes in
    let stored : IsSettled u 0 × AreKnown u (words_stored w o words) = store_kept w m o words is settled known
    (λ x at. let good : StoresGood w m c (refusal_by w lists c) x = stores_good w m lists c (refusal_by w lists c) x is.plan has refl at in (quiet good.good, good.inside)) in
    load_kept w u (done w lists c).reads r (words_stored w o words) (machine_store w m o is) stored.0 stored.1
    (λ x at. let good : ReadsGood w c (refusal_by w lists c) x = reads_good w lists c (refusal_by w lists c) x refl at in finished_stays w m o (quiet good.good))

-- what the host reads is the memory's words
pub read_is_memory : (w : World) (m : Machine) (lists : List Listed) (c : Call) (words memory : List (List ℕ)) → IsMachine w m → IsSettled m 0 → AreKnown m words →
    ((is_good_access (refusal_by w lists c) c ≡ true) → HasFinished m 0 × (memory_of w words ≡ memory)) → (x : At (ℕ × ℕ)) → (done w lists c).reads ≡ Some x → (ws : List ℕ) →
    Agree ws (host_numbers m (plan_number w x.place) x.what.0 x.what.1) → ws ≡ range_of x.what.0 x.what.1 (words_at memory x.place)
read_is_memory w m lists c words memory is settled known quiet x at ws agree =
    let good : ReadsGood w c (refusal_by w lists c) x = reads_good w lists c (refusal_by w lists c) x refl at in
    let calm : HasFinished m 0 × (memory_of w words ≡ memory) = quiet good.good in
    let b : ℕ = plan_number w x.place in
    let ys : List ℕ = range_of x.what.0 x.what.1 (slice_index_or words b []) in
    let numbers : host_numbers m b x.what.0 x.what.1 ≡ known_numbers ys = host_reads_settled m 0 b x.what.0 x.what.1 words is.begins settled calm.0 known in
    answers_are_words ws ys (subst (Agree ws) numbers agree)
    ∙ ap (λ xs. range_of x.what.0 x.what.1 xs) (sym (memory_read w x.place good.live.0 words good.live.1) ∙ ap (λ mem. words_at mem x.place) calm.1)

first_known : (bs : List PlanBuffer) → map (λ (b : PlanBuffer). replicate b.words (Some 0)) bs ≡ map known_numbers (map first_words bs)
first_known [] = refl
first_known (b ∷ bs) = ap (λ ns. ns ∷ map (λ (b : PlanBuffer). replicate b.words (Some 0)) bs) (zeros b.words) ∙ ap (λ xs. known_numbers (first_words b) ∷ xs) (first_known bs)
  where
    zeros : (n : ℕ) → replicate n (Some 0) ≡ known_numbers (replicate n 0)
    zeros zero = refl
    zeros (suc n) = ap (λ ns. Some 0 ∷ ns) (zeros n)

-- the start
pub first_kept : (w : World) → IsSettled (opened w) 0 × AreKnown (opened w) (first_buffers w)
first_kept w =
    let m : Machine = first_machine (plan_of_world w) in
    let at_first : IsSettled m 0 = first_settled m 0 (devices_begin (plan_of_world w)) in
    elim (cases_lt 0 (length w.queues)) [
      | inl some ↦
          subst (λ bs. IsSettled (after_submits m bs) 0 × AreKnown (after_submits m bs) (first_buffers w)) (sym (opening_is w some))
          (stays_settled m 0 (vk.Submit (startup w)) (first_is w).begins at_first refl (startup_goes w some) (λ _. inl refl), first_known (plan_buffers w.resources))
      | inr none ↦
          subst (λ bs. IsSettled (after_submits m bs) 0 × AreKnown (after_submits m bs) (first_buffers w)) (sym (opening_none w none)) (at_first, first_known (plan_buffers w.resources))
    ]
