-- What is done changes the view of the machine's state as it changes the machine's state.
use Rattle.std.proofs.Common.{◌≡◌, ℕ, suc, ◌+◌, ◌-◌, ◌<◌, ◌≤◌, ◌∙◌, true, false, List, [], ◌∷◌, ◌++◌, map, length, drop, refl, sym, ap, ap₂, subst, arith, Option, Some, None, slice_get, inl, inr}
use Rattle.std.specs.List.{drop-map}
use Rattle.std.proofs.lemmas.Bool.{ne_eqb, cases_Bool}
use Rattle.std.proofs.lemmas.List.{map-append}
use Rattle.std.proofs.lemmas.Option.{get_or_from_slice_get}
use Rattle.vk_types.specs.declared.batches.Batch.{Batch}
use Rattle.vk_types.specs.declared.commands.VkCommand.{VkCommand}
use Rattle.vk_types.specs.declared.steps.VkStep.TheVariants.{Submit, Pass, Command, Bump, HostWrite, HostRead}
use Rattle.vk_sync_rules.specs.NextState.{after_run, sets_in}
use Rattle.vk_sync_rules.specs.Rules.{or_rule, rule_of, after_step as after_vk_step}
use Rattle.vk_sync_rules.specs.VkState.{VkState as Machine, counts_of, no_counts, batch_in, command_at as machine_command_at, nth_command, command_in, is_done}
use Rattle.vk_sync_rules.specs.declared.counts.Counts.{Counts}
use Rattle.vk_sync_rules.specs.declared.counts.Done.{Done}
use Rattle.vk_sync_rules.specs.declared.places.Place.{Place}
use Rattle.vk_sync_rules.specs.declared.rules.VkRule.{VkRule}
use Rattle.vk_sync_rules.proofs.Soundness.{got_changed}
use Rattle.vk_port.specs.declared.lanes.Lane.{Lane}
use Rattle.vk_port.specs.declared.lanes.Running.{Running}
use Rattle.vk_port.specs.declared.steps.Stepped.TheVariants.{Passed, Ran, Bumped}
use Rattle.vk_port.specs.After.{place_of, command_at, found_commands, lane_after_run, lane_after_pass, lane_after_bump, lane_after_submit, sets_of, after_sets, started, after_step, after_submit}
use Rattle.vk_port.specs.Journal.{of_queue, first_number, command_fits}
use Rattle.vk_port.specs.Machine.{IsCounted, running_of, from_number, lanes_of, shown, unfinished}
use Rattle.vk_port.specs.Meaning.{IsPass, IsCommand, IsBump}
use Rattle.vk_port.specs.VkState.{VkState, lane_of, no_lane}
use Rattle.vk_port.proofs.Changing.{get_unchanged}
use Rattle.vk_port.proofs.Counted.{BatchOfLane, left_of, left_numbered, batch_of_step, lane_there}
use Rattle.vk_port.proofs.Lists.{length_changed}
use Rattle.vk_port.proofs.MachineSizes.{command_does}
use Rattle.vk_port.proofs.Numbering.{from_next, from_more}
use Rattle.vk_port.proofs.Valid.{of_same_queue, of_other_queue}
use Rattle.vk_port.proofs.Views.{marked_more, marked_elsewhere, is_started, place_at, lanes_alike, lanes_changed}

-- a lane by its queue's counts
abbrev lane_by : List Done → List Batch → ℕ → Counts → Lane
lane_by done journal q c = record { batches = map (running_of done q) (from_number c.ended (of_queue q journal)); passed = c.passed - c.ended }

-- a lane of these parts
abbrev made_lane : List Running → ℕ → Lane
made_lane batches passed = record { batches = batches; passed = passed }

-- a state of these parts
abbrev pub made_state : List ℕ → List Batch → List Lane → VkState
made_state timelines journal lanes = record { timelines = timelines; journal = journal; lanes = lanes }

module _ (v : Machine) (counted : IsCounted v) where
  -- a batch that can pass is the next one
  pub next_to_pass : (q n : ℕ) (e : IsPass (shown v) q n) → BatchOfLane v q n e.lane.passed e.next × (n ≡ (counts_of v q).passed)
  next_to_pass q n e =
      let batch = batch_of_step v counted q n e.lane.passed e.lane e.next e.there e.is_next e.number in
      let passed : e.lane.passed ≡ (counts_of v q).passed - (counts_of v q).ended = ap (λ (l : Lane). l.passed) (lane_there v q e.lane e.there).1 in
      let number = batch.number in
      let order = counted.ended_passed q in
      (batch, omega (arith, passed, number, order))

  -- a batch that passes
  pub shows_pass : (q n : ℕ) → IsPass (shown v) q n → shown (after_vk_step v (Pass q n)) ≡ after_step (shown v) (Passed q n)
  shows_pass q n e = ap (made_state v.timelines v.journal) (lanes_changed v w lane_after_pass q (length_changed change q v.queues) others here) where
    w : Machine
    w = after_vk_step v (Pass q n)

    change : Counts → Counts
    change c = record c { passed = n + 1 }

    facts : BatchOfLane v q n e.lane.passed e.next × (n ≡ (counts_of v q).passed)
    facts = next_to_pass q n e

    others : (i : ℕ) → (i ≡ q → ⊥) → unfinished w i ≡ unfinished v i
    others i other = ap (lane_by v.done v.journal i) (get_unchanged change q v.queues i no_counts other)

    here : unfinished w q ≡ lane_after_pass (unfinished v q)
    here =
        let next = facts.1 in
        let order = counted.ended_passed q in
        ap (lane_by v.done v.journal q) (got_changed change q v.queues no_counts facts.0.there)
        ∙ ap (made_lane (unfinished v q).batches) (omega (arith, next, order))

  -- a batch that ends is the first that has not ended
  pub first_to_end : (q n : ℕ) (e : IsBump (shown v) q n) → BatchOfLane v q n 0 e.first × (n ≡ (counts_of v q).ended)
  first_to_end q n e =
      let batch = batch_of_step v counted q n 0 e.lane e.first e.there e.is_first e.number in
      let number = batch.number in
      (batch, omega (arith, number))

  -- a batch that ends
  pub shows_end : (q n : ℕ) → IsBump (shown v) q n → shown (after_vk_step v (Bump q n)) ≡ after_step (shown v) (Bumped q n)
  shows_end q n e =
      ap₂ (λ (ps : List (ℕ × ℕ)) (ls : List Lane). made_state (after_sets ps v.timelines) v.journal ls) (sym sets) (lanes_changed v w lane_after_bump q (length_changed change q v.queues) others here) where
        w : Machine
        w = after_vk_step v (Bump q n)

        change : Counts → Counts
        change c = record c { ended = n + 1 }

        facts : BatchOfLane v q n 0 e.first × (n ≡ (counts_of v q).ended)
        facts = first_to_end q n e

        sets : sets_of (lane_of (shown v) q) ≡ sets_in (batch_in q n v.journal)
        sets =
            ap sets_of (get_or_from_slice_get (lanes_of v) q e.lane no_lane e.there)
            ∙ ap (λ (o : Option Running). elim o [ None ↦ [] | Some first ↦ first.batch.sets ]) e.is_first
            ∙ ap (λ (r : Running). r.batch.sets) facts.0.running
            ∙ sym (ap sets_in facts.0.found)

        others : (i : ℕ) → (i ≡ q → ⊥) → unfinished w i ≡ unfinished v i
        others i other = ap (lane_by v.done v.journal i) (get_unchanged change q v.queues i no_counts other)

        rest : map (running_of v.done q) (from_number (n + 1) (of_queue q v.journal)) ≡ drop 1 (unfinished v q).batches
        rest =
            ap (λ (k : ℕ). map (running_of v.done q) (from_number (k + 1) (of_queue q v.journal))) facts.1
            ∙ ap (map (running_of v.done q)) (from_next (counts_of v q).ended (first_number q) (of_queue q v.journal) (counted.numbered q) (counted.first_ended q facts.0.there))
            ∙ sym (drop-map (running_of v.done q) 1 (left_of v q))

        here : unfinished w q ≡ lane_after_bump (unfinished v q)
        here =
            let first = facts.1 in
            let passed : (counts_of v q).passed - (n + 1) ≡ (counts_of v q).passed - (counts_of v q).ended - 1 = omega (arith, first) in
            ap (lane_by v.done v.journal q) (got_changed change q v.queues no_counts facts.0.there)
            ∙ ap₂ made_lane rest passed

  -- a command that can be done is one of a batch that has passed
  pub command_to_do : (q n k : ℕ) (e : IsCommand (shown v) q n k) → BatchOfLane v q n e.place e.running × (n < (counts_of v q).passed)
  command_to_do q n k e =
      let batch = batch_of_step v counted q n e.place e.lane e.running e.there e.is_running e.number in
      let passed : e.lane.passed ≡ (counts_of v q).passed - (counts_of v q).ended = ap (λ (l : Lane). l.passed) (lane_there v q e.lane e.there).1 in
      let before : e.place < e.lane.passed = e.passed in
      let number = batch.number in
      (batch, omega (arith, passed, before, number))

  -- it is found in the journal
  pub command_found : (q n k : ℕ) (e : IsCommand (shown v) q n k) → machine_command_at v q (record { number = n; index = k }) ≡ Some e.command
  command_found q n k e =
      let batch = (command_to_do q n k e).0 in
      let one : k ≡ suc (k - 1) = (let some = e.counted in omega (arith, some)) in
      let got : slice_get batch.batch.commands (k - 1) ≡ Some e.command = subst (λ (r : Running). slice_get r.batch.commands (k - 1) ≡ Some e.command) batch.running e.is_command in
      ap (λ (o : Option Batch). command_in o k) batch.found ∙ ap (nth_command batch.batch.commands) one ∙ got

  -- and in the lane
  pub found_in_lane : (q n k : ℕ) (e : IsCommand (shown v) q n k) → command_at n k (lane_of (shown v) q).batches ≡ Some e.command
  found_in_lane q n k e =
      let batch = (command_to_do q n k e).0 in
      let of_lane = lane_there v q e.lane e.there in
      let place : place_of n (unfinished v q).batches ≡ e.place =
      ap (λ (m : ℕ). place_of m (unfinished v q).batches) batch.number ∙ place_at v.done q (counts_of v q).ended (left_of v q) e.place batch.batch (left_numbered v counted q batch.there) batch.left in
      let lane : lane_of (shown v) q ≡ unfinished v q = get_or_from_slice_get (lanes_of v) q e.lane no_lane e.there ∙ of_lane.1 in
      let running : slice_get (unfinished v q).batches e.place ≡ Some e.running = subst (λ (l : Lane). slice_get l.batches e.place ≡ Some e.running) of_lane.1 e.is_running in
      ap (λ (l : Lane). command_at n k l.batches) lane
      ∙ ap (λ (i : ℕ). slice_get (found_commands (slice_get (unfinished v q).batches i)) (k - 1)) place
      ∙ ap (λ (o : Option Running). slice_get (found_commands o) (k - 1)) running
      ∙ e.is_command

  -- devices do it
  pub command_fits_plan : (q n k : ℕ) (e : IsCommand (shown v) q n k) → command_fits v.plan e.command ≡ true
  command_fits_plan q n k e = command_does v q (record { number = n; index = k }) e.command counted.fit (command_found q n k e)

  -- a command that is done
  pub shows_command : (q n k : ℕ) → IsCommand (shown v) q n k → shown (after_vk_step v (Command q n k [])) ≡ after_step (shown v) (Ran q n k)
  shows_command q n k e = by_found (machine_command_at v q p) (command_found q n k e) (rule_of v (Command q n k [])) where
    p : Place
    p = record { number = n; index = k }

    facts : BatchOfLane v q n e.place e.running × (n < (counts_of v q).passed)
    facts = command_to_do q n k e

    w : Option VkRule → Machine
    w rule = record (after_run v q p [] (Some e.command)) { broken = or_rule v.broken rule }

    others : (rule : Option VkRule) (i : ℕ) → (i ≡ q → ⊥) → unfinished (w rule) i ≡ unfinished v i
    others rule i other = ap (λ (rs : List Running). made_lane rs (unfinished v i).passed) (marked_elsewhere v.done q n k i (left_of v i) (ne_eqb q i (λ same. other (sym same))))

    here : (rule : Option VkRule) → unfinished (w rule) q ≡ lane_after_run n k (unfinished v q)
    here rule = ap (λ (rs : List Running). made_lane rs (unfinished v q).passed) (marked_more v.done q n k (counts_of v q).ended (left_of v q) e.counted (left_numbered v counted q facts.0.there))

    by_found : (o : Option VkCommand) → o ≡ Some e.command → (rule : Option VkRule) → shown (record (after_run v q p [] o) { broken = or_rule v.broken rule }) ≡ after_step (shown v) (Ran q n k)
    by_found o found rule = subst (λ (x : Option VkCommand). shown (record (after_run v q p [] x) { broken = or_rule v.broken rule }) ≡ after_step (shown v) (Ran q n k)) (sym found)
        (ap (made_state v.timelines v.journal) (lanes_changed v (w rule) (lane_after_run n k) q refl (others rule) (here rule)))

  -- a batch that is submitted
  pub shows_submit : (b : Batch) → b.queue < length v.queues → b.number ≡ (counts_of v b.queue).submitted → shown (after_vk_step v (Submit b)) ≡ after_submit (shown v) b
  shows_submit b there number =
      ap (made_state v.timelines (v.journal ++ b ∷ [])) (lanes_changed v w (lane_after_submit b) b.queue (length_changed change b.queue v.queues) others here) where
        w : Machine
        w = after_vk_step v (Submit b)

        change : Counts → Counts
        change c = record c { submitted = b.number + 1 }

        others : (i : ℕ) → (i ≡ b.queue → ⊥) → unfinished w i ≡ unfinished v i
        others i other =
            ap (lane_by v.done (v.journal ++ b ∷ []) i) (get_unchanged change b.queue v.queues i no_counts other)
            ∙ ap (λ (bs : List Batch). made_lane (map (running_of v.done i) (from_number (counts_of v i).ended bs)) (unfinished v i).passed) (of_other_queue i b v.journal other)

        -- no command of it is done
        none : (k : ℕ) → is_done v.done b.queue (record { number = b.number; index = k }) ≡ false
        none k = elim (cases_Bool (is_done v.done b.queue (record { number = b.number; index = k }))) [
          | inl done ↦
              let passed = counted.done b.queue (record { number = b.number; index = k }) done in
              let order = counted.passed_submitted b.queue in
              absurd (omega (arith, passed, order, number))
          | inr left ↦ left
        ]

        late : (counts_of v b.queue).ended ≤ b.number
        late =
            let first = counted.ended_passed b.queue in
            let second = counted.passed_submitted b.queue in
            omega (arith, first, second, number)

        batches : map (running_of v.done b.queue) (from_number (counts_of v b.queue).ended (of_queue b.queue (v.journal ++ b ∷ []))) ≡ (unfinished v b.queue).batches ++ started b ∷ []
        batches =
            ap (λ (bs : List Batch). map (running_of v.done b.queue) (from_number (counts_of v b.queue).ended bs)) (of_same_queue b v.journal)
            ∙ ap (map (running_of v.done b.queue)) (from_more (counts_of v b.queue).ended (of_queue b.queue v.journal) b late)
            ∙ map-append (running_of v.done b.queue) (left_of v b.queue) (b ∷ [])
            ∙ ap (λ (r : Running). (unfinished v b.queue).batches ++ r ∷ []) (is_started v.done b.queue b none)

        here : unfinished w b.queue ≡ lane_after_submit b (unfinished v b.queue)
        here =
            ap (lane_by v.done (v.journal ++ b ∷ []) b.queue) (got_changed change b.queue v.queues no_counts there)
            ∙ ap (λ (rs : List Running). made_lane rs (unfinished v b.queue).passed) batches

-- words that the host writes
pub shows_host_write : (v : Machine) (buffer first : ℕ) (words : List ℕ) → shown (after_vk_step v (HostWrite buffer first words)) ≡ shown v
shows_host_write v buffer first words =
    ap (made_state v.timelines v.journal) (lanes_alike v (after_vk_step v (HostWrite buffer first words)) (λ i. refl) 0 (length v.queues))

-- and that it reads
pub shows_host_read : (v : Machine) (buffer first : ℕ) (words : List ℕ) → shown (after_vk_step v (HostRead buffer first words)) ≡ shown v
shows_host_read v buffer first words =
    ap (made_state v.timelines v.journal) (lanes_alike v (after_vk_step v (HostRead buffer first words)) (λ i. refl) 0 (length v.queues))
