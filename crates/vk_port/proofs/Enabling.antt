-- The steps that are offered are those that the machine can take.
use Rattle.std.proofs.Common.{◌≡◌, ℕ, zero, suc, ◌+◌, ◌-◌, ◌<◌, ◌≤◌, ◌==◌, ◌∙◌, ◌⊎◌, Bool, true, false, not, ◌&&◌, ◌||◌, cond, List, [], ◌∷◌, ◌++◌, length, refl, sym, ap, subst, arith, nat_lt, nat_le, true≢false, eq-eqb, Option, Some, None, slice_get, inl, inr}
use Rattle.std.specs.List.{list_all}
use Rattle.std.proofs.lemmas.Bool.{and_parts, and_from, or_right, cases_lt, eqb-true, ltb-true, lt-ltb, false≢true}
use Rattle.std.proofs.lemmas.List.Folds.{list_all-append}
use Rattle.std.proofs.lemmas.Option.{none-some}
use Rattle.vk_types.specs.declared.batches.Batch.{Batch}
use Rattle.vk_types.specs.declared.commands.VkCommand.{VkCommand}
use Rattle.vk_types.specs.declared.commands.VkCommand.TheVariants.{Barrier, Copy, CopyImage, CopyIn, CopyOut, Clear, Dispatch}
use Rattle.vk_types.specs.declared.plan.DevicePlan.{DevicePlan}
use Rattle.vk_types.specs.declared.stages.Stages.{Stages}
use Rattle.vk_types.specs.declared.steps.VkStep.{VkStep}
use Rattle.vk_types.specs.declared.steps.VkStep.TheVariants.{Pass, Command, Bump}
use Rattle.vk_types.specs.Stages.{meets, copy_stage, compute_stage}
use Rattle.vk_sync_rules.specs.BatchEnds.{AreEnded}
use Rattle.vk_sync_rules.specs.EnabledSteps.{is_enabled, is_free, lets, reached, can_run as machine_can_run, all_done as are_all_done}
use Rattle.vk_sync_rules.specs.Orders.{sort_of, orders as machine_orders}
use Rattle.vk_sync_rules.specs.Places.{is_before}
use Rattle.vk_sync_rules.specs.Registers.{slots_of}
use Rattle.vk_sync_rules.specs.VkState.{VkState as Machine, Placed, counts_of, batch_in, command_in, nth_command, command_at as machine_command_at, placed, placed_from, is_done}
use Rattle.vk_sync_rules.specs.declared.counts.Done.{Done}
use Rattle.vk_sync_rules.specs.declared.places.Place.{Place}
use Rattle.vk_sync_rules.proofs.Soundness.{batch_of, free_gives, enabled_command}
use Rattle.vk_sync_rules.proofs.EndedBatches.{done_got}
use Rattle.vk_port.specs.declared.lanes.Lane.{Lane}
use Rattle.vk_port.specs.declared.lanes.Running.{Running}
use Rattle.vk_port.specs.declared.steps.Stepped.{Stepped}
use Rattle.vk_port.specs.declared.steps.Stepped.TheVariants.{Passed, Ran, Bumped, Free}
use Rattle.vk_port.specs.Enabled.{all_done}
use Rattle.vk_port.specs.Journal.{of_queue, first_number, command_fits}
use Rattle.vk_port.specs.Machine.{IsCounted, marks, running_of, shown, unfinished, vk_step}
use Rattle.vk_port.specs.Meaning.{IsPass, IsUndone, IsBefore, IsInOrder, IsCommand, IsBump, IsEnabled}
use Rattle.vk_port.specs.Orders.{stages_of, waits_for, orders}
use Rattle.vk_port.proofs.Counted.{BatchOfLane, left_of, lane_there, there_lane, lane_of_batch, batch_of_lane, queue_there}
use Rattle.vk_port.proofs.Earlier.{same_item}
use Rattle.vk_port.proofs.Numbering.{number_at, batch_at, place_in}
use Rattle.vk_port.proofs.Showing.{next_to_pass, first_to_end, command_to_do, command_found, command_fits_plan}
use Rattle.vk_port.proofs.Views.{mark_at, at_mark}

-- the stages that a command waits for
takes_are : (c : VkCommand) → (sort_of c).takes ≡ stages_of c
takes_are (Barrier from made to seen change) = refl
takes_are (Copy to to_first from from_first words) = refl
takes_are (CopyImage to to_sub to_layout from from_sub from_layout) = refl
takes_are (CopyIn image sub layout buffer first pitch) = refl
takes_are (CopyOut buffer first pitch image sub layout) = refl
takes_are (Clear target word) = refl
takes_are (Dispatch routine count t0 t1 u0 b0) = refl

-- a barrier alone waits for work
waits_are : (c : VkCommand) (stages : Stages) → ((sort_of c).is_barrier && meets stages (sort_of c).takes) ≡ waits_for c stages
waits_are (Barrier from made to seen change) stages = refl
waits_are (Copy to to_first from from_first words) stages = refl
waits_are (CopyImage to to_sub to_layout from from_sub from_layout) stages = refl
waits_are (CopyIn image sub layout buffer first pitch) stages = refl
waits_are (CopyOut buffer first pitch image sub layout) stages = refl
waits_are (Clear target word) stages = refl
waits_are (Dispatch routine count t0 t1 u0 b0) stages = refl

-- the order of two commands
pub same_orders : (e c : VkCommand) → machine_orders (sort_of e) (sort_of c) ≡ orders e c
same_orders (Barrier from made to seen change) c = ap (meets to) (takes_are c)
same_orders (Copy to to_first from from_first words) c = waits_are c copy_stage
same_orders (CopyImage to to_sub to_layout from from_sub from_layout) c = waits_are c copy_stage
same_orders (CopyIn image sub layout buffer first pitch) c = waits_are c copy_stage
same_orders (CopyOut buffer first pitch image sub layout) c = waits_are c copy_stage
same_orders (Clear target word) c = waits_are c compute_stage
same_orders (Dispatch routine count t0 t1 u0 b0) c = waits_are c compute_stage

-- a command that devices do loads nothing
no_slots : (plan : DevicePlan) (c : VkCommand) → command_fits plan c ≡ true → (0 == length (slots_of c)) ≡ true
no_slots plan (Barrier from made to seen None) fits = refl
no_slots plan (Barrier from made to seen (Some change)) fits = absurd (false≢true fits)
no_slots plan (Copy to to_first from from_first words) fits = refl
no_slots plan (CopyImage to to_sub to_layout from from_sub from_layout) fits = absurd (false≢true fits)
no_slots plan (CopyIn image sub layout buffer first pitch) fits = absurd (false≢true fits)
no_slots plan (CopyOut buffer first pitch image sub layout) fits = absurd (false≢true fits)
no_slots plan (Clear target word) fits = absurd (false≢true fits)
no_slots plan (Dispatch routine count t0 t1 u0 b0) fits = absurd (false≢true fits)

-- a test of each command of a batch
each_placed_from : (f : Placed → Bool) (n k : ℕ) (cs : List VkCommand) →
    ((i : ℕ) (x : VkCommand) → slice_get cs i ≡ Some x → f (record { place = record { number = n; index = k + i }; command = x }) ≡ true) → list_all f (placed_from n k cs) ≡ true
each_placed_from f n k [] each = refl
each_placed_from f n k (c ∷ cs) each =
    let here : k + 0 ≡ k = omega arith in
    and_from (f (record { place = record { number = n; index = k }; command = c })) (list_all f (placed_from n (k + 1) cs))
    (subst (λ (m : ℕ). f (record { place = record { number = n; index = m }; command = c }) ≡ true) here (each 0 c refl))
    (each_placed_from f n (k + 1) cs (λ i x is. (let next : k + suc i ≡ k + 1 + i = omega arith in
    subst (λ (m : ℕ). f (record { place = record { number = n; index = m }; command = x }) ≡ true) next (each (suc i) x is))))

-- a test of each command of a queue
each_placed : (f : Placed → Bool) (q : ℕ) (j : List Batch) →
    ((at : ℕ) (b : Batch) (i : ℕ) (x : VkCommand) → slice_get (of_queue q j) at ≡ Some b → slice_get b.commands i ≡ Some x → f (record { place = record { number = b.number; index = 1 + i }; command = x }) ≡ true) →
    list_all f (placed q j) ≡ true
each_placed f q [] each = refl
each_placed f q (b ∷ j) each = by_queue (b.queue == q) each (each_placed f q j) where
  by_queue : (t : Bool) →
      ((at : ℕ) (d : Batch) (i : ℕ) (x : VkCommand) → slice_get (cond t (b ∷ of_queue q j) (of_queue q j)) at ≡ Some d → slice_get d.commands i ≡ Some x → f (record { place = record { number = d.number; index = 1 + i }; command = x }) ≡ true) →
      (((at : ℕ) (d : Batch) (i : ℕ) (x : VkCommand) → slice_get (of_queue q j) at ≡ Some d → slice_get d.commands i ≡ Some x → f (record { place = record { number = d.number; index = 1 + i }; command = x }) ≡ true) → list_all f (placed q j) ≡ true) →
      list_all f (cond t (placed_from b.number 1 b.commands) [] ++ placed q j) ≡ true
  by_queue true each rest =
      list_all-append f (placed_from b.number 1 b.commands) (placed q j)
      ∙ and_from (list_all f (placed_from b.number 1 b.commands)) (list_all f (placed q j))
      (each_placed_from f b.number 1 b.commands (λ i x is. each 0 b i x refl is)) (rest (λ at. each (suc at)))
  by_queue false each rest = rest each

-- a batch's commands are done where its marks are set
marks_all : (done : List Done) (q n k : ℕ) (cs : List VkCommand) → list_all (λ mark. mark) (marks done q n k cs) ≡ are_all_done done q (placed_from n k cs)
marks_all done q n k [] = refl
marks_all done q n k (c ∷ cs) = ap (λ (t : Bool). is_done done q (record { number = n; index = k }) && t) (marks_all done q n (k + 1) cs)

-- a place is before another
before_parts : (a b : Place) → is_before a b ≡ true → (a.number < b.number) ⊎ ((a.number ≡ b.number) × (a.index < b.index))
before_parts a b h =
    elim (cases_lt a.number b.number) [
      | inl less ↦ inl less
      | inr past ↦
          let not_less : nat_lt a.number b.number ≡ false = grind (arith, past) in
          let both : ((a.number == b.number) && nat_lt a.index b.index) ≡ true = subst (λ t. (t || ((a.number == b.number) && nat_lt a.index b.index)) ≡ true) not_less h in
          let parts = and_parts (a.number == b.number) (nat_lt a.index b.index) both in
          inr (eqb-true a.number b.number parts.0, ltb-true a.index b.index parts.1)
    ]

before_from : (a b : Place) → (a.number < b.number) ⊎ ((a.number ≡ b.number) × (a.index < b.index)) → is_before a b ≡ true
before_from a b h =
    elim h as (λ _. is_before a b ≡ true) [
      | inl less ↦ ap (λ t. t || ((a.number == b.number) && nat_lt a.index b.index)) (lt-ltb a.number b.number less)
      | inr same ↦ or_right (nat_lt a.number b.number) ((a.number == b.number) && nat_lt a.index b.index)
          (and_from (a.number == b.number) (nat_lt a.index b.index) (eq-eqb a.number b.number same.0) (lt-ltb a.index b.index same.1))
    ]

module _ (v : Machine) (counted : IsCounted v) where
  -- the number of the batch of a number
  number_of : (q n : ℕ) (b : Batch) → batch_in q n v.journal ≡ Some b → b.number ≡ n
  number_of q n b is =
      let place = place_in q (first_number q) v.journal n b (counted.numbered q) is in
      let number = number_at (first_number q) (of_queue q v.journal) (n - first_number q) b (counted.numbered q) place.1 in
      let past = place.0 in
      omega (arith, number, past)

  -- a pass that is offered
  pass_enabled : (q n : ℕ) → IsPass (shown v) q n → is_enabled v (Pass q n) ≡ true
  pass_enabled q n e =
      let facts = next_to_pass v counted q n e in
      let waits : reached v.timelines facts.0.batch.waits ≡ true = subst (λ (r : Running). reached v.timelines r.batch.waits ≡ true) facts.0.running e.waits in
      and_from (n == (counts_of v q).passed) (elim (batch_in q n v.journal) [ None ↦ false | Some b ↦ reached v.timelines b.waits ])
      (eq-eqb n (counts_of v q).passed facts.1) (ap (λ (o : Option Batch). elim o [ None ↦ false | Some b ↦ reached v.timelines b.waits ]) facts.0.found ∙ waits)

  -- an end that is offered
  end_enabled : (q n : ℕ) → IsBump (shown v) q n → is_enabled v (Bump q n) ≡ true
  end_enabled q n e =
      let facts = first_to_end v counted q n e in
      let b = facts.0.batch in
      let number : b.number ≡ n = number_of q n b facts.0.found in
      let passed : e.lane.passed ≡ (counts_of v q).passed - (counts_of v q).ended = ap (λ (l : Lane). l.passed) (lane_there v q e.lane e.there).1 in
      let some : 0 < e.lane.passed = e.passed in
      let first = facts.1 in
      let less : n < (counts_of v q).passed = omega (arith, passed, some, first) in
      let done : are_all_done v.done q (placed_from n 1 b.commands) ≡ true =
      subst (λ (m : ℕ). are_all_done v.done q (placed_from m 1 b.commands) ≡ true) number
      (sym (marks_all v.done q b.number 1 b.commands) ∙ subst (λ (r : Running). all_done r ≡ true) facts.0.running e.done) in
      and_from (n == (counts_of v q).ended) (nat_lt n (counts_of v q).passed && elim (batch_in q n v.journal) [ None ↦ false | Some b ↦ are_all_done v.done q (placed_from n 1 b.commands) ])
      (eq-eqb n (counts_of v q).ended facts.1)
      (and_from (nat_lt n (counts_of v q).passed) (elim (batch_in q n v.journal) [ None ↦ false | Some b ↦ are_all_done v.done q (placed_from n 1 b.commands) ])
      (lt-ltb n (counts_of v q).passed less)
      (ap (λ (o : Option Batch). elim o [ None ↦ false | Some b ↦ are_all_done v.done q (placed_from n 1 b.commands) ]) facts.0.found ∙ done))

  module _ (ended : AreEnded v) (q n k : ℕ) (e : IsCommand (shown v) q n k) where
    abbrev here : Place
    here = record { number = n; index = k }

    -- an earlier command of the queue that is not done, and has to be done before
    lets_go : (at : ℕ) (b : Batch) (i : ℕ) (x : VkCommand) → slice_get (of_queue q v.journal) at ≡ Some b → slice_get b.commands i ≡ Some x →
        lets v.done q here e.command (record { place = record { number = b.number; index = 1 + i }; command = x }) ≡ true
    lets_go at b i x is has = by_done (is_done v.done q place) refl (is_before place here) refl where
      place : Place
      place = record { number = b.number; index = 1 + i }

      facts : BatchOfLane v q n e.place e.running × (n < (counts_of v q).passed)
      facts = command_to_do v counted q n k e

      number : b.number ≡ first_number q + at
      number = number_at (first_number q) (of_queue q v.journal) at b (counted.numbered q) is

      found : batch_in q b.number v.journal ≡ Some b
      found = subst (λ (m : ℕ). batch_in q m v.journal ≡ Some b) (sym number) (batch_at q (first_number q) v.journal at b (counted.numbered q) is)

      -- it is not ordered before the command, where it is in the lane
      in_lane : is_done v.done q place ≡ false → is_before place here ≡ true → (counts_of v q).ended ≤ b.number → machine_orders (sort_of x) (sort_of e.command) ≡ false
      in_lane left before late =
          let ordered = subst (λ (l : Lane). IsInOrder l e.place (k - 1) e.command) (lane_there v q e.lane e.there).1 e.in_order in
          let at_place = facts.0.number in
          let some = e.counted in
          let earlier : IsBefore (b.number - (counts_of v q).ended) i e.place (k - 1) = elim (before_parts place here before) [
            | inl less ↦ inl (omega (arith, less, at_place, late))
            | inr same ↦ (let equal = same.0 in let index = same.1 in inr (omega (arith, equal, at_place, late), omega (arith, index, some)))
          ] in
          let undone : IsUndone (unfinished v q) (b.number - (counts_of v q).ended) i x = record {
            running = running_of v.done q b;
            is_running = lane_of_batch v counted q facts.0.there b.number b found late;
            is_command = has;
            left = at_mark v.done q b.number 1 i b.commands x has ∙ ap (λ (t : Bool). Some t) left;
          } in
          same_orders x e.command ∙ ordered (b.number - (counts_of v q).ended) i x undone earlier

      by_before : is_done v.done q place ≡ false → (t : Bool) → is_before place here ≡ t → (not (t && machine_orders (sort_of x) (sort_of e.command)) || is_done v.done q place) ≡ true
      by_before left false before = refl
      by_before left true before =
          elim (cases_lt b.number (counts_of v q).ended) [
            | inl early ↦
                let done : is_done v.done q place ≡ true = done_got v.done q b.number 1 i b.commands x place (ended.done q b.number b found early) has refl refl in
                absurd (true≢false (sym done ∙ left))
            | inr past ↦ rw (in_lane left before past) refl
          ]

      by_done : (d : Bool) → is_done v.done q place ≡ d → (t : Bool) → is_before place here ≡ t → (not (is_before place here && machine_orders (sort_of x) (sort_of e.command)) || is_done v.done q place) ≡ true
      by_done true done t before = or_right (not (is_before place here && machine_orders (sort_of x) (sort_of e.command))) (is_done v.done q place) done
      by_done false left t before = subst (λ (s : Bool). (not (s && machine_orders (sort_of x) (sort_of e.command)) || is_done v.done q place) ≡ true) (sym before) (by_before left t before)

    -- a command that is offered
    command_enabled : is_enabled v (Command q n k []) ≡ true
    command_enabled =
        let facts = command_to_do v counted q n k e in
        let b = facts.0.batch in
        let number : b.number ≡ n = number_of q n b facts.0.found in
        let some = e.counted in
        let index : 1 + (k - 1) ≡ k = omega (arith, some) in
        let at_place = facts.0.number in
        let began : nat_le (counts_of v q).ended n ≡ true = grind (arith, at_place) in
        let left : is_done v.done q here ≡ false =
        subst (λ (m : ℕ). is_done v.done q (record { number = m; index = k }) ≡ false) number
        (subst (λ (m : ℕ). is_done v.done q (record { number = b.number; index = m }) ≡ false) index
        (mark_at v.done q b.number 1 (k - 1) b.commands false (subst (λ (r : Running). slice_get r.done (k - 1) ≡ Some false) facts.0.running e.left))) in
        let runs : machine_can_run v q here [] (machine_command_at v q here) ≡ true =
        ap (machine_can_run v q here []) (command_found v counted q n k e)
        ∙ and_from (0 == length (slots_of e.command)) (is_free v q here e.command)
        (no_slots v.plan e.command (command_fits_plan v counted q n k e)) (each_placed (lets v.done q here e.command) q v.journal lets_go) in
        and_from (nat_le (counts_of v q).ended n && nat_lt n (counts_of v q).passed) (not (is_done v.done q here) && machine_can_run v q here [] (machine_command_at v q here))
        (and_from (nat_le (counts_of v q).ended n) (nat_lt n (counts_of v q).passed) began (lt-ltb n (counts_of v q).passed facts.1))
        (and_from (not (is_done v.done q here)) (machine_can_run v q here [] (machine_command_at v q here)) (ap not left) runs)

  -- a step that is offered can be taken
  pub offered_enabled : AreEnded v → (s : Stepped) → IsEnabled (shown v) s → (x : VkStep) × (vk_step s [] ≡ Some x) × (is_enabled v x ≡ true)
  offered_enabled ended (Passed q n) e = (Pass q n, refl, pass_enabled q n e)
  offered_enabled ended (Ran q n k) e = (Command q n k [], refl, command_enabled ended q n k e)
  offered_enabled ended (Bumped q n) e = (Bump q n, refl, end_enabled q n e)
  offered_enabled ended Free e = absurd e

  -- a pass that can be taken
  enabled_pass_means : (q n : ℕ) → is_enabled v (Pass q n) ≡ true → IsPass (shown v) q n
  enabled_pass_means q n h = by_batch (batch_in q n v.journal) refl parts.1 where
    parts : ((n == (counts_of v q).passed) ≡ true) × (elim (batch_in q n v.journal) [ None ↦ false | Some b ↦ reached v.timelines b.waits ] ≡ true)
    parts = and_parts (n == (counts_of v q).passed) (elim (batch_in q n v.journal) [ None ↦ false | Some b ↦ reached v.timelines b.waits ]) h

    by_batch : (o : Option Batch) → batch_in q n v.journal ≡ o → elim o [ None ↦ false | Some b ↦ reached v.timelines b.waits ] ≡ true → IsPass (shown v) q n
    by_batch None found waits = absurd (false≢true waits)
    by_batch (Some b) found waits =
        let there = queue_there v counted q n b found in
        let next : n ≡ (counts_of v q).passed = eqb-true n (counts_of v q).passed parts.0 in
        let order = counted.ended_passed q in
        record {
          lane = unfinished v q;
          there = there_lane v q there;
          next = running_of v.done q b;
          is_next = subst (λ (m : ℕ). slice_get (unfinished v q).batches (m - (counts_of v q).ended) ≡ Some (running_of v.done q b)) next (lane_of_batch v counted q there n b found (omega (arith, next, order)));
          number = number_of q n b found;
          waits = waits;
        }

  -- an end that can be taken
  enabled_end_means : (q n : ℕ) → is_enabled v (Bump q n) ≡ true → IsBump (shown v) q n
  enabled_end_means q n h = by_batch (batch_in q n v.journal) refl rest.1 where
    parts : ((n == (counts_of v q).ended) ≡ true) × ((nat_lt n (counts_of v q).passed && elim (batch_in q n v.journal) [ None ↦ false | Some b ↦ are_all_done v.done q (placed_from n 1 b.commands) ]) ≡ true)
    parts = and_parts (n == (counts_of v q).ended) (nat_lt n (counts_of v q).passed && elim (batch_in q n v.journal) [ None ↦ false | Some b ↦ are_all_done v.done q (placed_from n 1 b.commands) ]) h

    rest : (nat_lt n (counts_of v q).passed ≡ true) × (elim (batch_in q n v.journal) [ None ↦ false | Some b ↦ are_all_done v.done q (placed_from n 1 b.commands) ] ≡ true)
    rest = and_parts (nat_lt n (counts_of v q).passed) (elim (batch_in q n v.journal) [ None ↦ false | Some b ↦ are_all_done v.done q (placed_from n 1 b.commands) ]) parts.1

    by_batch : (o : Option Batch) → batch_in q n v.journal ≡ o → elim o [ None ↦ false | Some b ↦ are_all_done v.done q (placed_from n 1 b.commands) ] ≡ true → IsBump (shown v) q n
    by_batch None found done = absurd (false≢true done)
    by_batch (Some b) found done =
        let there = queue_there v counted q n b found in
        let first : n ≡ (counts_of v q).ended = eqb-true n (counts_of v q).ended parts.0 in
        let less : n < (counts_of v q).passed = ltb-true n (counts_of v q).passed rest.0 in
        let number : b.number ≡ n = number_of q n b found in
        let place : n - (counts_of v q).ended ≡ 0 = omega (arith, first) in
        record {
          lane = unfinished v q;
          there = there_lane v q there;
          first = running_of v.done q b;
          is_first = subst (λ (m : ℕ). slice_get (unfinished v q).batches m ≡ Some (running_of v.done q b)) place (lane_of_batch v counted q there n b found (omega (arith, first)));
          number = number;
          passed = omega (arith, first, less);
          done = marks_all v.done q b.number 1 b.commands ∙ subst (λ (m : ℕ). are_all_done v.done q (placed_from m 1 b.commands) ≡ true) (sym number) done;
        }

  -- the place of a command that is there is counted from 1
  command_place : (b : Batch) (k : ℕ) (c : VkCommand) → nth_command b.commands k ≡ Some c → (1 ≤ k) × (slice_get b.commands (k - 1) ≡ Some c)
  command_place b zero c is = absurd (none-some c is)
  command_place b (suc k) c is =
      let at : k ≡ suc k - 1 = omega arith in
      (omega arith, subst (λ (i : ℕ). slice_get b.commands i ≡ Some c) at is)

  -- a command that can be taken
  enabled_command_means : (q n k : ℕ) → is_enabled v (Command q n k []) ≡ true → IsCommand (shown v) q n k
  enabled_command_means q n k h = record {
    lane = unfinished v q;
    there = there_lane v q there;
    place = n - (counts_of v q).ended;
    passed = omega (arith, began, less);
    running = running_of v.done q b;
    is_running = lane_of_batch v counted q there n b batch.1 began;
    number = number;
    counted = at.0;
    command = found.0;
    is_command = at.1;
    left = at_mark v.done q b.number 1 (k - 1) b.commands found.0 at.1 ∙ ap (λ (t : Bool). Some t) left;
    in_order = in_order;
  } where
    here : Place
    here = record { number = n; index = k }

    facts : (n < (counts_of v q).passed) × (is_done v.done q (record { number = n; index = k }) ≡ false) × ((c : VkCommand) × (machine_command_at v q (record { number = n; index = k }) ≡ Some c) × (is_free v q (record { number = n; index = k }) c ≡ true))
    facts = enabled_command v q n k [] h

    found : (c : VkCommand) × (machine_command_at v q (record { number = n; index = k }) ≡ Some c) × (is_free v q (record { number = n; index = k }) c ≡ true)
    found = facts.2

    batch : (b : Batch) × (batch_in q n v.journal ≡ Some b) × (nth_command b.commands k ≡ Some found.0)
    batch = batch_of (batch_in q n v.journal) k found.0 found.1

    b : Batch
    b = batch.0

    there : q < length v.queues
    there = queue_there v counted q n b batch.1

    number : b.number ≡ n
    number = number_of q n b batch.1

    at : (1 ≤ k) × (slice_get b.commands (k - 1) ≡ Some found.0)
    at = command_place b k found.0 batch.2

    less : n < (counts_of v q).passed
    less = facts.0

    began : (counts_of v q).ended ≤ n
    began = grind (arith, h)

    left : is_done v.done q (record { number = b.number; index = 1 + (k - 1) }) ≡ false
    left =
        let some = at.0 in
        let index : k ≡ 1 + (k - 1) = omega (arith, some) in
        subst (λ (m : ℕ). is_done v.done q (record { number = m; index = 1 + (k - 1) }) ≡ false) (sym number)
        (subst (λ (m : ℕ). is_done v.done q (record { number = n; index = m }) ≡ false) index facts.1)

    in_order : IsInOrder (unfinished v q) (n - (counts_of v q).ended) (k - 1) found.0
    in_order place i x undone before = by_orders (orders x found.0) refl where
      other : (c : Batch) × (slice_get (left_of v q) place ≡ Some c) × (undone.running ≡ running_of v.done q c) × (batch_in q ((counts_of v q).ended + place) v.journal ≡ Some c)
      other = batch_of_lane v counted q there place undone.running undone.is_running

      at_number : other.0.number ≡ (counts_of v q).ended + place
      at_number = number_of q ((counts_of v q).ended + place) other.0 other.3

      is_left : is_done v.done q (record { number = other.0.number; index = 1 + i }) ≡ false
      is_left = mark_at v.done q other.0.number 1 i other.0.commands false (subst (λ (r : Running). slice_get r.done i ≡ Some false) other.2 undone.left)

      has : command_in (batch_in q other.0.number v.journal) (1 + i) ≡ Some x
      has =
          let next : 1 + i ≡ suc i = omega arith in
          ap (λ (m : ℕ). command_in (batch_in q m v.journal) (1 + i)) at_number ∙ ap (λ (o : Option Batch). command_in o (1 + i)) other.3 ∙ ap (nth_command other.0.commands) next ∙ subst (λ (r : Running). slice_get r.batch.commands i ≡ Some x) other.2 undone.is_command

      earlier : is_before (record { number = other.0.number; index = 1 + i }) here ≡ true
      earlier = before_from (record { number = other.0.number; index = 1 + i }) here (elim before [
        | inl first ↦ inl (omega (arith, first, at_number, began))
        | inr same ↦ (let equal = same.0 in let index = same.1 in inr (omega (arith, equal, at_number, began), omega (arith, index)))
      ])

      by_orders : (t : Bool) → orders x found.0 ≡ t → t ≡ false
      by_orders false ordered = refl
      by_orders true ordered =
          let done : is_done v.done q (record { number = other.0.number; index = 1 + i }) ≡ true =
          free_gives v.done q here (record { number = other.0.number; index = 1 + i }) found.0 x v.journal found.2 has earlier (same_orders x found.0 ∙ ordered) in
          absurd (true≢false (sym done ∙ is_left))

  -- a step that can be taken is one that may be offered
  pub enabled_offered : (s : Stepped) (x : VkStep) → vk_step s [] ≡ Some x → is_enabled v x ≡ true → IsEnabled (shown v) s
  enabled_offered (Passed q n) x is h = enabled_pass_means q n (subst (λ (y : VkStep). is_enabled v y ≡ true) (sym (same_item (Pass q n) x is)) h)
  enabled_offered (Ran q n k) x is h = enabled_command_means q n k (subst (λ (y : VkStep). is_enabled v y ≡ true) (sym (same_item (Command q n k []) x is)) h)
  enabled_offered (Bumped q n) x is h = enabled_end_means q n (subst (λ (y : VkStep). is_enabled v y ≡ true) (sym (same_item (Bump q n) x is)) h)
  enabled_offered Free x is h = absurd (none-some x is)
