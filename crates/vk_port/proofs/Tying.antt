-- What a device stores stays tied to what was seen of it.
use Rattle.std.proofs.Common.{◌≡◌, ℕ, zero, suc, ◌+◌, ◌<◌, ◌∙◌, ◌&&◌, true, List, [], map, length, refl, sym, ap, ap₂, subst, arith, nat_lt, Option, Some, None, IfSome, IsSome}
use Rattle.std.specs.List.{list_all}
use Rattle.std.specs.Option.{ForSome}
use Rattle.std.proofs.lemmas.Bool.{and_parts, ltb-true, false≢true}
use Rattle.vk_types.specs.declared.batches.Batch.{Batch}
use Rattle.vk_types.specs.declared.plan.DevicePlan.{DevicePlan}
use Rattle.vk_types.specs.declared.steps.VkStep.TheVariants as vk
use Rattle.vk_sync_rules.specs.Rules.{after_step as after_vk_step}
use Rattle.vk_sync_rules.specs.VkState.{VkState as Machine, command_at as machine_command_at, first_state as first_machine}
use Rattle.vk_port.specs.declared.kept.Kept.{Kept}
use Rattle.vk_port.specs.declared.steps.Stepped.{Stepped}
use Rattle.vk_port.specs.declared.steps.Stepped.TheVariants.{Passed, Ran, Bumped, Free}
use Rattle.vk_port.specs.declared.store.Store.{Store}
use Rattle.vk_port.specs.After.{after_step, after_submit, put, range_of}
use Rattle.vk_port.specs.Words.{first_words, words_after}
use Rattle.dx_base.specs.Lists.{changed_at}
use Rattle.std.specs.Prelude.{slice_index_or}
use Rattle.vk_port.specs.Agreement.{Agree, AgreeEach, host_numbers, sees_word}
use Rattle.vk_port.specs.Journal.{next_number, command_fits, pairs_fit, fits_plan}
use Rattle.vk_port.specs.Machine.{IsCounted, lanes_from, shown, after_stepped}
use Rattle.vk_port.specs.Meaning.{IsEnabled}
use Rattle.vk_port.specs.Seen.{Seen}
use Rattle.vk_port.specs.Stored.{state_of}
use Rattle.vk_port.specs.Tied.{IsTied, queues_of}
use Rattle.vk_port.specs.VkState.{VkState, first_state}
use Rattle.vk_port.proofs.Agreeing.{agree_first, agree_read}
use Rattle.vk_port.proofs.Earlier.{same_item}
use Rattle.vk_port.proofs.WordsAgreeing.{words_step, words_written}
use Rattle.vk_port.proofs.MachineSizes.{run_plan}
use Rattle.vk_port.proofs.Showing.{made_state}
use Rattle.vk_port.proofs.Shown.{first_shown, step_shown, submit_shown, host_write_shown}

-- as many lanes as queues
length_lanes : (v : Machine) (p k : ℕ) → length (lanes_from v p k) ≡ k
length_lanes v p zero = refl
length_lanes v p (suc k) = ap suc (length_lanes v (p + 1) k)

-- a step keeps the plan
plan_kept : (v : Machine) (s : Stepped) → (after_stepped v s []).plan ≡ v.plan
plan_kept v (Passed q n) = refl
plan_kept v (Ran q n k) = run_plan v q (record { number = n; index = k }) [] (machine_command_at v q (record { number = n; index = k }))
plan_kept v (Bumped q n) = refl
plan_kept v Free = refl

-- what is stored is the view of the machine's state
pub stored_is : (store : Store) (kept : Kept) → IsTied store kept → state_of store ≡ shown kept.seen.state
stored_is store kept tied =
    ap₂ (λ (ts : List ℕ) (bs : List Batch). made_state ts bs (state_of store).lanes) tied.timelines tied.journal ∙ ap (made_state kept.seen.state.timelines kept.seen.state.journal) tied.lanes

-- what was seen after something was done
tied_by : (store : Store) (kept : Kept) (x : Seen) → kept.seen ≡ x → state_of store ≡ shown x.state → AgreeEach store.words x.state.numbers.buffers → store.queues ≡ queues_of x.plan →
    IsCounted x.state → ForSome x.plan (λ plan. x.state.plan ≡ plan) → IsTied store kept
tied_by store kept x is state words queues counted plan = subst (λ (s : Seen). IsTied store (record { seen = s })) (sym is) (record {
  words = words;
  timelines = ap (λ (u : VkState). u.timelines) state;
  journal = ap (λ (u : VkState). u.journal) state;
  lanes = ap (λ (u : VkState). u.lanes) state;
  counted = counted;
  queues = queues;
  plan = plan;
})

-- the objects of a plan
pub tied_create : (store : Store) (kept : Kept) (plan : DevicePlan) → kept.seen ≡ record { plan = Some plan; state = first_machine plan } →
    state_of store ≡ first_state plan → store.words ≡ map first_words plan.buffers → store.queues ≡ plan.queues → IsTied store kept
tied_create store kept plan is state words queues =
    let first = first_shown plan in
    tied_by store kept (record { plan = Some plan; state = first_machine plan }) is (state ∙ sym first.0) (rw words (agree_first plan.buffers)) queues first.1 (λ p same. same_item plan p same)

module _ (store : Store) (kept : Kept) (tied : IsTied store kept) (next : Store) (then : Kept) (queues : next.queues ≡ store.queues) where
  abbrev v : Machine
  v = kept.seen.state

  view : state_of store ≡ shown v
  view = stored_is store kept tied

  -- a step
  pub tied_step : (s : Stepped) → then.seen ≡ record kept.seen { state = after_stepped v s [] } → IsEnabled (state_of store) s →
      state_of next ≡ after_step (state_of store) s → next.words ≡ words_after (state_of store) s store.words → IsTied next then
  tied_step s is e state words =
      let enabled : IsEnabled (shown v) s = subst (λ (u : VkState). IsEnabled u s) view e in
      let after = step_shown v tied.counted s enabled in
      tied_by next then (record kept.seen { state = after_stepped v s [] }) is
      (state ∙ ap (λ (u : VkState). after_step u s) view ∙ sym after.0)
      (subst (λ (ws : List (List ℕ)). AgreeEach ws (after_stepped v s []).numbers.buffers) (sym (words ∙ ap (λ (u : VkState). words_after u s store.words) view)) (words_step v tied.counted s enabled store.words tied.words))
      (queues ∙ tied.queues) after.1 (λ p same. plan_kept v s ∙ tied.plan p same)

  -- a submission
  pub tied_submit : (b : Batch) → then.seen ≡ record kept.seen { state = after_vk_step v (vk.Submit b) } →
      b.number ≡ next_number b.queue v.journal → IsSome kept.seen.plan → IfSome kept.seen.plan (λ plan. fits_plan plan b ≡ true) →
      state_of next ≡ after_submit (state_of store) b → next.words ≡ store.words → IsTied next then
  tied_submit b is number some fits state words =
      let after = by_plan kept.seen.plan refl some fits in
      tied_by next then (record kept.seen { state = after_vk_step v (vk.Submit b) }) is
      (state ∙ ap (λ (u : VkState). after_submit u b) view ∙ sym after.0) (rw words tied.words) (queues ∙ tied.queues) after.1 tied.plan where
        long : length v.queues ≡ store.queues
        long = sym (length_lanes v 0 (length v.queues)) ∙ ap length (sym tied.lanes) ∙ store.counted

        by_plan : (o : Option DevicePlan) → kept.seen.plan ≡ o → IsSome o → IfSome o (λ plan. fits_plan plan b ≡ true) →
            (shown (after_vk_step v (vk.Submit b)) ≡ after_submit (shown v) b) × IsCounted (after_vk_step v (vk.Submit b))
        by_plan None plan some fits = absurd (false≢true some)
        by_plan (Some p) plan some fits =
            let inside : b.queue < p.queues = ltb-true b.queue p.queues (and_parts (nat_lt b.queue p.queues) (pairs_fit p b.waits && (pairs_fit p b.sets && list_all (command_fits p) b.commands)) fits).0 in
            let as_many : length v.queues ≡ p.queues = long ∙ tied.queues ∙ ap queues_of plan in
            submit_shown v tied.counted b (omega (arith, inside, as_many)) number (subst (λ (x : DevicePlan). fits_plan x b ≡ true) (sym (tied.plan p plan)) fits)

  -- words that the host writes
  pub tied_host_write : (buffer first : ℕ) (words : List ℕ) → then.seen ≡ record kept.seen { state = after_vk_step v (vk.HostWrite buffer first words) } →
      state_of next ≡ state_of store → next.words ≡ changed_at (put first words) buffer store.words → IsTied next then
  tied_host_write buffer first words is state written =
      let after = host_write_shown v tied.counted buffer first words in
      tied_by next then (record kept.seen { state = after_vk_step v (vk.HostWrite buffer first words) }) is
      (state ∙ view ∙ sym after.0) (rw written (words_written v buffer first words store.words tied.words)) (queues ∙ tied.queues) after.1 tied.plan

-- words that the host reads agree with what it sees
pub read_agrees : (store : Store) (kept : Kept) (buffer first count : ℕ) (words : List ℕ) → IsTied store kept → words ≡ range_of first count (slice_index_or store.words buffer []) →
    Agree words (host_numbers kept.seen.state buffer first count)
read_agrees store kept buffer first count words tied is =
    subst (λ (xs : List ℕ). Agree xs (host_numbers kept.seen.state buffer first count)) (sym is)
    (agree_read (sees_word kept.seen.state buffer) buffer first count store.words kept.seen.state.numbers.buffers tied.words)
