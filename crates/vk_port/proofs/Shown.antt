-- The view of the machine's state goes on as the machine does, and the machine's batches stay counted.
use Rattle.std.proofs.Common.{◌≡◌, ℕ, zero, suc, ◌+◌, ◌-◌, ◌<◌, ◌∙◌, true, List, [], ◌∷◌, length, replicate, refl, sym, ap, ap₂, arith}
use Rattle.std.proofs.lemmas.List.{length-replicate}
use Rattle.vk_types.specs.declared.batches.Batch.{Batch}
use Rattle.vk_types.specs.declared.plan.DevicePlan.{DevicePlan}
use Rattle.vk_types.specs.declared.steps.VkStep.TheVariants as vk
use Rattle.vk_sync_rules.specs.Rules.{after_step as after_vk_step}
use Rattle.vk_sync_rules.specs.VkState.{VkState as Machine, counts_of, first_counts, first_queues, first_state as first_machine}
use Rattle.vk_port.specs.declared.lanes.Lane.{Lane}
use Rattle.vk_port.specs.declared.steps.Stepped.{Stepped}
use Rattle.vk_port.specs.declared.steps.Stepped.TheVariants.{Passed, Ran, Bumped, Free}
use Rattle.vk_port.specs.After.{after_step, after_submit}
use Rattle.vk_port.specs.Journal.{next_number, fits_plan}
use Rattle.vk_port.specs.Machine.{IsCounted, lanes_from, shown, after_stepped}
use Rattle.vk_port.specs.Meaning.{IsEnabled}
use Rattle.vk_port.specs.VkState.{first_state, no_lane}
use Rattle.vk_port.proofs.Counted.{lane_there, number_below}
use Rattle.vk_port.proofs.Counting.{first_alike, first_counted, counted_pass, counted_end, counted_command, counted_submit, counted_host_write, counted_host_read, number_next}
use Rattle.vk_port.proofs.Showing.{made_state, next_to_pass, first_to_end, command_to_do, shows_pass, shows_end, shows_command, shows_submit, shows_host_write, shows_host_read}

-- no queue has a batch at first
first_lanes : (plan : DevicePlan) (p k : ℕ) → replicate k no_lane ≡ lanes_from (first_machine plan) p k
first_lanes plan p zero = refl
first_lanes plan p (suc k) =
    let same = (first_alike plan.queues p).0 in
    let none : 0 ≡ (counts_of (first_machine plan) p).passed - (counts_of (first_machine plan) p).ended = omega (arith, same) in
    ap₂ (λ (l : Lane) (ls : List Lane). l ∷ ls) (ap (λ (n : ℕ). record { batches = []; passed = n }) none) (first_lanes plan (p + 1) k)

-- as many queues as the plan has
pub first_queue_count : (n : ℕ) → length (first_queues n) ≡ n
first_queue_count zero = refl
first_queue_count (suc n) = ap suc (length-replicate n (first_counts 1))

-- at first
pub first_shown : (plan : DevicePlan) → (shown (first_machine plan) ≡ first_state plan) × IsCounted (first_machine plan)
first_shown plan = (
  ap (made_state (first_state plan).timelines []) (ap (lanes_from (first_machine plan) 0) (first_queue_count plan.queues) ∙ sym (first_lanes plan 0 plan.queues)),
  first_counted plan,
)

module _ (v : Machine) (counted : IsCounted v) where
  -- a step
  pub step_shown : (s : Stepped) → IsEnabled (shown v) s → (shown (after_stepped v s []) ≡ after_step (shown v) s) × IsCounted (after_stepped v s [])
  step_shown (Passed q n) e =
      let facts = next_to_pass v counted q n e in
      (shows_pass v counted q n e, counted_pass v counted q n facts.1 (number_below v counted q n facts.0.batch facts.0.there facts.0.found))
  step_shown (Ran q n k) e = (shows_command v counted q n k e, counted_command v counted q n k (command_to_do v counted q n k e).1)
  step_shown (Bumped q n) e =
      let first = (first_to_end v counted q n e).1 in
      let passed : e.lane.passed ≡ (counts_of v q).passed - (counts_of v q).ended = ap (λ (l : Lane). l.passed) (lane_there v q e.lane e.there).1 in
      let some : 0 < e.lane.passed = e.passed in
      (shows_end v counted q n e, counted_end v counted q n first (omega (arith, passed, some, first)))
  step_shown Free e = (refl, counted)

  -- a submission
  pub submit_shown : (b : Batch) → b.queue < length v.queues → b.number ≡ next_number b.queue v.journal → fits_plan v.plan b ≡ true →
      (shown (after_vk_step v (vk.Submit b)) ≡ after_submit (shown v) b) × IsCounted (after_vk_step v (vk.Submit b))
  submit_shown b there next fits =
      let number : b.number ≡ (counts_of v b.queue).submitted = next ∙ number_next v counted b.queue there in
      (shows_submit v counted b there number, counted_submit v counted b there number fits)

  -- what the host does
  pub host_write_shown : (buffer first : ℕ) (words : List ℕ) → (shown (after_vk_step v (vk.HostWrite buffer first words)) ≡ shown v) × IsCounted (after_vk_step v (vk.HostWrite buffer first words))
  host_write_shown buffer first words = (shows_host_write v buffer first words, counted_host_write v counted buffer first words)

  pub host_read_shown : (buffer first : ℕ) (words : List ℕ) → (shown (after_vk_step v (vk.HostRead buffer first words)) ≡ shown v) × IsCounted (after_vk_step v (vk.HostRead buffer first words))
  host_read_shown buffer first words = (shows_host_read v buffer first words, counted_host_read v counted buffer first words)
