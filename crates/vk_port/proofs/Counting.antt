-- The machine's batches stay counted.
use Rattle.std.proofs.Common.{◌≡◌, ℕ, zero, suc, ◌+◌, ◌<◌, ◌≤◌, ◌∙◌, true, List, [], ◌∷◌, ◌++◌, length, get_or, refl, sym, ap, subst, arith, Option, Some, None, inl, inr}
use Rattle.std.specs.List.{list_all}
use Rattle.std.proofs.lemmas.Bool.{cases_eq, cases_lt, and_from, ne_eqb, false≢true}
use Rattle.std.proofs.lemmas.List.{length-append, length-replicate, get_or-replicate, get_or_past}
use Rattle.std.proofs.lemmas.List.Folds.{list_all-append}
use Rattle.dx_base.specs.Lists.{changed_at}
use Rattle.vk_types.specs.declared.batches.Batch.{Batch}
use Rattle.vk_types.specs.declared.commands.VkCommand.{VkCommand}
use Rattle.vk_types.specs.declared.plan.DevicePlan.{DevicePlan}
use Rattle.vk_types.specs.declared.steps.VkStep.TheVariants.{Submit, Pass, Command, Bump, HostWrite, HostRead}
use Rattle.vk_sync_rules.specs.NextState.{after_run}
use Rattle.vk_sync_rules.specs.Rules.{after_step as after_vk_step}
use Rattle.vk_sync_rules.specs.VkState.{VkState as Machine, counts_of, no_counts, first_counts, first_queues, first_state as first_machine, command_at as machine_command_at, is_done}
use Rattle.vk_sync_rules.specs.declared.counts.Counts.{Counts}
use Rattle.vk_sync_rules.specs.declared.places.Place.{Place}
use Rattle.vk_sync_rules.specs.declared.rules.VkRule.{VkRule}
use Rattle.vk_sync_rules.proofs.Soundness.{changed_cases, got_changed, kept_field, done_cases}
use Rattle.vk_port.specs.Journal.{of_queue, first_number, next_number, are_numbered, fits_plan}
use Rattle.vk_port.specs.Machine.{IsCounted}
use Rattle.vk_port.proofs.Changing.{get_unchanged}
use Rattle.vk_port.proofs.Lists.{length_changed}
use Rattle.vk_port.proofs.Numbering.{number_behind}
use Rattle.vk_port.proofs.Valid.{of_same_queue, of_other_queue, numbered_more}

-- a fact of the counts of each queue, of which those of one change
each_counts : (P : ℕ → Counts → Type 0) (f : Counts → Counts) (q : ℕ) (queues : List Counts) → ((i : ℕ) → P i (get_or queues i no_counts)) → P q (f (get_or queues q no_counts)) →
    (i : ℕ) → P i (get_or (changed_at f q queues) i no_counts)
each_counts P f q queues each one i =
    elim (changed_cases f q queues i no_counts) [
      | inl same ↦ subst (P i) (sym same) (each i)
      | inr here ↦ subst (P i) (sym here.1) (subst (λ (j : ℕ). P j (f (get_or queues j no_counts))) (sym here.0) one)
    ]

-- a machine with the same batches, some of which have come further
module _ (v : Machine) (counted : IsCounted v) (f : Counts → Counts) (q : ℕ) (same : (c : Counts) → (f c).submitted ≡ c.submitted)
    (first : (counts_of v q).ended ≤ (f (counts_of v q)).ended) (ended : (f (counts_of v q)).ended ≤ (f (counts_of v q)).passed)
    (passed : (counts_of v q).passed ≤ (f (counts_of v q)).passed) (submitted : (f (counts_of v q)).passed ≤ (counts_of v q).submitted) where
  counted_further : (w : Machine) → w.plan ≡ v.plan → w.journal ≡ v.journal → w.done ≡ v.done → w.queues ≡ changed_at f q v.queues → IsCounted w
  counted_further w plan journal done queues = record {
    first_ended = λ i there. subst (λ (cs : List Counts). first_number i ≤ (get_or cs i no_counts).ended) (sym queues)
        (each_counts (λ j c. j < length v.queues → first_number j ≤ c.ended) f q v.queues counted.first_ended
        (λ here. (let least = counted.first_ended q here in omega (arith, least, first))) i (subst (λ (n : ℕ). i < n) long there));
    ended_passed = λ i. subst (λ (cs : List Counts). (get_or cs i no_counts).ended ≤ (get_or cs i no_counts).passed) (sym queues)
        (each_counts (λ j c. c.ended ≤ c.passed) f q v.queues counted.ended_passed ended i);
    passed_submitted = λ i. subst (λ (cs : List Counts). (get_or cs i no_counts).passed ≤ (get_or cs i no_counts).submitted) (sym queues)
        (each_counts (λ j c. c.passed ≤ c.submitted) f q v.queues counted.passed_submitted (let kept = same (counts_of v q) in omega (arith, submitted, kept)) i);
    numbered = λ i. subst (λ (bs : List Batch). are_numbered (first_number i) (of_queue i bs) ≡ true) (sym journal) (counted.numbered i);
    next = λ i there.
        ap (λ (cs : List Counts). (get_or cs i no_counts).submitted) queues
        ∙ kept_field (λ (c : Counts). c.submitted) f q v.queues i no_counts same
        ∙ counted.next i (subst (λ (n : ℕ). i < n) long there)
        ∙ sym (ap (λ (bs : List Batch). first_number i + length (of_queue i bs)) journal);
    none_elsewhere = λ i past. ap (of_queue i) journal ∙ counted.none_elsewhere i (subst (λ (n : ℕ). n ≤ i) long past);
    done = λ i p is. subst (λ (cs : List Counts). p.number < (get_or cs i no_counts).passed) (sym queues)
        (each_counts (λ j c. is_done v.done j p ≡ true → p.number < c.passed) f q v.queues (λ j. counted.done j p)
        (λ was. (let less = counted.done q p was in omega (arith, less, passed))) i (subst (λ ds. is_done ds i p ≡ true) done is));
    fit = subst (λ (plan : DevicePlan). list_all (fits_plan plan) w.journal ≡ true) (sym plan) (subst (λ (bs : List Batch). list_all (fits_plan v.plan) bs ≡ true) (sym journal) counted.fit);
  } where
    long : length w.queues ≡ length v.queues
    long = ap length queues ∙ length_changed f q v.queues

module _ (v : Machine) (counted : IsCounted v) where
  -- a batch that passes
  pub counted_pass : (q n : ℕ) → n ≡ (counts_of v q).passed → n < (counts_of v q).submitted → IsCounted (after_vk_step v (Pass q n))
  counted_pass q n next below =
      let order = counted.ended_passed q in
      counted_further v counted (λ c. record c { passed = n + 1 }) q (λ c. refl) (omega arith) (omega (arith, next, order)) (omega (arith, next)) (omega (arith, below)) (after_vk_step v (Pass q n)) refl refl refl refl

  -- a batch that ends
  pub counted_end : (q n : ℕ) → n ≡ (counts_of v q).ended → n < (counts_of v q).passed → IsCounted (after_vk_step v (Bump q n))
  counted_end q n first below =
      let order = counted.passed_submitted q in
      counted_further v counted (λ c. record c { ended = n + 1 }) q (λ c. refl) (omega (arith, first)) (omega (arith, below)) (omega arith) order (after_vk_step v (Bump q n)) refl refl refl refl

  -- a command that is done
  counted_found : (q : ℕ) (p : Place) (o : Option VkCommand) (rule : Option VkRule) → p.number < (counts_of v q).passed → IsCounted (record (after_run v q p [] o) { broken = rule })
  counted_found q p None rule passed = record {
    first_ended = counted.first_ended;
    ended_passed = counted.ended_passed;
    passed_submitted = counted.passed_submitted;
    numbered = counted.numbered;
    next = counted.next;
    none_elsewhere = counted.none_elsewhere;
    done = counted.done;
    fit = counted.fit;
  }
  counted_found q p (Some c) rule passed = record {
    first_ended = counted.first_ended;
    ended_passed = counted.ended_passed;
    passed_submitted = counted.passed_submitted;
    numbered = counted.numbered;
    next = counted.next;
    none_elsewhere = counted.none_elsewhere;
    done = λ i place is. elim (done_cases q p v.done i place is) [
      | inl new ↦ subst (λ (x : ℕ). place.number < (counts_of v x).passed) new.0 (subst (λ (y : Place). y.number < (counts_of v q).passed) new.1 passed)
      | inr old ↦ counted.done i place old
    ];
    fit = counted.fit;
  }

  pub counted_command : (q n k : ℕ) → n < (counts_of v q).passed → IsCounted (after_vk_step v (Command q n k []))
  counted_command q n k passed = counted_found q (record { number = n; index = k }) (machine_command_at v q (record { number = n; index = k })) _ passed

  -- the next number of a queue is the machine's
  pub number_next : (q : ℕ) → q < length v.queues → next_number q v.journal ≡ (counts_of v q).submitted
  number_next q there = number_behind (first_number q) (of_queue q v.journal) (counted.numbered q) ∙ sym (counted.next q there)

  -- a batch that is submitted
  pub counted_submit : (b : Batch) → b.queue < length v.queues → b.number ≡ (counts_of v b.queue).submitted → fits_plan v.plan b ≡ true → IsCounted (after_vk_step v (Submit b))
  counted_submit b there number fits = record {
    first_ended = λ i here. subst (λ (n : ℕ). first_number i ≤ n) (sym (same_ended i)) (counted.first_ended i (subst (λ (n : ℕ). i < n) long here));
    ended_passed = λ i. subst (λ (n : ℕ). n ≤ (counts_of w i).passed) (sym (same_ended i)) (subst (λ (n : ℕ). (counts_of v i).ended ≤ n) (sym (same_passed i)) (counted.ended_passed i));
    passed_submitted = λ i. each_counts (λ j c. c.passed ≤ c.submitted) change b.queue v.queues counted.passed_submitted (let order = counted.passed_submitted b.queue in omega (arith, order, number)) i;
    numbered = λ i.
        elim (cases_eq i b.queue) as (λ _. are_numbered (first_number i) (of_queue i (v.journal ++ b ∷ [])) ≡ true) [
          | inl same ↦ subst (λ (j : ℕ). are_numbered (first_number j) (of_queue j (v.journal ++ b ∷ [])) ≡ true) (sym same) own_numbered
          | inr other ↦ rw (of_other_queue i b v.journal other) (counted.numbered i)
        ];
    next = λ i here.
        elim (cases_eq i b.queue) as (λ _. (counts_of w i).submitted ≡ first_number i + length (of_queue i (v.journal ++ b ∷ []))) [
          | inl same ↦ subst (λ (j : ℕ). (counts_of w j).submitted ≡ first_number j + length (of_queue j (v.journal ++ b ∷ []))) (sym same) own_next
          | inr other ↦
              ap (λ (c : Counts). c.submitted) (get_unchanged change b.queue v.queues i no_counts other)
              ∙ counted.next i (subst (λ (n : ℕ). i < n) long here)
              ∙ sym (ap (λ (bs : List Batch). first_number i + length bs) (of_other_queue i b v.journal other))
        ];
    none_elsewhere = λ i past.
        let at : length v.queues ≤ i = subst (λ (n : ℕ). n ≤ i) long past in
        of_other_queue i b v.journal (λ same. absurd (omega (arith, at, there, same))) ∙ counted.none_elsewhere i at;
    done = λ i p is. subst (λ (n : ℕ). p.number < n) (sym (same_passed i)) (counted.done i p is);
    fit = list_all-append (fits_plan v.plan) v.journal (b ∷ []) ∙ and_from (list_all (fits_plan v.plan) v.journal) (list_all (fits_plan v.plan) (b ∷ [])) counted.fit (and_from (fits_plan v.plan b) true fits refl);
  } where
    w : Machine
    w = after_vk_step v (Submit b)

    change : Counts → Counts
    change c = record c { submitted = b.number + 1 }

    long : length w.queues ≡ length v.queues
    long = length_changed change b.queue v.queues

    same_ended : (i : ℕ) → (counts_of w i).ended ≡ (counts_of v i).ended
    same_ended i = kept_field (λ (c : Counts). c.ended) change b.queue v.queues i no_counts (λ c. refl)

    same_passed : (i : ℕ) → (counts_of w i).passed ≡ (counts_of v i).passed
    same_passed i = kept_field (λ (c : Counts). c.passed) change b.queue v.queues i no_counts (λ c. refl)

    own_numbered : are_numbered (first_number b.queue) (of_queue b.queue (v.journal ++ b ∷ [])) ≡ true
    own_numbered = rw (of_same_queue b v.journal) (numbered_more (first_number b.queue) (of_queue b.queue v.journal) b (counted.numbered b.queue) (number ∙ sym (number_next b.queue there)))

    own_next : (counts_of w b.queue).submitted ≡ first_number b.queue + length (of_queue b.queue (v.journal ++ b ∷ []))
    own_next =
        let changed : (counts_of w b.queue).submitted ≡ b.number + 1 = ap (λ (c : Counts). c.submitted) (got_changed change b.queue v.queues no_counts there) in
        let longer : length (of_queue b.queue (v.journal ++ b ∷ [])) ≡ length (of_queue b.queue v.journal) + 1 =
        ap length (of_same_queue b v.journal) ∙ length-append (of_queue b.queue v.journal) (b ∷ []) in
        let next = counted.next b.queue there in
        omega (arith, changed, longer, next, number)

-- what the host does
pub counted_host_write : (v : Machine) → IsCounted v → (buffer first : ℕ) (words : List ℕ) → IsCounted (after_vk_step v (HostWrite buffer first words))
counted_host_write v counted buffer first words = record {
  first_ended = counted.first_ended;
  ended_passed = counted.ended_passed;
  passed_submitted = counted.passed_submitted;
  numbered = counted.numbered;
  next = counted.next;
  none_elsewhere = counted.none_elsewhere;
  done = counted.done;
  fit = counted.fit;
}

pub counted_host_read : (v : Machine) → IsCounted v → (buffer first : ℕ) (words : List ℕ) → IsCounted (after_vk_step v (HostRead buffer first words))
counted_host_read v counted buffer first words = record {
  first_ended = counted.first_ended;
  ended_passed = counted.ended_passed;
  passed_submitted = counted.passed_submitted;
  numbered = counted.numbered;
  next = counted.next;
  none_elsewhere = counted.none_elsewhere;
  done = counted.done;
  fit = counted.fit;
}

-- the counts of a queue at first
first_count : (n i : ℕ) → i < n → get_or (first_queues n) i no_counts ≡ first_counts (first_number i)
first_count zero i there = absurd (omega (arith, there))
first_count (suc n) zero there = refl
first_count (suc n) (suc i) there =
    let one : first_number (suc i) ≡ 1 = rw (ne_eqb (suc i) 0 (λ e. absurd (omega (arith, e)))) refl in
    get_or-replicate n i (first_counts 1) no_counts (omega (arith, there)) ∙ ap first_counts (sym one)

first_long : (n i : ℕ) → i < length (first_queues n) → i < n
first_long zero i there = there
first_long (suc n) i there = (let long = length-replicate n (first_counts 1) in omega (arith, long, there))

-- they are all the same
pub first_alike : (n i : ℕ) → ((get_or (first_queues n) i no_counts).ended ≡ (get_or (first_queues n) i no_counts).passed) × ((get_or (first_queues n) i no_counts).passed ≡ (get_or (first_queues n) i no_counts).submitted)
first_alike n i =
    elim (cases_lt i (length (first_queues n))) as (λ _. ((get_or (first_queues n) i no_counts).ended ≡ (get_or (first_queues n) i no_counts).passed) × ((get_or (first_queues n) i no_counts).passed ≡ (get_or (first_queues n) i no_counts).submitted)) [
      | inl there ↦ rw (first_count n i (first_long n i there)) (refl, refl)
      | inr past ↦ rw (get_or_past (first_queues n) i no_counts past) (refl, refl)
    ]

-- at first there is no batch
pub first_counted : (plan : DevicePlan) → IsCounted (first_machine plan)
first_counted plan = record {
  first_ended = λ i there. rw (first_count plan.queues i (first_long plan.queues i there)) (omega arith);
  ended_passed = λ i. (let same = (first_alike plan.queues i).0 in omega (arith, same));
  passed_submitted = λ i. (let same = (first_alike plan.queues i).1 in omega (arith, same));
  numbered = λ i. refl;
  next = λ i there. rw (first_count plan.queues i (first_long plan.queues i there)) (omega arith);
  none_elsewhere = λ i past. refl;
  done = λ i p is. absurd (false≢true is);
  fit = refl;
}
