-- The state of the Vulkan machine stays valid.
use Rattle.std.proofs.Common.{◌≡◌, ℕ, ◌+◌, ◌-◌, ◌<◌, ◌≤◌, ◌==◌, ◌∙◌, Bool, true, false, List, [], ◌∷◌, ◌++◌, length, drop, get_or, replicate, refl, sym, ap, subst, arith, inl, inr, eq-eqb}
use Rattle.std.specs.List.{list_all, drop-map}
use Rattle.std.proofs.lemmas.Bool.{cases_lt, cases_eq, cases_Bool, ne_eqb, eqb-true, and_parts, and_from}
use Rattle.std.proofs.lemmas.List.{append-nil, drop-drop, length-drop, length-map, length-append, drop-append-le, length-replicate, get_or-replicate, get_or_past, map-append, length-set}
use Rattle.std.proofs.lemmas.List.Folds.{list_all-append}
use Rattle.std.proofs.lemmas.Option.{slice_get_within, get_or_from_slice_get}
use Rattle.dx_base.specs.Lists.{changed_at}
use Rattle.vk_types.specs.declared.batches.Batch.{Batch}
use Rattle.vk_port.specs.declared.lanes.Lane.{Lane}
use Rattle.vk_types.specs.declared.plan.DevicePlan.{DevicePlan}
use Rattle.vk_port.specs.declared.steps.Stepped.{Stepped}
use Rattle.vk_port.specs.declared.steps.Stepped.TheVariants.{Passed, Ran, Bumped, Free}
use Rattle.vk_port.specs.After.{with_done, place_of, lane_after_run, lane_after_pass, lane_after_bump, started, lane_after_submit, after_step, after_submit}
use Rattle.vk_port.specs.Journal.{of_queue, first_number, number_after, next_number, are_numbered}
use Rattle.vk_port.specs.Meaning.{IsEnabled}
use Rattle.vk_port.specs.Valid.{IsLane, IsValid, is_marked, batch_of}
use Rattle.vk_port.specs.VkState.{VkState, lane_of, no_lane, first_state}
use Rattle.vk_port.proofs.Changing.{get_changed, get_unchanged, map_changed, all_changed}
use Rattle.vk_port.proofs.Lists.{length_changed, changed_past}

-- a fact of each lane is one of each lane after one was changed
pub each_changed : (P : ℕ → Lane → Type 0) (f : Lane → Lane) (q : ℕ) (lanes : List Lane) → ((i : ℕ) → P i (get_or lanes i no_lane)) → (q < length lanes → P q (f (get_or lanes q no_lane))) → (i : ℕ) → P i (get_or (changed_at f q lanes) i no_lane)
each_changed P f q lanes each one i =
    elim (cases_lt q (length lanes)) as (λ _. P i (get_or (changed_at f q lanes) i no_lane)) [
      | inr past ↦ subst (λ (ls : List Lane). P i (get_or ls i no_lane)) (sym (changed_past f q lanes past)) (each i)
      | inl within ↦
          elim (cases_eq i q) as (λ _. P i (get_or (changed_at f q lanes) i no_lane)) [
            | inl same ↦
                let here : P q (get_or (changed_at f q lanes) q no_lane) = subst (P q) (sym (get_changed f q lanes no_lane within)) (one within) in
                subst (λ (j : ℕ). P j (get_or (changed_at f q lanes) j no_lane)) (sym same) here
            | inr other ↦ subst (P i) (sym (get_unchanged f q lanes i no_lane other)) (each i)
          ]
    ]

-- a test of each item is one of each but the first
all_dropped : {X : Type 0} (p : X → Bool) (xs : List X) → list_all p xs ≡ true → list_all p (drop 1 xs) ≡ true
all_dropped p [] h = refl
all_dropped p (x ∷ xs) h = (and_parts (p x) (list_all p xs) h).1

module _ (bs : List Batch) (lane : Lane) (is : IsLane bs lane) where
  -- one more batch has passed
  pass_kept : lane.passed < length lane.batches → IsLane bs (lane_after_pass lane)
  pass_kept within = record { finished = is.finished; ended = is.ended; are_last = is.are_last; passed = omega arith; marked = is.marked }

  -- one more command is done
  run_kept : (n k : ℕ) → IsLane bs (lane_after_run n k lane)
  run_kept n k = record {
    finished = is.finished;
    ended = is.ended;
    are_last = map_changed batch_of (with_done k) (place_of n lane.batches) lane.batches (λ _. refl) ∙ is.are_last;
    passed = rw (length_changed (with_done k) (place_of n lane.batches) lane.batches) is.passed;
    marked = all_changed is_marked (with_done k) (place_of n lane.batches) lane.batches (λ r. ap (λ (m : ℕ). m == length r.batch.commands) (length-set r.done (k - 1) true)) ∙ is.marked;
  }

  -- how many batches are not finished
  unfinished : length lane.batches ≡ length bs - is.finished
  unfinished = sym (length-map lane.batches batch_of) ∙ ap length is.are_last ∙ length-drop is.finished bs

  -- the first batch has ended
  bump_kept : 0 < length lane.batches → IsLane bs (lane_after_bump lane)
  bump_kept some =
      let count : length lane.batches ≡ length bs - is.finished = unfinished in
      let less : length (drop 1 lane.batches) ≡ length lane.batches - 1 = length-drop 1 lane.batches in
      record {
        finished = is.finished + 1;
        ended = omega arith;
        are_last = sym (drop-map batch_of 1 lane.batches) ∙ ap (drop 1) is.are_last ∙ drop-drop 1 is.finished bs;
        passed = let within : lane.passed ≤ length lane.batches = is.passed in omega (arith, less, within);
        marked = all_dropped is_marked lane.batches is.marked;
      }

  -- a batch was submitted to the queue
  submit_kept : (b : Batch) → IsLane (bs ++ b ∷ []) (lane_after_submit b lane)
  submit_kept b =
      let more : length (bs ++ b ∷ []) ≡ length bs + 1 = length-append bs (b ∷ []) in
      let longer : length (lane.batches ++ started b ∷ []) ≡ length lane.batches + 1 = length-append lane.batches (started b ∷ []) in
      let ended : is.finished ≤ length bs = is.ended in
      let passed : lane.passed ≤ length lane.batches = is.passed in
      record {
        finished = is.finished;
        ended = omega (arith, more, ended);
        are_last = map-append batch_of lane.batches (started b ∷ []) ∙ ap (λ (xs : List Batch). xs ++ b ∷ []) is.are_last ∙ sym (drop-append-le is.finished bs (b ∷ []) ended);
        passed = omega (arith, longer, passed);
        marked = rw (list_all-append is_marked lane.batches (started b ∷ []), is.marked, length-replicate {A = Bool} (length b.commands) false, eq-eqb (length b.commands) (length b.commands) refl) refl;
      }

-- the batches of a queue among more batches
of_queue_append : (q : ℕ) (xs ys : List Batch) → of_queue q (xs ++ ys) ≡ of_queue q xs ++ of_queue q ys
of_queue_append q [] ys = refl
of_queue_append q (x ∷ xs) ys =
    elim (cases_Bool (x.queue == q)) as (λ _. of_queue q (x ∷ xs ++ ys) ≡ of_queue q (x ∷ xs) ++ of_queue q ys) [
      | inl same ↦ rw (same, of_queue_append q xs ys) refl
      | inr other ↦ rw (other, of_queue_append q xs ys) refl
    ]

-- the batches of the queue to which one was submitted
pub of_same_queue : (b : Batch) (xs : List Batch) → of_queue b.queue (xs ++ b ∷ []) ≡ of_queue b.queue xs ++ b ∷ []
of_same_queue b xs = rw (of_queue_append b.queue xs (b ∷ []), eq-eqb b.queue b.queue refl) refl

-- the batches of another queue
pub of_other_queue : (q : ℕ) (b : Batch) (xs : List Batch) → (q ≡ b.queue → ⊥) → of_queue q (xs ++ b ∷ []) ≡ of_queue q xs
of_other_queue q b xs other = rw (of_queue_append q xs (b ∷ []), ne_eqb b.queue q (λ same. other (sym same)), append-nil (of_queue q xs)) refl

-- one more batch, of the next number, leaves no gap
pub numbered_more : (n : ℕ) (xs : List Batch) (b : Batch) → are_numbered n xs ≡ true → b.number ≡ number_after n xs → are_numbered n (xs ++ b ∷ []) ≡ true
numbered_more n [] b numbered next = rw (eq-eqb b.number n next) refl
numbered_more n (x ∷ xs) b numbered next =
    let both = and_parts (x.number == n) (are_numbered (n + 1) xs) numbered in
    let same : x.number ≡ n = eqb-true x.number n both.0 in
    and_from (x.number == n) (are_numbered (n + 1) (xs ++ b ∷ [])) both.0
    (numbered_more (n + 1) xs b both.1 (next ∙ ap (λ (m : ℕ). number_after (m + 1) xs) same))

-- no lane at first has a batch
first_lane : (n i : ℕ) → get_or (replicate n no_lane) i no_lane ≡ no_lane
first_lane n i =
    elim (cases_lt i n) as (λ _. get_or (replicate n no_lane) i no_lane ≡ no_lane) [
      | inl within ↦ get_or-replicate n i no_lane no_lane within
      | inr past ↦ get_or_past (replicate n no_lane) i no_lane (rw (length-replicate n no_lane) past)
    ]

-- the first state is valid
pub first_valid : (plan : DevicePlan) → IsValid (first_state plan)
first_valid plan = record {
  lanes = λ i. subst (IsLane []) (sym (first_lane plan.queues i)) (record { finished = 0; ended = omega arith; are_last = refl; passed = omega arith; marked = refl });
  numbered = λ _. refl;
}

-- a step that can be taken keeps a state valid
pub step_valid : (v : VkState) (s : Stepped) → IsEnabled v s → IsValid v → IsValid (after_step v s)
step_valid v (Passed q n) e valid =
    let same : lane_of v q ≡ e.lane = get_or_from_slice_get v.lanes q e.lane no_lane e.there in
    let some : (lane_of v q).passed < length (lane_of v q).batches = subst (λ (lane : Lane). lane.passed < length lane.batches) (sym same) (slice_get_within e.lane.batches e.lane.passed e.next e.is_next) in
    record {
      lanes = each_changed (λ i lane. IsLane (of_queue i v.journal) lane) lane_after_pass q v.lanes valid.lanes (λ _. pass_kept (of_queue q v.journal) (lane_of v q) (valid.lanes q) some);
      numbered = valid.numbered;
    }
step_valid v (Ran q n k) e valid = record {
  lanes = each_changed (λ i lane. IsLane (of_queue i v.journal) lane) (lane_after_run n k) q v.lanes valid.lanes (λ _. run_kept (of_queue q v.journal) (lane_of v q) (valid.lanes q) n k);
  numbered = valid.numbered;
}
step_valid v (Bumped q n) e valid =
    let same : lane_of v q ≡ e.lane = get_or_from_slice_get v.lanes q e.lane no_lane e.there in
    let some : 0 < length (lane_of v q).batches = subst (λ (lane : Lane). 0 < length lane.batches) (sym same) (slice_get_within e.lane.batches 0 e.first e.is_first) in
    record {
      lanes = each_changed (λ i lane. IsLane (of_queue i v.journal) lane) lane_after_bump q v.lanes valid.lanes (λ _. bump_kept (of_queue q v.journal) (lane_of v q) (valid.lanes q) some);
      numbered = valid.numbered;
    }
step_valid v Free e valid = valid

-- a batch of the next number keeps a state valid
pub submit_valid : (v : VkState) (b : Batch) → b.queue < length v.lanes → b.number ≡ next_number b.queue v.journal → IsValid v → IsValid (after_submit v b)
submit_valid v b within number valid = record {
  lanes = λ i.
      elim (cases_eq i b.queue) as (λ _. IsLane (of_queue i (v.journal ++ b ∷ [])) (get_or (changed_at (lane_after_submit b) b.queue v.lanes) i no_lane)) [
        | inl same ↦
            let there : IsLane (of_queue b.queue (v.journal ++ b ∷ [])) (get_or (changed_at (lane_after_submit b) b.queue v.lanes) b.queue no_lane) =
            rw (of_same_queue b v.journal, get_changed (lane_after_submit b) b.queue v.lanes no_lane within) (submit_kept (of_queue b.queue v.journal) (lane_of v b.queue) (valid.lanes b.queue) b) in
            subst (λ (j : ℕ). IsLane (of_queue j (v.journal ++ b ∷ [])) (get_or (changed_at (lane_after_submit b) b.queue v.lanes) j no_lane)) (sym same) there
        | inr other ↦ rw (of_other_queue i b v.journal other, get_unchanged (lane_after_submit b) b.queue v.lanes i no_lane other) (valid.lanes i)
      ];
  numbered = λ i.
      elim (cases_eq i b.queue) as (λ _. are_numbered (first_number i) (of_queue i (v.journal ++ b ∷ [])) ≡ true) [
        | inl same ↦
            let there : are_numbered (first_number b.queue) (of_queue b.queue (v.journal ++ b ∷ [])) ≡ true =
            rw (of_same_queue b v.journal) (numbered_more (first_number b.queue) (of_queue b.queue v.journal) b (valid.numbered b.queue) number) in
            subst (λ (j : ℕ). are_numbered (first_number j) (of_queue j (v.journal ++ b ∷ [])) ≡ true) (sym same) there
        | inr other ↦ rw (of_other_queue i b v.journal other) (valid.numbered i)
      ];
}
