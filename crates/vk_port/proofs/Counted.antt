-- The batches of a queue's lane among those that were submitted, where they are counted.
use Rattle.std.proofs.Common.{◌≡◌, ℕ, zero, suc, ◌+◌, ◌-◌, ◌<◌, ◌≤◌, ◌∙◌, true, List, [], ◌∷◌, map, length, drop, refl, sym, ap, subst, arith, Some, slice_get, inl, inr}
use Rattle.std.proofs.lemmas.Bool.{cases_lt}
use Rattle.std.proofs.lemmas.Option.{none-some, slice_get_within}
use Rattle.vk_types.specs.declared.batches.Batch.{Batch}
use Rattle.vk_sync_rules.specs.VkState.{VkState as Machine, counts_of, batch_in}
use Rattle.vk_port.specs.declared.lanes.Lane.{Lane}
use Rattle.vk_port.specs.declared.lanes.Running.{Running}
use Rattle.vk_port.specs.Journal.{of_queue, first_number, are_numbered}
use Rattle.vk_port.specs.Machine.{IsCounted, running_of, from_number, unfinished, lanes_of}
use Rattle.vk_port.proofs.Earlier.{same_item}
use Rattle.vk_port.proofs.Numbering.{number_at, numbered_from, from_place, batch_at, place_in, queue_in}
use Rattle.vk_port.proofs.Views.{lane_at, lane_is}

-- an item of a list that is mapped
pub mapped_at : {X Y : Type 0} (f : X → Y) (xs : List X) (i : ℕ) (x : X) → slice_get xs i ≡ Some x → slice_get (map f xs) i ≡ Some (f x)
mapped_at f [] i x is = absurd (none-some x is)
mapped_at f (y ∷ xs) zero x is = ap (λ z. Some (f z)) (same_item y x is)
mapped_at f (y ∷ xs) (suc i) x is = mapped_at f xs i x is

pub at_mapped : {X Y : Type 0} (f : X → Y) (xs : List X) (i : ℕ) (y : Y) → slice_get (map f xs) i ≡ Some y → (x : X) × (slice_get xs i ≡ Some x) × (y ≡ f x)
at_mapped f [] i y is = absurd (none-some y is)
at_mapped f (x ∷ xs) zero y is = (x, refl, sym (same_item (f x) y is))
at_mapped f (x ∷ xs) (suc i) y is = at_mapped f xs i y is

-- an item behind some
got_behind : {X : Type 0} (k : ℕ) (xs : List X) (i : ℕ) → slice_get (drop k xs) i ≡ slice_get xs (k + i)
got_behind zero xs i = let here : i ≡ 0 + i = omega arith in ap (slice_get xs) here
got_behind (suc k) [] i = refl
got_behind (suc k) (x ∷ xs) i =
    let next : suc (k + i) ≡ suc k + i = omega arith in
    got_behind k xs i ∙ ap (slice_get (x ∷ xs)) next

-- the batches of a queue that have not ended
abbrev pub left_of : Machine → ℕ → List Batch
left_of v q = from_number (counts_of v q).ended (of_queue q v.journal)

module _ (v : Machine) (counted : IsCounted v) where
  -- are numbered from the first of them on
  pub left_numbered : (q : ℕ) → q < length v.queues → are_numbered (counts_of v q).ended (left_of v q) ≡ true
  left_numbered q there = numbered_from (counts_of v q).ended (first_number q) (of_queue q v.journal) (counted.numbered q) (counted.first_ended q there)

  -- the number of a batch is below the next one
  pub number_below : (q n : ℕ) (b : Batch) → q < length v.queues → batch_in q n v.journal ≡ Some b → n < (counts_of v q).submitted
  number_below q n b there is =
      let place = place_in q (first_number q) v.journal n b (counted.numbered q) is in
      let within = slice_get_within (of_queue q v.journal) (n - first_number q) b place.1 in
      let next = counted.next q there in
      let past = place.0 in
      omega (arith, within, next, past)

  -- the queue of a batch is there
  pub queue_there : (q n : ℕ) (b : Batch) → batch_in q n v.journal ≡ Some b → q < length v.queues
  queue_there q n b is =
      elim (cases_lt q (length v.queues)) as (λ _. q < length v.queues) [
        | inl there ↦ there
        | inr past ↦
            let found = queue_in q n v.journal b is in
            absurd (none-some b (subst (λ (bs : List Batch). slice_get bs found.0 ≡ Some b) (counted.none_elsewhere q past) found.1))
      ]

  module _ (q : ℕ) (there : q < length v.queues) where
    -- those behind the batches that have ended
    abbrev ended : ℕ
    ended = (counts_of v q).ended

    behind : left_of v q ≡ drop (ended - first_number q) (of_queue q v.journal)
    behind = from_place ended (first_number q) (of_queue q v.journal) (counted.numbered q) (counted.first_ended q there)

    -- the batch at a place of them
    pub batch_of_left : (i : ℕ) (b : Batch) → slice_get (left_of v q) i ≡ Some b → batch_in q (ended + i) v.journal ≡ Some b
    batch_of_left i b is =
        let first = counted.first_ended q there in
        let place : first_number q + (ended - first_number q + i) ≡ ended + i = omega (arith, first) in
        let got : slice_get (of_queue q v.journal) (ended - first_number q + i) ≡ Some b =
        sym (got_behind (ended - first_number q) (of_queue q v.journal) i) ∙ subst (λ (bs : List Batch). slice_get bs i ≡ Some b) behind is in
        subst (λ n. batch_in q n v.journal ≡ Some b) place (batch_at q (first_number q) v.journal (ended - first_number q + i) b (counted.numbered q) got)

    -- the place of a batch among them
    pub left_of_batch : (n : ℕ) (b : Batch) → batch_in q n v.journal ≡ Some b → ended ≤ n → slice_get (left_of v q) (n - ended) ≡ Some b
    left_of_batch n b is le =
        let first = counted.first_ended q there in
        let place = place_in q (first_number q) v.journal n b (counted.numbered q) is in
        let same : n - first_number q ≡ ended - first_number q + (n - ended) = omega (arith, first, le) in
        let got : slice_get (of_queue q v.journal) (ended - first_number q + (n - ended)) ≡ Some b =
        subst (λ (k : ℕ). slice_get (of_queue q v.journal) k ≡ Some b) same place.1 in
        subst (λ (bs : List Batch). slice_get bs (n - ended) ≡ Some b) (sym behind) (got_behind (ended - first_number q) (of_queue q v.journal) (n - ended) ∙ got)

    -- the batch at a place of the queue's lane
    pub batch_of_lane : (i : ℕ) (r : Running) → slice_get (unfinished v q).batches i ≡ Some r →
        (b : Batch) × (slice_get (left_of v q) i ≡ Some b) × (r ≡ running_of v.done q b) × (batch_in q (ended + i) v.journal ≡ Some b)
    batch_of_lane i r is =
        let found = at_mapped (running_of v.done q) (left_of v q) i r is in
        (found.0, found.1, found.2, batch_of_left i found.0 found.1)

    -- the place of a batch in the queue's lane
    pub lane_of_batch : (n : ℕ) (b : Batch) → batch_in q n v.journal ≡ Some b → ended ≤ n → slice_get (unfinished v q).batches (n - ended) ≡ Some (running_of v.done q b)
    lane_of_batch n b is le = mapped_at (running_of v.done q) (left_of v q) (n - ended) b (left_of_batch n b is le)

module _ (v : Machine) where
  -- the lane of a queue
  pub lane_there : (q : ℕ) (lane : Lane) → slice_get (lanes_of v) q ≡ Some lane → (q < length v.queues) × (lane ≡ unfinished v q)
  lane_there q lane is =
      let found = lane_is v 0 (length v.queues) q lane is in
      let same : 0 + q ≡ q = omega arith in
      (found.0, found.1 ∙ ap (unfinished v) same)

  pub there_lane : (q : ℕ) → q < length v.queues → slice_get (lanes_of v) q ≡ Some (unfinished v q)
  there_lane q there =
      let same : 0 + q ≡ q = omega arith in
      lane_at v 0 (length v.queues) q there ∙ ap (λ (i : ℕ). Some (unfinished v i)) same

-- the batch at a place of a queue's lane, which has a number
pub record BatchOfLane (v : Machine) (q n place : ℕ) (r : Running) : Type 0 where
  pub there : q < length v.queues
  pub batch : Batch
  pub found : batch_in q n v.journal ≡ Some batch
  pub running : r ≡ running_of v.done q batch
  pub left : slice_get (left_of v q) place ≡ Some batch
  pub number : n ≡ (counts_of v q).ended + place

module _ (v : Machine) (counted : IsCounted v) where
  pub batch_of_step : (q n place : ℕ) (lane : Lane) (r : Running) → slice_get (lanes_of v) q ≡ Some lane → slice_get lane.batches place ≡ Some r → r.batch.number ≡ n → BatchOfLane v q n place r
  batch_of_step q n place lane r there is number =
      let of_lane = lane_there v q lane there in
      let found = batch_of_lane v counted q of_lane.0 place r (subst (λ (l : Lane). slice_get l.batches place ≡ Some r) of_lane.1 is) in
      let counts : found.0.number ≡ (counts_of v q).ended + place = number_at (counts_of v q).ended (left_of v q) place found.0 (left_numbered v counted q of_lane.0) found.1 in
      let same : n ≡ found.0.number = sym number ∙ ap (λ (x : Running). x.batch.number) found.2 in
      record {
        there = of_lane.0;
        batch = found.0;
        found = subst (λ m. batch_in q m v.journal ≡ Some found.0) (sym (same ∙ counts)) found.3;
        running = found.2;
        left = found.1;
        number = same ∙ counts;
      }
