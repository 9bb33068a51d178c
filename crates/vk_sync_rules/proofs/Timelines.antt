-- The values of timelines along an orderly run.
use Rattle.std.specs.Prelude.{nat_lt}
use Rattle.std.proofs.Common.{◌≡◌, ℕ, zero, suc, ◌+◌, ◌<◌, ◌≤◌, ◌==◌, ◌∙◌, Bool, true, false, not, ◌&&◌, ◌||◌, cond, ◌⊎◌, inl, inr, List, [], ◌∷◌, ◌++◌, length, get_or, set, slice_get, refl, sym, ap, subst, arith, Option, Some, None}
use Rattle.std.specs.List.{list_all, flat_map}
use Rattle.std.proofs.lemmas.Bool.{and_parts, and_from, cases_Bool, eqb-true, false≢true}
use Rattle.std.proofs.lemmas.Option.{none-some}
use Rattle.vk_types.specs.declared.batches.Batch.{Batch}
use Rattle.vk_types.specs.declared.commands.VkCommand.{VkCommand}
use Rattle.vk_types.specs.declared.steps.VkStep.{VkStep}
use Rattle.vk_types.specs.declared.steps.VkStep.TheVariants.{Submit, Pass, Command, Bump, HostWrite, HostRead, Update}
use Rattle.vk_sync_rules.specs.declared.counts.Counts.{Counts}
use Rattle.vk_sync_rules.specs.declared.places.Place.{Place}
use Rattle.vk_sync_rules.specs.BatchEnds.{ArePassed}
use Rattle.vk_sync_rules.specs.EnabledSteps.{all_done, is_enabled}
use Rattle.vk_sync_rules.specs.FirstState.{IsFirst}
use Rattle.vk_sync_rules.specs.NextState.{after_run, after_sets, moved, sets_in}
use Rattle.vk_sync_rules.specs.Rules.{after_step, is_new, pending_sets}
use Rattle.vk_sync_rules.specs.Runs.{Fits, are_new}
use Rattle.vk_sync_rules.specs.Timelines.{AreOrderly, AreTimed, IsOrderly, RunsOrderly, SetsOwn, Timed}
use Rattle.vk_sync_rules.specs.VkState.{VkState, batch_in, command_at, counter_of, counts_of, no_counts, placed_from}
use Rattle.vk_sync_rules.proofs.BatchEnds.{enabled_end, passed_step, rise, set_cases}
use Rattle.vk_sync_rules.proofs.Soundness.{all_left, all_right, batch_more, changed_cases, got_changed, kept_field, same_item}

-- items of lists
pub got_more : {A : Type 0} (xs : List A) (y : A) (k : ℕ) (x : A) → slice_get (xs ++ y ∷ []) k ≡ Some x → (slice_get xs k ≡ Some x) ⊎ ((k ≡ length xs) × (y ≡ x))
got_more [] y zero x h = inr (refl, same_item y x h)
got_more [] y (suc zero) x h = absurd (none-some x h)
got_more [] y (suc (suc k)) x h = absurd (none-some x h)
got_more (z ∷ xs) y zero x h = inl h
got_more (z ∷ xs) y (suc k) x h = elim (got_more xs y k x h) [ inl old ↦ inl old | inr new ↦ inr (ap suc new.0, new.1) ]

pub got_less : {A : Type 0} (xs : List A) (k : ℕ) (x : A) → slice_get xs k ≡ Some x → k < length xs
got_less [] zero x h = absurd (none-some x h)
got_less [] (suc k) x h = absurd (none-some x h)
got_less (y ∷ xs) zero x h = omega arith
got_less (y ∷ xs) (suc k) x h = let less = got_less xs k x h in omega (arith, less)

pub all_got : {A : Type 0} (f : A → Bool) (xs : List A) (k : ℕ) (x : A) → list_all f xs ≡ true → slice_get xs k ≡ Some x → f x ≡ true
all_got f [] zero x h e = absurd (none-some x e)
all_got f [] (suc k) x h e = absurd (none-some x e)
all_got f (y ∷ xs) zero x h e = subst (λ z. f z ≡ true) (same_item y x e) (and_parts (f y) (list_all f xs) h).0
all_got f (y ∷ xs) (suc k) x h e = all_got f xs k x (and_parts (f y) (list_all f xs) h).1 e

all_from : {A : Type 0} (f : A → Bool) (xs : List A) → ((i : ℕ) (x : A) → slice_get xs i ≡ Some x → f x ≡ true) → list_all f xs ≡ true
all_from f [] h = refl
all_from f (x ∷ xs) h = and_from (f x) (list_all f xs) (h 0 x refl) (all_from f xs (λ i y e. h (suc i) y e))

flat_got : {A B : Type 0} (f : B → Bool) (g : A → List B) (xs : List A) (k : ℕ) (x : A) → list_all f (flat_map g xs) ≡ true → slice_get xs k ≡ Some x → list_all f (g x) ≡ true
flat_got f g [] zero x h e = absurd (none-some x e)
flat_got f g [] (suc k) x h e = absurd (none-some x e)
flat_got f g (y ∷ xs) zero x h e = subst (λ z. list_all f (g z) ≡ true) (same_item y x e) (all_left f (g y) (flat_map g xs) h)
flat_got f g (y ∷ xs) (suc k) x h e = flat_got f g xs k x (all_right f (g y) (flat_map g xs) h) e

-- the batch that is found is one of the journal
pub batch_at : (q n : ℕ) (j : List Batch) (b : Batch) → batch_in q n j ≡ Some b → (k : ℕ) × (slice_get j k ≡ Some b) × (b.queue ≡ q) × (b.number ≡ n)
batch_at q n [] b h = absurd (none-some b h)
batch_at q n (x ∷ j) b h = by_test ((x.queue == q) && (x.number == n)) refl (batch_at q n j b) h where
  by_test : (t : Bool) → ((x.queue == q) && (x.number == n)) ≡ t → (batch_in q n j ≡ Some b → (k : ℕ) × (slice_get j k ≡ Some b) × (b.queue ≡ q) × (b.number ≡ n)) →
      cond t (Some x) (batch_in q n j) ≡ Some b → (k : ℕ) × (slice_get (x ∷ j) k ≡ Some b) × (b.queue ≡ q) × (b.number ≡ n)
  by_test true e rest h =
      let same : x ≡ b = same_item x b h in
      let parts = and_parts (x.queue == q) (x.number == n) e in
      (0, h, subst (λ (y : Batch). y.queue ≡ q) same (eqb-true x.queue q parts.0), subst (λ (y : Batch). y.number ≡ n) same (eqb-true x.number n parts.1))
  by_test false e rest h = let more = rest h in (suc more.0, more.1, more.2, more.3)

-- a batch with a new number is found behind the others
batch_new : (q n : ℕ) (j : List Batch) (b : Batch) → ((x : Batch) → batch_in q n j ≡ Some x → ⊥) → ((b.queue == q) && (b.number == n)) ≡ true → batch_in q n (j ++ b ∷ []) ≡ Some b
batch_new q n [] b none e = ap (λ t. cond t (Some b) None) e
batch_new q n (x ∷ j) b none e = by_test ((x.queue == q) && (x.number == n)) (λ h. batch_new q n j b h e) none where
  by_test : (t : Bool) → (((y : Batch) → batch_in q n j ≡ Some y → ⊥) → batch_in q n (j ++ b ∷ []) ≡ Some b) → ((y : Batch) → cond t (Some x) (batch_in q n j) ≡ Some y → ⊥) → cond t (Some x) (batch_in q n (j ++ b ∷ [])) ≡ Some b
  by_test true rest none = absurd (none x refl)
  by_test false rest none = rest none

-- the counter of a timeline after some were set: as it was, or the value of one of the pairs
counter_cases : (sets : List (ℕ × ℕ)) (timelines : List ℕ) (t : ℕ) → (get_or (after_sets sets timelines) t 0 ≡ get_or timelines t 0)
    ⊎ ((i : ℕ) × (s : ℕ × ℕ) × (slice_get sets i ≡ Some s) × (s.0 ≡ t) × (get_or (after_sets sets timelines) t 0 ≡ s.1))
counter_cases [] timelines t = inl refl
counter_cases (s ∷ sets) timelines t = elim (counter_cases sets (set timelines s.0 s.1) t) [
  | inl same ↦ elim (set_cases timelines s.0 s.1 t) [ inl old ↦ inl (same ∙ old) | inr here ↦ inr (0, s, refl, sym here.0, same ∙ here.1) ]
  | inr found ↦ inr (suc found.0, found.1, found.2, found.3, found.4)
]

set_there : (xs : List ℕ) (k x : ℕ) → k < length xs → get_or (set xs k x) k 0 ≡ x
set_there [] k x h = absurd (omega (arith, h))
set_there (y ∷ xs) zero x h = refl
set_there (y ∷ xs) (suc k) x h = set_there xs k x (omega (arith, h))

length_set : (xs : List ℕ) (k x : ℕ) → length (set xs k x) ≡ length xs
length_set [] k x = refl
length_set (y ∷ xs) zero x = refl
length_set (y ∷ xs) (suc k) x = ap suc (length_set xs k x)

pub length_sets : (sets : List (ℕ × ℕ)) (timelines : List ℕ) → length (after_sets sets timelines) ≡ length timelines
length_sets [] timelines = refl
length_sets (s ∷ sets) timelines = length_sets sets (set timelines s.0 s.1) ∙ length_set timelines s.0 s.1

counter_set : (sets : List (ℕ × ℕ)) (timelines : List ℕ) (i : ℕ) (s : ℕ × ℕ) → slice_get sets i ≡ Some s → s.0 < length timelines →
    ((c : ℕ) (u : ℕ × ℕ) → slice_get sets c ≡ Some u → u.0 ≡ s.0 → u.1 ≡ s.1) → get_or (after_sets sets timelines) s.0 0 ≡ s.1
counter_set [] timelines zero s h inside once = absurd (none-some s h)
counter_set [] timelines (suc i) s h inside once = absurd (none-some s h)
counter_set (x ∷ sets) timelines zero s h inside once =
    let same : x ≡ s = same_item x s h in
    elim (counter_cases sets (set timelines x.0 x.1) s.0) [
      | inl kept ↦ kept ∙ subst (λ (y : ℕ × ℕ). get_or (set timelines y.0 y.1) s.0 0 ≡ s.1) (sym same) (set_there timelines s.0 s.1 inside)
      | inr found ↦ found.4 ∙ once (suc found.0) found.1 found.2 found.3
    ]
counter_set (x ∷ sets) timelines (suc i) s h inside once =
    counter_set sets (set timelines x.0 x.1) i s h (subst (λ m. s.0 < m) (sym (length_set timelines x.0 x.1)) inside) (λ c u e t. once (suc c) u e t)

-- a queue with a batch that has passed is there
counts_there : (queues : List Counts) (q n : ℕ) → n < (get_or queues q no_counts).passed → q < length queues
counts_there [] q n h = absurd (omega (arith, h))
counts_there (c ∷ queues) zero n h = omega arith
counts_there (c ∷ queues) (suc q) n h = let less = counts_there queues q n h in omega (arith, less)

end_found : (v : VkState) (q n : ℕ) → is_enabled v (Bump q n) ≡ true → (b : Batch) × (batch_in q n v.journal ≡ Some b)
end_found v q n h = by_found (batch_in q n v.journal) refl (grind (arith, h)) where
  by_found : (o : Option Batch) → batch_in q n v.journal ≡ o → elim o [ None ↦ false | Some b ↦ all_done v.done q (placed_from n 1 b.commands) ] ≡ true → (b : Batch) × (batch_in q n v.journal ≡ Some b)
  by_found None e t = absurd (false≢true t)
  by_found (Some b) e t = (b, e)

module _ (owner : ℕ → ℕ) (v : VkState) (are : ArePassed v) (is : AreTimed owner v) where
  -- a state with the same batches and values
  same : (u : VkState) → u.journal ≡ v.journal → u.timelines ≡ v.timelines → ((q : ℕ) → (counts_of u q).ended ≡ (counts_of v q).ended) → AreTimed owner u
  same u same_journal same_timelines ended = record {
    there = λ k b h. subst (λ j. batch_in b.queue b.number j ≡ Some b) (sym same_journal) (is.there k b (old k b h));
    numbers = λ i k e b less he hb. is.numbers i k e b less (old i e he) (old k b hb);
    own = λ k b h. subst (λ (ts : List ℕ). SetsOwn owner (length ts) b) (sym same_timelines) (is.own k b (old k b h));
    reached = λ k b a s h hs less. subst (λ (ts : List ℕ). s.1 ≤ get_or ts s.0 0) (sym same_timelines) (is.reached k b a s (old k b h) hs (subst (λ m. b.number < m) (ended b.queue) less));
    above = λ k b a s h hs less. subst (λ (ts : List ℕ). get_or ts s.0 0 < s.1) (sym same_timelines) (is.above k b a s (old k b h) hs (subst (λ m. m ≤ b.number) (ended b.queue) less));
    rising = λ i k e b a c s u less he hb hs hu t. is.rising i k e b a c s u less (old i e he) (old k b hb) hs hu t;
  } where
    old : (k : ℕ) (b : Batch) → slice_get u.journal k ≡ Some b → slice_get v.journal k ≡ Some b
    old k b h = subst (λ j. slice_get j k ≡ Some b) same_journal h

  timed_run : (q : ℕ) (p : Place) (loaded : List ℕ) (o : Option VkCommand) → AreTimed owner (after_run v q p loaded o)
  timed_run q p loaded None = is
  timed_run q p loaded (Some c) = same (after_run v q p loaded (Some c)) refl refl (λ x. refl)

  -- a batch was submitted
  timed_submit : (b2 : Batch) → IsOrderly owner v b2 → AreTimed owner (moved v (Submit b2))
  timed_submit b2 fits = record {
    there = λ k b h. elim (got_more v.journal b2 k b h) [
      | inl old ↦ batch_more b.queue b.number v.journal b2 b (is.there k b old)
      | inr new ↦ subst (λ (x : Batch). batch_in x.queue x.number (v.journal ++ b2 ∷ []) ≡ Some x) new.1 found_new
    ];
    numbers = λ i k e b less he hb. λ queue. elim (got_more v.journal b2 k b hb) [
      | inl old ↦ is.numbers i k e b less (earlier i k e less he (got_less v.journal k b old)) old queue
      | inr new ↦
          let same_number : b2.number ≡ b.number = ap (λ (x : Batch). x.number) new.1 in
          let old = behind i k e less he new.0 in
          let at : (counts_of v e.queue).submitted ≡ (counts_of v b2.queue).submitted = ap (λ x. (counts_of v x).submitted) (queue ∙ sym (ap (λ (x : Batch). x.queue) new.1)) in
          let lower = are.numbered e.queue e.number e (is.there i e old) in
          let next = fits.number in omega (arith, same_number, at, lower, next)
    ];
    own = λ k b h. elim (got_more v.journal b2 k b h) [ inl old ↦ is.own k b old | inr new ↦ subst (λ x. SetsOwn owner (length v.timelines) x) new.1 fits.own ];
    reached = λ k b a s h hs less. elim (got_more v.journal b2 k b h) [
      | inl old ↦ is.reached k b a s old hs (subst (λ m. b.number < m) (same_ended b.queue) less)
      | inr new ↦ absurd (not_ended (subst (λ (x : Batch). x.number < (counts_of v x.queue).ended) (sym new.1) (subst (λ m. b.number < m) (same_ended b.queue) less)))
    ];
    above = λ k b a s h hs less. elim (got_more v.journal b2 k b h) [
      | inl old ↦ is.above k b a s old hs (subst (λ m. m ≤ b.number) (same_ended b.queue) less)
      | inr new ↦ (let one = (and_parts (nat_lt (counter_of v s.0) s.1) _ (news a s (subst (λ (x : Batch). slice_get x.sets a ≡ Some s) (sym new.1) hs))).0 in grind (arith, one))
    ];
    rising = λ i k e b a c s u less he hb hs hu t. elim (got_more v.journal b2 k b hb) [
      | inl old ↦ is.rising i k e b a c s u less (earlier i k e less he (got_less v.journal k b old)) old hs hu t
      | inr new ↦ rises e i a c s u (behind i k e less he new.0) hs (subst (λ (x : Batch). slice_get x.sets c ≡ Some u) (sym new.1) hu) t
    ];
  } where
    same_ended : (q : ℕ) → (counts_of (moved v (Submit b2)) q).ended ≡ (counts_of v q).ended
    same_ended q = kept_field (λ (c : Counts). c.ended) (λ (c : Counts). record c { submitted = b2.number + 1 }) b2.queue v.queues q no_counts (λ c. refl)

    earlier : (i k : ℕ) (e : Batch) → i < k → slice_get (v.journal ++ b2 ∷ []) i ≡ Some e → k < length v.journal → slice_get v.journal i ≡ Some e
    earlier i k e less h within = elim (got_more v.journal b2 i e h) [ inl old ↦ old | inr new ↦ absurd (let at = new.0 in omega (arith, less, within, at)) ]

    behind : (i k : ℕ) (e : Batch) → i < k → slice_get (v.journal ++ b2 ∷ []) i ≡ Some e → k ≡ length v.journal → slice_get v.journal i ≡ Some e
    behind i k e less h last = elim (got_more v.journal b2 i e h) [ inl old ↦ old | inr new ↦ absurd (let at = new.0 in omega (arith, less, last, at)) ]

    found_new : batch_in b2.queue b2.number (v.journal ++ b2 ∷ []) ≡ Some b2
    found_new = batch_new b2.queue b2.number v.journal b2 (λ x h. let lower = are.numbered b2.queue b2.number x h in let next = fits.number in omega (arith, lower, next)) (grind arith)

    not_ended : b2.number < (counts_of v b2.queue).ended → ⊥
    not_ended h = let le = are.ended_passed b2.queue in let le2 = are.passed_submitted b2.queue in let next = fits.number in omega (arith, h, le, le2, next)

    news : (a : ℕ) (s : ℕ × ℕ) → slice_get b2.sets a ≡ Some s → is_new v s ≡ true
    news a s h = all_got (is_new v) b2.sets a s fits.new h

    pending : (e : Batch) (i a : ℕ) (s u : ℕ × ℕ) → slice_get v.journal i ≡ Some e → slice_get e.sets a ≡ Some s → nat_lt e.number (counts_of v e.queue).ended ≡ false →
        list_all (λ (p : ℕ × ℕ). not (p.0 == u.0) || nat_lt p.1 u.1) (pending_sets v) ≡ true → (not (s.0 == u.0) || nat_lt s.1 u.1) ≡ true
    pending e i a s u he hs left all =
        all_got (λ (p : ℕ × ℕ). not (p.0 == u.0) || nat_lt p.1 u.1) e.sets a s
        (subst (λ t. list_all (λ (p : ℕ × ℕ). not (p.0 == u.0) || nat_lt p.1 u.1) (cond t [] e.sets) ≡ true) left
        (flat_got (λ (p : ℕ × ℕ). not (p.0 == u.0) || nat_lt p.1 u.1) (λ (b : Batch). cond (nat_lt b.number (counts_of v b.queue).ended) [] b.sets) v.journal i e all he)) hs

    rises : (e : Batch) (i a c : ℕ) (s u : ℕ × ℕ) → slice_get v.journal i ≡ Some e → slice_get e.sets a ≡ Some s → slice_get b2.sets c ≡ Some u → s.0 ≡ u.0 → s.1 < u.1
    rises e i a c s u he hs hu t =
        let new = and_parts (nat_lt (counter_of v u.0) u.1) (list_all (λ (p : ℕ × ℕ). not (p.0 == u.0) || nat_lt p.1 u.1) (pending_sets v)) (news c u hu) in
        elim (cases_Bool (nat_lt e.number (counts_of v e.queue).ended)) [
          | inl ended ↦
              let low : s.1 ≤ counter_of v s.0 = is.reached i e a s he hs (grind (arith, ended)) in
              let at : counter_of v s.0 ≡ counter_of v u.0 = ap (counter_of v) t in
              (let one = new.0 in grind (arith, one, low, at))
          | inr left ↦ (let two = pending e i a s u he hs left new.1 in grind (arith, two, t))
        ]

  -- a batch has ended
  timed_bump : (q n : ℕ) (e : Batch) → batch_in q n v.journal ≡ Some e → n ≡ (counts_of v q).ended → n < (counts_of v q).passed → are_new v.timelines e.sets ≡ true → AreTimed owner (moved v (Bump q n))
  timed_bump q n e found next passed new = record {
    there = is.there;
    numbers = is.numbers;
    own = λ k b h. subst (λ m. SetsOwn owner m b) (sym (length_sets sets v.timelines)) (is.own k b h);
    reached = λ k b a s h hs less. elim (changed_cases f q v.queues b.queue no_counts) [
      | inl kept ↦ old_reached k b a s h hs (subst (λ (c : Counts). b.number < c.ended) kept less)
      | inr here ↦ elim (cases_Bool (b.number == n)) [
        | inl at ↦ own_reached a s (subst (λ (x : Batch). slice_get x.sets a ≡ Some s) (one_batch k b h here.0 (eqb-true b.number n at)) hs)
        | inr not_at ↦ old_reached k b a s h hs
            (let l : b.number < n + 1 = subst (λ (c : Counts). b.number < c.ended) here.1 less in let m : (counts_of v b.queue).ended ≡ (counts_of v q).ended = ap (λ x. (counts_of v x).ended) here.0 in grind (arith, l, m, next, not_at))
      ]
    ];
    above = λ k b a s h hs less. elim (counter_cases sets v.timelines s.0) [
      | inl kept ↦ subst (λ m. m < s.1) (sym kept) (is.above k b a s h hs (before b less))
      | inr found ↦ subst (λ m. m < s.1) (sym found.4) (later k b a s h hs less found.0 found.1 (subst (λ (xs : List (ℕ × ℕ)). slice_get xs found.0 ≡ Some found.1) same_sets found.2) found.3)
    ];
    rising = is.rising;
  } where
    f : Counts → Counts
    f = λ (c : Counts). record c { ended = n + 1 }

    sets : List (ℕ × ℕ)
    sets = sets_in (batch_in q n v.journal)

    same_sets : sets_in (batch_in q n v.journal) ≡ e.sets
    same_sets = ap sets_in found

    place : (k : ℕ) × (slice_get v.journal k ≡ Some e) × (e.queue ≡ q) × (e.number ≡ n)
    place = batch_at q n v.journal e found

    one_batch : (k : ℕ) (b : Batch) → slice_get v.journal k ≡ Some b → b.queue ≡ q → b.number ≡ n → b ≡ e
    one_batch k b h same_q same_n =
        same_item b e (sym (subst (λ x. batch_in x n v.journal ≡ Some b) same_q (subst (λ y. batch_in b.queue y v.journal ≡ Some b) same_n (is.there k b h))) ∙ found)

    news : are_new v.timelines sets ≡ true
    news = subst (λ xs. are_new v.timelines xs ≡ true) (sym same_sets) new

    old_reached : (k : ℕ) (b : Batch) (a : ℕ) (s : ℕ × ℕ) → slice_get v.journal k ≡ Some b → slice_get b.sets a ≡ Some s → b.number < (counts_of v b.queue).ended → s.1 ≤ get_or (after_sets sets v.timelines) s.0 0
    old_reached k b a s h hs less =
        let low = is.reached k b a s h hs less in let more = rise v.timelines v.timelines sets (λ t. omega arith) news s.0 in omega (arith, low, more)

    own_reached : (a : ℕ) (s : ℕ × ℕ) → slice_get e.sets a ≡ Some s → s.1 ≤ get_or (after_sets sets v.timelines) s.0 0
    own_reached a s h =
        let own = is.own place.0 e place.1 in
        let at : get_or (after_sets e.sets v.timelines) s.0 0 ≡ s.1 = counter_set e.sets v.timelines a s h (own.inside a s h) (λ c u hu t. own.once c a u s hu h t) in
        subst (λ (xs : List (ℕ × ℕ)). s.1 ≤ get_or (after_sets xs v.timelines) s.0 0) (sym same_sets) (omega (arith, at))

    before : (b : Batch) → (counts_of (moved v (Bump q n)) b.queue).ended ≤ b.number → (counts_of v b.queue).ended ≤ b.number
    before b h = elim (changed_cases f q v.queues b.queue no_counts) [
      | inl kept ↦ subst (λ (c : Counts). c.ended ≤ b.number) kept h
      | inr here ↦ (let l : n + 1 ≤ b.number = subst (λ (c : Counts). c.ended ≤ b.number) here.1 h in let m : (counts_of v b.queue).ended ≡ (counts_of v q).ended = ap (λ x. (counts_of v x).ended) here.0 in omega (arith, l, m, next))
    ]

    later : (k : ℕ) (b : Batch) (a : ℕ) (s : ℕ × ℕ) → slice_get v.journal k ≡ Some b → slice_get b.sets a ≡ Some s → (counts_of (moved v (Bump q n)) b.queue).ended ≤ b.number →
        (i : ℕ) (u : ℕ × ℕ) → slice_get e.sets i ≡ Some u → u.0 ≡ s.0 → u.1 < s.1
    later k b a s h hs less i u hu t =
        let queue : e.queue ≡ b.queue = sym ((is.own place.0 e place.1).owned i u hu) ∙ (ap owner t ∙ (is.own k b h).owned a s hs) in
        let same_q : b.queue ≡ q = sym queue ∙ place.2 in
        let at : (counts_of (moved v (Bump q n)) q).ended ≡ n + 1 = ap (λ (c : Counts). c.ended) (got_changed f q v.queues no_counts (counts_there v.queues q n passed)) in
        let number : n < b.number = (let l : (counts_of (moved v (Bump q n)) q).ended ≤ b.number = subst (λ x. (counts_of (moved v (Bump q n)) x).ended ≤ b.number) same_q less in omega (arith, l, at)) in
        let number_e : e.number ≡ n = place.3 in
        elim (cases_Bool (nat_lt place.0 k)) [
          | inl first ↦ is.rising place.0 k e b i a u s (grind (arith, first)) place.1 h hu hs t
          | inr not_first ↦ elim (cases_Bool (place.0 == k)) [
            | inl one ↦ absurd (
                let here : slice_get v.journal k ≡ Some e = subst (λ x. slice_get v.journal x ≡ Some e) (eqb-true place.0 k one) place.1 in
                let same_b : e.number ≡ b.number = ap (λ (x : Batch). x.number) (same_item e b (sym here ∙ h)) in omega (arith, number, number_e, same_b))
            | inr other ↦ absurd (let lower = is.numbers k place.0 b e (grind (arith, not_first, other)) h place.1 (sym queue) in omega (arith, lower, number, number_e))
          ]
        ]

  -- its values are new
  pub new_values : (q n : ℕ) (e : Batch) → batch_in q n v.journal ≡ Some e → n ≡ (counts_of v q).ended → are_new v.timelines e.sets ≡ true
  new_values q n e found next =
      let place = batch_at q n v.journal e found in
      all_from (λ (s : ℕ × ℕ). nat_lt (get_or v.timelines s.0 0) s.1) e.sets
      (λ i s h. let up = is.above place.0 e i s place.1 h (let m : (counts_of v e.queue).ended ≡ (counts_of v q).ended = ap (λ x. (counts_of v x).ended) place.2 in let number = place.3 in omega (arith, m, number, next)) in grind (arith, up))

  fits : (s : VkStep) → is_enabled v s ≡ true → AreOrderly owner v s → Fits v s
  fits (Submit b) h orderly = (orderly.queue, orderly.number)
  fits (Pass q n) h orderly = tt
  fits (Command q n k loaded) h orderly = tt
  fits (Bump q n) h orderly =
      let e = end_found v q n h in
      subst (λ xs. are_new v.timelines xs ≡ true) (sym (ap sets_in e.1)) (new_values q n e.0 e.1 (enabled_end v q n h).0)
  fits (HostWrite buffer first words) h orderly = tt
  fits (HostRead buffer first words) h orderly = tt
  fits (Update heap slot) h orderly = tt

  timed_moved : (s : VkStep) → is_enabled v s ≡ true → AreOrderly owner v s → AreTimed owner (moved v s)
  timed_moved (Submit b) h orderly = timed_submit b orderly
  timed_moved (Pass q n) h orderly = same (moved v (Pass q n)) refl refl (λ x. kept_field (λ (c : Counts). c.ended) (λ (c : Counts). record c { passed = n + 1 }) q v.queues x no_counts (λ c. refl))
  timed_moved (Command q n k loaded) h orderly = timed_run q (record { number = n; index = k }) loaded (command_at v q (record { number = n; index = k }))
  timed_moved (Bump q n) h orderly = let e = end_found v q n h in let end = enabled_end v q n h in timed_bump q n e.0 e.1 end.0 end.1 (new_values q n e.0 e.1 end.0)
  timed_moved (HostWrite buffer first words) h orderly = same (moved v (HostWrite buffer first words)) refl refl (λ x. refl)
  timed_moved (HostRead buffer first words) h orderly = same (moved v (HostRead buffer first words)) refl refl (λ x. refl)
  timed_moved (Update heap slot) h orderly = is

-- a run keeps it
timed_step : (owner : ℕ → ℕ) (v : VkState) (s : VkStep) → ArePassed v → AreTimed owner v → is_enabled v s ≡ true → AreOrderly owner v s → AreTimed owner (after_step v s)
timed_step owner v s are is h orderly =
    let t = timed_moved owner v are is s h orderly in
    record { there = t.there; numbers = t.numbers; own = t.own; reached = t.reached; above = t.above; rising = t.rising }

pub timed_steps : (owner : ℕ → ℕ) (v : VkState) (ss : List VkStep) → ArePassed v → AreTimed owner v → RunsOrderly owner v ss → Timed owner v ss
timed_steps owner v [] are is runs = record { runs = tt; timed = is }
timed_steps owner v (s ∷ ss) are is runs =
    let fit : Fits v s = fits owner v are is s runs.0 runs.1 in
    let rest : Timed owner (after_step v s) ss = timed_steps owner (after_step v s) ss (passed_step v s are runs.0 fit) (timed_step owner v s are is runs.0 runs.1) runs.2 in
    record { runs = (runs.0, fit, rest.runs); timed = rest.timed }

pub first_timed : (owner : ℕ → ℕ) (v : VkState) → IsFirst v → AreTimed owner v
first_timed owner v is = record {
  there = λ k b h. none k b h;
  numbers = λ i k e b less he hb t. none k b hb;
  own = λ k b h. none k b h;
  reached = λ k b a s h hs less. none k b h;
  above = λ k b a s h hs less. none k b h;
  rising = λ i k e b a c s u less he hb hs hu t. none k b hb;
} where
  none : {P : Type 0} (k : ℕ) (b : Batch) → slice_get v.journal k ≡ Some b → P
  none k b h = absurd (let less = got_less v.journal k b h in let empty : length v.journal ≡ 0 = ap length is.journal in omega (arith, less, empty))
