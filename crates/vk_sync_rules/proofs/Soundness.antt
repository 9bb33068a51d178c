-- Runs stay sound: whatever has to be done before a done command is done.
use Rattle.std.proofs.Common.{◌≡◌, ℕ, zero, suc, ◌+◌, ◌<◌, ◌==◌, ◌∙◌, Bool, true, false, not, ◌&&◌, ◌||◌, cond, ◌⊎◌, inl, inr, List, [], ◌∷◌, ◌++◌, length, slice_get, get_or, refl, sym, ap, ap₂, subst, arith, unwrap_or, Option, Some, None}
use Rattle.std.specs.List.{list_all}
use Rattle.std.proofs.lemmas.Bool.{and_parts, and_from, or_cases, or_right, eqb-true, false≢true}
use Rattle.std.proofs.lemmas.Option.{none-some}
use Rattle.dx_base.specs.Lists.{changed_at}
use Rattle.vk_types.specs.declared.batches.Batch.{Batch}
use Rattle.vk_types.specs.declared.commands.VkCommand.{VkCommand}
use Rattle.vk_types.specs.declared.steps.VkStep.{VkStep}
use Rattle.vk_types.specs.declared.steps.VkStep.TheVariants.{Submit, Pass, Command, Bump, HostWrite, HostRead, Update}
use Rattle.vk_sync_rules.specs.EnabledSteps.{can_run, is_enabled, is_free, lets}
use Rattle.vk_sync_rules.specs.NextState.{after_run, moved}
use Rattle.vk_sync_rules.specs.Orders.{orders, sort_of}
use Rattle.vk_sync_rules.specs.Places.{is_at, is_before}
use Rattle.vk_sync_rules.specs.Rules.{after_step, after_steps}
use Rattle.vk_sync_rules.specs.Runs.{Fits, Runs}
use Rattle.vk_sync_rules.specs.Registers.{slots_of}
use Rattle.vk_sync_rules.specs.Soundness.{IsSound}
use Rattle.vk_sync_rules.specs.VkState.{Placed, VkState, batch_in, nth_command, command_at, command_in, counts_of, is_done, is_same, no_counts, placed, placed_from}
use Rattle.vk_sync_rules.specs.declared.counts.Counts.{Counts}
use Rattle.vk_sync_rules.specs.declared.counts.Done.{Done}
use Rattle.vk_sync_rules.specs.declared.places.Place.{Place}
use Rattle.vk_sync_rules.specs.declared.rules.VkRule.{VkRule}

-- what stands in a Some
pub same_item : {X : Type 0} (x y : X) → Some x ≡ Some y → x ≡ y
same_item x y h = ap (λ (o : Option _). unwrap_or o x) h

-- an item of a list of which one was changed
pub changed_cases : {X : Type 0} (f : X → X) (k : ℕ) (xs : List X) (i : ℕ) (d : X) →
    (get_or (changed_at f k xs) i d ≡ get_or xs i d) ⊎ ((i ≡ k) × (get_or (changed_at f k xs) i d ≡ f (get_or xs i d)))
changed_cases f k [] i d = inl refl
changed_cases f zero (x ∷ xs) zero d = inr (refl, refl)
changed_cases f zero (x ∷ xs) (suc i) d = inl refl
changed_cases f (suc k) (x ∷ xs) zero d = inl refl
changed_cases f (suc k) (x ∷ xs) (suc i) d = elim (changed_cases f k xs i d) [ inl e ↦ inl e | inr e ↦ inr (ap suc e.0, e.1) ]

-- what a change keeps of an item
pub kept_field : {X Y : Type 0} (g : X → Y) (f : X → X) (k : ℕ) (xs : List X) (i : ℕ) (d : X) → ((x : X) → g (f x) ≡ g x) → g (get_or (changed_at f k xs) i d) ≡ g (get_or xs i d)
kept_field g f k xs i d same = elim (changed_cases f k xs i d) [ inl e ↦ ap g e | inr e ↦ ap g e.1 ∙ same (get_or xs i d) ]

-- the item that was changed, where it is there
pub got_changed : {X : Type 0} (f : X → X) (k : ℕ) (xs : List X) (d : X) → k < length xs → get_or (changed_at f k xs) k d ≡ f (get_or xs k d)
got_changed f k [] d h = absurd (omega (arith, h))
got_changed f zero (x ∷ xs) d h = refl
got_changed f (suc k) (x ∷ xs) d h = got_changed f k xs d (omega (arith, h))

-- places that are the same by the test
pub same_place : (a b : Place) → is_at a b ≡ true → a ≡ b
same_place a b h =
    let both = and_parts (a.number == b.number) (a.index == b.index) h in
    let make : ℕ → ℕ → Place = λ n i. record { number = n; index = i } in
    ap₂ make (eqb-true a.number b.number both.0) (eqb-true a.index b.index both.1)

-- a done command that is this one by the test
pub same_done : (q : ℕ) (p : Place) (d : Done) → is_same q p d ≡ true → (d.queue ≡ q) × (d.place ≡ p)
same_done q p d h =
    let both = and_parts (d.queue == q) (is_at d.place p) h in
    (eqb-true d.queue q both.0, same_place d.place p both.1)

-- the batch of a journal with one more
pub batch_cases : (q n : ℕ) (j : List Batch) (b c : Batch) → batch_in q n (j ++ b ∷ []) ≡ Some c → (batch_in q n j ≡ Some c) ⊎ ((b.queue ≡ q) × (b.number ≡ n))
batch_cases q n [] b c h = by_test ((b.queue == q) && (b.number == n)) refl h where
  by_test : (t : Bool) → ((b.queue == q) && (b.number == n)) ≡ t → cond t (Some b) None ≡ Some c → (None ≡ Some c) ⊎ ((b.queue ≡ q) × (b.number ≡ n))
  by_test true e h = let parts = and_parts (b.queue == q) (b.number == n) e in inr (eqb-true b.queue q parts.0, eqb-true b.number n parts.1)
  by_test false e h = inl h
batch_cases q n (x ∷ j) b c h = by_test ((x.queue == q) && (x.number == n)) (batch_cases q n j b c) h where
  by_test : (t : Bool) → (batch_in q n (j ++ b ∷ []) ≡ Some c → (batch_in q n j ≡ Some c) ⊎ ((b.queue ≡ q) × (b.number ≡ n))) → cond t (Some x) (batch_in q n (j ++ b ∷ [])) ≡ Some c →
      (cond t (Some x) (batch_in q n j) ≡ Some c) ⊎ ((b.queue ≡ q) × (b.number ≡ n))
  by_test true rest h = inl h
  by_test false rest h = rest h

pub batch_more : (q n : ℕ) (j : List Batch) (b c : Batch) → batch_in q n j ≡ Some c → batch_in q n (j ++ b ∷ []) ≡ Some c
batch_more q n [] b c h = absurd (none-some c h)
batch_more q n (x ∷ j) b c h = by_test ((x.queue == q) && (x.number == n)) (batch_more q n j b c) h where
  by_test : (t : Bool) → (batch_in q n j ≡ Some c → batch_in q n (j ++ b ∷ []) ≡ Some c) → cond t (Some x) (batch_in q n j) ≡ Some c → cond t (Some x) (batch_in q n (j ++ b ∷ [])) ≡ Some c
  by_test true rest h = h
  by_test false rest h = rest h

-- the batch of a command that is there
pub batch_of : (o : Option Batch) (k : ℕ) (c : VkCommand) → command_in o k ≡ Some c → (b : Batch) × (o ≡ Some b) × (nth_command b.commands k ≡ Some c)
batch_of None k c h = absurd (none-some c h)
batch_of (Some b) k c h = (b, refl, h)

-- a command of a journal with one more batch
pub in_more : (q : ℕ) (j : List Batch) (b : Batch) (p : Place) (c : VkCommand) → command_in (batch_in q p.number (j ++ b ∷ [])) p.index ≡ Some c →
    (command_in (batch_in q p.number j) p.index ≡ Some c) ⊎ ((b.queue ≡ q) × (b.number ≡ p.number))
in_more q j b p c h =
    let found = batch_of (batch_in q p.number (j ++ b ∷ [])) p.index c h in
    elim (batch_cases q p.number j b found.0 found.1) [
      | inl old ↦ inl (subst (λ o. command_in o p.index ≡ Some c) (sym old) found.2)
      | inr new ↦ inr new
    ]

pub still_in : (q : ℕ) (j : List Batch) (b : Batch) (p : Place) (c : VkCommand) → command_in (batch_in q p.number j) p.index ≡ Some c → command_in (batch_in q p.number (j ++ b ∷ [])) p.index ≡ Some c
still_in q j b p c h =
    let found = batch_of (batch_in q p.number j) p.index c h in
    subst (λ o. command_in o p.index ≡ Some c) (sym (batch_more q p.number j b found.0 found.1)) found.2

-- the two parts of a test of a list
pub all_left : {A : Type 0} (f : A → Bool) (xs ys : List A) → list_all f (xs ++ ys) ≡ true → list_all f xs ≡ true
all_left f [] ys h = refl
all_left f (x ∷ xs) ys h = let parts = and_parts (f x) (list_all f (xs ++ ys)) h in and_from (f x) (list_all f xs) parts.0 (all_left f xs ys parts.1)

pub all_right : {A : Type 0} (f : A → Bool) (xs ys : List A) → list_all f (xs ++ ys) ≡ true → list_all f ys ≡ true
all_right f [] ys h = h
all_right f (x ∷ xs) ys h = all_right f xs ys (and_parts (f x) (list_all f (xs ++ ys)) h).1

-- a test of each command of a batch holds of the one at a place
pub placed_got : (f : Placed → Bool) (n k i m : ℕ) (cs : List VkCommand) (d : VkCommand) → list_all f (placed_from n k cs) ≡ true → slice_get cs i ≡ Some d → m ≡ k + i →
    f (record { place = record { number = n; index = m }; command = d }) ≡ true
placed_got f n k zero m [] d all h e = absurd (grind (arith, h))
placed_got f n k (suc i) m [] d all h e = absurd (grind (arith, h))
placed_got f n k zero m (x ∷ cs) d all h e =
    let parts = and_parts (f (record { place = record { number = n; index = k }; command = x })) (list_all f (placed_from n (k + 1) cs)) all in
    let same : k ≡ m = omega (arith, e) in
    subst (λ y. f (record { place = record { number = n; index = y }; command = d }) ≡ true) same
    (subst (λ y. f (record { place = record { number = n; index = k }; command = y }) ≡ true) (same_item x d h) parts.0)
placed_got f n k (suc i) m (x ∷ cs) d all h e =
    let parts = and_parts (f (record { place = record { number = n; index = k }; command = x })) (list_all f (placed_from n (k + 1) cs)) all in
    placed_got f n (k + 1) i m cs d parts.1 h (omega (arith, e))

pub nth_got : (f : Placed → Bool) (n k : ℕ) (cs : List VkCommand) (d : VkCommand) → list_all f (placed_from n 1 cs) ≡ true → nth_command cs k ≡ Some d →
    f (record { place = record { number = n; index = k }; command = d }) ≡ true
nth_got f n zero cs d all h = absurd (none-some d h)
nth_got f n (suc k) cs d all h = placed_got f n 1 k (suc k) cs d all h (omega arith)

-- a test of each command of a queue holds of the one that is found at a place
pub queue_got : (f : Placed → Bool) (q n k : ℕ) (j : List Batch) (d : VkCommand) → list_all f (placed q j) ≡ true → command_in (batch_in q n j) k ≡ Some d →
    f (record { place = record { number = n; index = k }; command = d }) ≡ true
queue_got f q n k [] d all h = absurd (none-some d h)
queue_got f q n k (b ∷ j) d all h = by_queue (b.queue == q) (b.number == n) refl all h (queue_got f q n k j d) where
  by_queue : (s t : Bool) → (b.number == n) ≡ t → list_all f (cond s (placed_from b.number 1 b.commands) [] ++ placed q j) ≡ true → command_in (cond (s && t) (Some b) (batch_in q n j)) k ≡ Some d →
      (list_all f (placed q j) ≡ true → command_in (batch_in q n j) k ≡ Some d → f (record { place = record { number = n; index = k }; command = d }) ≡ true) →
      f (record { place = record { number = n; index = k }; command = d }) ≡ true
  by_queue true true e all h rest =
      subst (λ m. f (record { place = record { number = m; index = k }; command = d }) ≡ true) (eqb-true b.number n e)
      (nth_got f b.number k b.commands d (all_left f (placed_from b.number 1 b.commands) (placed q j) all) h)
  by_queue true false e all h rest = rest (all_right f (placed_from b.number 1 b.commands) (placed q j) all) h
  by_queue false t e all h rest = rest all h

-- a place that lets a command be done, where the command has to wait for it
at_place : (done : List Done) (q : ℕ) (p : Place) (c : VkCommand) (y : Place) (z : VkCommand) → (not (is_before y p && orders (sort_of z) (sort_of c)) || is_done done q y) ≡ true → is_before y p ≡ true → orders (sort_of z) (sort_of c) ≡ true → is_done done q y ≡ true
at_place done q p c y z h b o = subst (λ t. (not t || is_done done q y) ≡ true) (ap₂ (λ s t. s && t) b o) h

-- what has to be done before a command that is free is done
pub free_gives : (done : List Done) (q : ℕ) (p e : Place) (c d : VkCommand) (j : List Batch) → list_all (lets done q p c) (placed q j) ≡ true → command_in (batch_in q e.number j) e.index ≡ Some d →
    is_before e p ≡ true → orders (sort_of d) (sort_of c) ≡ true → is_done done q e ≡ true
free_gives done q p e c d j all found before order = at_place done q p c e d (queue_got (lets done q p c) q e.number e.index j d all found) before order

-- a command is done: it is this one, or one that was done
pub done_cases : (q0 : ℕ) (p0 : Place) (done : List Done) (q : ℕ) (p : Place) → is_done (record { queue = q0; place = p0 } ∷ done) q p ≡ true → ((q0 ≡ q) × (p0 ≡ p)) ⊎ (is_done done q p ≡ true)
done_cases q0 p0 done q p h =
    elim (or_cases (is_same q p (record { queue = q0; place = p0 })) (is_done done q p) h) [
      | inl new ↦ inl (same_done q p (record { queue = q0; place = p0 }) new)
      | inr old ↦ inr old
    ]

module _ (v : VkState) (is : IsSound v) where
  -- one command is done
  sound_run : (q0 : ℕ) (p0 : Place) (loaded : List ℕ) (c0 : VkCommand) → command_at v q0 p0 ≡ Some c0 → p0.number < (counts_of v q0).passed → is_free v q0 p0 c0 ≡ true →
      IsSound (after_run v q0 p0 loaded (Some c0))
  sound_run q0 p0 loaded c0 found passed free = record {
    there = λ q p h. elim (done_cases q0 p0 v.done q p h) [
      | inl new ↦ (c0, subst (λ x. command_at v x p ≡ Some c0) new.0 (subst (λ y. command_at v q0 y ≡ Some c0) new.1 found))
      | inr old ↦ is.there q p old
    ];
    submitted = is.submitted;
    passed = λ q p h. elim (done_cases q0 p0 v.done q p h) [
      | inl new ↦ subst (λ x. p.number < (counts_of v x).passed) new.0 (subst (λ (y : Place). y.number < (counts_of v q0).passed) new.1 passed)
      | inr old ↦ is.passed q p old
    ];
    order = λ q e l c d has_e has_l before order h. elim (done_cases q0 p0 v.done q l h) [
      | inl new ↦
          or_right (is_same q e (record { queue = q0; place = p0 })) (is_done v.done q e)
          (is_let q e l c d has_e has_l before order new.0 new.1)
      | inr old ↦ or_right (is_same q e (record { queue = q0; place = p0 })) (is_done v.done q e) (is.order q e l c d has_e has_l before order old)
    ];
  } where
    is_let : (q : ℕ) (e l : Place) (c d : VkCommand) → command_at v q e ≡ Some c → command_at v q l ≡ Some d → is_before e l ≡ true → orders (sort_of c) (sort_of d) ≡ true →
        q0 ≡ q → p0 ≡ l → is_done v.done q e ≡ true
    is_let q e l c d has_e has_l before order same_q same_p =
        let found_q : command_at v q p0 ≡ Some c0 = subst (λ x. command_at v x p0 ≡ Some c0) same_q found in
        let found_l : command_at v q l ≡ Some c0 = subst (λ y. command_at v q y ≡ Some c0) same_p found_q in
        let command : d ≡ c0 = same_item d c0 (sym has_l ∙ found_l) in
        let free_q : is_free v q p0 c0 ≡ true = subst (λ x. is_free v x p0 c0 ≡ true) same_q free in
        free_gives v.done q p0 e c0 c v.journal free_q has_e (subst (λ y. is_before e y ≡ true) (sym same_p) before)
        (subst (λ z. orders (sort_of c) (sort_of z) ≡ true) command order)

  -- a batch has passed
  sound_pass : (q0 n : ℕ) → (n ≡ (counts_of v q0).passed) → IsSound (moved v (Pass q0 n))
  sound_pass q0 n next = record {
    there = is.there;
    submitted = λ q p c h. subst (λ m. p.number < m) (sym (kept_field (λ (c : Counts). c.submitted) (λ (c : Counts). record c { passed = n + 1 }) q0 v.queues q no_counts (λ c. refl))) (is.submitted q p c h);
    passed = λ q p h.
        let old : p.number < (counts_of v q).passed = is.passed q p h in
        elim (changed_cases (λ (c : Counts). record c { passed = n + 1 }) q0 v.queues q no_counts) [
          | inl same ↦ subst (λ (c : Counts). p.number < c.passed) (sym same) old
          | inr here ↦
              let more : p.number < n + 1 = (let at : (counts_of v q).passed ≡ n = ap (λ x. (counts_of v x).passed) here.0 ∙ sym next in omega (arith, old, at)) in
              subst (λ (c : Counts). p.number < c.passed) (sym here.1) more
        ];
    order = is.order;
  }

  -- a batch has ended
  sound_bump : (q0 n : ℕ) → IsSound (moved v (Bump q0 n))
  sound_bump q0 n = record {
    there = is.there;
    submitted = λ q p c h. subst (λ m. p.number < m) (sym (kept_field (λ (c : Counts). c.submitted) (λ (c : Counts). record c { ended = n + 1 }) q0 v.queues q no_counts (λ c. refl))) (is.submitted q p c h);
    passed = λ q p h. subst (λ m. p.number < m) (sym (kept_field (λ (c : Counts). c.passed) (λ (c : Counts). record c { ended = n + 1 }) q0 v.queues q no_counts (λ c. refl))) (is.passed q p h);
    order = is.order;
  }

  -- a batch was submitted
  sound_submit : (b : Batch) → b.queue < length v.queues → b.number ≡ (counts_of v b.queue).submitted → IsSound (moved v (Submit b))
  sound_submit b within number = record {
    there = λ q p h. let old = is.there q p h in (old.0, still_in q v.journal b p old.0 old.1);
    submitted = λ q p c h. elim (in_more q v.journal b p c h) [
      | inl old ↦ grown q p (is.submitted q p c old)
      | inr new ↦
          let at : (counts_of (moved v (Submit b)) b.queue).submitted ≡ b.number + 1 = ap (λ (c : Counts). c.submitted) (got_changed (λ (c : Counts). record c { submitted = b.number + 1 }) b.queue v.queues no_counts within) in
          subst (λ x. p.number < (counts_of (moved v (Submit b)) x).submitted) new.0 (let n = new.1 in omega (arith, at, n))
    ];
    passed = λ q p h. subst (λ m. p.number < m) (sym (kept_field (λ (c : Counts). c.passed) (λ (c : Counts). record c { submitted = b.number + 1 }) b.queue v.queues q no_counts (λ c. refl))) (is.passed q p h);
    order = λ q e l c d has_e has_l before order h.
        let old = is.there q l h in
        let old_l : command_at (moved v (Submit b)) q l ≡ Some old.0 = still_in q v.journal b l old.0 old.1 in
        let command : d ≡ old.0 = same_item d old.0 (sym has_l ∙ old_l) in
        elim (in_more q v.journal b e c has_e) [
          | inl old_e ↦ is.order q e l c old.0 old_e old.1 before (subst (λ z. orders (sort_of c) (sort_of z) ≡ true) command order) h
          | inr new ↦ absurd (not_new q e l (is.submitted q l old.0 old.1) before new.0 new.1)
        ];
  } where
    grown : (q : ℕ) (p : Place) → p.number < (counts_of v q).submitted → p.number < (counts_of (moved v (Submit b)) q).submitted
    grown q p h =
        elim (changed_cases (λ (c : Counts). record c { submitted = b.number + 1 }) b.queue v.queues q no_counts) [
          | inl same ↦ subst (λ (c : Counts). p.number < c.submitted) (sym same) h
          | inr here ↦
              let at : (counts_of v q).submitted ≡ b.number = ap (λ x. (counts_of v x).submitted) here.0 ∙ sym number in
              subst (λ (c : Counts). p.number < c.submitted) (sym here.1) (omega (arith, h, at))
        ]

    not_new : (q : ℕ) (e l : Place) → l.number < (counts_of v q).submitted → is_before e l ≡ true → b.queue ≡ q → b.number ≡ e.number → ⊥
    not_new q e l h before same_q same_n =
        let at : b.number ≡ (counts_of v q).submitted = number ∙ ap (λ x. (counts_of v x).submitted) same_q in
        grind (arith, h, before, at, same_n)

-- what an enabled command tells
pub enabled_command : (v : VkState) (q n k : ℕ) (loaded : List ℕ) → is_enabled v (Command q n k loaded) ≡ true →
    (n < (counts_of v q).passed) × (is_done v.done q (record { number = n; index = k }) ≡ false) × ((c : VkCommand) × (command_at v q (record { number = n; index = k }) ≡ Some c) × (is_free v q (record { number = n; index = k }) c ≡ true))
enabled_command v q n k loaded h = (running, left, by_found (command_at v q p) refl found) where
  p : Place
  p = record { number = n; index = k }

  running : n < (counts_of v q).passed
  running = grind (arith, h)

  left : is_done v.done q p ≡ false
  left = grind (arith, h)

  found : can_run v q p loaded (command_at v q p) ≡ true
  found = grind (arith, h)

  by_found : (o : Option VkCommand) → command_at v q p ≡ o → can_run v q p loaded o ≡ true → (c : VkCommand) × (command_at v q p ≡ Some c) × (is_free v q p c ≡ true)
  by_found None e t = absurd (false≢true t)
  by_found (Some c) e t = (c, e, (and_parts (length loaded == length (slots_of c)) (is_free v q p c) t).1)

-- a broken rule changes nothing of it
sound_broken : (v : VkState) (b : Option VkRule) → IsSound v → IsSound (record v { broken = b })
sound_broken v b is = record { there = is.there; submitted = is.submitted; passed = is.passed; order = is.order }

sound_run_found : (v : VkState) (q n k : ℕ) (loaded : List ℕ) → IsSound v → is_enabled v (Command q n k loaded) ≡ true →
    IsSound (after_run v q (record { number = n; index = k }) loaded (command_at v q (record { number = n; index = k })))
sound_run_found v q n k loaded is h =
    let p : Place = record { number = n; index = k } in
    let e = enabled_command v q n k loaded h in
    subst (λ o. IsSound (after_run v q p loaded o)) (sym e.2.1) (sound_run v is q p loaded e.2.0 e.2.1 e.0 e.2.2)

pub enabled_pass : (v : VkState) (q n : ℕ) → is_enabled v (Pass q n) ≡ true → n ≡ (counts_of v q).passed
enabled_pass v q n h = eqb-true n (counts_of v q).passed (and_parts (n == (counts_of v q).passed) _ h).0

-- a step keeps it
pub sound_step : (v : VkState) (s : VkStep) → IsSound v → is_enabled v s ≡ true → Fits v s → IsSound (after_step v s)
sound_step v (Submit b) is h fits = sound_broken (moved v (Submit b)) _ (sound_submit v is b fits.0 fits.1)
sound_step v (Pass q n) is h fits = sound_broken (moved v (Pass q n)) _ (sound_pass v is q n (enabled_pass v q n h))
sound_step v (Command q n k loaded) is h fits = sound_broken (moved v (Command q n k loaded)) _ (sound_run_found v q n k loaded is h)
sound_step v (Bump q n) is h fits = sound_broken (moved v (Bump q n)) _ (sound_bump v is q n)
sound_step v (HostWrite buffer first words) is h fits = record { there = is.there; submitted = is.submitted; passed = is.passed; order = is.order }
sound_step v (HostRead buffer first words) is h fits = record { there = is.there; submitted = is.submitted; passed = is.passed; order = is.order }
sound_step v (Update heap slot) is h fits = record { there = is.there; submitted = is.submitted; passed = is.passed; order = is.order }

-- a run keeps it
pub sound_steps : (v : VkState) (ss : List VkStep) → IsSound v → Runs v ss → IsSound (after_steps v ss)
sound_steps v [] is runs = is
sound_steps v (s ∷ ss) is runs = sound_steps (after_step v s) ss (sound_step v s is runs.0 runs.1) runs.2
