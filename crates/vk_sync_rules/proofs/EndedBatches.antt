-- The commands of a batch that has ended are done.
use Rattle.std.proofs.Common.{◌≡◌, ◌⊎◌, inl, inr, ℕ, zero, suc, ◌+◌, ◌<◌, ◌==◌, true, false, List, [], ◌∷◌, slice_get, refl, sym, ap, subst, arith, Option, Some, None}
use Rattle.std.proofs.lemmas.Bool.{and_parts, and_from, or_right, eqb-true, cases_Bool}
use Rattle.std.proofs.lemmas.Option.{none-some}
use Rattle.vk_types.specs.declared.batches.Batch.{Batch}
use Rattle.vk_types.specs.declared.commands.VkCommand.{VkCommand}
use Rattle.vk_types.specs.declared.steps.VkStep.{VkStep}
use Rattle.vk_types.specs.declared.steps.VkStep.TheVariants.{Submit, Pass, Command, Bump, HostWrite, HostRead, Update}
use Rattle.vk_sync_rules.proofs.BatchEnds.{enabled_end, passed_step}
use Rattle.vk_sync_rules.proofs.Soundness.{batch_cases, kept_field, changed_cases, same_place}
use Rattle.vk_sync_rules.specs.BatchEnds.{AreEnded, ArePassed}
use Rattle.vk_sync_rules.specs.EnabledSteps.{all_done, is_enabled}
use Rattle.vk_sync_rules.specs.NextState.{after_run, moved}
use Rattle.vk_sync_rules.specs.Places.{is_at}
use Rattle.vk_sync_rules.specs.Rules.{after_step, after_steps}
use Rattle.vk_sync_rules.specs.Runs.{Fits, Runs}
use Rattle.vk_sync_rules.specs.VkState.{Placed, VkState, batch_in, command_at, counts_of, is_done, is_same, no_counts, placed_from}
use Rattle.vk_sync_rules.specs.declared.counts.Counts.{Counts}
use Rattle.vk_sync_rules.specs.declared.counts.Done.{Done}
use Rattle.vk_sync_rules.specs.declared.places.Place.{Place}

more_done : (d : Done) (done : List Done) (q : ℕ) (xs : List Placed) → all_done done q xs ≡ true → all_done (d ∷ done) q xs ≡ true
more_done d done q [] h = h
more_done d done q (x ∷ xs) h =
    let parts = and_parts (is_done done q x.place) (all_done done q xs) h in
    and_from (is_done (d ∷ done) q x.place) (all_done (d ∷ done) q xs) (or_right (is_same q x.place d) (is_done done q x.place) parts.0) (more_done d done q xs parts.1)

all_found : (v : VkState) (q n : ℕ) → is_enabled v (Bump q n) ≡ true → (b : Batch) → batch_in q n v.journal ≡ Some b → all_done v.done q (placed_from n 1 b.commands) ≡ true
all_found v q n h b is = subst (λ o. elim o [ None ↦ false | Some b ↦ all_done v.done q (placed_from n 1 b.commands) ] ≡ true) is (grind (arith, h))

module _ (v : VkState) (are : ArePassed v) (ends : AreEnded v) where
  kept : (u : VkState) → u.journal ≡ v.journal → u.done ≡ v.done → ((q : ℕ) → (counts_of u q).ended ≡ (counts_of v q).ended) → AreEnded u
  kept u same_journal same_done same = record {
    done = λ q n b is less.
        subst (λ d. all_done d q (placed_from n 1 b.commands) ≡ true) (sym same_done) (ends.done q n b (subst (λ j. batch_in q n j ≡ Some b) same_journal is) (subst (λ m. n < m) (same q) less));
  }

  ended_run : (q : ℕ) (p : Place) (loaded : List ℕ) (o : Option VkCommand) → AreEnded (after_run v q p loaded o)
  ended_run q p loaded None = ends
  ended_run q p loaded (Some c) = record { done = λ q2 n b is less. more_done (record { queue = q; place = p }) v.done q2 (placed_from n 1 b.commands) (ends.done q2 n b is less) }

  ended_submit : (b2 : Batch) → b2.number ≡ (counts_of v b2.queue).submitted → AreEnded (moved v (Submit b2))
  ended_submit b2 next = record {
    done = λ q n b is less.
        let before : n < (counts_of v q).ended = subst (λ m. n < m) (kept_field (λ (c : Counts). c.ended) (λ (c : Counts). record c { submitted = b2.number + 1 }) b2.queue v.queues q no_counts (λ c. refl)) less in
        elim (batch_cases q n v.journal b2 b is) [
          | inl old ↦ ends.done q n b old before
          | inr new ↦ absurd (let at : (counts_of v b2.queue).submitted ≡ (counts_of v q).submitted = ap (λ x. (counts_of v x).submitted) new.0 in
              let le = are.ended_passed q in let le2 = are.passed_submitted q in let m = new.1 in omega (arith, before, at, le, le2, m, next))
        ];
  }

  ended_bump : (q2 n2 : ℕ) → is_enabled v (Bump q2 n2) ≡ true → AreEnded (moved v (Bump q2 n2))
  ended_bump q2 n2 h = record {
    done = λ q n b is less. elim (cases q n less) [
      | inl old ↦ ends.done q n b is old
      | inr own ↦ subst (λ x. all_done v.done x (placed_from n 1 b.commands) ≡ true) (sym own.0) (subst (λ y. all_done v.done q2 (placed_from y 1 b.commands) ≡ true) (sym own.1)
          (all_found v q2 n2 h b (subst (λ x. batch_in x n2 v.journal ≡ Some b) own.0 (subst (λ y. batch_in q y v.journal ≡ Some b) own.1 is))))
    ];
  } where
    next : n2 ≡ (counts_of v q2).ended
    next = (enabled_end v q2 n2 h).0

    cases : (q n : ℕ) → n < (counts_of (moved v (Bump q2 n2)) q).ended → (n < (counts_of v q).ended) ⊎ ((q ≡ q2) × (n ≡ n2))
    cases q n less = elim (changed_cases (λ (c : Counts). record c { ended = n2 + 1 }) q2 v.queues q no_counts) [
      | inl same ↦ inl (subst (λ (c : Counts). n < c.ended) same less)
      | inr here ↦ elim (cases_Bool (n == n2)) [
        | inl at ↦ inr (here.0, eqb-true n n2 at)
        | inr not_at ↦ inl (let l : n < n2 + 1 = subst (λ (c : Counts). n < c.ended) here.1 less in let e : (counts_of v q).ended ≡ (counts_of v q2).ended = ap (λ x. (counts_of v x).ended) here.0 in grind (arith, l, e, next, not_at))
      ]
    ]

  ended_moved : (s : VkStep) → is_enabled v s ≡ true → Fits v s → AreEnded (moved v s)
  ended_moved (Submit b) h fits = ended_submit b fits.1
  ended_moved (Pass q n) h fits = kept (moved v (Pass q n)) refl refl (λ q2. kept_field (λ (c : Counts). c.ended) (λ (c : Counts). record c { passed = n + 1 }) q v.queues q2 no_counts (λ c. refl))
  ended_moved (Command q n k loaded) h fits = ended_run q (record { number = n; index = k }) loaded (command_at v q (record { number = n; index = k }))
  ended_moved (Bump q n) h fits = ended_bump q n h
  ended_moved (HostWrite buffer first words) h fits = kept (moved v (HostWrite buffer first words)) refl refl (λ q. refl)
  ended_moved (HostRead buffer first words) h fits = kept (moved v (HostRead buffer first words)) refl refl (λ q. refl)
  ended_moved (Update heap slot) h fits = ends

pub ended_steps : (v : VkState) (ss : List VkStep) → ArePassed v → AreEnded v → Runs v ss → AreEnded (after_steps v ss)
ended_steps v [] are ends runs = ends
ended_steps v (s ∷ ss) are ends runs =
    ended_steps (after_step v s) ss (passed_step v s are runs.0 runs.1) (record { done = (ended_moved v are ends s runs.0 runs.1).done }) runs.2

-- a command of a batch
pub done_got : (done : List Done) (q n j k : ℕ) (cs : List VkCommand) (c : VkCommand) (p : Place) → all_done done q (placed_from n j cs) ≡ true → slice_get cs k ≡ Some c → p.number ≡ n → p.index ≡ j + k → is_done done q p ≡ true
done_got done q n j zero [] c p h e a b = absurd (none-some c e)
done_got done q n j (suc k) [] c p h e a b = absurd (none-some c e)
done_got done q n j zero (x ∷ cs) c p h e a b =
    let at : is_at (record { number = n; index = j }) p ≡ true = grind (arith, a, b) in
    same_done at (and_parts (is_done done q (record { number = n; index = j })) (all_done done q (placed_from n (j + 1) cs)) h).0 where
      same_done : is_at (record { number = n; index = j }) p ≡ true → is_done done q (record { number = n; index = j }) ≡ true → is_done done q p ≡ true
      same_done at k = subst (λ y. is_done done q y ≡ true) (same_place (record { number = n; index = j }) p at) k
done_got done q n j (suc k) (x ∷ cs) c p h e a b =
    done_got done q n (j + 1) k cs c p (and_parts (is_done done q (record { number = n; index = j })) (all_done done q (placed_from n (j + 1) cs)) h).1 e a (omega (arith, b))
