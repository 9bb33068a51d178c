-- Clocks know only calls that were made and operations that are complete.
use Rattle.std.proofs.Common.{ℕ, zero, suc, ◌≤◌, ◌≡◌, nat_le, List, [], ◌∷◌, ◌++◌, drop, refl, arith, cond, true, false, Bool, Some}
use Rattle.dx_base.specs.Each.{Each}
use Rattle.dx_base.proofs.Each.{each_on, each_append, each_changed, each_new}
use Rattle.clocks.specs.declared.clock.Clock.{Clock}
use Rattle.clocks.specs.Clocks.{number, numbered, joined, with_call, with_op, Within, empty_clock}
use Rattle.clocks.proofs.Clocks.{within_joined}
use Rattle.d3d_judge.specs.Happenings.{Happening, Calls, Wakes, Completes, Deed, Gives, SetsFence, WaitsFor, Asks, Stores, Loads, Nothing, Work, Executes, Signals, Waits}
use Rattle.d3d_judge.specs.Carried.{item_or, Update, Pending, Armed, Clocks, no_wait, sufficient, marking, latest, thread_clock, queue_clock, one_call_more, one_completion_more, call_clock, called_by, effect, armed_clock, marked, head, queue_joined, completing, updated, completed, carried, carried_all, no_clock, first_update, first_clocks, Sound}
use Rattle.d3d_machine.specs.declared.world.World.{World}

module _ {A : Type 0} where
  pub each_at : (P : A → Type 0) (d : A) (xs : List A) (k : ℕ) → P d → Each P xs → P (item_or d xs k)
  each_at P d [] k p e = p
  each_at P d (x ∷ xs) zero p e = e.0
  each_at P d (x ∷ xs) (suc k) p e = each_at P d xs k p e.1

  -- a list and one item more
  pub each_one_more : (P : A → Type 0) (xs : List A) (y : A) → Each P xs → P y → Each P (xs ++ y ∷ [])
  each_one_more P xs y all p = each_append P xs (y ∷ []) all (p, tt)

  pub each_drop : (P : A → Type 0) (k : ℕ) (xs : List A) → Each P xs → Each P (drop k xs)
  each_drop P zero xs e = e
  each_drop P (suc k) [] e = tt
  each_drop P (suc k) (x ∷ xs) e = each_drop P k xs e.1

pub number_set : (xs : List ℕ) (t u n m : ℕ) → number xs u ≤ m → (u ≡ t → n ≤ m) → number (numbered t n xs) u ≤ m
number_set [] zero zero n m h k = k refl
number_set [] zero (suc u) n m h k = h
number_set [] (suc t) zero n m h k = h
number_set [] (suc t) (suc u) n m h k = number_set [] t u n m h (λ e. k (omega (arith, e)))
number_set (x ∷ xs) zero zero n m h k = k refl
number_set (x ∷ xs) zero (suc u) n m h k = h
number_set (x ∷ xs) (suc t) zero n m h k = h
number_set (x ∷ xs) (suc t) (suc u) n m h k = number_set xs t u n m h (λ e. k (omega (arith, e)))

pub number_put : (xs : List ℕ) (t n : ℕ) → number (numbered t n xs) t ≡ n
number_put [] zero n = refl
number_put [] (suc t) n = number_put [] t n
number_put (x ∷ xs) zero n = refl
number_put (x ∷ xs) (suc t) n = number_put xs t n

pub number_other : (xs : List ℕ) (t u n : ℕ) → (u ≡ t → ⊥) → number (numbered t n xs) u ≡ number xs u
number_other [] zero zero n h = absurd (h refl)
number_other [] zero (suc u) n h = refl
number_other [] (suc t) zero n h = refl
number_other [] (suc t) (suc u) n h = number_other [] t u n (λ e. h (omega (arith, e)))
number_other (x ∷ xs) zero zero n h = absurd (h refl)
number_other (x ∷ xs) zero (suc u) n h = refl
number_other (x ∷ xs) (suc t) zero n h = refl
number_other (x ∷ xs) (suc t) (suc u) n h = number_other xs t u n (λ e. h (omega (arith, e)))

pub number_grows : (xs : List ℕ) (t u n : ℕ) → number xs t ≤ n → number xs u ≤ number (numbered t n xs) u
number_grows [] t u n h = omega arith
number_grows (x ∷ xs) zero zero n h = h
number_grows (x ∷ xs) zero (suc u) n h = omega arith
number_grows (x ∷ xs) (suc t) zero n h = omega arith
number_grows (x ∷ xs) (suc t) (suc u) n h = number_grows xs t u n h

pub within_trans : (a b c : Clock) → Within a b → Within b c → Within a c
within_trans a b c p r = record {
  queues = λ q. let h1 = p.queues q in let h2 = r.queues q in omega (arith, h1, h2);
  threads = λ t. let h1 = p.threads t in let h2 = r.threads t in omega (arith, h1, h2);
}

pub within_empty : (d : Clock) → Within empty_clock d
within_empty d = record { queues = λ q. omega arith; threads = λ t. omega arith }

pub call_grows : (d : Clock) (t : ℕ) → Within d (one_call_more d t)
call_grows d t = record { queues = λ q. omega arith; threads = λ u. number_grows d.threads t u (suc (number d.threads t)) (omega arith) }

pub completion_grows : (d : Clock) (q : ℕ) → Within d (one_completion_more d q)
completion_grows d q = record { queues = λ p. number_grows d.queues q p (suc (number d.queues q)) (omega arith); threads = λ t. omega arith }

below_put : (xs : List ℕ) (t u n : ℕ) → u ≡ t → n ≤ number (numbered t n xs) u
below_put xs t u n e = let h = number_put xs t n in grind (arith, h, e)

-- within the counts, with the number of the call or of the completion that they count
pub within_of_call : (c d : Clock) (t : ℕ) → Within c (one_call_more d t) → Within (with_call c t (suc (number d.threads t))) (one_call_more d t)
within_of_call c d t w = record {
  queues = w.queues;
  threads = λ u. number_set c.threads t u (suc (number d.threads t)) (number (one_call_more d t).threads u) (w.threads u) (below_put d.threads t u (suc (number d.threads t)));
}

pub within_of_operation : (c d : Clock) (q : ℕ) → Within c (one_completion_more d q) → Within (with_op c q (suc (number d.queues q))) (one_completion_more d q)
within_of_operation c d q w = record {
  queues = λ p. number_set c.queues q p (suc (number d.queues q)) (number (one_completion_more d q).queues p) (w.queues p) (below_put d.queues q p (suc (number d.queues q)));
  threads = w.threads;
}

within_cond : (b : Bool) (x y d : Clock) → Within x d → Within y d → Within (cond b x y) d
within_cond true x y d p r = p
within_cond false x y d p r = r

pub within_sufficient : (v : ℕ) (us : List Update) (d : Clock) → Each (λ u. Within u.clock d) us → Within (sufficient v us) d
within_sufficient v [] d e = within_empty d
within_sufficient v (u ∷ us) d e = within_cond (nat_le v u.value) u.clock (sufficient v us) d e.0 (within_sufficient v us d e.1)

pub within_latest : (us : List Update) (d : Clock) → Each (λ u. Within u.clock d) us → Within (latest us) d
within_latest [] d e = within_empty d
within_latest (u ∷ []) d e = e.0
within_latest (u ∷ v ∷ us) d e = within_latest (v ∷ us) d e.1

pub within_marking : (updates : List (List Update)) (f since v : ℕ) (d : Clock) → Each (λ us. Each (λ u. Within u.clock d) us) updates → Within (marking updates f since v) d
within_marking updates f since v d e =
    within_sufficient v (drop since (item_or [] updates f)) d (each_drop (λ u. Within u.clock d) since (item_or [] updates f) (each_at (λ us. Each (λ u. Within u.clock d) us) [] updates f tt e))

-- soundness for greater counts
pub record SoundFor (s : Clocks) (d : Clock) : Type 0 where
  pub threads : Each (λ c. Within c d) s.threads
  pub queues : Each (λ c. Within c d) s.queues
  pub pending : Each (λ ps. Each (λ p. Within p.clock d) ps) s.pending
  pub updates : Each (λ us. Each (λ u. Within u.clock d) us) s.updates

pub sound_for : (s : Clocks) (d : Clock) → Sound s → Within s.ends d → SoundFor s d
sound_for s d z w = record {
  threads = each_on (λ c. Within c s.ends) (λ c. Within c d) s.threads (λ c h. within_trans c s.ends d h w) z.threads;
  queues = each_on (λ c. Within c s.ends) (λ c. Within c d) s.queues (λ c h. within_trans c s.ends d h w) z.queues;
  pending = each_on (λ ps. Each (λ p. Within p.clock s.ends) ps) (λ ps. Each (λ p. Within p.clock d) ps) s.pending
      (λ ps. each_on (λ p. Within p.clock s.ends) (λ p. Within p.clock d) ps (λ p h. within_trans p.clock s.ends d h w)) z.pending;
  updates = each_on (λ us. Each (λ u. Within u.clock s.ends) us) (λ us. Each (λ u. Within u.clock d) us) s.updates
      (λ us. each_on (λ u. Within u.clock s.ends) (λ u. Within u.clock d) us (λ u h. within_trans u.clock s.ends d h w)) z.updates;
}

pub sound_called : (s : Clocks) (t : ℕ) → Sound s → Sound (called_by s t)
sound_called s t z =
    let d : Clock = one_call_more s.ends t in
    let k : SoundFor s d = sound_for s d z (call_grows s.ends t) in
    record {
      threads = each_changed (λ c. Within c d) (λ _. call_clock s t) t s.threads
          (λ _ _. within_of_call (thread_clock s t) s.ends t (each_at (λ c. Within c d) empty_clock s.threads t (within_empty d) k.threads)) k.threads;
      queues = k.queues;
      pending = k.pending;
      updates = k.updates;
    }

pub call_clock_within : (s : Clocks) (t : ℕ) → Sound s → Within (call_clock s t) (one_call_more s.ends t)
call_clock_within s t z =
    let d : Clock = one_call_more s.ends t in
    let k : SoundFor s d = sound_for s d z (call_grows s.ends t) in
    within_of_call (thread_clock s t) s.ends t (each_at (λ c. Within c d) empty_clock s.threads t (within_empty d) k.threads)

pub sound_effect : (s : Clocks) (t : ℕ) (c : Clock) (what : Deed) → Sound s → Within c s.ends → Sound (effect s t c what)
sound_effect s t c (Gives q o) z w = record {
  threads = z.threads;
  queues = z.queues;
  updates = z.updates;
  pending = each_changed (λ ps. Each (λ p. Within p.clock s.ends) ps) _ q s.pending
      (λ ps h. each_one_more (λ p. Within p.clock s.ends) ps _ h w) z.pending;
}
sound_effect s t c (SetsFence f v) z w = record {
  threads = z.threads;
  queues = z.queues;
  pending = z.pending;
  updates = each_changed (λ us. Each (λ u. Within u.clock s.ends) us) _ f s.updates
      (λ us h. each_one_more (λ u. Within u.clock s.ends) us _ h w) z.updates;
}
sound_effect s t c (WaitsFor f v) z w = record { threads = z.threads; queues = z.queues; pending = z.pending; updates = z.updates }
sound_effect s t c (Asks f) z w = record {
  threads = each_changed (λ d. Within d s.ends) _ t s.threads
      (λ d h. within_joined d (latest (item_or [] s.updates f)) s.ends h
      (within_latest (item_or [] s.updates f) s.ends (each_at (λ us. Each (λ u. Within u.clock s.ends) us) [] s.updates f tt z.updates))) z.threads;
  queues = z.queues;
  pending = z.pending;
  updates = z.updates;
}
sound_effect s t c (Stores r) z w = z
sound_effect s t c (Loads r) z w = z
sound_effect s t c Nothing z w = z

within_marked : (s : Clocks) (p : Pending) (o : Work) (d : Clock) → SoundFor s d → Within (marked s p o) d
within_marked s p (Executes cs) d k = within_empty d
within_marked s p (Signals f v) d k = within_empty d
within_marked s p (Waits f v) d k = within_marking s.updates f p.since v d k.updates

each_updated : (c d : Clock) (o : Work) (updates : List (List Update)) → Within c d → Each (λ us. Each (λ u. Within u.clock d) us) updates →
    Each (λ us. Each (λ u. Within u.clock d) us) (updated c o updates)
each_updated c d (Executes cs) updates w e = e
each_updated c d (Signals f v) updates w e =
    each_changed (λ us. Each (λ u. Within u.clock d) us) _ f updates (λ us h. each_one_more (λ u. Within u.clock d) us _ h w) e
each_updated c d (Waits f v) updates w e = e

pub completing_within : (s : Clocks) (q : ℕ) (p : Pending) (k : SoundFor s (one_completion_more s.ends q)) → Within p.clock (one_completion_more s.ends q) →
    Within (completing s q p) (one_completion_more s.ends q)
completing_within s q p k w =
    let d : Clock = one_completion_more s.ends q in
    within_of_operation (queue_joined s q p) s.ends q
    (within_joined (joined p.clock (queue_clock s q)) (marked s p p.what) d
    (within_joined p.clock (queue_clock s q) d w (each_at (λ c. Within c d) empty_clock s.queues q (within_empty d) k.queues))
    (within_marked s p p.what d k))

sound_completed : (s : Clocks) (q : ℕ) (p : Pending) → Sound s → Within p.clock s.ends → Sound (completed s q (Some p))
sound_completed s q p z w =
    let d : Clock = one_completion_more s.ends q in
    let k : SoundFor s d = sound_for s d z (completion_grows s.ends q) in
    let cw : Within (completing s q p) d = completing_within s q p k (within_trans p.clock s.ends d w (completion_grows s.ends q)) in
    record {
      threads = k.threads;
      queues = each_changed (λ c. Within c d) (λ _. completing s q p) q s.queues (λ _ _. cw) k.queues;
      pending = each_changed (λ ps. Each (λ p. Within p.clock d) ps) (drop 1) q s.pending (λ ps h. each_drop (λ p. Within p.clock d) 1 ps h) k.pending;
      updates = each_updated (completing s q p) d p.what s.updates cw k.updates;
    }

sound_head : (s : Clocks) (q : ℕ) (ps : List Pending) → Sound s → Each (λ p. Within p.clock s.ends) ps → Sound (completed s q (head ps))
sound_head s q [] z e = z
sound_head s q (p ∷ ps) z e = sound_completed s q p z e.0

pub sound_carried : (s : Clocks) (e : Happening) → Sound s → Sound (carried s e)
sound_carried s (Calls t what) z = sound_effect (called_by s t) t (call_clock s t) what (sound_called s t z) (call_clock_within s t z)
sound_carried s (Wakes t) z =
    let a : Armed = item_or no_wait s.waits t in
    record {
      threads = each_changed (λ c. Within c s.ends) _ t s.threads
          (λ c h. within_joined c (armed_clock s a) s.ends h (within_marking s.updates a.fence a.since a.value s.ends z.updates)) z.threads;
      queues = z.queues;
      pending = z.pending;
      updates = z.updates;
    }
sound_carried s (Completes q) z = sound_head s q (item_or [] s.pending q) z (each_at (λ ps. Each (λ p. Within p.clock s.ends) ps) [] s.pending q tt z.pending)

pub sound_all : (s : Clocks) (es : List Happening) → Sound s → Sound (carried_all s es)
sound_all s [] z = z
sound_all s (e ∷ es) z = sound_all (carried s e) es (sound_carried s e z)

within_self : (d : Clock) → Within d d
within_self d = record { queues = λ q. omega arith; threads = λ t. omega arith }

-- before any event
pub sound_first : (w : World) → Sound (first_clocks w)
sound_first w = record {
  threads = each_new (λ c. Within c (no_clock w)) (λ _. no_clock w) (λ _. within_self (no_clock w)) w.scripts;
  queues = each_new (λ c. Within c (no_clock w)) (λ _. no_clock w) (λ _. within_self (no_clock w)) w.queues;
  pending = each_new (λ ps. Each (λ (p : Pending). Within p.clock (no_clock w)) ps) (λ _. []) (λ _. tt) w.queues;
  updates = each_new (λ us. Each (λ (u : Update). Within u.clock (no_clock w)) us) (λ v. first_update w v ∷ []) (λ v. (within_self (no_clock w), tt)) w.fences;
}
