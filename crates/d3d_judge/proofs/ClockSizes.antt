-- How many numbers clocks have along a history.
use Rattle.std.proofs.Common.{ℕ, suc, ◌≡◌, ◌<◌, ◌++◌, ◌∙◌, cond, refl, sym, subst, arith, List, [], ◌∷◌, length, drop, nat_le, Bool, true, false, Option, Some, None}
use Rattle.std.proofs.lemmas.List.{length-map, length-replicate}
use Rattle.dx_base.specs.Each.{Each}
use Rattle.dx_base.proofs.Each.{each_changed, each_append, each_new}
use Rattle.dx_base.proofs.Lists.{length_changed}
use Rattle.clocks.specs.declared.clock.Clock.{Clock}
use Rattle.clocks.specs.Clocks.{number, joined, empty_clock, with_op}
use Rattle.d3d_machine.specs.declared.world.World.{World}
use Rattle.d3d_judge.specs.Happenings.{Happening, Calls, Wakes, Completes, Deed, Gives, SetsFence, WaitsFor, Asks, Stores, Loads, Nothing, Work, Executes, Signals, Waits}
use Rattle.d3d_judge.specs.Carried.{Clocks, Update, Pending, Armed, item_or, latest, sufficient, current, since_of, called_by, call_clock, thread_clock, queue_clock, queue_joined, next_number, armed_clock, effect, carried, no_wait, no_clock, first_update, first_clocks, head, head_of, marked, completing, completed, updated}
use Rattle.d3d_judge.specs.CarriedClocks.{IsSized, AreSized, IsOfSize}
use Rattle.d3d_judge.proofs.Carried.{each_at, each_drop}
use Rattle.d3d_judge.proofs.CarriedClocks.{joined_none, length_greater, length_numbered, each_item, sized_call, sized_called, some_is}

sized_empty : (n m : ℕ) (a : Clock) → IsSized n m a → IsSized n m (joined a empty_clock)
sized_empty n m a h = subst (λ y. IsSized n m y) (sym (joined_none a)) h

sized_joined : (n m : ℕ) (a b : Clock) → IsSized n m a → IsSized n m b → IsSized n m (joined a b)
sized_joined n m a b g h = record {
  queues_are = length_greater a.queues b.queues (h.queues_are ∙ sym g.queues_are) ∙ g.queues_are;
  threads_are = length_greater a.threads b.threads (h.threads_are ∙ sym g.threads_are) ∙ g.threads_are;
}

sized_latest : (n m : ℕ) (us : List Update) (a : Clock) → Each (λ u. IsSized n m u.clock) us → IsSized n m a → IsSized n m (joined a (latest us))
sized_latest n m [] a h g = sized_empty n m a g
sized_latest n m (u ∷ []) a h g = sized_joined n m a u.clock g h.0
sized_latest n m (u ∷ v ∷ us) a h g = sized_latest n m (v ∷ us) a h.1 g

sized_one_sufficient : (n m v : ℕ) (b : Bool) (u : Update) (rest a : Clock) → IsSized n m u.clock → IsSized n m (joined a rest) → IsSized n m a → IsSized n m (joined a (cond b u.clock rest))
sized_one_sufficient n m v true u rest a h k g = sized_joined n m a u.clock g h
sized_one_sufficient n m v false u rest a h k g = k

sized_sufficient : (n m v : ℕ) (us : List Update) (a : Clock) → Each (λ u. IsSized n m u.clock) us → IsSized n m a → IsSized n m (joined a (sufficient v us))
sized_sufficient n m v [] a h g = sized_empty n m a g
sized_sufficient n m v (u ∷ us) a h g = sized_one_sufficient n m v (nat_le v u.value) u (sufficient v us) a h.0 (sized_sufficient n m v us a h.1 g) g

sized_op : (n m q k : ℕ) (c : Clock) → q < n → IsSized n m c → IsSized n m (with_op c q k)
sized_op n m q k c l s = let e = s.queues_are in record { queues_are = length_numbered c.queues q k (omega (arith, l, e)) ∙ e; threads_are = s.threads_are }

updates_at : (n m : ℕ) (uss : List (List Update)) (f : ℕ) → Each (λ us. Each (λ u. IsSized n m u.clock) us) uss → Each (λ u. IsSized n m u.clock) (item_or [] uss f)
updates_at n m uss f h = each_at (λ us. Each (λ u. IsSized n m u.clock) us) [] uss f tt h

pub sized_clock : (n m f t : ℕ) (s : Clocks) → t < m → AreSized n m f s → IsSized n m (call_clock s t)
sized_clock n m f t s l z = sized_call n m t (suc (number s.ends.threads t)) (thread_clock s t) l (each_item (IsSized n m) empty_clock s.threads t (let e = z.thread_count in omega (arith, l, e)) z.of_threads)

sized_effect : (n m f t : ℕ) (s : Clocks) (c : Clock) (what : Deed) → IsSized n m c → AreSized n m f s → AreSized n m f (effect s t c what)
sized_effect n m f t s c (Gives q o) g z = record {
  queue_count = z.queue_count;
  thread_count = z.thread_count;
  pending_count = length_changed (λ os. os ++ record { what = o; clock = c; since = since_of s.updates o } ∷ []) s.pending q ∙ z.pending_count;
  fence_count = z.fence_count;
  wait_count = z.wait_count;
  ends = z.ends;
  of_threads = z.of_threads;
  of_queues = z.of_queues;
  of_pending = each_changed (λ ps. Each (λ p. IsSized n m p.clock) ps) (λ os. os ++ record { what = o; clock = c; since = since_of s.updates o } ∷ []) q s.pending
      (λ ps h. each_append (λ p. IsSized n m p.clock) ps (record { what = o; clock = c; since = since_of s.updates o } ∷ []) h (g, tt)) z.of_pending;
  of_updates = z.of_updates;
}
sized_effect n m f t s c (SetsFence k v) g z = record {
  queue_count = z.queue_count;
  thread_count = z.thread_count;
  pending_count = z.pending_count;
  fence_count = length_changed (λ us. us ++ record { value = v; clock = c } ∷ []) s.updates k ∙ z.fence_count;
  wait_count = z.wait_count;
  ends = z.ends;
  of_threads = z.of_threads;
  of_queues = z.of_queues;
  of_pending = z.of_pending;
  of_updates = each_changed (λ us. Each (λ u. IsSized n m u.clock) us) (λ us. us ++ record { value = v; clock = c } ∷ []) k s.updates
      (λ us h. each_append (λ u. IsSized n m u.clock) us (record { value = v; clock = c } ∷ []) h (g, tt)) z.of_updates;
}
sized_effect n m f t s c (WaitsFor k v) g z = record {
  queue_count = z.queue_count;
  thread_count = z.thread_count;
  pending_count = z.pending_count;
  fence_count = z.fence_count;
  wait_count = length_changed (λ _. record { fence = k; value = v; since = current s.updates k }) s.waits t ∙ z.wait_count;
  ends = z.ends;
  of_threads = z.of_threads;
  of_queues = z.of_queues;
  of_pending = z.of_pending;
  of_updates = z.of_updates;
}
sized_effect n m f t s c (Asks k) g z = record {
  queue_count = z.queue_count;
  thread_count = length_changed (λ d. joined d (latest (item_or [] s.updates k))) s.threads t ∙ z.thread_count;
  pending_count = z.pending_count;
  fence_count = z.fence_count;
  wait_count = z.wait_count;
  ends = z.ends;
  of_threads = each_changed (IsSized n m) (λ d. joined d (latest (item_or [] s.updates k))) t s.threads (λ d h. sized_latest n m (item_or [] s.updates k) d (updates_at n m s.updates k z.of_updates) h) z.of_threads;
  of_queues = z.of_queues;
  of_pending = z.of_pending;
  of_updates = z.of_updates;
}
sized_effect n m f t s c (Stores r) g z = z
sized_effect n m f t s c (Loads r) g z = z
sized_effect n m f t s c Nothing g z = z

sized_marked : (n m f : ℕ) (s : Clocks) (p : Pending) (o : Work) (a : Clock) → AreSized n m f s → IsSized n m a → IsSized n m (joined a (marked s p o))
sized_marked n m f s p (Executes cs) a z g = sized_empty n m a g
sized_marked n m f s p (Signals k v) a z g = sized_empty n m a g
sized_marked n m f s p (Waits k v) a z g =
    sized_sufficient n m v (drop p.since (item_or [] s.updates k)) a (each_drop (λ u. IsSized n m u.clock) p.since (item_or [] s.updates k) (updates_at n m s.updates k z.of_updates)) g

pub sized_completing : (n m f q : ℕ) (s : Clocks) (p : Pending) → q < n → IsSized n m p.clock → AreSized n m f s → IsSized n m (completing s q p)
sized_completing n m f q s p l g z =
    sized_op n m q (next_number s q) (queue_joined s q p) l
    (sized_marked n m f s p p.what (joined p.clock (queue_clock s q)) z
    (sized_joined n m p.clock (queue_clock s q) g (each_item (IsSized n m) empty_clock s.queues q (let e = z.queue_count in omega (arith, l, e)) z.of_queues)))

updated_count : (c : Clock) (o : Work) (us : List (List Update)) → length (updated c o us) ≡ length us
updated_count c (Executes cs) us = refl
updated_count c (Signals f v) us = length_changed (λ xs. xs ++ record { value = v; clock = c } ∷ []) us f
updated_count c (Waits f v) us = refl

sized_updated : (n m : ℕ) (c : Clock) (o : Work) (us : List (List Update)) → IsSized n m c → Each (λ xs. Each (λ u. IsSized n m u.clock) xs) us → Each (λ xs. Each (λ u. IsSized n m u.clock) xs) (updated c o us)
sized_updated n m c (Executes cs) us g h = h
sized_updated n m c (Signals f v) us g h = each_changed (λ xs. Each (λ u. IsSized n m u.clock) xs) (λ xs. xs ++ record { value = v; clock = c } ∷ []) f us
    (λ xs k. each_append (λ u. IsSized n m u.clock) xs (record { value = v; clock = c } ∷ []) k (g, tt)) h
sized_updated n m c (Waits f v) us g h = h

sized_completed : (n m f q : ℕ) (s : Clocks) (o : Option Pending) → o ≡ head_of s q → q < n → AreSized n m f s → AreSized n m f (completed s q o)
sized_completed n m f q s None e l z = z
sized_completed n m f q s (Some p) e l z =
    let g : IsSized n m p.clock = head_sized n m (item_or [] s.pending q) p (each_at (λ ps. Each (λ x. IsSized n m x.clock) ps) [] s.pending q tt z.of_pending) e in
    let c : IsSized n m (completing s q p) = sized_completing n m f q s p l g z in
    record {
      queue_count = length_changed (λ _. completing s q p) s.queues q ∙ z.queue_count;
      thread_count = z.thread_count;
      pending_count = length_changed (drop 1) s.pending q ∙ z.pending_count;
      fence_count = updated_count (completing s q p) p.what s.updates ∙ z.fence_count;
      wait_count = z.wait_count;
      ends = sized_op n m q (suc (number s.ends.queues q)) s.ends l z.ends;
      of_threads = z.of_threads;
      of_queues = each_changed (IsSized n m) (λ _. completing s q p) q s.queues (λ d h. c) z.of_queues;
      of_pending = each_changed (λ ps. Each (λ x. IsSized n m x.clock) ps) (drop 1) q s.pending (λ ps h. each_drop (λ x. IsSized n m x.clock) 1 ps h) z.of_pending;
      of_updates = sized_updated n m (completing s q p) p.what s.updates c z.of_updates;
    }
  where
    head_sized : (n m : ℕ) (ps : List Pending) (p : Pending) → Each (λ x. IsSized n m x.clock) ps → Some p ≡ head ps → IsSized n m p.clock
    head_sized n m [] p h e = cc
    head_sized n m (x ∷ xs) p h e = subst (λ y. IsSized n m y.clock) (sym (some_is p x e)) h.0

-- sizes stay along a history
pub sized_carried : (n m f : ℕ) (s : Clocks) (e : Happening) → IsOfSize n m e → AreSized n m f s → AreSized n m f (carried s e)
sized_carried n m f s (Calls t what) l z = sized_effect n m f t (called_by s t) (call_clock s t) what (sized_clock n m f t s l z) (sized_called n m f s t l z)
sized_carried n m f s (Wakes t) l z = record {
  queue_count = z.queue_count;
  thread_count = length_changed (λ c. joined c (armed_clock s (item_or no_wait s.waits t))) s.threads t ∙ z.thread_count;
  pending_count = z.pending_count;
  fence_count = z.fence_count;
  wait_count = z.wait_count;
  ends = z.ends;
  of_threads = each_changed (IsSized n m) (λ c. joined c (armed_clock s (item_or no_wait s.waits t))) t s.threads
      (λ d h. let x : Armed = item_or no_wait s.waits t in sized_sufficient n m x.value (drop x.since (item_or [] s.updates x.fence)) d
      (each_drop (λ u. IsSized n m u.clock) x.since (item_or [] s.updates x.fence) (updates_at n m s.updates x.fence z.of_updates)) h) z.of_threads;
  of_queues = z.of_queues;
  of_pending = z.of_pending;
  of_updates = z.of_updates;
}
sized_carried n m f s (Completes q) l z = sized_completed n m f q s (head_of s q) refl l z

no_clock_sized : (w : World) → IsSized (length w.queues) (length w.scripts) (no_clock w)
no_clock_sized w = record { queues_are = length-replicate (length w.queues) 0; threads_are = length-replicate (length w.scripts) 0 }

-- the clocks before any event
pub sized_first : (w : World) → AreSized (length w.queues) (length w.scripts) (length w.fences) (first_clocks w)
sized_first w = record {
  queue_count = length-map w.queues (λ _. no_clock w);
  thread_count = length-map w.scripts (λ _. no_clock w);
  pending_count = length-map w.queues (λ _. []);
  fence_count = length-map w.fences (λ v. first_update w v ∷ []);
  wait_count = length-map w.scripts (λ _. no_wait);
  ends = no_clock_sized w;
  of_threads = each_new (IsSized (length w.queues) (length w.scripts)) (λ _. no_clock w) (λ x. no_clock_sized w) w.scripts;
  of_queues = each_new (IsSized (length w.queues) (length w.scripts)) (λ _. no_clock w) (λ x. no_clock_sized w) w.queues;
  of_pending = each_new (λ ps. Each (λ p. IsSized (length w.queues) (length w.scripts) p.clock) ps) (λ _. []) (λ x. tt) w.queues;
  of_updates = each_new (λ us. Each (λ u. IsSized (length w.queues) (length w.scripts) u.clock) us) (λ v. first_update w v ∷ []) (λ v. (no_clock_sized w, tt)) w.fences;
}
