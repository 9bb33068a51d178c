-- Clocks of the code beside those of the fold.
use Rattle.std.proofs.Common.{ℕ, zero, suc, ◌≡◌, ◌<◌, ◌≤◌, ◌+◌, ◌-◌, ◌∙◌, refl, ap, sym, subst, arith, List, [], ◌∷◌, ◌++◌, length, map, drop, get_or, slice_get, slice_set, nat_le, true, false, Some, None, Result, Ok, Err, replicate, add-one, option_map}
use Rattle.std.proofs.lemmas.List.{length-map}
use Rattle.std.specs.Result.{OnOk}
use Rattle.dx_base.specs.Each.{Each}
use Rattle.dx_base.specs.Roomy.{Roomy}
use Rattle.dx_base.specs.Lists.{changed_at}
use Rattle.dx_base.proofs.Each.{each_on, each_changed, each_got}
use Rattle.dx_base.proofs.Lists.{length_changed}
use Rattle.clocks.specs.declared.clock.Clock.{Clock}
use Rattle.clocks.specs.Clocks.{number, numbered, greater, joined, empty_clock, zero_clock, with_call, with_op}
use Rattle.d3d_machine.specs.declared.world.World.{World}
use Rattle.d3d_machine.specs.declared.events.Operation.{Operation}
use Rattle.d3d_machine.specs.declared.events.Operation.TheVariants as operation
use Rattle.d3d_judge.specs.declared.carried_clocks.FenceUpdate.{FenceUpdate}
use Rattle.d3d_judge.specs.declared.carried_clocks.GivenWork.{GivenWork}
use Rattle.d3d_judge.specs.declared.carried_clocks.ThreadWait.{ThreadWait}
use Rattle.d3d_judge.specs.declared.carried_clocks.CarriedClocks.{CarriedClocks}
use Rattle.d3d_judge.specs.Happenings.{Calls, Gives, SetsFence, WaitsFor, Asks, Wakes, work_of}
use Rattle.d3d_judge.specs.Carried.{Clocks, Update, item_or, latest, sufficient, current, since_of, called_by, call_clock, effect, carried, no_wait, no_clock, first_clocks, Pending, head, head_of, marked, completing, completed, updated}
use Rattle.d3d_judge.specs.CarriedClocks.{update_of, updates_in, pending_of, pending_in, armed_of, clocks_of, clock_at, IsSized, AreSized, SameSize, AreAlike, oldest_work, worked, HasRoom}

pub number_is : (xs : List ℕ) (p d : ℕ) → p < length xs → get_or xs p d ≡ number xs p
number_is [] p d l = absurd (omega (arith, l))
number_is (x ∷ xs) zero d l = refl
number_is (x ∷ xs) (suc p) d l = number_is xs p d (omega (arith, l))

greater_none : (xs : List ℕ) → greater xs [] ≡ xs
greater_none [] = refl
greater_none (x ∷ xs) = refl

-- nothing is learned from a clock that knows nothing
pub joined_none : (c : Clock) → joined c empty_clock ≡ c
joined_none c = rw (greater_none c.queues) (rw (greater_none c.threads) refl)

module _ {A : Type 0} where
  -- an item that was lent to be written
  pub got : (xs : List A) (k : ℕ) (x : A) → k < length xs → x ≡ get_or xs k x → slice_get xs k ≡ Some x
  got [] k x l e = absurd (omega (arith, l))
  got (y ∷ xs) zero x l e = ap Some (sym e)
  got (y ∷ xs) (suc k) x l e = got xs k x (omega (arith, l)) e

  pub each_lent : (P : A → Type 0) (xs : List A) (k : ℕ) (x : A) → k < length xs → x ≡ get_or xs k x → Each P xs → P x
  each_lent P xs k x l e all = each_got P xs k x all (got xs k x l e)

  pub some_is : (x y : A) → Some x ≡ Some y → x ≡ y
  some_is x y e = cc

  -- what a change makes of the item at its place, said by that item
  pub changed_is : (f : A → A) (d : A) (k : ℕ) (xs : List A) → changed_at f k xs ≡ changed_at (λ _. f (item_or d xs k)) k xs
  changed_is f d k [] = refl
  changed_is f d zero (x ∷ xs) = refl
  changed_is f d (suc k) (x ∷ xs) = ap (λ t. x ∷ t) (changed_is f d k xs)

  pub changed_same : (f : A → A) (k : ℕ) (xs : List A) → ((x : A) → f x ≡ x) → changed_at f k xs ≡ xs
  changed_same f k [] h = refl
  changed_same f zero (x ∷ xs) h = rw (h x) refl
  changed_same f (suc k) (x ∷ xs) h = ap (λ t. x ∷ t) (changed_same f k xs h)

  pub drop_none : (k : ℕ) → drop {A = A} k [] ≡ []
  drop_none zero = refl
  drop_none (suc k) = refl

  pub item_got : (d : A) (xs : List A) (k : ℕ) (x : A) → slice_get xs k ≡ Some x → item_or d xs k ≡ x
  item_got d [] k x e = cc
  item_got d (y ∷ xs) zero x e = some_is y x e
  item_got d (y ∷ xs) (suc k) x e = item_got d xs k x e

module _ {A B : Type 0} where
  pub item_none : (f : A → B) (d : B) (xs : List A) (k : ℕ) → slice_get xs k ≡ None → item_or d (map f xs) k ≡ d
  item_none f d [] k e = refl
  item_none f d (y ∷ xs) zero e = cc
  item_none f d (y ∷ xs) (suc k) e = item_none f d xs k e

  pub map_one : (f : A → B) (xs : List A) (y : A) → map f (xs ++ y ∷ []) ≡ map f xs ++ f y ∷ []
  map_one f [] y = refl
  map_one f (x ∷ xs) y = ap (λ t. f x ∷ t) (map_one f xs y)

  pub get_map : (f : A → B) (xs : List A) (k : ℕ) → slice_get (map f xs) k ≡ option_map f (slice_get xs k)
  get_map f [] k = refl
  get_map f (x ∷ xs) zero = refl
  get_map f (x ∷ xs) (suc k) = get_map f xs k

  pub item_map : (f : A → B) (d : B) (xs : List A) (k : ℕ) (x : A) → slice_get xs k ≡ Some x → item_or d (map f xs) k ≡ f x
  item_map f d [] k x e = cc
  item_map f d (y ∷ xs) zero x e = ap f (some_is y x e)
  item_map f d (y ∷ xs) (suc k) x e = item_map f d xs k x e

-- what the update at a place knows
pub clock_is : (us : List FenceUpdate) (k : ℕ) (u : FenceUpdate) → k < length us → (get_or us k u).clock ≡ clock_at us k
clock_is [] k u l = absurd (omega (arith, l))
clock_is (x ∷ us) zero u l = refl
clock_is (x ∷ us) (suc k) u l = clock_is us k u (omega (arith, l))

pub alike_lent : (c : Clock) (us : List FenceUpdate) (k : ℕ) (u : FenceUpdate) → k < length us → Each (λ u. SameSize c u.clock) (map update_of us) → SameSize c (get_or us k u).clock
alike_lent c [] k u l h = absurd (omega (arith, l))
alike_lent c (x ∷ us) zero u l h = h.0
alike_lent c (x ∷ us) (suc k) u l h = alike_lent c us k u (omega (arith, l)) h.1

last_at : (us : List FenceUpdate) (k : ℕ) → suc k ≡ length us → latest (map update_of us) ≡ clock_at us k
last_at [] k l = absurd (omega (arith, l))
last_at (x ∷ []) zero l = refl
last_at (x ∷ []) (suc k) l = absurd (omega (arith, l))
last_at (x ∷ y ∷ us) zero l = absurd (omega (arith, l))
last_at (x ∷ y ∷ us) (suc k) l = last_at (y ∷ us) k (omega (arith, l))

pub latest_is : (us : List FenceUpdate) → 0 < length us → latest (map update_of us) ≡ clock_at us (length us - 1)
latest_is us l = last_at us (length us - 1) (omega (arith, l))

pub latest_none : (us : List FenceUpdate) → length us ≤ 0 → latest (map update_of us) ≡ empty_clock
latest_none [] l = refl
latest_none (x ∷ us) l = absurd (omega (arith, l))

-- the update at a place is the first that suffices, or it does not suffice
pub sufficient_here : (us : List FenceUpdate) (k v : ℕ) (u : FenceUpdate) → k < length us → v ≤ (get_or us k u).value → sufficient v (drop k (map update_of us)) ≡ clock_at us k
sufficient_here [] k v u l h = absurd (omega (arith, l))
sufficient_here (x ∷ us) zero v u l h = let g : nat_le v x.value ≡ true = grind (arith, h) in rw g refl
sufficient_here (x ∷ us) (suc k) v u l h = sufficient_here us k v u (omega (arith, l)) h

sufficient_next : (us : List FenceUpdate) (k v : ℕ) (u : FenceUpdate) → k < length us → (get_or us k u).value < v →
    sufficient v (drop k (map update_of us)) ≡ sufficient v (drop (suc k) (map update_of us))
sufficient_next [] k v u l h = absurd (omega (arith, l))
sufficient_next (x ∷ us) zero v u l h = let g : nat_le v x.value ≡ false = grind (arith, h) in rw g refl
sufficient_next (x ∷ us) (suc k) v u l h = sufficient_next us k v u (omega (arith, l)) h

pub sufficient_later : (us : List FenceUpdate) (k v : ℕ) (u : FenceUpdate) → k < length us → (get_or us k u).value < v →
    sufficient v (drop k (map update_of us)) ≡ sufficient v (drop (k + 1) (map update_of us))
sufficient_later us k v u l h = rw (add-one k) (sufficient_next us k v u l h)

pub sufficient_none : (us : List FenceUpdate) (k v : ℕ) → length us ≤ k → sufficient v (drop k (map update_of us)) ≡ clock_at us k
sufficient_none [] zero v l = refl
sufficient_none [] (suc k) v l = refl
sufficient_none (x ∷ us) zero v l = absurd (omega (arith, l))
sufficient_none (x ∷ us) (suc k) v l = sufficient_none us k v (omega (arith, l))

pub clock_none : (us : List FenceUpdate) (k : ℕ) → length us ≤ k → clock_at us k ≡ empty_clock
clock_none [] k l = refl
clock_none (x ∷ us) zero l = absurd (omega (arith, l))
clock_none (x ∷ us) (suc k) l = clock_none us k (omega (arith, l))

-- setting a number that is there keeps how many there are
pub length_numbered : (xs : List ℕ) (p n : ℕ) → p < length xs → length (numbered p n xs) ≡ length xs
length_numbered [] p n l = absurd (omega (arith, l))
length_numbered (x ∷ xs) zero n l = refl
length_numbered (x ∷ xs) (suc p) n l = ap suc (length_numbered xs p n (omega (arith, l)))

pub sized_call : (n m t k : ℕ) (c : Clock) → t < m → IsSized n m c → IsSized n m (with_call c t k)
sized_call n m t k c l s = let e = s.threads_are in record { queues_are = s.queues_are; threads_are = length_numbered c.threads t k (omega (arith, l, e)) ∙ e }

pub thread_counted : (n m f : ℕ) (s : Clocks) (t : ℕ) → AreSized n m f s → t < m → t < length s.ends.threads
thread_counted n m f s t z l = let e = z.ends.threads_are in omega (arith, l, e)

pub thread_numbers : (n m f : ℕ) (s : Clocks) (t : ℕ) → AreSized n m f s → t < m → Each (λ c. t < length c.threads) s.threads
thread_numbers n m f s t z l = each_on (IsSized n m) (λ c. t < length c.threads) s.threads (λ c h. let e = h.threads_are in omega (arith, l, e)) z.of_threads

-- a call keeps how many numbers there are
pub sized_called : (n m f : ℕ) (s : Clocks) (t : ℕ) → t < m → AreSized n m f s → AreSized n m f (called_by s t)
sized_called n m f s t l z = record {
  queue_count = z.queue_count;
  thread_count = length_changed (λ _. call_clock s t) s.threads t ∙ z.thread_count;
  pending_count = z.pending_count;
  fence_count = z.fence_count;
  wait_count = z.wait_count;
  ends = sized_call n m t (suc (number s.ends.threads t)) s.ends l z.ends;
  of_threads = subst (λ cs. Each (IsSized n m) cs) (changed_is (λ c. with_call c t (suc (number s.ends.threads t))) empty_clock t s.threads)
      (each_changed (IsSized n m) (λ c. with_call c t (suc (number s.ends.threads t))) t s.threads (λ c h. sized_call n m t (suc (number s.ends.threads t)) c l h) z.of_threads);
  of_queues = z.of_queues;
  of_pending = z.of_pending;
  of_updates = z.of_updates;
}

pub same_size : (n m : ℕ) (c d : Clock) → IsSized n m c → IsSized n m d → SameSize c d
same_size n m c d p r = record { queues_are = p.queues_are ∙ sym r.queues_are; threads_are = p.threads_are ∙ sym r.threads_are }

-- the clocks of threads have as many numbers as those of a fence's updates
pub alike_at : (n m f : ℕ) (s : CarriedClocks) (k : ℕ) (r : Roomy FenceUpdate) → AreSized n m f (clocks_of s) → slice_get s.updates k ≡ Some r → AreAlike (map update_of r.items) s.threads
alike_at n m f s k r z e =
    let us = each_got (λ xs. Each (λ u. IsSized n m u.clock) xs) (map updates_in s.updates) k (map update_of r.items) z.of_updates (get_map updates_in s.updates k ∙ ap (option_map updates_in) e) in
    each_on (IsSized n m) (λ c. Each (λ u. SameSize c u.clock) (map update_of r.items)) s.threads
    (λ c h. each_on (λ u. IsSized n m u.clock) (λ u. SameSize c u.clock) (map update_of r.items) (λ u g. same_size n m c u.clock h g) us) z.of_threads

-- the code's clocks after a call
pub called_is : (s : CarriedClocks) (t n : ℕ) (e : Clock) (ts : List Clock) → n ≡ suc (number s.ends.threads t) → e ≡ with_call s.ends t n →
    ts ≡ changed_at (λ c. with_call c t n) t s.threads → clocks_of (record s { ends = e; threads = ts }) ≡ called_by (clocks_of s) t
called_is s t n e ts hn he ht =
    rw he (rw ht (rw hn (ap (λ y. record (clocks_of s) { ends = with_call s.ends t (suc (number s.ends.threads t)); threads = y })
    (changed_is (λ c. with_call c t (suc (number s.ends.threads t))) empty_clock t s.threads))))

-- the clock of the call
pub next_is : (s : CarriedClocks) (t : ℕ) (c : Clock) → slice_get (map (λ d. with_call d t (suc (number s.ends.threads t))) s.threads) t ≡ Some c → c ≡ call_clock (clocks_of s) t
next_is s t c e = find (λ d. with_call d t (suc (number s.ends.threads t))) s.threads t c e
  where
    find : (f : Clock → Clock) (xs : List Clock) (k : ℕ) (c : Clock) → slice_get (map f xs) k ≡ Some c → c ≡ f (item_or empty_clock xs k)
    find f [] k c e = cc
    find f (x ∷ xs) zero c e = sym (some_is (f x) c e)
    find f (x ∷ xs) (suc k) c e = find f xs k c e

since_none : (us : List (List Update)) (o : Operation) → since_of us (work_of o) ≡ 0
since_none us (operation.Execute cs) = refl
since_none us (operation.Signal f v) = refl

-- the code's clocks after an operation was given
pub given_is : (s u : CarriedClocks) (t q : ℕ) (o : Operation) (c : Clock) (ps : List (Roomy GivenWork)) → c ≡ call_clock (clocks_of s) t →
    map pending_in ps ≡ changed_at (λ os. os ++ pending_of (record { operation = o; clock = c }) ∷ []) q (map pending_in s.pending) →
    clocks_of u ≡ called_by (clocks_of (record s { pending = ps })) t →
    clocks_of u ≡ carried (clocks_of s) (Calls t (Gives q (work_of o)))
given_is s u t q o c ps hc hp hu =
    hu ∙ rw hp (rw hc (rw (since_none (map updates_in s.updates) o) refl))

pub fence_set_is : (s u : CarriedClocks) (t f v : ℕ) (c : Clock) (us : List (Roomy FenceUpdate)) → c ≡ call_clock (clocks_of s) t →
    map updates_in us ≡ changed_at (λ xs. xs ++ update_of (record { value = v; clock = c }) ∷ []) f (map updates_in s.updates) →
    clocks_of u ≡ called_by (clocks_of (record s { updates = us })) t →
    clocks_of u ≡ carried (clocks_of s) (Calls t (SetsFence f v))
fence_set_is s u t f v c us hc hp hu = hu ∙ rw hp (rw hc refl)

pub current_is : (us : List (Roomy FenceUpdate)) (f : ℕ) (r : Roomy FenceUpdate) → slice_get us f ≡ Some r → current (map updates_in us) f ≡ length r.items - 1
current_is us f r e = rw (item_map updates_in [] us f r e) (rw (length-map r.items update_of) refl)

pub waited_is : (s u : CarriedClocks) (t f v k : ℕ) (r : Roomy FenceUpdate) (ws : List ThreadWait) → slice_get s.updates f ≡ Some r → k ≡ length r.items - 1 →
    map armed_of ws ≡ changed_at (λ _. record { fence = f; value = v; since = k }) t (map armed_of s.waits) →
    clocks_of u ≡ called_by (clocks_of (record s { waits = ws })) t →
    clocks_of u ≡ carried (clocks_of s) (Calls t (WaitsFor f v))
waited_is s u t f v k r ws e hk hw hu = hu ∙ rw hw (rw hk (rw (current_is s.updates f r e) refl))

pub asked_is : (s u : CarriedClocks) (t f : ℕ) (r : Roomy FenceUpdate) (ts : List Clock) → clocks_of u ≡ called_by (clocks_of s) t → slice_get u.updates f ≡ Some r →
    ts ≡ changed_at (λ c. joined c (latest (map update_of r.items))) t u.threads → clocks_of (record u { threads = ts }) ≡ carried (clocks_of s) (Calls t (Asks f))
asked_is s u t f r ts hu e ht =
    subst (λ x. clocks_of (record u { threads = ts }) ≡ effect x t (call_clock (clocks_of s) t) (Asks f)) hu
    (rw ht (rw (item_map updates_in [] u.updates f r e) refl))

wait_is : (s : CarriedClocks) (t : ℕ) (x : ThreadWait) → slice_get s.waits t ≡ Some x → item_or no_wait (map armed_of s.waits) t ≡ armed_of x
wait_is s t x e = item_map armed_of no_wait s.waits t x e

pub woken_is : (s : CarriedClocks) (t : ℕ) (x : ThreadWait) (r : Roomy FenceUpdate) (ts : List Clock) → slice_get s.waits t ≡ Some x → slice_get s.updates x.fence ≡ Some r →
    ts ≡ changed_at (λ c. joined c (sufficient x.value (drop x.since (map update_of r.items)))) t s.threads → clocks_of (record s { threads = ts }) ≡ carried (clocks_of s) (Wakes t)
woken_is s t x r ts ew er ht = rw (wait_is s t x ew) (rw (item_map updates_in [] s.updates x.fence r er) (rw ht refl))

pub not_woken : (s : CarriedClocks) (t : ℕ) (x : ThreadWait) → slice_get s.waits t ≡ Some x → slice_get s.updates x.fence ≡ None → clocks_of s ≡ carried (clocks_of s) (Wakes t)
not_woken s t x ew en =
    rw (wait_is s t x ew) (rw (item_none updates_in [] s.updates x.fence en) (rw (drop_none {A = Update} x.since)
    (rw (changed_same (λ c. joined c empty_clock) t s.threads joined_none) refl)))

pub called_length : (s u : CarriedClocks) (t : ℕ) → clocks_of u ≡ called_by (clocks_of s) t → length u.threads ≡ length s.threads
called_length s u t e = ap (λ x. length x.threads) e ∙ length_changed (λ _. call_clock (clocks_of s) t) s.threads t

-- of clocks after a call
pub sized_after : (n m f : ℕ) (s u : CarriedClocks) (t : ℕ) → clocks_of u ≡ called_by (clocks_of s) t → t < m → AreSized n m f (clocks_of s) → AreSized n m f (clocks_of u)
sized_after n m f s u t e l z = subst (λ x. AreSized n m f x) (sym e) (sized_called n m f (clocks_of s) t l z)

-- joined numbers are as many
pub below_greater : (xs ys : List ℕ) (k : ℕ) → k < length xs → k < length (greater xs ys)
below_greater [] ys k l = absurd (omega (arith, l))
below_greater (x ∷ xs) [] k l = l
below_greater (x ∷ xs) (y ∷ ys) zero l = omega arith
below_greater (x ∷ xs) (y ∷ ys) (suc k) l = let h = below_greater xs ys k (omega (arith, l)) in omega (arith, h)

pub length_greater : (xs ys : List ℕ) → length ys ≡ length xs → length (greater xs ys) ≡ length xs
length_greater [] ys e = e
length_greater (x ∷ xs) [] e = refl
length_greater (x ∷ xs) (y ∷ ys) e = ap suc (length_greater xs ys (omega (arith, e)))

pub each_item : {A : Type 0} (P : A → Type 0) (d : A) (xs : List A) (k : ℕ) → k < length xs → Each P xs → P (item_or d xs k)
each_item P d [] k l e = absurd (omega (arith, l))
each_item P d (x ∷ xs) zero l e = e.0
each_item P d (x ∷ xs) (suc k) l e = each_item P d xs k (omega (arith, l)) e.1

-- the clock of an operation that completes has as many numbers as those of queues
pub alike_completing : (cs : List Clock) (c : Clock) (q n : ℕ) → q < length cs → Each (λ d. SameSize d c) cs → q < length c.queues →
    Each (λ d. SameSize d (with_op (joined c (item_or empty_clock cs q)) q n)) cs
alike_completing cs c q n l all b =
    let s = each_item (λ d. SameSize d c) empty_clock cs q l all in
    let joint : Clock = joined c (item_or empty_clock cs q) in
    let e1 : length (numbered q n joint.queues) ≡ length c.queues =
    length_numbered joint.queues q n (below_greater c.queues (item_or empty_clock cs q).queues q b) ∙ length_greater c.queues (item_or empty_clock cs q).queues s.queues_are in
    let e2 : length joint.threads ≡ length c.threads = length_greater c.threads (item_or empty_clock cs q).threads s.threads_are in
    each_on (λ d. SameSize d c) (λ d. SameSize d (with_op joint q n)) cs (λ d h. record { queues_are = h.queues_are ∙ sym e1; threads_are = h.threads_are ∙ sym e2 }) all

pub head_is : {A B : Type 0} (f : A → B) (xs : List A) → head (map f xs) ≡ option_map f (slice_get xs 0)
head_is f [] = refl
head_is f (x ∷ xs) = refl

pub map_rest : {A B : Type 0} (f : A → B) (xs : List A) → map f (drop 1 xs) ≡ drop 1 (map f xs)
map_rest f [] = refl
map_rest f (x ∷ xs) = refl

-- no operation is a wait, so it learns from no update
marked_none : (s : Clocks) (p : Pending) (o : Operation) → marked s p (work_of o) ≡ empty_clock
marked_none s p (operation.Execute cs) = refl
marked_none s p (operation.Signal f v) = refl

-- the code's clocks after an operation completed
pub worked_is : (s : CarriedClocks) (q n : ℕ) (x : GivenWork) (c e : Clock) (qs : List Clock) (us : List (Roomy FenceUpdate)) → n ≡ suc (number s.ends.queues q) →
    c ≡ with_op (joined x.clock (item_or empty_clock s.queues q)) q n → e ≡ with_op s.ends q n → qs ≡ changed_at (λ _. c) q s.queues →
    map updates_in us ≡ updated c (work_of x.operation) (map updates_in s.updates) →
    clocks_of (record s { ends = e; queues = qs; updates = us }) ≡ worked (clocks_of s) q (pending_of x)
worked_is s q n x c e qs us hn hc he hq hu =
    let joint : Clock = joined x.clock (item_or empty_clock s.queues q) in
    let next : ℕ = suc (number s.ends.queues q) in
    let h : c ≡ completing (clocks_of s) q (pending_of x) =
    hc ∙ (ap (λ y. with_op joint q y) hn ∙ (ap (λ y. with_op y q next) (sym (joined_none joint))
    ∙ ap (λ y. with_op (joined joint y) q next) (sym (marked_none (clocks_of s) (pending_of x) x.operation)))) in
    rw he (rw hq (rw hu (rw hn (rw h refl))))

first_sized : (n m : ℕ) (xs : List GivenWork) (x : GivenWork) → Each (λ p. IsSized n m p.clock) (map pending_of xs) → slice_get xs 0 ≡ Some x → IsSized n m x.clock
first_sized n m [] x z e = cc
first_sized n m (y ∷ xs) x z e = subst (λ p. IsSized n m p.clock) (some_is y x e) z.0

pub oldest_sized : (n m : ℕ) (ps : List (Roomy GivenWork)) (q : ℕ) (x : GivenWork) → Each (λ xs. Each (λ p. IsSized n m p.clock) xs) (map pending_in ps) →
    oldest_work ps q ≡ Some x → IsSized n m x.clock
oldest_sized n m [] q x z e = cc
oldest_sized n m (r ∷ ps) zero x z e = first_sized n m r.items x z.0 e
oldest_sized n m (r ∷ ps) (suc q) x z e = oldest_sized n m ps q x z.1 e

pub alike_queues : (n m f : ℕ) (s : CarriedClocks) (q : ℕ) (x : GivenWork) → AreSized n m f (clocks_of s) → oldest_work s.pending q ≡ Some x → Each (λ d. SameSize d x.clock) s.queues
alike_queues n m f s q x z e =
    let h = oldest_sized n m s.pending q x z.of_pending e in
    each_on (IsSized n m) (λ d. SameSize d x.clock) s.queues (λ d g. same_size n m d x.clock g h) z.of_queues

rest_same : (ps : List (List Pending)) (q : ℕ) → None ≡ head (item_or [] ps q) → changed_at (drop 1) q ps ≡ ps
rest_same [] q e = refl
rest_same ([] ∷ ps) zero e = refl
rest_same ((x ∷ xs) ∷ ps) zero e = cc
rest_same (xs ∷ ps) (suc q) e = ap (λ t. xs ∷ t) (rest_same ps q e)

-- of a queue that has no operation nothing changes
pub none_completes : (s : CarriedClocks) (q : ℕ) (ps : List (Roomy GivenWork)) → None ≡ head (item_or [] (map pending_in s.pending) q) →
    map pending_in ps ≡ changed_at (drop 1) q (map pending_in s.pending) → clocks_of (record s { pending = ps }) ≡ completed (clocks_of s) q (head_of (clocks_of s) q)
none_completes s q ps e hp =
    subst (λ x. clocks_of (record s { pending = ps }) ≡ completed (clocks_of s) q x) e (rw hp (rw (rest_same (map pending_in s.pending) q e) refl))

pub same_for_each : {A B : Type 0} (y : B) (xs : List A) → map (λ _. y) xs ≡ replicate (length xs) y
same_for_each y [] = refl
same_for_each y (x ∷ xs) = ap (λ t. y ∷ t) (same_for_each y xs)

-- an item that was written has room
pub room_set : {T : Type 0} (xs : List (Roomy T)) (k : ℕ) (y : Roomy T) → 1 ≤ y.spare → HasRoom (slice_set xs k y) k
room_set [] k y h r e = cc
room_set (x ∷ xs) zero y h r e = subst (λ z. 1 ≤ z.spare) (some_is y r e) h
room_set (x ∷ xs) (suc k) y h r e = room_set xs k y h r e

-- there is room in every list that is not there
pub room_nowhere : {T : Type 0} (xs : List (Roomy T)) (k : ℕ) → length xs ≤ k → HasRoom xs k
room_nowhere [] k l r e = cc
room_nowhere (x ∷ xs) zero l r e = absurd (omega (arith, l))
room_nowhere (x ∷ xs) (suc k) l r e = room_nowhere xs k (omega (arith, l)) r e

-- and nothing is put there
pub pushed_nowhere : (us : List (Roomy FenceUpdate)) (k : ℕ) (u : Update) → length us ≤ k → map updates_in us ≡ changed_at (λ xs. xs ++ u ∷ []) k (map updates_in us)
pushed_nowhere [] k u l = refl
pushed_nowhere (x ∷ us) zero u l = absurd (omega (arith, l))
pushed_nowhere (x ∷ us) (suc k) u l = ap (λ t. updates_in x ∷ t) (pushed_nowhere us k u (omega (arith, l)))

-- the oldest operation of a queue, as the clocks of the fold have it
pub oldest_is : (ps : List (Roomy GivenWork)) (q : ℕ) → head (item_or [] (map pending_in ps) q) ≡ option_map pending_of (oldest_work ps q)
oldest_is [] q = refl
oldest_is (r ∷ ps) zero = head_is pending_of r.items
oldest_is (r ∷ ps) (suc q) = oldest_is ps q

pub on_ok : {A E P Q : Type 0} (r : Result A E) → (P → Q) → OnOk r P → OnOk r Q
on_ok (Ok x) f h = f h
on_ok (Err e) f h = h

-- the code's clocks before any event
pub first_is : (w : World) (q t : ℕ) (e : Clock) (ts qs : List Clock) (ps : List (Roomy GivenWork)) (us : List (Roomy FenceUpdate)) (ws : List ThreadWait) →
    q ≡ length w.queues → t ≡ length w.scripts → e ≡ zero_clock q t → ts ≡ replicate t (zero_clock q t) → qs ≡ replicate q (zero_clock q t) →
    map pending_in ps ≡ replicate q [] → map updates_in us ≡ map (λ v. record { value = v; clock = zero_clock q t } ∷ []) w.fences → map armed_of ws ≡ replicate t no_wait →
    clocks_of (record { ends = e; threads = ts; queues = qs; pending = ps; updates = us; waits = ws }) ≡ first_clocks w
first_is w q t e ts qs ps us ws hq ht he hts hqs hps hus hws =
    rw he (rw hts (rw hqs (rw hps (rw hus (rw hws (rw hq (rw ht
    (rw (same_for_each (no_clock w) w.scripts) (rw (same_for_each (no_clock w) w.queues)
    (rw (same_for_each {B = List Pending} [] w.queues) (rw (same_for_each no_wait w.scripts) refl)))))))))))
