-- What pending operations know beyond what is complete they know through one another.
use Rattle.std.proofs.Common.{ℕ, zero, suc, ◌≤◌, ◌≡◌, nat_le, max, List, [], ◌∷◌, ◌++◌, drop, map, subst, ap, refl, arith, cond, true, false, Bool, Some}
use Rattle.dx_base.specs.Each.{Each}
use Rattle.dx_base.specs.Lists.{changed_at}
use Rattle.clocks.specs.declared.clock.Clock.{Clock}
use Rattle.clocks.specs.Clocks.{number, numbered, joined, with_op, Within, empty_clock}
use Rattle.clocks.proofs.Clocks.{number_greater}
use Rattle.d3d_judge.specs.Happenings.{Completes, Work, Executes, Signals, Waits}
use Rattle.d3d_judge.specs.Carried.{item_or, Update, Pending, Clocks, sufficient, marking, queue_clock, one_completion_more, marked, head, next_number, queue_joined, completing, updated, completed, carried, carried_all, Sound}
use Rattle.d3d_judge.specs.Ahead.{forgotten, forgotten_pending, forgotten_update, Beyond, Both, SamePending, SameUpdate, Behind}

module _ {A B : Type 0} (R : A → B → Type 0) where
  pub both_at : (d : A) (e : B) (xs : List A) (ys : List B) (k : ℕ) → R d e → Both R xs ys → R (item_or d xs k) (item_or e ys k)
  both_at d e [] [] k r b = r
  both_at d e [] (y ∷ ys) k r b = absurd b
  both_at d e (x ∷ xs) [] k r b = absurd b
  both_at d e (x ∷ xs) (y ∷ ys) zero r b = b.0
  both_at d e (x ∷ xs) (y ∷ ys) (suc k) r b = both_at d e xs ys k r b.1

  pub both_changed : (f : A → A) (g : B → B) (k : ℕ) (xs : List A) (ys : List B) → ((x : A) (y : B) → R x y → R (f x) (g y)) → Both R xs ys → Both R (changed_at f k xs) (changed_at g k ys)
  both_changed f g k [] [] h b = tt
  both_changed f g k [] (y ∷ ys) h b = absurd b
  both_changed f g k (x ∷ xs) [] h b = absurd b
  both_changed f g zero (x ∷ xs) (y ∷ ys) h b = (h x y b.0, b.1)
  both_changed f g (suc k) (x ∷ xs) (y ∷ ys) h b = (b.0, both_changed f g k xs ys h b.1)

  pub both_drop : (k : ℕ) (xs : List A) (ys : List B) → Both R xs ys → Both R (drop k xs) (drop k ys)
  both_drop zero xs ys b = b
  both_drop (suc k) [] [] b = tt
  both_drop (suc k) [] (y ∷ ys) b = absurd b
  both_drop (suc k) (x ∷ xs) [] b = absurd b
  both_drop (suc k) (x ∷ xs) (y ∷ ys) b = both_drop k xs ys b.1

  pub both_append : (xs : List A) (ys : List B) (x : A) (y : B) → Both R xs ys → R x y → Both R (xs ++ x ∷ []) (ys ++ y ∷ [])
  both_append [] [] x y b r = (r, tt)
  both_append [] (z ∷ ys) x y b r = absurd b
  both_append (z ∷ xs) [] x y b r = absurd b
  both_append (z ∷ xs) (u ∷ ys) x y b r = (b.0, both_append xs ys x y b.1 r)

  pub both_map : (P : A → Type 0) (f : A → B) (xs : List A) → ((x : A) → P x → R x (f x)) → Each P xs → Both R xs (map f xs)
  both_map P f [] h e = tt
  both_map P f (x ∷ xs) h e = (h x e.0, both_map P f xs h e.1)

beyond_max : (a b c d m : ℕ) (x y : ℕ) → a ≤ max m c → b ≤ max m d → x ≡ max a b → y ≡ max c d → x ≤ max m y
beyond_max a b c d m x y h k e f = omega (arith, h, k, e, f)

pub beyond_join : (k a b c d : Clock) → Beyond k a c → Beyond k b d → Beyond k (joined a b) (joined c d)
beyond_join k a b c d h g = record {
  queues = λ q. beyond_max _ _ _ _ (number k.queues q) _ _ (h.queues q) (g.queues q) (number_greater a.queues b.queues q) (number_greater c.queues d.queues q);
  threads = λ t. beyond_max _ _ _ _ (number k.threads t) _ _ (h.threads t) (g.threads t) (number_greater a.threads b.threads t) (number_greater c.threads d.threads t);
}

numbered_beyond : (xs ys : List ℕ) (q u n m : ℕ) → number xs u ≤ max m (number ys u) → number (numbered q n xs) u ≤ max m (number (numbered q n ys) u)
numbered_beyond [] [] q u n m h = omega arith
numbered_beyond [] (y ∷ ys) zero zero n m h = omega arith
numbered_beyond [] (y ∷ ys) zero (suc u) n m h = h
numbered_beyond [] (y ∷ ys) (suc q) zero n m h = h
numbered_beyond [] (y ∷ ys) (suc q) (suc u) n m h = numbered_beyond [] ys q u n m h
numbered_beyond (x ∷ xs) [] zero zero n m h = omega arith
numbered_beyond (x ∷ xs) [] zero (suc u) n m h = h
numbered_beyond (x ∷ xs) [] (suc q) zero n m h = h
numbered_beyond (x ∷ xs) [] (suc q) (suc u) n m h = numbered_beyond xs [] q u n m h
numbered_beyond (x ∷ xs) (y ∷ ys) zero zero n m h = omega arith
numbered_beyond (x ∷ xs) (y ∷ ys) zero (suc u) n m h = h
numbered_beyond (x ∷ xs) (y ∷ ys) (suc q) zero n m h = h
numbered_beyond (x ∷ xs) (y ∷ ys) (suc q) (suc u) n m h = numbered_beyond xs ys q u n m h

pub beyond_operation : (k c d : Clock) (q n l : ℕ) → n ≡ l → Beyond k c d → Beyond k (with_op c q n) (with_op d q l)
beyond_operation k c d q n l e h =
    subst (λ i. Beyond k (with_op c q n) (with_op d q i)) e
    (record { queues = λ u. numbered_beyond c.queues d.queues q u n (number k.queues u) (h.queues u); threads = h.threads })

beyond_empty : (k d : Clock) → Beyond k empty_clock d
beyond_empty k d = record { queues = λ q. omega arith; threads = λ t. omega arith }

beyond_cond : (k : Clock) (b : Bool) (x y u v : Clock) → Beyond k x u → Beyond k y v → Beyond k (cond b x y) (cond b u v)
beyond_cond k true x y u v h g = h
beyond_cond k false x y u v h g = g

beyond_sufficient : (k : Clock) (v : ℕ) (us ws : List Update) → Both (SameUpdate k) us ws → Beyond k (sufficient v us) (sufficient v ws)
beyond_sufficient k v [] [] b = beyond_empty k empty_clock
beyond_sufficient k v [] (x ∷ ws) b = absurd b
beyond_sufficient k v (u ∷ us) [] b = absurd b
beyond_sufficient k v (u ∷ us) (x ∷ ws) b =
    let r = b.0 in
    subst (λ n. Beyond k (cond (nat_le v u.value) u.clock (sufficient v us)) (cond (nat_le v n) x.clock (sufficient v ws))) r.value
    (beyond_cond k (nat_le v u.value) u.clock (sufficient v us) x.clock (sufficient v ws) r.clock (beyond_sufficient k v us ws b.1))

beyond_marking : (k : Clock) (us ws : List (List Update)) (f i l v : ℕ) → i ≡ l → Both (Both (SameUpdate k)) us ws → Beyond k (marking us f i v) (marking ws f l v)
beyond_marking k us ws f i l v e b =
    subst (λ n. Beyond k (marking us f i v) (marking ws f n v)) e
    (beyond_sufficient k v (drop i (item_or [] us f)) (drop i (item_or [] ws f)) (both_drop (SameUpdate k) i (item_or [] us f) (item_or [] ws f) (both_at (Both (SameUpdate k)) [] [] us ws f tt b)))

beyond_marked : (k : Clock) (s z : Clocks) (p r : Pending) (o : Work) → Behind k s z → p.since ≡ r.since → Beyond k (marked s p o) (marked z r o)
beyond_marked k s z p r (Executes cs) b e = beyond_empty k empty_clock
beyond_marked k s z p r (Signals f v) b e = beyond_empty k empty_clock
beyond_marked k s z p r (Waits f v) b e = beyond_marking k s.updates z.updates f p.since r.since v e b.updates

pub beyond_completing : (k : Clock) (s z : Clocks) (q : ℕ) (p r : Pending) → Behind k s z → SamePending k p r → Beyond k (completing s q p) (completing z q r)
beyond_completing k s z q p r b h =
    beyond_operation k (queue_joined s q p) (queue_joined z q r) q (next_number s q) (next_number z q) (ap (λ e. suc (number e.queues q)) b.ends)
    (beyond_join k (joined p.clock (queue_clock s q)) (marked s p p.what) (joined r.clock (queue_clock z q)) (marked z r r.what)
    (beyond_join k p.clock (queue_clock s q) r.clock (queue_clock z q) h.clock (both_at (Beyond k) empty_clock empty_clock s.queues z.queues q (beyond_empty k empty_clock) b.queues))
    (subst (λ o. Beyond k (marked s p p.what) (marked z r o)) h.what (beyond_marked k s z p r p.what b h.since)))

both_updated : (k c d : Clock) (o : Work) (us ws : List (List Update)) → Beyond k c d → Both (Both (SameUpdate k)) us ws → Both (Both (SameUpdate k)) (updated c o us) (updated d o ws)
both_updated k c d (Executes cs) us ws h b = b
both_updated k c d (Signals f v) us ws h b =
    both_changed (Both (SameUpdate k)) _ _ f us ws (λ x y r. both_append (SameUpdate k) x y _ _ r (record { value = refl; clock = h })) b
both_updated k c d (Waits f v) us ws h b = b

behind_some : (k : Clock) (s z : Clocks) (q : ℕ) (p r : Pending) → Behind k s z → SamePending k p r → Behind k (completed s q (Some p)) (completed z q (Some r))
behind_some k s z q p r b h =
    let c : Beyond k (completing s q p) (completing z q r) = beyond_completing k s z q p r b h in
    record {
      ends = ap (λ e. one_completion_more e q) b.ends;
      queues = both_changed (Beyond k) _ _ q s.queues z.queues (λ _ _ _. c) b.queues;
      pending = both_changed (Both (SamePending k)) (drop 1) (drop 1) q s.pending z.pending (λ xs ys r. both_drop (SamePending k) 1 xs ys r) b.pending;
      updates = subst (λ o. Both (Both (SameUpdate k)) (updated (completing s q p) p.what s.updates) (updated (completing z q r) o z.updates)) h.what
          (both_updated k (completing s q p) (completing z q r) p.what s.updates z.updates c b.updates);
    }

behind_head : (k : Clock) (s z : Clocks) (q : ℕ) (ps rs : List Pending) → Behind k s z → Both (SamePending k) ps rs → Behind k (completed s q (head ps)) (completed z q (head rs))
behind_head k s z q [] [] b h = b
behind_head k s z q [] (r ∷ rs) b h = absurd h
behind_head k s z q (p ∷ ps) [] b h = absurd h
behind_head k s z q (p ∷ ps) (r ∷ rs) b h = behind_some k s z q p r b h.0

behind_all : (k : Clock) (s z : Clocks) (qs : List ℕ) → Behind k s z → Behind k (carried_all s (map Completes qs)) (carried_all z (map Completes qs))
behind_all k s z [] b = b
behind_all k s z (q ∷ qs) b =
    behind_all k (carried s (Completes q)) (carried z (Completes q)) qs
    (behind_head k s z q (item_or [] s.pending q) (item_or [] z.pending q) b (both_at (Both (SamePending k)) [] [] s.pending z.pending q tt b.pending))

beyond_within : (k c : Clock) → Within c k → Beyond k c empty_clock
beyond_within k c w = record { queues = λ q. let h = w.queues q in omega (arith, h); threads = λ t. let h = w.threads t in omega (arith, h) }

behind_first : (s : Clocks) → Sound s → Behind s.ends s (forgotten s)
behind_first s z = record {
  ends = refl;
  queues = both_map (Beyond s.ends) (λ c. Within c s.ends) (λ _. empty_clock) s.queues (λ c w. beyond_within s.ends c w) z.queues;
  pending = both_map (Both (SamePending s.ends)) (λ ps. Each (λ p. Within p.clock s.ends) ps) (λ ps. map forgotten_pending ps) s.pending
      (λ ps. both_map (SamePending s.ends) (λ p. Within p.clock s.ends) forgotten_pending ps
      (λ p w. record { what = refl; since = refl; clock = beyond_within s.ends p.clock w })) z.pending;
  updates = both_map (Both (SameUpdate s.ends)) (λ us. Each (λ u. Within u.clock s.ends) us) (λ us. map forgotten_update us) s.updates
      (λ us. both_map (SameUpdate s.ends) (λ u. Within u.clock s.ends) forgotten_update us
      (λ u w. record { value = refl; clock = beyond_within s.ends u.clock w })) z.updates;
}

pub ahead : (s : Clocks) (qs : List ℕ) → Sound s → Behind s.ends (carried_all s (map Completes qs)) (carried_all (forgotten s) (map Completes qs))
ahead s qs z = behind_all s.ends s (forgotten s) qs (behind_first s z)
