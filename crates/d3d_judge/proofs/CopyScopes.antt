-- What copies break, by tables: all that was complete before a scope is known to the counts, and what is not is of the scope.
use Rattle.std.proofs.Common.{ℕ, ◌≡◌, ◌<◌, ◌≤◌, ◌∙◌, nat_le, cond, refl, ap, sym, subst, arith, List, [], ◌∷◌, ◌++◌, map, length, Bool, true, false, not, ◌&&◌, ◌||◌, inl, inr}
use Rattle.std.specs.List.{list_any}
use Rattle.std.proofs.lemmas.Bool.{cases_eq}
use Rattle.std.proofs.lemmas.List.Folds.{list_any-append}
use Rattle.dx_base.specs.Each.{Each}
use Rattle.dx_base.proofs.Each.{each_on, each_append, each_new}
use Rattle.dx_flags.specs.declared.atoms.Part.{Part}
use Rattle.clocks.specs.declared.clock.Clock.{Clock}
use Rattle.clocks.specs.Clocks.{Act, OfQueue, OfThread, number, numbered, knows, with_op}
use Rattle.d3d_machine.specs.declared.world.World.{World}
use Rattle.d3d_judge.specs.Commands.{Range, Access, pair_of, Accesses}
use Rattle.d3d_judge.specs.Setting.{Setting}
use Rattle.d3d_judge.specs.Touches.{Touch, conflict, overlaps, meets, is_operation, breaks_one, breaks_ten, doing_of, touch_of}
use Rattle.d3d_judge.specs.Tables.{OfQueues, OfThreads}
use Rattle.d3d_judge.specs.Scopes.{Opened, Scoped, covered, opened_of, uncovers, unlost, scope_command}
use Rattle.d3d_judge.specs.CopyScopes.{IsDone, touch_opened, InScope}
use Rattle.d3d_judge.proofs.Carried.{number_put, number_other}

-- a number that is at most another
at_most : (a b : ℕ) → nat_le a b ≡ true → a ≤ b
at_most a b h = grind (arith, h)

is_most : (a b : ℕ) → a ≤ b → nat_le a b ≡ true
is_most a b h = grind (arith, h)

is_above : (a b : ℕ) → b < a → nat_le a b ≡ false
is_above a b h = grind (arith, h)

module _ (w : World) (made : List Touch) (joint counts : Clock) (q n : ℕ) (s : Scoped) (h : InScope w made joint counts q n s) where
  -- the scope's own number tells nothing of what was complete before
  knows_same : (a : Act) → knows counts a ≡ true → knows (with_op joint q n) a ≡ knows joint a
  knows_same (OfThread t k) e = refl
  knows_same (OfQueue p k) e =
      let l = at_most k (number counts.queues p) e in
      elim (cases_eq p q) [
        | inl g ↦
            let here : number (numbered q n joint.queues) p ≡ n = subst (λ x. number (numbered q n joint.queues) x ≡ n) (sym g) (number_put joint.queues q n) in
            let own : number counts.queues p ≤ number joint.queues p = subst (λ x. number counts.queues x ≤ number joint.queues x) (sym g) h.own in
            let next : number counts.queues p < n = subst (λ x. number counts.queues x < n) (sym g) h.next in
            is_most k (number (numbered q n joint.queues) p) (omega (arith, here, next, l)) ∙ sym (is_most k (number joint.queues p) (omega (arith, own, l)))
        | inr m ↦ ap (λ x. nat_le k x) (number_other joint.queues q p n m)
      ]

  abbrev one_by : Clock → Touch → Touch → Bool
  one_by c t m = is_operation m.act && (meets m t && not (knows c m.act))

  abbrev ten_by : Clock → Touch → Touch → Bool
  ten_by c t m = not (is_operation m.act) && (meets m t && not (knows c m.act))

  made_alike : (f g : Touch → Bool) → ((m : Touch) → knows counts m.act ≡ true → f m ≡ g m) → (ms : List Touch) → Each (IsDone w counts) ms → list_any f ms ≡ list_any g ms
  made_alike f g k [] d = refl
  made_alike f g k (m ∷ ms) d = rw (k m d.0.known) (rw (made_alike f g k ms d.1) refl)

  made_none : (f : Touch → Bool) → ((m : Touch) → knows counts m.act ≡ true → f m ≡ false) → (ms : List Touch) → Each (IsDone w counts) ms → list_any f ms ≡ false
  made_none f k [] d = refl
  made_none f k (m ∷ ms) d = rw (k m d.0.known) (made_none f k ms d.1)

  opened_none : (f : Touch → Bool) → ((o : Opened) → f (touch_opened (OfQueue q n) o) ≡ false) → (os : List Opened) → list_any f (map (touch_opened (OfQueue q n)) os) ≡ false
  opened_none f k [] = refl
  opened_none f k (o ∷ os) = rw (k o) (opened_none f k os)

  or_false : (b : Bool) → (b || false) ≡ b
  or_false true = refl
  or_false false = refl

  and_false : (b : Bool) → (b && false) ≡ false
  and_false true = refl
  and_false false = refl

  -- of what was made before and what the scope touched so far, by a test of each
  parts : (f : Touch → Bool) → list_any f (made ++ s.touched) ≡ (list_any f made || list_any f (map (touch_opened (OfQueue q n)) s.opened))
  parts f = list_any-append f made s.touched ∙ ap (λ ts. list_any f made || list_any f ts) h.touched

  own_known : knows (with_op joint q n) (OfQueue q n) ≡ true
  own_known = is_most n (number (numbered q n joint.queues) q) (let e = number_put joint.queues q n in omega (arith, e))

  own_unknown : knows counts (OfQueue q n) ≡ false
  own_unknown = is_above n (number counts.queues q) h.next

  -- B1, asked of the tables by the scope's clock with its own number
  pub one_in_scope : (t : Touch) → breaks_one (with_op joint q n) (made ++ s.touched) t ≡ breaks_one joint made t
  one_in_scope t =
      parts (one_by (with_op joint q n) t)
      ∙ (ap (λ b. list_any (one_by (with_op joint q n) t) made || b)
      (opened_none (one_by (with_op joint q n) t) (λ o. rw own_known (and_false (meets (touch_opened (OfQueue q n) o) t))) s.opened)
      ∙ (or_false (list_any (one_by (with_op joint q n) t) made)
      ∙ made_alike (one_by (with_op joint q n) t) (one_by joint t) (λ m k. rw (knows_same m.act k) refl) made h.done))

  ten_alike : (t : Touch) (m : Touch) (a : Act) → (not (is_operation a) && (meets m t && not (knows (with_op joint q n) a))) ≡ (not (is_operation a) && (meets m t && not (knows joint a)))
  ten_alike t m (OfQueue p k) = refl
  ten_alike t m (OfThread u k) = refl

  -- B10 by the same clock
  pub ten_in_scope : (t : Touch) → breaks_ten (with_op joint q n) (made ++ s.touched) t ≡ breaks_ten joint made t
  ten_in_scope t =
      parts (ten_by (with_op joint q n) t)
      ∙ (ap (λ b. list_any (ten_by (with_op joint q n) t) made || b) (opened_none (ten_by (with_op joint q n) t) (λ o. refl) s.opened)
      ∙ (or_false (list_any (ten_by (with_op joint q n) t) made)
      ∙ made_alike (ten_by (with_op joint q n) t) (ten_by joint t) (λ m k. ten_alike t m m.act) made h.done))

  hidden : (op me kn : Bool) → kn ≡ true → (op && (me && not kn)) ≡ false
  hidden true true kn e = rw e refl
  hidden true false kn e = refl
  hidden false me kn e = refl

  bare_covers : (o : Opened) (part : Part) (a : Access) → o.adders ≡ [] → covered o (pair_of part a) ≡ false
  bare_covers o part a e = rw e refl

  met_and_not : (x y c k : Bool) → c ≡ false → k ≡ false → ((x && y) && not k) ≡ (x && (y && not c))
  met_and_not true true c k e f = rw e (rw f refl)
  met_and_not true false c k e f = refl
  met_and_not false y c k e f = refl

  uncovered : (act : Act) (part : Part) (a : Access) (os : List Opened) → Each (λ o. o.adders ≡ []) os →
      list_any (one_by counts (touch_of act a)) (map (touch_opened (OfQueue q n)) os) ≡ list_any (uncovers part a) os
  uncovered act part a [] b = refl
  uncovered act part a (o ∷ os) b =
      rw (met_and_not (conflict o.doing (doing_of a)) (overlaps o.range a.range) (covered o (pair_of part a)) (knows counts (OfQueue q n)) (bare_covers o part a b.0) own_unknown)
      (rw (uncovered act part a os b.1) refl)

  -- B2, asked of the tables by what was complete before
  pub two_in_scope : (act : Act) (part : Part) (a : Access) → breaks_one counts (made ++ s.touched) (touch_of act a) ≡ list_any (uncovers part a) s.opened
  two_in_scope act part a =
      parts (one_by counts (touch_of act a))
      ∙ (ap (λ b. b || list_any (one_by counts (touch_of act a)) (map (touch_opened (OfQueue q n)) s.opened))
      (made_none (one_by counts (touch_of act a)) (λ m k. hidden (is_operation m.act) (meets m (touch_of act a)) (knows counts m.act) k) made h.done)
      ∙ uncovered act part a s.opened h.bare)

  -- what was made, and what the scope touched, is of the world's queues and threads
  opened_of_queues : (os : List Opened) → OfQueues (length w.queues) (map (touch_opened (OfQueue q n)) os)
  opened_of_queues [] = tt
  opened_of_queues (o ∷ os) = ((λ p k e. let same : q ≡ p = queue_is q n p k e in subst (λ x. x < length w.queues) same h.queue), opened_of_queues os)
    where
      queue_is : (a b c d : ℕ) → OfQueue a b ≡ OfQueue c d → a ≡ c
      queue_is a b c d e = cc

  opened_of_threads : (os : List Opened) → OfThreads (length w.scripts) (map (touch_opened (OfQueue q n)) os)
  opened_of_threads [] = tt
  opened_of_threads (o ∷ os) = ((λ p k e. not_thread q n p k e), opened_of_threads os)
    where
      not_thread : {P : Type 0} (a b c d : ℕ) → OfQueue a b ≡ OfThread c d → P
      not_thread a b c d e = absurd (cc)

  pub of_queues : OfQueues (length w.queues) (made ++ s.touched)
  of_queues =
      each_append (λ m. (p k : ℕ) → m.act ≡ OfQueue p k → p < length w.queues) made s.touched
      (each_on (IsDone w counts) (λ m. (p k : ℕ) → m.act ≡ OfQueue p k → p < length w.queues) made (λ m d. d.queue) h.done)
      (subst (λ ts. OfQueues (length w.queues) ts) (sym h.touched) (opened_of_queues s.opened))

  pub of_threads : OfThreads (length w.scripts) (made ++ s.touched)
  of_threads =
      each_append (λ m. (p k : ℕ) → m.act ≡ OfThread p k → p < length w.scripts) made s.touched
      (each_on (IsDone w counts) (λ m. (p k : ℕ) → m.act ≡ OfThread p k → p < length w.scripts) made (λ m d. d.thread) h.done)
      (subst (λ ts. OfThreads (length w.scripts) ts) (sym h.touched) (opened_of_threads s.opened))

  map_join : (xs ys : List Opened) → map (touch_opened (OfQueue q n)) (xs ++ ys) ≡ map (touch_opened (OfQueue q n)) xs ++ map (touch_opened (OfQueue q n)) ys
  map_join [] ys = refl
  map_join (x ∷ xs) ys = ap (λ t. touch_opened (OfQueue q n) x ∷ t) (map_join xs ys)

  opened_touches : (k : ℕ) (part : Part) (xs : List Access) → map (touch_of (OfQueue q n)) xs ≡ map (touch_opened (OfQueue q n)) (map (opened_of k part) xs)
  opened_touches k part [] = refl
  opened_touches k part (a ∷ xs) = ap (λ t. touch_of (OfQueue q n) a ∷ t) (opened_touches k part xs)

  -- nothing is lost where nothing was
  pub none_lost : (xs : List Access) → unlost xs [] ≡ []
  none_lost [] = refl
  none_lost (a ∷ xs) = subst (λ b. unlost xs b ≡ []) (sym (either_same a.writes [])) (none_lost xs)
    where
      either_same : (b : Bool) (rs : List Range) → cond b rs rs ≡ rs
      either_same true rs = refl
      either_same false rs = refl

  -- with accesses more
  pub goes_on : (base : Setting) (part : Part) (xs : List Access) → InScope w made joint counts q n (scope_command base (OfQueue q n) s (Accesses part xs))
  goes_on base part xs = record {
    done = h.done;
    queue = h.queue;
    next = h.next;
    own = h.own;
    touched = ap (λ ts. ts ++ map (touch_of (OfQueue q n)) xs) h.touched
        ∙ (ap (λ ts. map (touch_opened (OfQueue q n)) s.opened ++ ts) (opened_touches s.place part xs) ∙ sym (map_join s.opened (map (opened_of s.place part) xs)));
    bare = each_append (λ o. o.adders ≡ []) s.opened (map (opened_of s.place part) xs) h.bare (each_new (λ o. o.adders ≡ []) (opened_of s.place part) (λ a. refl) xs);
    lost = ap (unlost xs) h.lost ∙ none_lost xs;
  }
