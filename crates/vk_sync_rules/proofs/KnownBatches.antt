-- What batches know by their waits alone is done, and its accesses enter them.
use Rattle.std.proofs.Common.{◌≡◌, ℕ, zero, suc, ◌<◌, ◌≤◌, ◌==◌, ◌∙◌, nat_le, nat_lt, Bool, true, false, ◌&&◌, ◌⊎◌, inl, inr, List, [], ◌∷◌, ◌++◌, length, slice_get, refl, sym, ap, subst, arith, Option, Some, None, append_assoc}
use Rattle.std.specs.List.{list_any}
use Rattle.std.proofs.lemmas.Bool.{and_parts, cases_Bool, or_cases, or_right, or_left, eqb-true, leb-true}
use Rattle.std.proofs.lemmas.Option.{none-some}
use Rattle.dx_base.specs.Each.{Each}
use Rattle.dx_base.proofs.Each.{each_append, each_from, each_got}
use Rattle.vk_types.specs.declared.batches.Batch.{Batch}
use Rattle.vk_sync_rules.specs.declared.accesses.DoneAccess.{DoneAccess}
use Rattle.vk_sync_rules.specs.declared.accesses.Gain.{Gain}
use Rattle.vk_sync_rules.specs.declared.accesses.Maker.{Maker}
use Rattle.vk_sync_rules.specs.BatchEnds.{ArePassed, IsEnded, IsReached}
use Rattle.vk_sync_rules.specs.DoneAccesses.{covers, is_covered, is_ended}
use Rattle.vk_sync_rules.specs.Entries.{Enters}
use Rattle.vk_sync_rules.specs.Knowledge.{AllObey, IsAfter, IsAmong, IsKnown, IsUpToDate, Obeys, Seen, seen, seens, sets_for}
use Rattle.vk_sync_rules.specs.Makers.{AreOwned, HasOwner}
use Rattle.vk_sync_rules.specs.Timelines.{AreTimed, IsEntered, IsOfBatch, WaitersEntered, doing_of}
use Rattle.vk_sync_rules.specs.VkState.{VkState, batch_in, counter_of, counts_of}
use Rattle.vk_sync_rules.proofs.Entries.{earlier_enter, entered_end, entered_stay, waits_enter}
use Rattle.vk_sync_rules.proofs.Knowledge.{all_up_to_date, any_at, seen_splits}
use Rattle.vk_sync_rules.proofs.Soundness.{same_item}
use Rattle.vk_sync_rules.proofs.Timelines.{all_got, got_less, got_more}

-- what batches know, place by place with their batches
abbrev pub AreOf : List Seen → List Batch → Type 0
AreOf es pre = (k : ℕ) (e : Seen) → slice_get es k ≡ Some e → slice_get pre k ≡ Some e.batch

-- items of a list in two parts
got_first : {A : Type 0} (xs ys : List A) (k : ℕ) (x : A) → slice_get xs k ≡ Some x → slice_get (xs ++ ys) k ≡ Some x
got_first [] ys zero x h = absurd (none-some x h)
got_first [] ys (suc k) x h = absurd (none-some x h)
got_first (z ∷ xs) ys zero x h = h
got_first (z ∷ xs) ys (suc k) x h = got_first xs ys k x h

got_here : {A : Type 0} (xs : List A) (y : A) (ys : List A) → slice_get (xs ++ y ∷ ys) (length xs) ≡ Some y
got_here [] y ys = refl
got_here (x ∷ xs) y ys = got_here xs y ys

got_end : {A : Type 0} (xs : List A) (y : A) → slice_get (xs ++ y ∷ []) (length xs) ≡ Some y
got_end xs y = got_here xs y []

same_lengths : (es : List Seen) (pre : List Batch) (s : Seen) → length es ≡ length pre → AreOf es pre → AreOf (es ++ s ∷ []) (pre ++ s.batch ∷ [])
same_lengths es pre s same are k e h = elim (got_more es s k e h) [
  | inl old ↦ got_first pre (s.batch ∷ []) k e.batch (are k e old)
  | inr new ↦
      subst (λ (x : Seen). slice_get (pre ++ s.batch ∷ []) k ≡ Some x.batch) new.1
      (subst (λ m. slice_get (pre ++ s.batch ∷ []) m ≡ Some s.batch) (sym (new.0 ∙ same)) (got_end pre s.batch))
]

longer : {A : Type 0} (xs : List A) (y : A) → length (xs ++ y ∷ []) ≡ suc (length xs)
longer [] y = refl
longer (x ∷ xs) y = ap suc (longer xs y)

-- a value that is among some is one that a batch sets, or below it
module _ (owner : ℕ → ℕ) (v : VkState) (are : ArePassed v) (is : AreTimed owner v) where
  wait_reached : (b : Batch) → batch_in b.queue b.number v.journal ≡ Some b → b.number < (counts_of v b.queue).passed → (k : ℕ) (w : ℕ × ℕ) → slice_get b.waits k ≡ Some w → w.1 ≤ counter_of v w.0
  wait_reached b there passed k w at =
      leb-true w.1 (counter_of v w.0) (all_got (λ (wait : ℕ × ℕ). nat_le wait.1 (counter_of v wait.0)) b.waits k w (are.waited b.queue b.number b there passed) at)

  -- a batch that sets a value that is reached has ended
  set_ended : (k : ℕ) (b : Batch) → slice_get v.journal k ≡ Some b → (a : ℕ) (s : ℕ × ℕ) → slice_get b.sets a ≡ Some s → s.1 ≤ counter_of v s.0 → b.number < (counts_of v b.queue).ended
  set_ended k b h a s hs reached = elim (cases_Bool (nat_lt b.number (counts_of v b.queue).ended)) [
    | inl ended ↦ grind (arith, ended)
    | inr left ↦ absurd (let up = is.above k b a s h hs (grind (arith, left)) in omega (arith, up, reached))
  ]

  obeys : (k : ℕ) (b : Batch) → slice_get v.journal k ≡ Some b → Obeys (doing_of owner v) b
  obeys k b h = record {
    waited = λ passed t x among. let at : counter_of v among.pair.0 ≡ counter_of v t = ap (counter_of v) among.timeline in let up = wait_reached b (is.there k b h) passed among.place among.pair among.there in let le = among.value in omega (arith, at, up, le);
    has_set = λ ended t x among. let at : counter_of v among.pair.0 ≡ counter_of v t = ap (counter_of v) among.timeline in let up = is.reached k b among.place among.pair h among.there ended in let le = among.value in omega (arith, at, up, le);
    was_ended = λ s place hs reached. set_ended k b h place s hs reached;
    owned = λ t x among. ap owner (sym among.timeline) ∙ (is.own k b h).owned among.place among.pair among.there;
  }

  after : (i k : ℕ) (e b : Batch) → i < k → slice_get v.journal i ≡ Some e → slice_get v.journal k ≡ Some b → IsAfter (doing_of owner v) b e
  after i k e b less he hb = record {
    passes = λ queue h. let lower = is.numbers i k e b less he hb queue in let at : (counts_of v e.queue).passed ≡ (counts_of v b.queue).passed = ap (λ x. (counts_of v x).passed) queue in omega (arith, lower, at, h);
    ends = λ queue h. let lower = is.numbers i k e b less he hb queue in let at : (counts_of v e.queue).ended ≡ (counts_of v b.queue).ended = ap (λ x. (counts_of v x).ended) queue in omega (arith, lower, at, h);
  }

  all_obey : (es : List Seen) (pre bs : List Batch) → v.journal ≡ pre ++ bs → length es ≡ length pre → AreOf es pre → AllObey (doing_of owner v) es bs
  all_obey es pre [] parts same of = tt
  all_obey es pre (b ∷ bs) parts same of = (
    obeys (length pre) b here,
    (λ ended. let le = are.ended_passed b.queue in omega (arith, ended, le)),
    each_from (λ (e : Seen). Obeys (doing_of owner v) e.batch × IsAfter (doing_of owner v) b e.batch) es
        (λ k e h. (obeys k e.batch (earlier k e h), after k (length pre) e.batch b (let less = got_less es k e h in omega (arith, less, same)) (earlier k e h) here)),
    all_obey (es ++ seen es b ∷ []) (pre ++ b ∷ []) bs (parts ∙ sym (append_assoc pre (b ∷ []) bs)) (longer es (seen es b) ∙ (ap suc same ∙ sym (longer pre b))) (same_lengths es pre (seen es b) same of),
  ) where
    here : slice_get v.journal (length pre) ≡ Some b
    here = subst (λ j. slice_get j (length pre) ≡ Some b) (sym parts) (got_here pre b bs)

    earlier : (k : ℕ) (e : Seen) → slice_get es k ≡ Some e → slice_get v.journal k ≡ Some e.batch
    earlier k e h = subst (λ j. slice_get j k ≡ Some e.batch) (sym parts) (got_first pre (b ∷ bs) k e.batch (of k e h))

  none_of : AreOf [] []
  none_of zero e h = absurd (none-some e h)
  none_of (suc k) e h = absurd (none-some e h)

  pub known_done : Each (IsUpToDate (doing_of owner v)) (seens [] v.journal)
  known_done = all_up_to_date (doing_of owner v) [] v.journal (all_obey [] [] v.journal refl refl none_of) tt

-- an item that is found, and a test of it
pub got_any : {A : Type 0} (f : A → Bool) (xs : List A) (k : ℕ) (x : A) → slice_get xs k ≡ Some x → f x ≡ true → list_any f xs ≡ true
got_any f [] zero x e h = absurd (none-some x e)
got_any f [] (suc k) x e h = absurd (none-some x e)
got_any f (y ∷ xs) zero x e h = or_left (f y) (list_any f xs) (subst (λ z. f z ≡ true) (sym (same_item y x e)) h)
got_any f (y ∷ xs) (suc k) x e h = or_right (f y) (list_any f xs) (got_any f xs k x e h)

module _ (owner : ℕ → ℕ) (v : VkState) (first : Batch) (t value : ℕ) (r : DoneAccess) (are : ArePassed v) (is : AreTimed owner v) (owned : AreOwned v) (of : IsOfBatch v first t value r) where
  there_first : batch_in first.queue first.number v.journal ≡ Some first
  there_first = is.there of.place first of.there

  -- it ends with its batch, and enters the later ones of the queue
  ended_first : is_ended first.queue first.number r ≡ true
  ended_first = by_maker r.by refl where
    by_maker : (o : Option Maker) → r.by ≡ o → is_ended first.queue first.number r ≡ true
    by_maker None e = absurd (none-some of.maker (sym e ∙ of.made.is))
    by_maker (Some m) e =
        let same : m ≡ of.maker = same_item m of.maker (sym e ∙ of.made.is) in
        let queue : m.queue ≡ first.queue = ap (λ (x : Maker). x.queue) same ∙ of.queue in
        let number : m.place.number ≡ first.number = ap (λ (x : Maker). x.place.number) same ∙ of.number in
        or_left (elim r.by [ None ↦ false | Some m ↦ (m.queue == first.queue) && nat_le m.place.number first.number ]) (list_any (λ (g : Gain). (g.queue == first.queue) && nat_le g.place.number first.number) r.gains)
        (subst (λ o. elim o [ None ↦ false | Some m ↦ (m.queue == first.queue) && nat_le m.place.number first.number ] ≡ true) (sym e) (grind (arith, queue, number)))

  enters_first : (n : ℕ) → first.number < n → Enters first.queue n r
  enters_first n less =
      subst (λ q. Enters q n r) of.queue
      (earlier_enter v of.maker n r (each_got (HasOwner v.plan v.done v.journal) v.accesses of.index r owned of.access) of.made (let number = of.number in omega (arith, number, less)))

  -- where a batch has ended, what ended with it enters a batch that waits for one of its values
  by_wait : (b e : Batch) → batch_in b.queue b.number v.journal ≡ Some b → b.number < (counts_of v b.queue).passed → batch_in e.queue e.number v.journal ≡ Some e → e.number < (counts_of v e.queue).ended →
      is_ended e.queue e.number r ≡ true → is_covered b.waits e.sets ≡ true → Enters b.queue b.number r
  by_wait b e there passed there_e ended_e ended cover =
      let end : IsEnded e.queue e.number e.sets r = each_got (IsEnded e.queue e.number e.sets) v.accesses of.index r (are.ended e.queue e.number e there_e ended_e) of.access in
      let reach : IsReached b.queue b.number b.waits r = each_got (IsReached b.queue b.number b.waits) v.accesses of.index r (are.reach b.queue b.number b there passed) of.access in
      waits_enter b.queue b.number b.waits r reach (end.signal b.waits ended cover)

  -- it enters a batch that waits for the value or a higher one
  by_waiter : (b : Batch) → batch_in b.queue b.number v.journal ≡ Some b → b.number < (counts_of v b.queue).passed → (i : ℕ) (w : ℕ × ℕ) → slice_get b.waits i ≡ Some w → w.0 ≡ t → value ≤ w.1 → Enters b.queue b.number r
  by_waiter b there passed i w found timeline high =
      let reach : w.1 ≤ counter_of v w.0 = wait_reached owner v are is b there passed i w found in
      let at : value ≤ counter_of v t = (let same : counter_of v w.0 ≡ counter_of v t = ap (counter_of v) timeline in omega (arith, reach, high, same)) in
      let here : ((t == w.0) && nat_le value w.1) ≡ true = grind (arith, timeline, high) in
      let cover : is_covered b.waits first.sets ≡ true = got_any (covers b.waits) first.sets of.pair (t, value) of.sets
      (got_any (λ (x : ℕ × ℕ). (t == x.0) && nat_le value x.1) b.waits i w found here) in
      by_wait b first there passed there_first (set_ended owner v are is of.place first of.there of.pair (t, value) of.sets at) ended_first cover

  pub waiters_enter : WaitersEntered v t value r
  waiters_enter k b i w found passed at timeline high = by_waiter b (is.there k b found) passed i w at timeline high

  -- a batch that sets the value or a higher one is the first one, or a later one of its queue
  by_own : (k : ℕ) (b : Batch) → slice_get v.journal k ≡ Some b → IsAmong t value b.sets → (b ≡ first) ⊎ ((b.queue ≡ first.queue) × (first.number < b.number))
  by_own k b h among =
      let queue : b.queue ≡ first.queue = sym ((is.own k b h).owned among.place among.pair among.there) ∙ (ap owner among.timeline ∙ (is.own of.place first of.there).owned of.pair (t, value) of.sets) in
      elim (cases_Bool (of.place == k)) [
        | inl same ↦ inl (same_item b first (sym h ∙ subst (λ x. slice_get v.journal x ≡ Some first) (eqb-true of.place k same) of.there))
        | inr other ↦ elim (cases_Bool (nat_lt of.place k)) [
          | inl less ↦ inr (queue, is.numbers of.place k first b (grind (arith, less)) of.there h (sym queue))
          | inr more ↦ absurd (
              let low = is.rising k of.place b first among.place of.pair among.pair (t, value) (grind (arith, other, more)) h of.there among.there of.sets among.timeline in
              let le = among.value in omega (arith, low, le))
        ]
      ]

  entered : (es : List Seen) (k : ℕ) (b : Batch) → slice_get v.journal k ≡ Some b → ((i : ℕ) (e : Seen) → slice_get es i ≡ Some e → (i < k) × (slice_get v.journal i ≡ Some e.batch)) →
      Each (IsEntered v first t value r) es → IsEntered v first t value r (seen es b)
  entered es k b at_b before all passed knows = elim (seen_splits es b t value of.some knows) [
    | inl own ↦ elim (by_own k b at_b own) [
      | inl same ↦ inl same
      | inr later ↦ inr (subst (λ q. Enters q b.number r) (sym later.0) (enters_first b.number later.1))
    ]
    | inr rest ↦ elim rest [
      | inl waited ↦ inr (by_waiter b there passed waited.place waited.pair waited.there waited.timeline waited.value)
      | inr known ↦ elim (or_cases (known.earlier.batch.queue == b.queue) (sets_for b.waits known.earlier.batch) known.is) [
        | inl same ↦ by_queue known (eqb-true known.earlier.batch.queue b.queue same)
        | inr sets ↦ by_sets known sets
      ]
    ]
  ] where
    there : batch_in b.queue b.number v.journal ≡ Some b
    there = is.there k b at_b

    by_queue : (known : IsKnown t value b es) → known.earlier.batch.queue ≡ b.queue → (b ≡ first) ⊎ Enters b.queue b.number r
    by_queue known same_q =
        let e : Batch = known.earlier.batch in
        let old = before known.place known.earlier known.there in
        let less : e.number < b.number = is.numbers known.place k e b old.0 old.1 at_b same_q in
        let passed_e : e.number < (counts_of v e.queue).passed = (let at : (counts_of v e.queue).passed ≡ (counts_of v b.queue).passed = ap (λ x. (counts_of v x).passed) same_q in omega (arith, passed, less, at)) in
        elim (each_got (IsEntered v first t value r) es known.place known.earlier all known.there passed_e known.knows) [
          | inl is_first ↦ inr (subst (λ q. Enters q b.number r) (sym (ap (λ (x : Batch). x.queue) is_first) ∙ same_q) (enters_first b.number (let at : e.number ≡ first.number = ap (λ (x : Batch). x.number) is_first in omega (arith, less, at))))
          | inr enters ↦ inr (subst (λ q. Enters q b.number r) same_q (entered_stay e.queue e.number b.number r less enters))
        ]

    by_sets : (known : IsKnown t value b es) → sets_for b.waits known.earlier.batch ≡ true → (b ≡ first) ⊎ Enters b.queue b.number r
    by_sets known sets =
        let e : Batch = known.earlier.batch in
        let old = before known.place known.earlier known.there in
        let w = any_at (λ (w : ℕ × ℕ). list_any (λ (s : ℕ × ℕ). (s.0 == w.0) && nat_le s.1 w.1) e.sets) b.waits sets in
        let s = any_at (λ (s : ℕ × ℕ). (s.0 == w.1.0) && nat_le s.1 w.1.1) e.sets w.3 in
        let reach : w.1.1 ≤ counter_of v w.1.0 = wait_reached owner v are is b there passed w.0 w.1 w.2 in
        let parts = and_parts (s.1.0 == w.1.0) (nat_le s.1.1 w.1.1) s.3 in
        let at : s.1.1 ≤ counter_of v s.1.0 = (let same : counter_of v s.1.0 ≡ counter_of v w.1.0 = ap (counter_of v) (eqb-true s.1.0 w.1.0 parts.0) in let le = leb-true s.1.1 w.1.1 parts.1 in omega (arith, reach, same, le)) in
        let ended : e.number < (counts_of v e.queue).ended = set_ended owner v are is known.place e old.1 s.0 s.1 s.2 at in
        let there_e : batch_in e.queue e.number v.journal ≡ Some e = is.there known.place e old.1 in
        let passed_e : e.number < (counts_of v e.queue).passed = (let le = are.ended_passed e.queue in omega (arith, le, ended)) in
        let cover : is_covered b.waits e.sets ≡ true = got_any (covers b.waits) e.sets s.0 s.1 s.2
        (got_any (λ (x : ℕ × ℕ). (s.1.0 == x.0) && nat_le s.1.1 x.1) b.waits w.0 w.1 w.2 s.3) in
        elim (each_got (IsEntered v first t value r) es known.place known.earlier all known.there passed_e known.knows) [
          | inl is_first ↦ inr (by_wait b e there passed there_e ended (subst (λ (x : Batch). is_ended x.queue x.number r ≡ true) (sym is_first) ended_first) cover)
          | inr enters ↦ inr (by_wait b e there passed there_e ended (entered_end e.queue e.number r enters) cover)
        ]

  all_entered : (es : List Seen) (pre bs : List Batch) → v.journal ≡ pre ++ bs → length es ≡ length pre → AreOf es pre → Each (IsEntered v first t value r) es → Each (IsEntered v first t value r) (seens es bs)
  all_entered es pre [] parts same are_of all = all
  all_entered es pre (b ∷ bs) parts same are_of all =
      all_entered (es ++ seen es b ∷ []) (pre ++ b ∷ []) bs (parts ∙ sym (append_assoc pre (b ∷ []) bs)) (longer es (seen es b) ∙ (ap suc same ∙ sym (longer pre b))) (same_lengths es pre (seen es b) same are_of)
      (each_append (IsEntered v first t value r) es (seen es b ∷ []) all (entered es (length pre) b here earlier all, tt)) where
        here : slice_get v.journal (length pre) ≡ Some b
        here = subst (λ j. slice_get j (length pre) ≡ Some b) (sym parts) (got_here pre b bs)

        earlier : (i : ℕ) (e : Seen) → slice_get es i ≡ Some e → (i < length pre) × (slice_get v.journal i ≡ Some e.batch)
        earlier i e h = ((let less = got_less es i e h in omega (arith, less, same)), subst (λ j. slice_get j i ≡ Some e.batch) (sym parts) (got_first pre (b ∷ bs) i e.batch (are_of i e h)))

  pub known_enter : Each (IsEntered v first t value r) (seens [] v.journal)
  known_enter = all_entered [] [] v.journal refl refl (none_of owner v are is) tt
