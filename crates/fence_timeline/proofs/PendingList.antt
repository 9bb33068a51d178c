-- The pending updates of a fence: how they end, and which of them the counters reached.
use Rattle.std.proofs.Common.{ℕ, zero, suc, ◌≡◌, ◌≤◌, ◌<◌, ◌+◌, ◌-◌, ◌∙◌, refl, ap, sym, subst, List, [], ◌∷◌, ◌++◌, length, take, drop, slice_get, Option, Some, None, Bool, true, false, arith, min, inl, inr, ◌⊎◌}
use Rattle.std.specs.Prelude.{◌==◌, if◌then◌else◌}
use Rattle.std.specs.Option.{option_or}
use Rattle.std.proofs.lemmas.Bool.Decides.{nat_tests}
use Rattle.std.proofs.lemmas.List.{drop-append-le, drop_at, take-append-drop, length-take-le, length_push}
use Rattle.std.proofs.lemmas.Option.{slice_get_within, none-some}
use Rattle.dx_base.specs.Each.{Each}
use Rattle.dx_base.proofs.Each.{each_append}
use Rattle.fence_timeline.specs.declared.update.Target.{Target}
use Rattle.fence_timeline.specs.declared.update.Target.TheVariants.{Host, Gpu}
use Rattle.fence_timeline.specs.declared.update.Update.{Update}
use Rattle.fence_timeline.specs.FenceList.{other_queue, last_other, is_reached, HaveCounters, caught, left}
use Rattle.fence_timeline.specs.Endings.{IsOf, IsOfOther, EndsAlike, StandsReached}

-- of two lists
pub last_other_append : (q : ℕ) (us vs : List Update) → last_other q (us ++ vs) ≡ option_or (last_other q vs) (last_other q us)
last_other_append q [] vs = sym (or_nothing (last_other q vs))
  where
    or_nothing : (o : Option (ℕ × ℕ)) → option_or o None ≡ o
    or_nothing None = refl
    or_nothing (Some x) = refl
last_other_append q (u ∷ us) vs =
    ap (λ o. option_or o (other_queue q u.target)) (last_other_append q us vs)
    ∙ grouped (last_other q vs) (last_other q us) (other_queue q u.target)
  where
    grouped : (a b c : Option (ℕ × ℕ)) → option_or (option_or a b) c ≡ option_or a (option_or b c)
    grouped None b c = refl
    grouped (Some x) b c = refl

-- all of one queue: none of another
pub none_of_other : (q : ℕ) (us : List Update) → Each (λ u. IsOf q u.target) us → last_other q us ≡ None
none_of_other q [] own = refl
none_of_other q (u ∷ us) own =
    ap (λ o. option_or o (other_queue q u.target)) (none_of_other q us own.1) ∙ by_target u.target own.0
  where
    by_target : (t : Target) → IsOf q t → other_queue q t ≡ None
    by_target Host of = absurd of
    by_target (Gpu p v) of = let same : (p == q) ≡ true = grind (arith, nat_tests) in ap (λ b. if b then None else Some (p, v)) same

-- another queue's
pub is_of_other : (q : ℕ) (t : Target) → IsOfOther q t → (x : ℕ × ℕ) × (other_queue q t ≡ Some x)
is_of_other q Host of = absurd of
is_of_other q (Gpu p v) of =
    let differ : (p == q) ≡ false = grind (arith, nat_tests) in
    ((p, v), ap (λ b. if b then None else Some (p, v)) differ)

-- no other queue's than the own: the own
pub is_of_own : (c q : ℕ) (t : Target) → IsOf c t → other_queue q t ≡ None → c ≡ q
is_of_own c q Host of none = absurd of
is_of_own c q (Gpu p v) of none = by_test (p == q) refl
  where
    by_test : (b : Bool) → (p == q) ≡ b → c ≡ q
    by_test true is = grind (arith, nat_tests)
    by_test false is =
        let at : (if p == q then None else Some (p, v)) ≡ Some (p, v) = ap (λ (b : Bool). if b then None else Some (p, v)) is in
        let same : None ≡ Some (p, v) = sym none ∙ at in
        absurd (none-some (p, v) same)

-- the last update, where it is another queue's
pub last_is_other : (q : ℕ) (us : List Update) (n : ℕ) (u : Update) (x : ℕ × ℕ) → length us ≡ suc n → slice_get us n ≡ Some u → other_queue q u.target ≡ Some x →
    last_other q us ≡ Some x
last_is_other q [] n u x count got is = absurd (omega arith)
last_is_other q (y ∷ []) zero u x count got is = let same : y ≡ u = grind arith in rw same is
last_is_other q (y ∷ []) (suc n) u x count got is = absurd (omega arith)
last_is_other q (y ∷ z ∷ us) zero u x count got is = absurd (omega arith)
last_is_other q (y ∷ z ∷ us) (suc n) u x count got is =
    ap (λ o. option_or o (other_queue q y.target)) (last_is_other q (z ∷ us) n u x (omega arith) got is)

-- an item of a part of a list
pub each_dropped : {A : Type 0} (P : A → Type 0) (xs : List A) (k i : ℕ) (x : A) → Each P (drop k xs) → k ≤ i → slice_get xs i ≡ Some x → P x
each_dropped P [] k i x all le got = absurd (cc)
each_dropped P (y ∷ xs) zero zero x all le got = let same : y ≡ x = grind arith in subst P same all.0
each_dropped P (y ∷ xs) zero (suc i) x all le got = each_dropped P xs zero i x all.1 (omega arith) got
each_dropped P (y ∷ xs) (suc k) zero x all le got = absurd (omega arith)
each_dropped P (y ∷ xs) (suc k) (suc i) x all le got = each_dropped P xs k i x all (omega arith) got

-- an item of the first part of a list
pub got_front : {A : Type 0} (xs ys : List A) (i : ℕ) → i < length xs → slice_get (xs ++ ys) i ≡ slice_get xs i
got_front [] ys i within = absurd (omega arith)
got_front (x ∷ xs) ys zero within = refl
got_front (x ∷ xs) ys (suc i) within = got_front xs ys i (omega arith)

got_taken : {A : Type 0} (xs : List A) (k i : ℕ) → i < k → slice_get (take k xs) i ≡ slice_get xs i
got_taken xs zero i less = absurd (omega arith)
got_taken [] (suc k) i less = refl
got_taken (x ∷ xs) (suc k) zero less = refl
got_taken (x ∷ xs) (suc k) (suc i) less = got_taken xs k i (omega arith)

le_or_lt : (a b : ℕ) → (a ≤ b) ⊎ (b < a)
le_or_lt zero b = inl (omega arith)
le_or_lt (suc a) zero = inr (omega arith)
le_or_lt (suc a) (suc b) = elim (le_or_lt a b) [ inl low ↦ inl (omega arith) | inr high ↦ inr (omega arith) ]

-- how the list ends without its first update
pub ends_rest : (e : ℕ) (u : Update) (us : List Update) → EndsAlike e (u ∷ us) → EndsAlike e us
ends_rest e u us is = by_order (le_or_lt e (length us))
  where
    by_order : (e ≤ length us) ⊎ (length us < e) → EndsAlike e us
    by_order (inl low) = record {
      queue = is.queue;
      some = is.some;
      own =
          let start : suc (length us) - e ≡ suc (length us - e) = omega arith in
          subst (λ (k : ℕ). Each (λ (x : Update). IsOf is.queue x.target) (drop k (u ∷ us))) start is.own;
      other = λ x less got.
          let place : suc (length us) - 1 - e ≡ suc (length us - 1 - e) = omega arith in
          is.other x (omega arith) (ap (slice_get (u ∷ us)) place ∙ got);
    }
    by_order (inr high) = record {
      queue = is.queue;
      some = is.some;
      own =
          let all : suc (length us) - e ≡ 0 = omega arith in
          let none : length us - e ≡ 0 = omega arith in
          let own : Each (λ (x : Update). IsOf is.queue x.target) (u ∷ us) =
          subst (λ (k : ℕ). Each (λ (x : Update). IsOf is.queue x.target) (drop k (u ∷ us))) all is.own in
          subst (λ (k : ℕ). Each (λ (x : Update). IsOf is.queue x.target) (drop k us)) (sym none) own.1;
      other = λ x less got. absurd (omega arith);
    }

-- how the updates end that the counters did not reach
pub ends_left : (e : ℕ) (counters : List ℕ) (us : List Update) → EndsAlike e us → EndsAlike e (left counters us)
ends_left e counters [] is = is
ends_left e counters (u ∷ us) is = by_test (is_reached counters u.target) (ends_left e counters us (ends_rest e u us is))
  where
    by_test : (b : Bool) → EndsAlike e (left counters us) → EndsAlike e (if b then left counters us else u ∷ us)
    by_test true rest = rest
    by_test false rest = is

-- a list without a last item is empty
pub nothing_last : {A : Type 0} (xs : List A) → slice_get xs (length xs - 1) ≡ None → xs ≡ []
nothing_last [] none = refl
nothing_last (x ∷ xs) none = absurd (omega (arith, got_none (x ∷ xs) (length (x ∷ xs) - 1) none))
  where
    got_none : {A : Type 0} (ys : List A) (i : ℕ) → slice_get ys i ≡ None → length ys ≤ i
    got_none [] i is = omega arith
    got_none (y ∷ ys) zero is = absurd (cc)
    got_none (y ∷ ys) (suc i) is = omega (arith, got_none ys i is)

-- one more update, of another queue than the last
pub lone_end : (us : List Update) (w : Update) (q : ℕ) → IsOf q w.target → ((x : Update) → slice_get us (length us - 1) ≡ Some x → IsOfOther q x.target) → EndsAlike 1 (us ++ w ∷ [])
lone_end us w q of other = record {
  queue = q;
  some = omega arith;
  own =
      let start : length (us ++ w ∷ []) - 1 ≡ length us = omega (arith, length_push us w) in
      rw (start, drop_at us (w ∷ []) (length us) refl) (of, tt);
  other = λ x less got.
      let place : length (us ++ w ∷ []) - 1 - 1 ≡ length us - 1 = omega (arith, length_push us w) in
      let some : 1 ≤ length us = omega (arith, length_push us w) in
      other x (sym (got_front us (w ∷ []) (length us - 1) (omega arith)) ∙ ap (slice_get (us ++ w ∷ [])) (sym place) ∙ got);
}

same_queue : (p q : ℕ) (t : Target) → IsOf p t → IsOf q t → p ≡ q
same_queue p q Host of too = absurd of
same_queue p q (Gpu r v) of too = sym of ∙ too

-- the last update is of the queue of the ending
pub last_own : (us : List Update) (e : ℕ) (x : Update) → (is : EndsAlike e us) → slice_get us (length us - 1) ≡ Some x → IsOf is.queue x.target
last_own us e x is last =
    let within = slice_get_within us (length us - 1) x last in
    each_dropped (λ u. IsOf is.queue u.target) us (length us - e) (length us - 1) x is.own (omega (arith, is.some)) last

-- one more update, of the queue of the last
pub joined_end : (us : List Update) (w x : Update) (q e more : ℕ) → EndsAlike e us → slice_get us (length us - 1) ≡ Some x → IsOf q x.target → IsOf q w.target →
    more ≡ min e (length us) + 1 → EndsAlike more (us ++ w ∷ [])
joined_end us w x q e more is last of too count = record {
  queue = is.queue;
  some = omega arith;
  own =
      let start : length (us ++ w ∷ []) - more ≡ length us - e = omega (arith, length_push us w) in
      let same : is.queue ≡ q = same_queue is.queue q x.target (last_own us e x is last) of in
      rw (start, drop-append-le (length us - e) us (w ∷ []) (omega arith))
      (each_append (λ u. IsOf is.queue u.target) (drop (length us - e) us) (w ∷ []) is.own (rw same too, tt));
  other = λ y less got.
      let place : length (us ++ w ∷ []) - 1 - more ≡ length us - 1 - e = omega (arith, length_push us w) in
      let fewer : e < length us = omega (arith, length_push us w) in
      is.other y fewer (sym (got_front us (w ∷ []) (length us - 1 - e) (omega arith)) ∙ ap (slice_get (us ++ w ∷ [])) (sym place) ∙ got);
}

-- the last update is another queue's
pub other_found : (us : List Update) (q : ℕ) (x : Update) (p : ℕ × ℕ) → slice_get us (length us - 1) ≡ Some x → other_queue q x.target ≡ Some p → last_other q us ≡ Some p
other_found us q x p last is =
    let within = slice_get_within us (length us - 1) x last in
    last_is_other q us (length us - 1) x p (omega arith) last is

-- the updates of the ending are none of another queue, where the last is not
ending_none : (us : List Update) (e q : ℕ) (x : Update) → EndsAlike e us → slice_get us (length us - 1) ≡ Some x → other_queue q x.target ≡ None →
    last_other q (drop (length us - e) us) ≡ None
ending_none us e q x is last none =
    let same : is.queue ≡ q = is_of_own is.queue q x.target (last_own us e x is last) none in
    none_of_other q (drop (length us - e) us) (subst (λ (c : ℕ). Each (λ (u : Update). IsOf c u.target) (drop (length us - e) us)) same is.own)

-- all updates are of the queue of the last
pub all_alike : (us : List Update) (e q : ℕ) (x : Update) → EndsAlike e us → slice_get us (length us - 1) ≡ Some x → other_queue q x.target ≡ None → length us ≤ e →
    last_other q us ≡ None
all_alike us e q x is last none high =
    let start : length us - e ≡ 0 = omega arith in
    subst (λ (k : ℕ). last_other q (drop k us) ≡ None) start (ending_none us e q x is last none)

-- the update before those of the queue of the last
pub before_found : (us : List Update) (e q : ℕ) (x y : Update) → EndsAlike e us → slice_get us (length us - 1) ≡ Some x → other_queue q x.target ≡ None → e < length us →
    slice_get us (length us - 1 - e) ≡ Some y → last_other q us ≡ other_queue q y.target
before_found us e q x y is last none low got =
    let k : ℕ = length us - e in
    let same : is.queue ≡ q = is_of_own is.queue q x.target (last_own us e x is last) none in
    let other : IsOfOther q y.target = subst (λ (c : ℕ). IsOfOther c y.target) same (is.other y low got) in
    let found = is_of_other q y.target other in
    let count : length (take (length us - e) us) ≡ suc (length us - 1 - e) = omega (arith, length-take-le (length us - e) us (omega arith)) in
    let before = last_is_other q (take (length us - e) us) (length us - 1 - e) y found.0 count (got_taken us (length us - e) (length us - 1 - e) (omega arith) ∙ got) found.1 in
    ap (last_other q) (sym (take-append-drop (length us - e) us))
    ∙ last_other_append q (take (length us - e) us) (drop (length us - e) us)
    ∙ ap (λ o. option_or o (last_other q (take (length us - e) us))) (ending_none us e q x is last none)
    ∙ before
    ∙ sym found.1

-- nothing is pending
pub caught_nothing : (counters : List ℕ) (us : List Update) → slice_get us 0 ≡ None → (caught counters us ≡ []) × (left counters us ≡ us)
caught_nothing counters [] none = (refl, refl)
caught_nothing counters (u ∷ us) none = absurd (cc)

-- the first is not reached
pub caught_none : (counters : List ℕ) (us : List Update) (u : Update) → slice_get us 0 ≡ Some u → is_reached counters u.target ≡ false →
    (caught counters us ≡ []) × (left counters us ≡ us)
caught_none counters [] u first not = absurd (cc)
caught_none counters (x ∷ us) u first not =
    let same : x ≡ u = grind arith in
    let fails : is_reached counters x.target ≡ false = ap (λ (y : Update). is_reached counters y.target) same ∙ not in
    (ap (λ (b : Bool). if b then x ∷ caught counters us else []) fails, ap (λ (b : Bool). if b then left counters us else x ∷ us) fails)

-- the first is reached
pub caught_first : (counters : List ℕ) (us : List Update) (u : Update) → slice_get us 0 ≡ Some u → is_reached counters u.target ≡ true → HaveCounters counters us →
    StandsReached counters us u
caught_first counters [] u first is have = absurd (cc)
caught_first counters (x ∷ us) u first is have =
    let same : x ≡ u = grind arith in
    let passes : is_reached counters x.target ≡ true = ap (λ (y : Update). is_reached counters y.target) same ∙ is in
    record {
      first = ap (λ y. y ∷ us) same;
      caught_is = ap (λ (b : Bool). if b then x ∷ caught counters us else []) passes ∙ ap (λ y. y ∷ caught counters us) same;
      left_is = ap (λ (b : Bool). if b then left counters us else x ∷ us) passes;
      rest = have.1;
    }

-- one more update, of another queue than the last
pub other_behind : (us : List Update) (w x : Update) (q : ℕ) → IsOf q w.target → slice_get us (length us - 1) ≡ Some x → IsOfOther q x.target → EndsAlike 1 (us ++ w ∷ [])
other_behind us w x q of last other =
    lone_end us w q of (λ (y : Update) got. let same : Some x ≡ Some y = sym last ∙ got in let is : x ≡ y = cc in subst (λ (z : Update). IsOfOther q z.target) is other)
