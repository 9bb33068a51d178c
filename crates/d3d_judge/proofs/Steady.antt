-- What stays of a judge along a history: numbers are few, each queue knows what it completed, and what was made is done.
use Rattle.std.proofs.Common.{ℕ, zero, suc, ◌≡◌, ◌<◌, ◌≤◌, ◌∙◌, nat_le, refl, ap, sym, subst, arith, List, [], ◌∷◌, map, length, replicate, true, Option, Some, None, inl, inr}
use Rattle.std.proofs.lemmas.Bool.{cases_eq}
use Rattle.dx_base.specs.Each.{Each}
use Rattle.dx_base.specs.Lists.{changed_at}
use Rattle.dx_base.proofs.Each.{each_on, each_append}
use Rattle.clocks.specs.declared.clock.Clock.{Clock}
use Rattle.clocks.specs.Clocks.{Act, OfQueue, OfThread, number, numbered, knows, Within, empty_clock}
use Rattle.d3d_machine.specs.declared.world.Resource.{Resource}
use Rattle.d3d_machine.specs.declared.world.Resource.TheVariants.{Buffer}
use Rattle.d3d_machine.specs.declared.world.World.{World}
use Rattle.d3d_judge.specs.Carried.{Clocks, Pending, item_or, queue_clock, one_call_more, called_by, call_clock, head_of, next_number, queue_joined, completing, completed, effect, carried}
use Rattle.d3d_judge.specs.CarriedClocks.{AreSized, IsOfSize}
use Rattle.d3d_judge.specs.CopyScopes.{IsDone}
use Rattle.d3d_judge.specs.Happenings.{Happening, Calls, Wakes, Completes, Deed, Gives, SetsFence, WaitsFor, Asks, Stores, Loads, Nothing}
use Rattle.d3d_judge.specs.Judged.{Judged, Found, judged_next, first_judged, first_lost}
use Rattle.d3d_judge.specs.JudgeParts.{IsSteady}
use Rattle.d3d_judge.specs.Setting.{traits_of, setting_of}
use Rattle.d3d_judge.specs.Touches.{Touch}
use Rattle.d3d_judge.proofs.Carried.{number_set, number_put, number_other, call_grows, completion_grows}
use Rattle.d3d_judge.proofs.ClockSizes.{sized_first, sized_carried}

-- what a call does beside changes neither counts nor queues
effect_ends : (s : Clocks) (t : ℕ) (c : Clock) (what : Deed) → (effect s t c what).ends ≡ s.ends
effect_ends s t c (Gives q o) = refl
effect_ends s t c (SetsFence f v) = refl
effect_ends s t c (WaitsFor f v) = refl
effect_ends s t c (Asks f) = refl
effect_ends s t c (Stores r) = refl
effect_ends s t c (Loads r) = refl
effect_ends s t c Nothing = refl

effect_queues : (s : Clocks) (t : ℕ) (c : Clock) (what : Deed) → (effect s t c what).queues ≡ s.queues
effect_queues s t c (Gives q o) = refl
effect_queues s t c (SetsFence f v) = refl
effect_queues s t c (WaitsFor f v) = refl
effect_queues s t c (Asks f) = refl
effect_queues s t c (Stores r) = refl
effect_queues s t c (Loads r) = refl
effect_queues s t c Nothing = refl

-- the counts after a call
pub call_ends : (s : Clocks) (t : ℕ) (what : Deed) → (carried s (Calls t what)).ends ≡ one_call_more s.ends t
call_ends s t what = effect_ends (called_by s t) t (call_clock s t) what

within_self : (d : Clock) → Within d d
within_self d = record { queues = λ q. omega arith; threads = λ t. omega arith }

completed_grow : (s : Clocks) (q : ℕ) (o : Option Pending) → Within s.ends (completed s q o).ends
completed_grow s q None = within_self s.ends
completed_grow s q (Some p) = completion_grows s.ends q

-- counts never fall
ends_grow : (s : Clocks) (e : Happening) → Within s.ends (carried s e).ends
ends_grow s (Calls t what) = subst (Within s.ends) (sym (call_ends s t what)) (call_grows s.ends t)
ends_grow s (Wakes t) = within_self s.ends
ends_grow s (Completes q) = completed_grow s q (head_of s q)

raised_few : (xs : List ℕ) (t u n : ℕ) → ((v : ℕ) → number xs v ≤ n) → number (numbered t (suc (number xs t)) xs) u ≤ suc n
raised_few xs t u n h = number_set xs t u (suc (number xs t)) (suc n) (let a = h u in omega (arith, a)) (λ e. let a = h t in omega (arith, a))

more_few : (a n : ℕ) → a ≤ n → a ≤ suc n
more_few a n h = omega (arith, h)

completed_few : (s : Clocks) (q n : ℕ) (o : Option Pending) → ((u : ℕ) → number s.ends.queues u ≤ n) → (u : ℕ) → number (completed s q o).ends.queues u ≤ suc n
completed_few s q n None h u = more_few (number s.ends.queues u) n (h u)
completed_few s q n (Some p) h u = raised_few s.ends.queues q u n h

completed_calls : (s : Clocks) (q : ℕ) (o : Option Pending) → (completed s q o).ends.threads ≡ s.ends.threads
completed_calls s q None = refl
completed_calls s q (Some p) = refl

operations_few : (s : Clocks) (e : Happening) (n : ℕ) → ((u : ℕ) → number s.ends.queues u ≤ n) → (u : ℕ) → number (carried s e).ends.queues u ≤ suc n
operations_few s (Calls t what) n h u = subst (λ (d : Clock). number d.queues u ≤ suc n) (sym (call_ends s t what)) (more_few (number s.ends.queues u) n (h u))
operations_few s (Wakes t) n h u = more_few (number s.ends.queues u) n (h u)
operations_few s (Completes q) n h u = completed_few s q n (head_of s q) h u

calls_few : (s : Clocks) (e : Happening) (n : ℕ) → ((u : ℕ) → number s.ends.threads u ≤ n) → (u : ℕ) → number (carried s e).ends.threads u ≤ suc n
calls_few s (Calls t what) n h u = subst (λ (d : Clock). number d.threads u ≤ suc n) (sym (call_ends s t what)) (raised_few s.ends.threads t u n h)
calls_few s (Wakes t) n h u = more_few (number s.ends.threads u) n (h u)
calls_few s (Completes q) n h u = subst (λ xs. number xs u ≤ suc n) (sym (completed_calls s q (head_of s q))) (more_few (number s.ends.threads u) n (h u))

module _ {A : Type 0} where
  pub item_changed : (f : A → A) (d : A) (k : ℕ) (xs : List A) → k < length xs → item_or d (changed_at f k xs) k ≡ f (item_or d xs k)
  item_changed f d k [] l = absurd (omega (arith, l))
  item_changed f d zero (x ∷ xs) l = refl
  item_changed f d (suc k) (x ∷ xs) l = item_changed f d k xs (omega (arith, l))

  pub item_other : (f : A → A) (d : A) (k i : ℕ) (xs : List A) → (i ≡ k → ⊥) → item_or d (changed_at f k xs) i ≡ item_or d xs i
  item_other f d k i [] n = refl
  item_other f d zero zero (x ∷ xs) n = absurd (n refl)
  item_other f d zero (suc i) (x ∷ xs) n = refl
  item_other f d (suc k) zero (x ∷ xs) n = refl
  item_other f d (suc k) (suc i) (x ∷ xs) n = item_other f d k i xs (λ e. n (omega (arith, e)))

-- each queue knows what it completed
abbrev KnowOwn : Clocks → Type 0
KnowOwn s = (q : ℕ) → number s.ends.queues q ≤ number (queue_clock s q).queues q

completed_own : (s : Clocks) (q : ℕ) (o : Option Pending) → q < length s.queues → KnowOwn s → KnowOwn (completed s q o)
completed_own s q None l h u = h u
completed_own s q (Some p) l h u =
    elim (cases_eq u q) [
      | inl e ↦
          let here : number (numbered q (next_number s q) s.ends.queues) u ≡ next_number s q = subst (λ x. number (numbered q (next_number s q) s.ends.queues) x ≡ next_number s q) (sym e) (number_put s.ends.queues q (next_number s q)) in
          let clock : item_or empty_clock (changed_at (λ _. completing s q p) q s.queues) u ≡ completing s q p =
          subst (λ x. item_or empty_clock (changed_at (λ _. completing s q p) q s.queues) x ≡ completing s q p) (sym e) (item_changed (λ _. completing s q p) empty_clock q s.queues l) in
          let there : number (item_or empty_clock (changed_at (λ _. completing s q p) q s.queues) u).queues u ≡ next_number s q =
          ap (λ (c : Clock). number c.queues u) clock
          ∙ subst (λ x. number (numbered q (next_number s q) (queue_joined s q p).queues) x ≡ next_number s q) (sym e) (number_put (queue_joined s q p).queues q (next_number s q)) in
          omega (arith, here, there)
      | inr n ↦
          let here : number (numbered q (next_number s q) s.ends.queues) u ≡ number s.ends.queues u = number_other s.ends.queues q u (next_number s q) n in
          let there : number (item_or empty_clock (changed_at (λ _. completing s q p) q s.queues) u).queues u ≡ number (item_or empty_clock s.queues u).queues u =
          ap (λ (c : Clock). number c.queues u) (item_other (λ _. completing s q p) empty_clock q u s.queues n) in
          let k = h u in
          omega (arith, here, there, k)
    ]

own_carried : (queues threads fences : ℕ) (s : Clocks) (e : Happening) → AreSized queues threads fences s → IsOfSize queues threads e → KnowOwn s → KnowOwn (carried s e)
own_carried queues threads fences s (Calls t what) z l h q =
    subst (λ cs. number (carried s (Calls t what)).ends.queues q ≤ number (item_or empty_clock cs q).queues q) (sym (effect_queues (called_by s t) t (call_clock s t) what))
    (subst (λ (d : Clock). number d.queues q ≤ number (item_or empty_clock s.queues q).queues q) (sym (call_ends s t what)) (h q))
own_carried queues threads fences s (Wakes t) z l h q = h q
own_carried queues threads fences s (Completes q) z l h u = completed_own s q (head_of s q) (let a = z.queue_count in omega (arith, a, l)) h u

-- what was done stays done
done_later : (w : World) (c d : Clock) (m : Touch) → Within c d → IsDone w c m → IsDone w d m
done_later w c d m g h = record { queue = h.queue; thread = h.thread; known = known_later m.act h.known }
  where
    at_most : (a b : ℕ) → nat_le a b ≡ true → a ≤ b
    at_most a b e = grind (arith, e)

    is_most : (a b : ℕ) → a ≤ b → nat_le a b ≡ true
    is_most a b e = grind (arith, e)

    known_later : (a : Act) → knows c a ≡ true → knows d a ≡ true
    known_later (OfQueue q k) e = let l = at_most k (number c.queues q) e in let b = g.queues q in is_most k (number d.queues q) (omega (arith, l, b))
    known_later (OfThread t k) e = let l = at_most k (number c.threads t) e in let b = g.threads t in is_most k (number d.threads t) (omega (arith, l, b))

-- one event more that breaks nothing
pub steady_next : (w : World) (j : Judged) (e : Happening) (f : Found) → IsSteady w j → IsOfSize (length w.queues) (length w.scripts) e → Each (IsDone w (carried j.clocks e).ends) f.touched → f.lost ≡ [] →
    IsSteady w (judged_next None f (carried j.clocks e) j)
steady_next w j e f h l touched lost = record {
  sized = sized_carried (length w.queues) (length w.scripts) (length w.fences) j.clocks e l h.sized;
  few_operations = operations_few j.clocks e j.events h.few_operations;
  few_calls = calls_few j.clocks e j.events h.few_calls;
  own = own_carried (length w.queues) (length w.scripts) (length w.fences) j.clocks e h.sized l h.own;
  done = each_append (IsDone w (carried j.clocks e).ends) j.made f.touched
      (each_on (IsDone w j.clocks.ends) (IsDone w (carried j.clocks e).ends) j.made (λ m d. done_later w j.clocks.ends (carried j.clocks e).ends m (ends_grow j.clocks e) d) h.done) touched;
  lost = lost;
}

number_zero : (n k : ℕ) → number (replicate n 0) k ≡ 0
number_zero zero k = refl
number_zero (suc n) zero = refl
number_zero (suc n) (suc k) = number_zero n k

none_lost : (n : ℕ) (os : List (Option Resource)) → first_lost n (map traits_of os) ≡ []
none_lost n [] = refl
none_lost n (None ∷ os) = none_lost (suc n) os
none_lost n (Some (Buffer h k) ∷ os) = none_lost (suc n) os

-- before any event
pub steady_first : (w : World) → IsSteady w (first_judged (setting_of w))
steady_first w = record {
  sized = sized_first w;
  few_operations = λ q. let e = number_zero (length w.queues) q in omega (arith, e);
  few_calls = λ t. let e = number_zero (length w.scripts) t in omega (arith, e);
  own = λ q. let e = number_zero (length w.queues) q in omega (arith, e);
  done = tt;
  lost = none_lost 0 w.resources;
}
