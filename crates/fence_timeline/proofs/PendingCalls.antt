-- What the pending updates keep through the calls of a fence: there is a counter for the queue of each.
use Rattle.std.proofs.Common.{ℕ, zero, suc, ◌≡◌, ◌≤◌, ◌<◌, ◌+◌, ◌-◌, ◌∙◌, refl, ap, sym, subst, List, [], ◌∷◌, ◌++◌, length, take, drop, arith}
use Rattle.std.proofs.lemmas.List.{drop_at, drop-drop, drop-append-le, length-take-le}
use Rattle.dx_base.specs.Each.{Each}
use Rattle.dx_base.proofs.Each.{each_append, each_on}
use Rattle.fence_timeline.specs.declared.update.Target.{Target}
use Rattle.fence_timeline.specs.declared.update.Target.TheVariants.{Host, Gpu}
use Rattle.fence_timeline.specs.declared.update.Update.{Update}
use Rattle.fence_timeline.specs.declared.wait.Wait.{Wait}
use Rattle.fence_timeline.specs.Waits.{earliest, without}
use Rattle.fence_timeline.specs.FenceList.{FenceList, IsFenceList, IsSame, HasCounter, HaveCounters, pending_of, current, caught, gpu_update, host_update, caught_up, host_signalled, gpu_signalled, done_with}
use Rattle.fence_timeline.proofs.OrderedWaits.{earliest_high, ordered_up, ordered_without}

-- as many counters serve the same updates
pub have_like : (known counters : List ℕ) (us : List Update) → length counters ≡ length known → HaveCounters known us → HaveCounters counters us
have_like known counters us count have =
    each_on (λ u. HasCounter known u.target) (λ u. HasCounter counters u.target) us (λ u is. by_target u.target is) have
  where
    by_target : (t : Target) → HasCounter known t → HasCounter counters t
    by_target Host is = tt
    by_target (Gpu q v) is = omega (arith, is, count)

each_drop : {A : Type 0} (P : A → Type 0) (k : ℕ) (xs : List A) → Each P xs → Each P (drop k xs)
each_drop P zero xs all = all
each_drop P (suc k) [] all = tt
each_drop P (suc k) (x ∷ xs) all = each_drop P k xs all.1

-- a signal of a queue that has a counter
pub have_signalled : (known : List ℕ) (s t : FenceList) (v q at : ℕ) → IsSame t (gpu_signalled (gpu_update v q at) s) → IsFenceList s → q < length known →
    HaveCounters known (pending_of s) → HaveCounters known (pending_of t)
have_signalled known s t v q at same list low have =
    rw (same.applied, same.updates, drop-append-le s.applied s.updates (gpu_update v q at ∷ []) list.inside)
    (each_append (λ u. HasCounter known u.target) (drop s.applied s.updates) (gpu_update v q at ∷ []) have (low, tt))

-- letting go of as many updates as are applied at most changes no pending one
pending_stays : (k n : ℕ) (us : List Update) → k ≤ n → drop (n - k) (drop k us) ≡ drop n us
pending_stays k n us low = let sum : k + (n - k) ≡ n = omega arith in drop-drop (n - k) k us ∙ ap (λ m. drop m us) sum

pub have_caught : (known : List ℕ) (s t : FenceList) (counters : List ℕ) → IsSame t (caught_up counters s) → IsFenceList s →
    HaveCounters known (pending_of s) → HaveCounters known (pending_of t)
have_caught known s t counters same list have =
    let high = earliest_high s.base (s.base + (s.applied + length (caught counters (pending_of s)) - 1)) s.armed
    (ordered_up s.base (current s) (s.base + (s.applied + length (caught counters (pending_of s)) - 1)) s.armed (omega arith) list.in_order) in
    rw (
      same.applied,
      same.updates,
      pending_stays
          (earliest (s.base + (s.applied + length (caught counters (pending_of s)) - 1)) s.armed - s.base)
          (s.applied + length (caught counters (pending_of s))) s.updates (omega (arith, high, list.some)),
    )
    (subst (λ us. HaveCounters known us) (drop-drop (length (caught counters (pending_of s))) s.applied s.updates)
    (each_drop (λ u. HasCounter known u.target) (length (caught counters (pending_of s))) (drop s.applied s.updates) have))

pub have_host : (known : List ℕ) (s t : FenceList) (v : ℕ) → IsSame t (host_signalled v s) → IsFenceList s →
    HaveCounters known (pending_of s) → HaveCounters known (pending_of t)
have_host known s t v same list have =
    let high = earliest_high s.base (s.base + (s.applied + 1 - 1)) s.armed
    (ordered_up s.base (current s) (s.base + (s.applied + 1 - 1)) s.armed (omega arith) list.in_order) in
    let count = length-take-le s.applied s.updates list.inside in
    let behind : drop (s.applied + 1) (take s.applied s.updates ++ (host_update v ∷ drop s.applied s.updates)) ≡ drop s.applied s.updates =
    sym (drop-drop 1 s.applied (take s.applied s.updates ++ (host_update v ∷ drop s.applied s.updates)))
    ∙ ap (drop 1) (drop_at (take s.applied s.updates) (host_update v ∷ drop s.applied s.updates) s.applied count)
    in
    rw (
      same.applied,
      same.updates,
      pending_stays
          (earliest (s.base + (s.applied + 1 - 1)) s.armed - s.base) (s.applied + 1)
          (take s.applied s.updates ++ (host_update v ∷ drop s.applied s.updates)) (omega (arith, high)),
      behind,
    )
    have

pub have_done : (known : List ℕ) (s t : FenceList) (w : Wait) → IsSame t (done_with w s) → IsFenceList s →
    HaveCounters known (pending_of s) → HaveCounters known (pending_of t)
have_done known s t w same list have =
    let high = earliest_high s.base (s.base + (s.applied - 1)) (without w.number s.armed)
    (ordered_without s.base (s.base + (s.applied - 1)) w.number s.armed list.in_order) in
    rw (
      same.applied,
      same.updates,
      pending_stays (earliest (s.base + (s.applied - 1)) (without w.number s.armed) - s.base) s.applied s.updates (omega (arith, high, list.some)),
    )
    have
