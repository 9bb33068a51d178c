-- The laws of fences as lists of updates.
use Rattle.std.proofs.Common.{ℕ, zero, suc, ◌≡◌, ◌≢◌, ◌≤◌, ◌+◌, ◌-◌, ◌∙◌, refl, ap, sym, List, [], ◌∷◌, ◌++◌, length, take, drop, slice_get, Option, Some, None, Bool, true, false, cond, arith, length-append}
use Rattle.std.specs.Prelude.{is_some, ◌==◌, if◌then◌else◌, filter}
use Rattle.std.specs.Option.{option_map, option_or}
use Rattle.std.proofs.lemmas.Bool.Decides.{nat_tests}
use Rattle.std.proofs.lemmas.List.{drop-append-le, drop-drop, drop-take, length-take-le, take-append-drop}
use Rattle.dx_base.specs.Each.{Each}
use Rattle.fence_timeline.specs.declared.update.Update.{Update}
use Rattle.fence_timeline.specs.declared.wait.Wait.{Wait}
use Rattle.fence_timeline.specs.Sufficient.{suffices, first_sufficient}
use Rattle.fence_timeline.specs.Waits.{IsIn, without, earliest, AreInOrder}
use Rattle.fence_timeline.specs.FenceList.{FenceList, IsFenceList, applied_of, pending_of, current, resolved, is_met, is_reached, caught, left, let_go, host_update}
use Rattle.fence_timeline.specs.Laws.{first_applied, TargetsInOrder, BeginsUnreached, AreReachedInOrder, CatchesUpInOrder, marked_by, MarksWhatSuffices, NothingIsLost}
use Rattle.fence_timeline.proofs.Greatest.{first_append, or_assoc}
use Rattle.fence_timeline.proofs.OrderedWaits.{ordered_up, ordered_without, earliest_low, earliest_high, since_within}
use Rattle.fence_timeline.proofs.FenceCalls.{caught_left}

-- the earliest update that is needed is not behind that of a wait
earliest_since : (low high : ℕ) (ws : List Wait) (k : ℕ) (w : Wait) → AreInOrder low ws high → slice_get ws k ≡ Some w → earliest high ws ≤ w.since
earliest_since low high [] k w is got = absurd (cc)
earliest_since low high (x ∷ ws) zero w is got = let same : x ≡ w = grind arith in rw same (omega arith)
earliest_since low high (x ∷ ws) (suc k) w is got = (since_within x.since high ws k w is.1 got).0

-- what letting go asks of a list
record IsLetting (s : FenceList) : Type 0 where
  some : 1 ≤ s.applied
  inside : s.applied ≤ length s.updates
  in_order : AreInOrder s.base s.armed (current s)

-- the updates from that of a wait's call on stay
rest_stays : (s : FenceList) (w : Wait) (us : List Update) → IsLetting s → IsIn s.armed w →
    drop (w.since - earliest (current s) s.armed) (drop (earliest (current s) s.armed - s.base) us) ≡ drop (w.since - s.base) us
rest_stays s w us is armed =
    let first = earliest (current s) s.armed in
    let low = earliest_low s.base (current s) s.armed is.in_order in
    let high = earliest_since s.base (current s) s.armed armed.place w is.in_order armed.stands in
    let sum : (earliest (current s) s.armed - s.base) + (w.since - earliest (current s) s.armed) ≡ w.since - s.base = omega arith in
    drop-drop (w.since - earliest (current s) s.armed) (earliest (current s) s.armed - s.base) us ∙ ap (λ k. drop k us) sum

-- a wait's target stays
target_stays : (s : FenceList) (w : Wait) → IsLetting s → IsIn s.armed w → resolved (let_go s) w ≡ resolved s w
target_stays s w is armed = ap (λ us. option_map (λ (u : Update). u.target) (first_sufficient w.value us)) (rest_stays s w s.updates is armed)

-- the applied updates that stay
applied_stays : (s : FenceList) → IsLetting s → applied_of (let_go s) ≡ drop (earliest (current s) s.armed - s.base) (applied_of s)
applied_stays s is =
    let high = earliest_high s.base (current s) s.armed is.in_order in
    let sum : (earliest (current s) s.armed - s.base) + (s.applied - (earliest (current s) s.armed - s.base)) ≡ s.applied = omega (arith, is.some) in
    sym (drop-take (earliest (current s) s.armed - s.base) (s.applied - (earliest (current s) s.armed - s.base)) s.updates)
    ∙ ap (λ n. drop (earliest (current s) s.armed - s.base) (take n s.updates)) sum

-- whether a wait is met stays
met_stays : (s : FenceList) (w : Wait) → IsLetting s → IsIn s.armed w → is_met (let_go s) w ≡ is_met s w
met_stays s w is armed =
    ap (λ us. is_some (first_sufficient w.value us))
    (ap (drop (w.since - earliest (current s) s.armed)) (applied_stays s is) ∙ rest_stays s w (applied_of s) is armed)

-- the updates from a place among the applied ones on
parts_from : (s : FenceList) (k : ℕ) → k ≤ s.applied → s.applied ≤ length s.updates → drop k s.updates ≡ drop k (applied_of s) ++ pending_of s
parts_from s k within inside =
    ap (drop k) (sym (take-append-drop s.applied s.updates))
    ∙ drop-append-le k (take s.applied s.updates) (drop s.applied s.updates) (omega (arith, length-take-le s.applied s.updates inside))

since_applied : (s : FenceList) (w : Wait) → IsFenceList s → IsIn s.armed w → w.since - s.base ≤ s.applied
since_applied s w is armed = let within = since_within s.base (current s) s.armed armed.place w is.in_order armed.stands in omega (arith, within.1, is.some)

in_order : (s : FenceList) (w : Wait) → IsFenceList s → IsIn s.armed w →
    first_sufficient w.value (drop (w.since - s.base) s.updates) ≡ option_or (first_applied s w) (first_sufficient w.value (pending_of s))
in_order s w is armed =
    ap (first_sufficient w.value) (parts_from s (w.since - s.base) (since_applied s w is armed) is.inside)
    ∙ first_append w.value (drop (w.since - s.base) (applied_of s)) (pending_of s)

-- with a host signal behind the applied ones
host_in_order : (s : FenceList) (w : Wait) (v : ℕ) → IsFenceList s → IsIn s.armed w →
    first_sufficient w.value (drop (w.since - s.base) (applied_of s ++ (host_update v ∷ pending_of s)))
    ≡ option_or (first_applied s w) (option_or (first_sufficient w.value (host_update v ∷ [])) (first_sufficient w.value (pending_of s)))
host_in_order s w v is armed =
    let k : ℕ = w.since - s.base in
    ap (first_sufficient w.value)
    (drop-append-le (w.since - s.base) (applied_of s) (host_update v ∷ pending_of s) (omega (arith, since_applied s w is armed, length-take-le s.applied s.updates is.inside)))
    ∙ first_append w.value (drop (w.since - s.base) (applied_of s)) (host_update v ∷ pending_of s)
    ∙ ap (option_or (first_applied s w)) (first_append w.value (host_update v ∷ []) (pending_of s))

host_letting : (s : FenceList) (v : ℕ) → IsFenceList s → IsLetting (record s { updates = applied_of s ++ (host_update v ∷ pending_of s); applied = s.applied + 1 })
host_letting s v is = record {
  some = omega arith;
  inside =
      let a = length-append (take s.applied s.updates) (host_update v ∷ drop s.applied s.updates) in
      let b = length-take-le s.applied s.updates is.inside in
      omega (arith, a, b);
  in_order = ordered_up s.base (current s) (s.base + (s.applied + 1 - 1)) s.armed (omega arith) is.in_order;
}

pub targets_in_order : TargetsInOrder
targets_in_order = record {
  target = λ s w is armed. ap (option_map (λ (u : Update). u.target)) (in_order s w is armed);
  host = λ s w v is armed.
      target_stays (record s { updates = applied_of s ++ (host_update v ∷ pending_of s); applied = s.applied + 1 }) w (host_letting s v is) armed
      ∙ ap (option_map (λ (u : Update). u.target)) (host_in_order s w v is armed);
}

-- catching up
caught_reached : (counters : List ℕ) (us : List Update) → Each (λ u. is_reached counters u.target ≡ true) (caught counters us)
caught_reached counters [] = tt
caught_reached counters (u ∷ us) = by_test (is_reached counters u.target) refl (caught_reached counters us)
  where
    by_test : (b : Bool) → is_reached counters u.target ≡ b → Each (λ x. is_reached counters x.target ≡ true) (caught counters us) →
        Each (λ x. is_reached counters x.target ≡ true) (if b then u ∷ caught counters us else [])
    by_test true is rest = (is, rest)
    by_test false is rest = tt

left_unreached : (counters : List ℕ) (us : List Update) → BeginsUnreached counters (left counters us)
left_unreached counters [] = tt
left_unreached counters (u ∷ us) = by_test (is_reached counters u.target) refl (left_unreached counters us)
  where
    by_test : (b : Bool) → is_reached counters u.target ≡ b → BeginsUnreached counters (left counters us) → BeginsUnreached counters (if b then left counters us else u ∷ us)
    by_test true is rest = rest
    by_test false is rest = is

none_pass : (counters : List ℕ) (us : List Update) → Each (λ u. is_reached counters u.target ≡ false) us → filter (λ u. is_reached counters u.target) us ≡ []
none_pass counters [] none = refl
none_pass counters (u ∷ us) none = ap (λ b. cond b (u ∷ filter (λ x. is_reached counters x.target) us) (filter (λ x. is_reached counters x.target) us)) none.0 ∙ none_pass counters us none.1

all_caught : (counters : List ℕ) (us : List Update) → AreReachedInOrder counters us → caught counters us ≡ filter (λ u. is_reached counters u.target) us
all_caught counters [] is = refl
all_caught counters (u ∷ us) is = by_test (is_reached counters u.target) refl (all_caught counters us is.1)
  where
    by_test : (b : Bool) → is_reached counters u.target ≡ b → caught counters us ≡ filter (λ x. is_reached counters x.target) us →
        (if b then u ∷ caught counters us else []) ≡ cond b (u ∷ filter (λ x. is_reached counters x.target) us) (filter (λ x. is_reached counters x.target) us)
    by_test true at rest = ap (λ xs. u ∷ xs) rest
    by_test false at rest = sym (none_pass counters us (is.0 at))

pub catches_up : CatchesUpInOrder
catches_up = record { parts = caught_left; reached = caught_reached; unreached = left_unreached; all = all_caught }

-- marks
marked_first : (m : Option Update) (v : ℕ) (us : List Update) → marked_by m v us ≡ option_or m (first_sufficient v us)
marked_first None v [] = refl
marked_first (Some x) v [] = refl
marked_first m v (u ∷ us) =
    marked_first (option_or m (if suffices v u then Some u else None)) v us
    ∙ or_assoc m (if suffices v u then Some u else None) (first_sufficient v us)
    ∙ ap (option_or m) (by_test (suffices v u))
  where
    by_test : (b : Bool) → option_or (if b then Some u else None) (first_sufficient v us) ≡ cond b (Some u) (first_sufficient v us)
    by_test true = refl
    by_test false = refl

pub marks : MarksWhatSuffices
marks = record {
  first = λ v us. marked_first None v us;
  met = λ s w. ap is_some (sym (marked_first None w.value (drop (w.since - s.base) (applied_of s))));
}

-- another wait stays armed
other_stays : (ws : List Wait) (k n : ℕ) (other : Wait) → slice_get ws k ≡ Some other → other.number ≢ n → IsIn (without n ws) other
other_stays [] k n other got differs = absurd (cc)
other_stays (x ∷ ws) zero n other got differs =
    let same : x ≡ other = grind arith in
    let not : (x.number == n) ≡ false = rw same (grind (arith, nat_tests)) in
    rw not (record { place = 0; stands = got })
other_stays (x ∷ ws) (suc k) n other got differs = by_test (x.number == n) (other_stays ws k n other got differs)
  where
    by_test : (b : Bool) → IsIn (without n ws) other → IsIn (if b then ws else x ∷ without n ws) other
    by_test true rest = record { place = k; stands = got }
    by_test false rest = record { place = suc rest.place; stands = rest.stands }

pub nothing_lost : NothingIsLost
nothing_lost = record {
  catching_up = λ s w counters is armed.
      target_stays (record s { applied = s.applied + length (caught counters (pending_of s)) }) w (record {
        some = omega (arith, is.some);
        inside =
            let a = length-append (caught counters (pending_of s)) (left counters (pending_of s)) in
            let b = ap length (caught_left counters (pending_of s)) in
            let c = length-append (take s.applied s.updates) (drop s.applied s.updates) in
            let d = ap length (take-append-drop s.applied s.updates) in
            let e = length-take-le s.applied s.updates is.inside in
            omega (arith, a, b, c, d, e);
        in_order = ordered_up s.base (current s) (s.base + (s.applied + length (caught counters (pending_of s)) - 1)) s.armed (omega arith) is.in_order;
      }) armed;
  letting_go = λ s w other is armed stays.
      let letting : IsLetting (record s { armed = without w.number s.armed }) = record {
        some = is.some;
        inside = is.inside;
        in_order = ordered_without s.base (current s) w.number s.armed is.in_order;
      } in
      (target_stays (record s { armed = without w.number s.armed }) other letting stays, met_stays (record s { armed = without w.number s.armed }) other letting stays);
  others = λ ws w other armed differs. other_stays ws armed.place w.number other armed.stands differs;
}
